-- What a kind's reader answers from behind the name on is what the text is read as.
-- Assumes nothing.
use Prim.Native.Nat.{ℕ}
use mathlib.Core.Path.{◌≡◌, refl, subst, ◌∙◌}
use mathlib.Core.Bool.{Bool}
use mathlib.Core.List.{List}
use lib.ListN.{length}
use Rattle.text.specs.declared.kinds.Refusal.{Refusal}
use Rattle.text.specs.Groups.{groups_from}
use Rattle.text.specs.Text.{tail_of}
use Rattle.places.specs.Engine.{Outcome, Done, Fault}
use Rattle.record.specs.declared.surface.Synop.{Synop}
use Rattle.record.specs.declared.aerodrome.Metar.{Metar}
use Rattle.record.specs.declared.aerodrome.Taf.{Taf}
use Rattle.synop_section.specs.declared.kinds.Reading.{Reading as SynopReading}
use Rattle.synop_section.specs.Answer as surface
use Rattle.synop.specs.Read as synop
use Rattle.metar.specs.declared.kinds.Reading.{Reading as MetarReading}
use Rattle.metar.specs.Read as metar
use Rattle.metar.proofs.Steps as metar-steps
use Rattle.taf.specs.declared.kinds.Reading.{Reading as TafReading}
use Rattle.taf.specs.Read as taf
use Rattle.taf.proofs.Turns as taf-turns
use Rattle.record.specs.declared.aerodrome.Edition.{Edition}
use Rattle.report_record.specs.declared.kinds.Name.{Name}
use Rattle.report_record.specs.declared.kinds.Name.TheVariants as name
use Rattle.report_record.specs.Record.{surface_report, observed_report, forecast_report, of_surface, of_observed, of_forecast, refused}
use Rattle.report.specs.Read.{answered, read_as, name_of, read_in}
use Rattle.report.proofs.Names.{Says, name-says}

-- ---- a kind's answer as that of a report: the record of a refused text is blank already

surface-answer : (o : Outcome Synop) → of_surface (surface.answer o).verdict (surface.answer o).report ≡ answered surface_report o
surface-answer (Done rest r) = refl
surface-answer (Fault f at) = refl

observed-answer : (o : Outcome Metar) → of_observed (metar.answer o).verdict (metar.answer o).report ≡ answered observed_report o
observed-answer (Done rest r) = refl
observed-answer (Fault f at) = refl

forecast-answer : (o : Outcome Taf) → of_forecast (taf.answer o).verdict (taf.answer o).report ≡ answered forecast_report o
forecast-answer (Done rest r) = refl
forecast-answer (Fault f at) = refl

-- ---- by the name

module _ (e : Edition) (t : List ℕ) where
  says : (n : Name) → name_of t ≡ n → Says t n
  says n is = subst (Says t) is (name-says t)

  -- behind METAR or SPECI, behind TAF
  past-observed : (special : Bool) (at : ℕ) → name_of t ≡ name.Observed special at
      → metar.groups_read (tail_of t) (length t) (groups_from t 0) ≡ metar.behind_name special (tail_of t) (length t) (groups_from t at)
  past-observed special at is =
      let (n, behind) = says (name.Observed special at) is in
      rw (n.groups, behind) (metar-steps.past-name special (tail_of t) (length t) n.first n.others n.named)

  past-forecast : (at : ℕ) → name_of t ≡ name.Forecast at
      → taf.groups_read e (tail_of t) (length t) (groups_from t 0) ≡ taf.behind_name e (tail_of t) (length t) (groups_from t at)
  past-forecast at is =
      let (n, behind) = says (name.Forecast at) is in
      rw (n.groups, behind) (taf-turns.past-name e (tail_of t) (length t) n.first n.others n.named)

  by_name : (n : Name) → name_of t ≡ n → read_as e t n ≡ read_in e t
  unfolding read_in
  by_name n is = rw is

  -- WHAT A KIND'S READER ANSWERS, from behind the name on, the text is read as.
  pub as-surface : (ship : Bool) (at : ℕ) → name_of t ≡ name.Surface ship at → {a : SynopReading}
      → a ≡ surface.answer (synop.groups_read ship (tail_of t) (length t) (groups_from t at))
      → of_surface a.verdict a.report ≡ read_in e t
  as-surface ship at is said = rw said (surface-answer (synop.groups_read ship (tail_of t) (length t) (groups_from t at)) ∙ by_name (name.Surface ship at) is)

  pub as-observed : (special : Bool) (at : ℕ) → name_of t ≡ name.Observed special at → {a : MetarReading}
      → a ≡ metar.answer (metar.behind_name special (tail_of t) (length t) (groups_from t at))
      → of_observed a.verdict a.report ≡ read_in e t
  as-observed special at is said =
      rw (said, ← past-observed special at is) (observed-answer (metar.groups_read (tail_of t) (length t) (groups_from t 0)) ∙ by_name (name.Observed special at) is)

  pub as-forecast : (at : ℕ) → name_of t ≡ name.Forecast at → {a : TafReading}
      → a ≡ taf.answer (taf.behind_name e (tail_of t) (length t) (groups_from t at))
      → of_forecast a.verdict a.report ≡ read_in e t
  as-forecast at is said = rw (said, ← past-forecast at is) (forecast-answer (taf.groups_read e (tail_of t) (length t) (groups_from t 0)) ∙ by_name (name.Forecast at) is)

  pub as-refused : (f : Refusal) (at : ℕ) → name_of t ≡ name.Refused f at → refused f at ≡ read_in e t
  as-refused f at is = by_name (name.Refused f at) is
