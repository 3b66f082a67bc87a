-- PROVENANCE: for every accepted METAR and SPECI and every figure of its record, the part of the text that it was read from. The contracts of
-- `report_sources::observed`, `changed` and `opened` are equations with `observed_at`: the part that each hands back is the source that these theorems speak of.
-- Assumes nothing.
use Rattle.std.specs.Prelude.{Err, None}
use Prim.Native.Nat.{ℕ, ◌<◌}
use mathlib.Core.Path.{◌≡◌, sym, ap, subst, ◌∙◌}
use mathlib.Core.List.{List}
use lib.ListN.{length}
use Rattle.text.specs.declared.kinds.Refusal.{Refusal}
use Rattle.text.specs.Groups.{groups_from}
use Rattle.text.specs.Refusals.{refused_with}
use Rattle.record.specs.declared.aerodrome.Edition.TheVariants as edition
use Rattle.record.specs.declared.aerodrome.Metar.{Metar}
use Rattle.record.specs.Observation.{blank_observation}
use Rattle.record.specs.Trend.{blank_trend_change}
use Rattle.report_record.specs.Record.{observed_report, accepted}
use Rattle.report.specs.Read.{read_of}
use Rattle.report_laws.proofs.Demands.{observed-exactly, refused-blank}
use Rattle.sources.specs.declared.kinds.Spot.{Spot}
use Rattle.sources.specs.declared.kinds.Spot.TheVariants as spot
use Rattle.sources.specs.Trail.{group, origin_in, source_of}
use Rattle.sources.proofs.Items.{Covers}
use Rattle.sources.proofs.Texts.{ReadFrom}
use Rattle.metar_sources.specs.Trail.{trail_of}
use Rattle.metar_sources.specs.Items as observed
use Rattle.metar_sources.specs.Changes as changed
use Rattle.metar_sources.specs.declared.kinds.Element.{Element}
use Rattle.metar_sources.specs.declared.kinds.ChangeElement.{ChangeElement}
use Rattle.sources.proofs.Own.{EachTaken, each_map}
use Rattle.metar_sources.proofs.Sources.{observed-source, trail-covers, trail-own}
use Rattle.metar_sources.proofs.Trends.{change-source, opening-source}
use Rattle.report_sources.specs.Source.{observed_at}

-- A REFUSED TEXT HAS NO ITEMS.
pub refused_none : (t : List ℕ) (f : Refusal) (at : ℕ) → (read_of t).verdict ≡ Err (refused_with f at) → (part : ℕ) (s : Spot) → observed_at t part s ≡ None
unfolding observed_at
refused_none t f at e part s = rw (refused-blank edition.Present t f at e).0

module _ (t : List ℕ) (rest : ℕ) (r : Metar) (reads : read_of t ≡ accepted rest (observed_report r)) where
  found : (part : ℕ) (s : Spot) → observed_at t part s ≡ source_of (origin_in part s (trail_of t))
  unfolding observed_at
  found part s = rw reads

  -- AN ITEM OF THE OBSERVATION, station and hour too: its value in the record is what the definition of its group says of just the bytes of its source; with no
  -- group it is missing, as in a blank record.
  pub item-source : (e : Element) (k : ℕ) → k < observed.most_of e
      → ReadFrom t (λ g. observed.Said e g (observed.value_of e k r.observation)) (observed.value_of e k r.observation ≡ observed.value_of e k blank_observation)
      (observed_at t 0 (spot.At (observed.place_of e) k))
  item-source e k few =
      subst (ReadFrom t (λ g. observed.Said e g (observed.value_of e k r.observation)) (observed.value_of e k r.observation ≡ observed.value_of e k blank_observation))
      (sym (found 0 (spot.At (observed.place_of e) k))) (observed-source t rest r ((observed-exactly edition.Present t rest r).only reads).comes e k few)

  -- THE SAME OF AN ITEM OF PART q OF THE TREND, 1 to 3.
  pub trend-source : (q : ℕ) → 0 < q → q < 4 → (e : ChangeElement) (k : ℕ) → k < changed.most_of e
      → ReadFrom t (λ g. changed.Said e g (changed.value_in e k (changed.change_at q r))) (changed.value_in e k (changed.change_at q r) ≡ changed.value_in e k blank_trend_change)
      (observed_at t q (spot.At (changed.place_of e) k))
  trend-source q some few e k fits =
      subst (ReadFrom t (λ g. changed.Said e g (changed.value_in e k (changed.change_at q r))) (changed.value_in e k (changed.change_at q r) ≡ changed.value_in e k blank_trend_change))
      (sym (found q (spot.At (changed.place_of e) k))) (change-source q some few e k fits t rest r ((observed-exactly edition.Present t rest r).only reads).comes)

  -- AND OF THE WORD THAT OPENED IT.
  pub word_source : (q : ℕ) → 0 < q → q < 4 → ReadFrom t (λ g. changed.WordSaid g (changed.word_in q r)) (changed.word_in q r ≡ changed.no_word) (observed_at t q spot.Opening)
  word_source q some few =
      subst (ReadFrom t (λ g. changed.WordSaid g (changed.word_in q r)) (changed.word_in q r ≡ changed.no_word)) (sym (found q spot.Opening))
      (opening-source q some few t rest r ((observed-exactly edition.Present t rest r).only reads).comes)

  -- EVERY GROUP UP TO THE UNREAD REST IS IN THE TRAIL: those taken, in their order, and those left, which begin where the rest does.
  pub every-group : Covers (length t) rest (groups_from t 0) (trail_of t)
  every-group = trail-covers t rest r ((observed-exactly edition.Present t rest r).only reads).comes

  -- EACH OF THEM IS THE SOURCE OF WHAT WAS TAKEN AT ITS SPOT.
  pub own-source : EachTaken (λ x. observed_at t x.part x.spot ≡ source_of (group x.piece)) (trail_of t)
  own-source = each_map (λ x e. found x.part x.spot ∙ ap source_of e) (trail_of t) (trail-own t rest r ((observed-exactly edition.Present t rest r).only reads).comes)
