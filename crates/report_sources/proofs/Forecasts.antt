-- PROVENANCE OF TAF: for every accepted TAF, in the present edition and in that of 2005, and every item of its record, the part of the text that it was read from.
-- The contracts of `report_sources::forecast::item`, `changed`, `opened` and `joined` are equations with `forecast_at`: the part that each hands back is the source
-- that these theorems speak of.
-- Assumes nothing.
use Rattle.std.specs.Prelude.{Err, None}
use Prim.Native.Nat.{ℕ, ◌<◌}
use mathlib.Core.Path.{◌≡◌, sym, ap, subst, ◌∙◌}
use mathlib.Core.Bool.{false}
use mathlib.Core.List.{List}
use lib.ListN.{length}
use Rattle.text.specs.declared.kinds.Refusal.{Refusal}
use Rattle.text.specs.Groups.{groups_from}
use Rattle.text.specs.Text.{tail_of}
use Rattle.text.specs.Refusals.{refused_with}
use Rattle.places.specs.Engine.{Done}
use Rattle.record.specs.declared.aerodrome.Edition.{Edition}
use Rattle.record.specs.declared.aerodrome.Taf.{Taf}
use Rattle.record.specs.Taf.{blank_leg, blank_change}
use Rattle.taf.specs.Read.{groups_read}
use Rattle.report_record.specs.Record.{forecast_report, accepted}
use Rattle.report.specs.Read.{read_in}
use Rattle.report_laws.proofs.Demands.{forecast-exactly, refused-blank}
use Rattle.sources.specs.declared.kinds.Spot.{Spot}
use Rattle.sources.specs.declared.kinds.Spot.TheVariants as spot
use Rattle.sources.specs.Trail.{group, origin_in, source_of}
use Rattle.sources.proofs.Items.{Covers}
use Rattle.sources.proofs.Own.{EachTaken, each_map}
use Rattle.sources.proofs.Texts.{ReadFrom}
use Rattle.taf_sources.specs.declared.kinds.Element.{Element}
use Rattle.taf_sources.specs.declared.kinds.ChangeElement.{ChangeElement}
use Rattle.taf_sources.specs.Trail.{trail_of}
use Rattle.taf_sources.specs.Items as leg
use Rattle.taf_sources.specs.Changes as change
use Rattle.taf_sources.proofs.Sources as sources
use Rattle.taf_sources.proofs.Changes as changes
use Rattle.report_sources.specs.Forecasts.{forecast_at}

-- A REFUSED TEXT HAS NO ITEMS.
pub refused_none : (e : Edition) (t : List ℕ) (f : Refusal) (at : ℕ) → (read_in e t).verdict ≡ Err (refused_with f at) → (part : ℕ) (s : Spot) → forecast_at e t part s ≡ None
unfolding forecast_at
refused_none e t f at is part s = rw (refused-blank e t f at is).0

module _ (e : Edition) (t : List ℕ) (rest : ℕ) (r : Taf) (reads : read_in e t ≡ accepted rest (forecast_report r)) where
  found : (part : ℕ) (s : Spot) → source_of (origin_in part s (trail_of e t)) ≡ forecast_at e t part s
  unfolding forecast_at
  found part s = rw reads

  comes : groups_read e (tail_of t) (length t) (groups_from t 0) ≡ Done rest r
  comes = ((forecast-exactly e t rest r).only reads).comes

  -- AN ITEM OF THE MAIN PART, station and hour too: its value in the record is what the definition of its group says of just the bytes of its source; with no group
  -- it is missing, as in a blank record.
  pub item-source : (x : Element) (k : ℕ) → k < leg.most_of x
      → ReadFrom t (λ g. leg.Said e x g (leg.value_of x k r.leg)) (leg.value_of x k r.leg ≡ leg.value_of x k blank_leg) (forecast_at e t 0 (spot.At (leg.place_of x) k))
  item-source x k few =
      subst (ReadFrom t (λ g. leg.Said e x g (leg.value_of x k r.leg)) (leg.value_of x k r.leg ≡ leg.value_of x k blank_leg))
      (found 0 (spot.At (leg.place_of x) k)) (sources.leg-source e t rest r comes x k few)

  module _ (q : ℕ) (some : 0 < q) (few : q < 17) where
    -- THE SAME OF AN ITEM OF CHANGE q, 1 to 16. Its period is said by a group of its own, under FM by its word.
    pub change-source : (x : ChangeElement) (k : ℕ) → k < change.most_of x
        → ReadFrom t (λ g. change.Said e x g (change.value_in x k (change.change_at q r))) (change.value_in x k (change.change_at q r) ≡ change.value_in x k blank_change)
        (forecast_at e t q (spot.At (change.place_of x) k))
    change-source x k fits =
        subst (ReadFrom t (λ g. change.Said e x g (change.value_in x k (change.change_at q r))) (change.value_in x k (change.change_at q r) ≡ change.value_in x k blank_change))
        (found q (spot.At (change.place_of x) k)) (changes.change-source e q some few x k fits t rest r comes)

    -- OF THE WORD THAT OPENED IT, with the time of FM.
    pub word_source : ReadFrom t (λ g. change.WordSaid e g (change.word_of (change.change_at q r))) (change.word_of (change.change_at q r) ≡ change.no_word) (forecast_at e t q spot.Opening)
    word_source =
        subst (ReadFrom t (λ g. change.WordSaid e g (change.word_of (change.change_at q r))) (change.word_of (change.change_at q r) ≡ change.no_word)) (found q spot.Opening)
        (changes.opening-source e q some few t rest r comes)

    -- AND OF TEMPO, where it belongs to that word.
    pub tempo-source : ReadFrom t (λ g. change.TempoSaid g (change.is_joined (change.change_at q r).opening)) (change.is_joined (change.change_at q r).opening ≡ false) (forecast_at e t q spot.Joined)
    tempo-source =
        subst (ReadFrom t (λ g. change.TempoSaid g (change.is_joined (change.change_at q r).opening)) (change.is_joined (change.change_at q r).opening ≡ false)) (found q spot.Joined)
        (changes.joined-source e q some few t rest r comes)

  -- EVERY GROUP UP TO THE UNREAD REST IS IN THE TRAIL: those taken, in their order, and those left, which begin where the rest does.
  pub every-group : Covers (length t) rest (groups_from t 0) (trail_of e t)
  every-group = sources.trail-covers e t rest r comes

  -- EACH OF THEM IS THE SOURCE OF WHAT WAS TAKEN AT ITS SPOT.
  pub own-source : EachTaken (λ x. forecast_at e t x.part x.spot ≡ source_of (group x.piece)) (trail_of e t)
  own-source = each_map (λ x is. sym (found x.part x.spot) ∙ ap source_of is) (trail_of e t) (sources.trail-own e t rest r comes)
