-- EVERY GROUP OF A METAR OR SPECI UP TO THE UNREAD REST IS THE SOURCE OF AN ITEM: of the observation, of a change of the trend, or of the word that opened it.
-- Assumes nothing.
use Prim.Native.Nat.{ℕ, ◌<◌}
use native.Mathlib.Omega.{arith}
use mathlib.Core.Path.{◌≡◌, sym, ap, subst}
use mathlib.Core.Bool.{Bool, true, false, false≢true}
use mathlib.Core.List.{List}
use lib.ListN.{length}
use Rattle.text.specs.Groups.{groups_from}
use Rattle.text.specs.Text.{tail_of}
use Rattle.places.specs.Engine.{Place, Done}
use Rattle.record.specs.declared.aerodrome.Observation.{Observation}
use Rattle.record.specs.declared.aerodrome.TrendChange.{TrendChange}
use Rattle.record.specs.declared.aerodrome.Metar.{Metar}
use Rattle.metar_row.specs.Row as observation
use Rattle.trend_row.specs.Row as trend
use Rattle.metar.specs.Read.{groups_read}
use Rattle.sources.specs.declared.kinds.Spot.{Spot}
use Rattle.sources.specs.declared.kinds.Spot.TheVariants as spot
use Rattle.sources.specs.Trail.{origin_in, source_of}
use Rattle.sources.proofs.Fields.{◌&◌, Rows, row_at}
use Rattle.sources.proofs.Own.{EachTaken, each_map}
use Rattle.sources.proofs.Every.{PlaceIs, SpotIs, MayHave, report-each, EachBefore, ItemSource, all-sources}
use Rattle.metar_sources.specs.declared.kinds.Element.{Element}
use Rattle.metar_sources.specs.declared.kinds.Element.TheVariants as element
use Rattle.metar_sources.specs.declared.kinds.ChangeElement.{ChangeElement}
use Rattle.metar_sources.specs.declared.kinds.ChangeElement.TheVariants as change
use Rattle.metar_sources.specs.Trail.{route, trail_of}
use Rattle.metar_sources.specs.Items as observed
use Rattle.metar_sources.specs.Changes as changed
use Rattle.metar_sources.proofs.Items.{beside-refused}
use Rattle.metar_sources.proofs.Sources.{coming, begun, none-lacks, takes, lacks, went, walked, trail-covers, trail-own}

-- THE SPOTS OF THE ITEMS, of which `observed-source`, `change-source` and `opening-source` speak: in part 0 those of the observation; in parts 1 to 3 those of
-- a change, and its word.
pub data IsItem : ℕ → Spot → Type 0 where
  of-observation : (e : Element) {k : ℕ} → k < observed.most_of e → IsItem 0 (spot.At (observed.place_of e) k)
  of-change : {q : ℕ} → 0 < q → q < 4 → (e : ChangeElement) {k : ℕ} → k < changed.most_of e → IsItem q (spot.At (changed.place_of e) k)
  of_word : {q : ℕ} → 0 < q → q < 4 → IsItem q spot.Opening

-- ---- place by place

abbrev ObservedAt : ℕ → Place Observation → Type 0
ObservedAt = PlaceIs (λ i n. IsItem 0 (spot.At i n))

-- a runway state beside SNOCLO is refused, and the times of a trend are closed
observed-rows : Rows ObservedAt 0 observation.row
unfolding observation.row
observed-rows =
    (λ n g a a' few is. of-observation element.Name few)
    & (λ n g a a' few is. of-observation element.Correction few)
    & (λ n g a a' few is. of-observation element.Station few)
    & (λ n g a a' few is. of-observation element.Time few)
    & (λ n g a a' few is. of-observation element.Nil few)
    & (λ n g a a' few is. of-observation element.Automatic few)
    & (λ n g a a' few is. of-observation element.Wind few)
    & (λ n g a a' few is. of-observation element.Variation few)
    & (λ n g a a' few is. of-observation element.Visibility few)
    & (λ n g a a' few is. of-observation element.Runway few)
    & (λ n g a a' few is. of-observation element.Weather few)
    & (λ n g a a' few is. of-observation element.Clouds few)
    & (λ n g a a' few is. of-observation element.Temperatures few)
    & (λ n g a a' few is. of-observation element.Pressure few)
    & (λ n g a a' few is. of-observation element.Recent few)
    & (λ n g a a' few is. of-observation element.State few)
    & (λ n g a a' few is. of-observation element.Snoclo few)
    & (λ n g a a' few is. absurd (beside-refused g a a' is))
    & (λ n g a a' few is. absurd (omega arith))
    & tt

module _ (q : ℕ) (some : 0 < q) (within : q < 4) where
  abbrev ChangedAt : ℕ → Place TrendChange → Type 0
  ChangedAt = PlaceIs (λ i n. IsItem q (spot.At i n))

  -- the observation's groups are closed in a change, and after NOSIG all are
  changed-rows : (free : Bool) → Rows ChangedAt 0 (trend.row free)
  unfolding trend.row
  changed-rows true =
      (λ n g a a' few is. absurd (omega arith))
      & (λ n g a a' few is. of-change some within change.From few)
      & (λ n g a a' few is. of-change some within change.Until few)
      & (λ n g a a' few is. of-change some within change.At few)
      & (λ n g a a' few is. of-change some within change.Wind few)
      & (λ n g a a' few is. of-change some within change.Visibility few)
      & (λ n g a a' few is. of-change some within change.Weather few)
      & (λ n g a a' few is. of-change some within change.Clouds few)
      & tt
  changed-rows false =
      (λ n g a a' few is. absurd (omega arith))
      & (λ n g a a' few is. absurd (omega arith))
      & (λ n g a a' few is. absurd (omega arith))
      & (λ n g a a' few is. absurd (omega arith))
      & (λ n g a a' few is. absurd (omega arith))
      & (λ n g a a' few is. absurd (omega arith))
      & (λ n g a a' few is. absurd (omega arith))
      & (λ n g a a' few is. absurd (omega arith))
      & tt

all-items : MayHave route 3 IsItem
all-items =
    record {
      main = row_at ObservedAt observation.row observed-rows (λ i n g a a' few is. absurd (omega arith));
      placed =
          λ q some few w.
          row_at (ChangedAt q some (omega arith)) (trend.row (trend.is_change w)) (changed-rows q some (omega arith) (trend.is_change w))
          (λ i n g a a' none is. absurd (omega arith));
      opening = λ q some few. of_word some (omega arith);
      joined = λ q some few w g joins. absurd (false≢true joins);
    }

-- EACH GROUP OF THE TRAIL WAS TAKEN AT THE SPOT OF AN ITEM.
pub trail-items : (t : List ℕ) (rest : ℕ) (r : Metar) → groups_read (tail_of t) (length t) (groups_from t 0) ≡ Done rest r → EachTaken (SpotIs IsItem) (trail_of t)
unfolding groups_read
trail-items t rest r reads =
    subst (EachTaken (SpotIs IsItem)) (sym (walked t rest r reads))
    (report-each route coming begun none-lacks takes lacks (tail_of t) (length t) rest r all-items (went t rest r reads) reads)

-- EVERY GROUP THAT BEGINS BEFORE THE UNREAD REST IS THE SOURCE OF AN ITEM.
pub every-source : (t : List ℕ) (rest : ℕ) (r : Metar) → groups_read (tail_of t) (length t) (groups_from t 0) ≡ Done rest r
    → EachBefore rest (ItemSource IsItem (λ q s. source_of (origin_in q s (trail_of t)))) (groups_from t 0)
every-source t rest r reads =
    all-sources IsItem (λ q s. source_of (origin_in q s (trail_of t))) t (trail_of t) (trail-covers t rest r reads) (trail-items t rest r reads)
    (each_map (λ x is. ap source_of is) (trail_of t) (trail-own t rest r reads))
