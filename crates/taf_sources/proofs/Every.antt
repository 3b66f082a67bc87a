-- EVERY GROUP OF A TAF UP TO THE UNREAD REST IS THE SOURCE OF AN ITEM: of its main part, of a change, of the word that opened it, or of TEMPO that belongs to
-- that word. In either edition.
-- Assumes nothing.
use Prim.Native.Nat.{ℕ, ◌<◌}
use native.Mathlib.Omega.{arith}
use mathlib.Core.Path.{◌≡◌, refl, sym, ap, subst}
use mathlib.Core.Bool.{Bool, true, false, cond, false≢true}
use mathlib.Core.List.{List}
use lib.ListN.{length}
use Rattle.text.specs.Groups.{groups_from}
use Rattle.text.specs.Text.{tail_of}
use Rattle.places.specs.Engine.{Place, Done}
use Rattle.record.specs.declared.aerodrome.Opening.{Opening}
use Rattle.record.specs.declared.aerodrome.Opening.TheVariants as opening
use Rattle.record.specs.declared.aerodrome.Leg.{Leg}
use Rattle.record.specs.declared.aerodrome.Edition.{Edition}
use Rattle.record.specs.declared.aerodrome.Taf.{Taf}
use Rattle.taf_row.specs.declared.kinds.Part.{Part}
use Rattle.taf_row.specs.declared.kinds.Part.TheVariants as part
use Rattle.taf_row.specs.Row.{is_main, is_changing, row}
use Rattle.taf.specs.Read.{part_of, groups_read}
use Rattle.sources.specs.declared.kinds.Spot.{Spot}
use Rattle.sources.specs.declared.kinds.Spot.TheVariants as spot
use Rattle.sources.specs.Trail.{origin_in, source_of}
use Rattle.sources.proofs.Fields.{◌&◌, Rows, row_at}
use Rattle.sources.proofs.Own.{EachTaken, each_map}
use Rattle.sources.proofs.Every.{PlaceIs, SpotIs, MayHave, report-each, EachBefore, ItemSource, all-sources}
use Rattle.taf_sources.specs.declared.kinds.Element.{Element}
use Rattle.taf_sources.specs.declared.kinds.Element.TheVariants as element
use Rattle.taf_sources.specs.declared.kinds.ChangeElement.{ChangeElement}
use Rattle.taf_sources.specs.declared.kinds.ChangeElement.TheVariants as change
use Rattle.taf_sources.specs.Trail.{route, trail_of}
use Rattle.taf_sources.specs.Items as main
use Rattle.taf_sources.specs.Changes as changed
use Rattle.taf_sources.proofs.Sources.{coming, begun, main_lacks, takes, lacks, went, walked, trail-covers, trail-own}

-- THE SPOTS OF THE ITEMS, of which `leg-source`, `change-source`, `opening-source` and `joined-source` speak: in part 0 those of the main part; in parts 1 to 16
-- those of a change, its word, and TEMPO after PROB30 or PROB40.
pub data IsItem : ℕ → Spot → Type 0 where
  of-main : (x : Element) {k : ℕ} → k < main.most_of x → IsItem 0 (spot.At (main.place_of x) k)
  of-change : {q : ℕ} → 0 < q → q < 17 → (x : ChangeElement) {k : ℕ} → k < changed.most_of x → IsItem q (spot.At (changed.place_of x) k)
  of_word : {q : ℕ} → 0 < q → q < 17 → IsItem q spot.Opening
  of-tempo : {q : ℕ} → 0 < q → q < 17 → IsItem q spot.Joined

-- ---- place by place

abbrev MainAt : ℕ → Place Leg → Type 0
MainAt = PlaceIs (λ i n. IsItem 0 (spot.At i n))

-- a change's period is closed
main-rows : (e : Edition) → Rows MainAt 0 (row e part.Main)
unfolding row
main-rows e =
    (λ n g a a' few is. of-main element.Name few)
    & (λ n g a a' few is. of-main element.Correction few)
    & (λ n g a a' few is. of-main element.Station few)
    & (λ n g a a' few is. of-main element.Time few)
    & (λ n g a a' few is. of-main element.Nil few)
    & (λ n g a a' few is. of-main element.Period few)
    & (λ n g a a' few is. absurd (omega arith))
    & (λ n g a a' few is. of-main element.Cancelled few)
    & (λ n g a a' few is. of-main element.Wind few)
    & (λ n g a a' few is. of-main element.Visibility few)
    & (λ n g a a' few is. of-main element.Weather few)
    & (λ n g a a' few is. of-main element.Clouds few)
    & tt

-- a place that is closed, and one that may be
none-closed : (b : Bool) (n : ℕ) → b ≡ false → n < cond b 1 0 → ⊥
none-closed true n e h = false≢true (sym e)
none-closed false n e h = absurd (omega arith)

one-open : (b : Bool) (n : ℕ) → n < cond b 1 0 → n < 1
one-open true n h = h
one-open false n h = absurd (omega arith)

module _ (q : ℕ) (some : 0 < q) (within : q < 17) where
  abbrev ChangedAt : ℕ → Place Leg → Type 0
  ChangedAt = PlaceIs (λ i n. IsItem q (spot.At i n))

  -- the head is closed in a change, and its period under FM
  changed-rows : (e : Edition) (w : Part) → is_main w ≡ false → Rows ChangedAt 0 (row e w)
  unfolding row
  changed-rows e w closed =
      (λ n g a a' few is. absurd (none-closed (is_main w) n closed few))
      & (λ n g a a' few is. absurd (none-closed (is_main w) n closed few))
      & (λ n g a a' few is. absurd (none-closed (is_main w) n closed few))
      & (λ n g a a' few is. absurd (none-closed (is_main w) n closed few))
      & (λ n g a a' few is. absurd (none-closed (is_main w) n closed few))
      & (λ n g a a' few is. absurd (none-closed (is_main w) n closed few))
      & (λ n g a a' few is. of-change some within change.Period (one-open (is_changing w) n few))
      & (λ n g a a' few is. absurd (none-closed (is_main w) n closed few))
      & (λ n g a a' few is. of-change some within change.Wind few)
      & (λ n g a a' few is. of-change some within change.Visibility few)
      & (λ n g a a' few is. of-change some within change.Weather few)
      & (λ n g a a' few is. of-change some within change.Clouds few)
      & tt

-- no word opens the main part
opens-change : (o : Opening) → is_main (part_of o) ≡ false
opens-change opening.None = refl
opens-change opening.Becoming = refl
opens-change opening.Temporary = refl
opens-change (opening.Probable n) = refl
opens-change (opening.ProbablyTemporary n) = refl
opens-change opening.From = refl

all-items : (e : Edition) → MayHave (route e) 16 IsItem
all-items e =
    record {
      main = row_at MainAt (row e part.Main) (main-rows e) (λ i n g a a' none is. absurd (omega arith));
      placed =
          λ q some few o.
          row_at (ChangedAt q some (omega arith)) (row e (part_of o)) (changed-rows q some (omega arith) e (part_of o) (opens-change o))
          (λ i n g a a' none is. absurd (omega arith));
      opening = λ q some few. of_word some (omega arith);
      joined = λ q some few o g joins. of-tempo some (omega arith);
    }

-- EACH GROUP OF THE TRAIL WAS TAKEN AT THE SPOT OF AN ITEM.
pub trail-items : (e : Edition) (t : List ℕ) (rest : ℕ) (r : Taf) → groups_read e (tail_of t) (length t) (groups_from t 0) ≡ Done rest r
    → EachTaken (SpotIs IsItem) (trail_of e t)
unfolding groups_read
trail-items e t rest r reads =
    subst (EachTaken (SpotIs IsItem)) (sym (walked e t rest r reads))
    (report-each (route e) (coming e) (begun e) main_lacks takes lacks (tail_of t) (length t) rest r (all-items e) (went e t rest r reads) reads)

-- EVERY GROUP THAT BEGINS BEFORE THE UNREAD REST IS THE SOURCE OF AN ITEM.
pub every-source : (e : Edition) (t : List ℕ) (rest : ℕ) (r : Taf) → groups_read e (tail_of t) (length t) (groups_from t 0) ≡ Done rest r
    → EachBefore rest (ItemSource IsItem (λ q s. source_of (origin_in q s (trail_of e t)))) (groups_from t 0)
every-source e t rest r reads =
    all-sources IsItem (λ q s. source_of (origin_in q s (trail_of e t))) t (trail_of e t) (trail-covers e t rest r reads) (trail-items e t rest r reads)
    (each_map (λ x is. ap source_of is) (trail_of e t) (trail-own e t rest r reads))
