-- THE ROUND TRIP OF TAF, at the level of the text: the canonical text of a record that the writer accepts is read back whole, as the record with each
-- rounded number the reading of its class; written again it is the same text.
-- Assumes nothing.
use Rattle.std.specs.Prelude.{Ok}
use Prim.Native.Nat.{◌≤◌}
use native.Mathlib.Omega.{arith}
use mathlib.Core.Path.{◌≡◌, refl, ap}
use mathlib.Core.Bool.{Bool, true, false, ◌||◌}
use lib.ListN.{length}
use Rattle.text.specs.Groups.{groups_from, join}
use Rattle.text.specs.Text.{tail_of}
use Rattle.shapes.proofs.Patterns.{neither}
use Rattle.places.specs.Engine.{Done, written}
use Rattle.places.proofs.Sizes.{Sizes, sizes-append, sizes-more}
use Rattle.places.proofs.Kept.{kept-sizes, row_room}
use Rattle.places.proofs.Delivered.{joined-short, joined_back}
use Rattle.record.specs.declared.aerodrome.Taf.{Taf}
use Rattle.record.specs.SilentAerodrome.{is_blank_change}
use Rattle.record.specs.Arrays.{TafArrays}
use Rattle.elements.proofs.Lists.{list-judged, list-again}
use Rattle.taf_row.specs.declared.kinds.Part.TheVariants as part
use Rattle.taf_row.specs.Row.{row}
use Rattle.taf.specs.Read.{groups_read}
use Rattle.taf.specs.Write.{judge_change, judge_each, judge_changes, foreign_blank, judge_of, show_change, show_each, groups_of, canonical_of, class_change, classed_of}
use Rattle.taf_laws.proofs.Parts.{Fair, fair, fair-part, sizes, over-bare, kept-main}
use Rattle.taf_laws.proofs.Changes.{Listed, listed, none_over, changes-sizes, main-classed, written-classed, part-judged, change-again, change-judged}
use Rattle.taf_laws.proofs.Reports.{pieces-back}

-- ---- how long it is

-- The groups of a record can be joined and cut, and hold only bytes that a text may hold: the main part and sixteen changes.
pub groups-sizes : (t : Taf) → TafArrays t → judge_of t ≡ Ok tt → Sizes 1971 (groups_of t)
unfolding groups_of
groups-sizes t arrays e =
    let f = fair t e in
    let room : row_room sizes (row t.edition part.Main) ≤ 131 = unfold row in omega arith in
    sizes-append (written (row t.edition part.Main) t.leg) _ (sizes-more room (kept-sizes (kept-main t arrays f))) (changes-sizes t (listed t arrays f))

-- HOW LONG THE CANONICAL TEXT IS, at most.
pub length-canonical : (t : Taf) → TafArrays t → judge_of t ≡ Ok tt → length (canonical_of t) ≤ 1971
unfolding canonical_of
length-canonical t arrays e = joined-short (groups_of t) (unfold groups_of row in omega arith) (groups-sizes t arrays e)

-- ---- read back

-- THE GROUPS OF THE CANONICAL TEXT COME TO THE RECORD'S CLASSES, with no unread rest.
pub read-canonical : (t : Taf) → TafArrays t → judge_of t ≡ Ok tt
    → groups_read t.edition (tail_of (canonical_of t)) (length (canonical_of t)) (groups_from (canonical_of t) 0) ≡ Done (length (canonical_of t)) (classed_of t)
unfolding canonical_of
read-canonical t arrays e = joined_back (groups_read t.edition) (groups_of t) (groups-sizes t arrays e) (pieces-back t arrays e)

-- ---- the record that is read back

-- NIL or cancelled it is as it was
pub over-classed : (t : Taf) → TafArrays t → Fair t → (t.leg.nil || t.leg.cancelled) ≡ true → classed_of t ≡ t
unfolding row classed_of
over-classed t arrays f o = rw (over-bare t arrays f o, none_over t f o)

-- the main part with its changes is written alike, and judged alike
live-again : (t : Taf) → Fair t → Listed t → t.leg.nil ≡ false → t.leg.cancelled ≡ false → groups_of (classed_of t) ≡ groups_of t
unfolding groups_of classed_of
live-again t f l n c =
    rw (
      main-classed t.edition t.leg,
      written-classed t.edition part.Main t.leg (fair-part part.Main t.leg.body (f.part n c)),
      list-again (show_change t.edition) (show_each t.edition) refl (λ c cs. refl) l (class_change t.edition) (change-again t.edition),
    )

live-judged : (t : Taf) → Fair t → Listed t → t.leg.nil ≡ false → t.leg.cancelled ≡ false → judge_of (classed_of t) ≡ Ok tt
unfolding judge_of judge_changes foreign_blank classed_of
live-judged t f l n c =
    rw (main-classed t.edition t.leg, part-judged part.Main t.leg.body (fair-part part.Main t.leg.body (f.part n c)), f.station, f.time, f.period n, n, c)
    (list-judged (judge_change t.edition) (judge_each t.edition) refl (λ c cs. refl) is_blank_change 16 t.changes.count t.changes.items (class_change t.edition) (change-judged t.edition) l)

-- over, or with its changes
module _ (t : Taf) (arrays : TafArrays t) (e : judge_of t ≡ Ok tt) (P : Taf → Type 0) (same : P t)
    (live : t.leg.nil ≡ false → t.leg.cancelled ≡ false → P (classed_of t)) where
  either_way : P (classed_of t)
  either_way = go (t.leg.nil || t.leg.cancelled) refl
    where
      go : (b : Bool) → (t.leg.nil || t.leg.cancelled) ≡ b → P (classed_of t)
      go true o = rw (over-classed t arrays (fair t e) o) same
      go false o = let n = neither t.leg.nil t.leg.cancelled (rw o) in live n.0 n.1

-- THE RECORD THAT IS READ BACK IS WRITTEN AS THE SAME TEXT.
pub written-again : (t : Taf) → TafArrays t → judge_of t ≡ Ok tt → canonical_of (classed_of t) ≡ canonical_of t
unfolding canonical_of
written-again t arrays e =
    either_way t arrays e (λ q. canonical_of q ≡ canonical_of t) refl (λ n c. ap join (live-again t (fair t e) (listed t arrays (fair t e)) n c))

-- AND THE WRITER ACCEPTS IT.
pub classed-fine : (t : Taf) → TafArrays t → judge_of t ≡ Ok tt → judge_of (classed_of t) ≡ Ok tt
classed-fine t arrays e = either_way t arrays e (λ q. judge_of q ≡ Ok tt) e (live-judged t (fair t e) (listed t arrays (fair t e)))
