-- The changes of a TAF that is judged fine: how many they are, that each is judged fine, what is blank past them, and the room that they take; and what is
-- read back of a part and of a change.
-- Assumes nothing.
use Rattle.std.specs.Prelude.{Ok}
use Prim.Native.Nat.{ℕ, ◌≤◌}
use native.Mathlib.Omega.{arith}
use mathlib.Core.Path.{◌≡◌, refl, sym, ap, ◌∙◌}
use mathlib.Core.Bool.{Bool, true, false, ◌||◌, false≢true}
use mathlib.Core.List.{List, [], ◌∷◌, ◌++◌}
use lib.ListN.{take}
use lib.Dec.{eqb}
use borrow.Author.Tests.{eqb-true}
use Rattle.figures.specs.Quote.{bytes}
use Rattle.figures.specs.Figures.{every}
use Rattle.shapes.specs.Pattern.{low, high, fits, has_pattern, has_any}
use Rattle.shapes.proofs.Patterns.{both, neither}
use Rattle.places.specs.Engine.{Group, written, put_all}
use Rattle.places.proofs.Sizes.{measured, Sizes, sizes-append, sizes-more}
use Rattle.places.proofs.Kept.{kept-sizes, row_room}
use Rattle.record.specs.declared.aerodrome.Opening.{Opening}
use Rattle.record.specs.declared.aerodrome.Opening.TheVariants as opening
use Rattle.record.specs.declared.aerodrome.Period.{Period}
use Rattle.record.specs.declared.aerodrome.Body.{Body}
use Rattle.record.specs.declared.aerodrome.Leg.{Leg}
use Rattle.record.specs.declared.aerodrome.Change.{Change}
use Rattle.record.specs.declared.aerodrome.Edition.{Edition}
use Rattle.record.specs.declared.aerodrome.Edition.TheVariants as edition
use Rattle.record.specs.declared.aerodrome.Taf.{Taf}
use Rattle.record.specs.Taf.{set_body, blank_leg, blank_change}
use Rattle.record.specs.SilentAerodrome.{no_instant, is_blank_change}
use Rattle.record.specs.Arrays.{TafArrays}
use Rattle.record.proofs.Counted.{Listed as Counted, listed_of}
use Rattle.record.proofs.AerodromeBlanks.{change-blank}
use Rattle.elements.specs.Body.{class_body}
use Rattle.sky.proofs.RoundTrip.{sky-again}
use Rattle.body.proofs.Bodies.{wind-both, view-both, body-classed, element-classed}
use Rattle.elements.proofs.Lists.{list-fair, one-sizes, list-sizes}
use Rattle.taf_row.specs.declared.kinds.Part.{Part}
use Rattle.taf_row.specs.declared.kinds.Part.TheVariants as part
use Rattle.taf_row.specs.Row.{is_main, forecast_in, change_form, from_shape, row}
use Rattle.taf.specs.Read.{is_chance, part_of, change_of}
use Rattle.taf.specs.Write.{judge_part, period_fits, from_fits, opening_fits, leg_of, judge_change, judge_each, judge_changes, show_chance, show_from, show_opening, show_change, show_each, opened_leg, class_change}
use Rattle.taf_laws.proofs.Periods.{no_end, chance-shaped, from-shaped}
use Rattle.taf_laws.proofs.Places.{live}
use Rattle.taf_laws.proofs.Parts.{FairPart, Sound, fair-change, Fair, foreign-over, sizes, kept-change}

-- ---- what is judged fine of them

-- The changes that stand are judged fine, and past them there are none.
abbrev pub Listed : Taf → Type 0
Listed t = Counted (Sound t.edition) is_blank_change blank_change 16 t.changes.count t.changes.items

-- a report that is NIL or cancelled has none
pub none_over : (t : Taf) → Fair t → (t.leg.nil || t.leg.cancelled) ≡ true → t.changes.count ≡ 0
none_over t f o = eqb-true t.changes.count 0 (both (eqb t.changes.count 0) (every is_blank_change t.changes.items) (foreign-over t f.blank o).1).0

module _ (t : Taf) (arrays : TafArrays t) (f : Fair t) where
  none-listed : (n : ℕ) → n ≡ 0 → every is_blank_change t.changes.items ≡ true → Counted (Sound t.edition) is_blank_change blank_change 16 n t.changes.items
  none-listed n z e = rw z (listed_of change-blank arrays.changes arrays.each (omega arith) tt e)

  some-listed : judge_changes t.edition t.changes ≡ Ok tt → Listed t
  unfolding judge_changes
  some-listed =
      list-fair (judge_change t.edition) (judge_each t.edition) refl (λ c cs. refl) is_blank_change 16 t.changes.count t.changes.items (fair-change t.edition) change-blank arrays.changes arrays.each

  pub listed : Listed t
  listed = go (t.leg.nil || t.leg.cancelled) refl
    where
      go : (b : Bool) → (t.leg.nil || t.leg.cancelled) ≡ b → Listed t
      go true o = none-listed t.changes.count (none_over t f o) (both (eqb t.changes.count 0) (every is_blank_change t.changes.items) (foreign-over t f.blank o).1).1
      go false o = let n = neither t.leg.nil t.leg.cancelled (rw o) in some-listed (f.changes n.0 n.1)

-- ---- the room that they take

from-short : (e : Edition) → measured 8 (from_shape e ∷ []) ≡ true
unfolding low high
from-short edition.Present = refl
from-short edition.Of2005 = refl

opening-sizes : (e : Edition) (o : Opening) (p : Period) → opening_fits e o p ≡ true → Sizes 13 (show_opening e o p)
unfolding has_pattern has_any fits low high
opening-sizes e opening.None p fair = absurd (false≢true fair)
opening-sizes e opening.Becoming p fair = sizes-more (omega arith) (one-sizes 5 (bytes "BECMG") (bytes "BECMG") refl refl)
opening-sizes e opening.Temporary p fair = sizes-more (omega arith) (one-sizes 5 (bytes "TEMPO") (bytes "TEMPO") refl refl)
opening-sizes e (opening.Probable n) p fair = sizes-more (omega arith) (one-sizes 6 (bytes "PROB##") (show_chance n) refl (chance-shaped n (both (is_chance n) (period_fits (change_form e) p) fair).0))
opening-sizes e (opening.ProbablyTemporary n) p fair =
    sizes-append (show_chance n ∷ []) (bytes "TEMPO" ∷ []) (one-sizes 6 (bytes "PROB##") (show_chance n) refl (chance-shaped n (both (is_chance n) (period_fits (change_form e) p) fair).0))
    (one-sizes 5 (bytes "TEMPO") (bytes "TEMPO") refl refl)
opening-sizes e opening.From p fair =
    sizes-more (omega arith) (one-sizes 8 (from_shape e) (show_from e p.from) (from-short e) (from-shaped e p.from (both (from_fits e p.from) (no_instant p.to) fair).0))

pub part-change : (o : Opening) → is_main (part_of o) ≡ false
part-change opening.None = refl
part-change opening.Becoming = refl
part-change opening.Temporary = refl
part-change (opening.Probable n) = refl
part-change (opening.ProbablyTemporary n) = refl
part-change opening.From = refl

change-room : (e : Edition) (w : Part) → is_main w ≡ false → row_room sizes (row e w) ≤ 102
unfolding row
change-room e part.Main is = absurd (false≢true (sym is))
change-room e part.Changing is = omega arith
change-room e part.From is = omega arith

change-sizes : (e : Edition) (c : Change) → Sound e c → Sizes 115 (show_change e c)
unfolding show_change
change-sizes e c s =
    sizes-append (show_opening e c.opening c.period) (written (row e (part_of c.opening)) (leg_of c))
    (opening-sizes e c.opening c.period s.1.opens)
    (sizes-more (change-room e (part_of c.opening) (part-change c.opening)) (kept-sizes (kept-change e c s.0 s.1)))

-- sixteen changes, PROB30 TEMPO each
pub changes-sizes : (t : Taf) → Listed t → Sizes 1840 (show_each t.edition (take t.changes.count t.changes.items))
changes-sizes t l = list-sizes (show_change t.edition) (show_each t.edition) refl (λ c cs. refl) l 115 (change-sizes t.edition)

-- ---- a part that is read back: written as it was, and judged fine as it was

-- each rounded number the reading of its class, all else as it is
abbrev pub class_leg : Leg → Leg
class_leg r = set_body (class_body r.body) r

pub main-classed : (e : Edition) (r : Leg) → put_all (row e part.Main) r blank_leg ≡ class_leg r
unfolding row
main-classed e r = refl

pub written-classed : (e : Edition) (w : Part) (r : Leg) → FairPart w r.body → written (row e w) (class_leg r) ≡ written (row e w) r
unfolding row
written-classed e w r f =
    let t = forecast_in w in
    rw ((wind-both t (live w) r.body f.body.wind).0, (view-both t (live w) r.body f.body.visibility).0, sky-again r.body.sky)

pub part-judged : (w : Part) (b : Body) → FairPart w b → judge_part w (class_body b) ≡ Ok tt
unfolding judge_part
part-judged w b f = rw (body-classed (forecast_in w) (live w) b f.body, element-classed b, f.element)

-- ---- and a change

module _ (e : Edition) (c : Change) where
  pub change-is : opening_fits e c.opening c.period ≡ true → class_change e c ≡ change_of c.opening (class_leg (leg_of c))
  unfolding class_change row
  change-is f = go c.opening f
    where
      go : (o : Opening) → opening_fits e o c.period ≡ true → change_of o (put_all (row e (part_of o)) (leg_of c) (opened_leg o c.period)) ≡ change_of o (class_leg (leg_of c))
      go opening.None is = absurd (false≢true is)
      go opening.Becoming is = refl
      go opening.Temporary is = refl
      go (opening.Probable n) is = refl
      go (opening.ProbablyTemporary n) is = refl
      go opening.From is = rw (no_end c.period (both (from_fits e c.period.from) (no_instant c.period.to) is).1)

  pub change-again : Sound e c → show_change e (class_change e c) ≡ show_change e c
  unfolding show_change
  change-again s =
      ap (show_change e) (change-is s.1.opens)
      ∙ ap (λ (gs : List Group). show_opening e c.opening c.period ++ gs) (written-classed e (part_of c.opening) (leg_of c) s.1.part)

  pub change-judged : Sound e c → judge_change e (class_change e c) ≡ Ok tt
  unfolding judge_change
  change-judged s = ap (judge_change e) (change-is s.1.opens) ∙ rw s.1.opens (part-judged (part_of c.opening) c.body s.1.part)
