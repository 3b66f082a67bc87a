-- The round trip of a runway's range: what the writer judges fine and writes has its shape, is read back as its class, and the class is written alike.
-- Assumes nothing.
use Rattle.std.specs.Prelude.{None, Ok, Option, Some}
use Prim.Native.Nat.{ℕ, ◌≤◌}
use native.Mathlib.Omega.{arith}
use mathlib.Core.Path.{◌≡◌, refl, ap}
use mathlib.Core.Bool.{Bool, true, false, ◌&&◌, false≢true}
use mathlib.Core.List.{List, [], ◌∷◌}
use lib.Dec.{leb}
use borrow.Author.Tests.{leb-true}
use Rattle.figures.specs.Quote.{bytes}
use Rattle.shapes.specs.Pattern.{low, high, has_any}
use Rattle.shapes.specs.declared.kinds.Value.{Value}
use Rattle.shapes.specs.Shape.{leading, split, parts_of, spellings, unled, unled_each, clear, printable, sound, has_shape}
use Rattle.shapes.proofs.Patterns.{both}
use Rattle.shapes.proofs.Shapes.{covered}
use Rattle.places.specs.Engine.{Group}
use Rattle.scales.specs.declared.kinds.Range.{Range}
use Rattle.scales.specs.declared.kinds.Range.TheVariants as range
use Rattle.scales.specs.Scale.{run, figure_of, foot_of}
use Rattle.scales.specs.Metres.{runway, range_reading}
use Rattle.scales.proofs.Laws.{figure-such}
use Rattle.scales.proofs.Answers.{foot-low}
use Rattle.scales.proofs.MetresLaws.{runway-laws}
use Rattle.record.specs.declared.aerodrome.Side.{Side}
use Rattle.record.specs.declared.aerodrome.Side.TheVariants as side
use Rattle.record.specs.declared.aerodrome.Course.{Course}
use Rattle.record.specs.declared.aerodrome.Course.TheVariants as course
use Rattle.record.specs.declared.aerodrome.Runway.{Runway}
use Rattle.elements.specs.Judge.{metres_fit}
use Rattle.elements.specs.Wind.{chosen, numbered}
use Rattle.aerodrome_groups.specs.Head.{field_of}
use Rattle.aerodrome_groups.specs.Runway.{runway_shape, side_of, course_of, read_range, runway_by, read_runway, side_value, course_value, mark_of, figures_of, mark_value, range_value, show_runway, is_runway, class_range, class_runway}
use Rattle.aerodrome_groups.proofs.Printed.{SaidAt, Shaped, Printed, printed}

pub runway-covered : (g : Group) → has_shape runway_shape g ≡ true → has_any (spellings (parts_of runway_shape)) g ≡ true
runway-covered g h = covered runway_shape g h

-- ---- every class of the scale is written in four figures

abbrev number_of : Range → ℕ
number_of (range.Below n) = n
number_of (range.Exact n) = n
number_of (range.Above n) = n

four-figures : (m : ℕ) → number_of (figure_of runway m) ≤ 9999
four-figures m =
    leb-true (number_of (figure_of runway m)) 9999 (figure-such (λ r. leb (number_of r) 9999) runway m (unfold runway run in refl))

-- ---- what is written can be said by the shape

number-said : (n : Option ℕ) → is_runway n ≡ true → SaidAt (bytes "R##" ∷ []) (numbered 0 (field_of n))
unfolding leading
number-said None e = absurd (false≢true e)
number-said (Some n) e = (refl, omega (arith, leb-true n 36 (both (leb 1 n) (leb n 36) e).1))

side-said : (s : Side) → SaidAt (bytes "L" ∷ bytes "C" ∷ bytes "R" ∷ [] ∷ []) (side_value s)
unfolding leading
side-said side.None = (refl, refl)
side-said side.Left = (refl, refl)
side-said side.Centre = (refl, refl)
side-said side.Right = (refl, refl)

course-said : (c : Course) → SaidAt (bytes "U" ∷ bytes "D" ∷ bytes "N" ∷ [] ∷ []) (course_value c)
unfolding leading
course-said course.None = (refl, refl)
course-said course.Up = (refl, refl)
course-said course.Down = (refl, refl)
course-said course.NoChange = (refl, refl)

mark-said : (x : Option ℕ) → SaidAt (bytes "M" ∷ bytes "P" ∷ [] ∷ []) (mark_value x)
unfolding leading
mark-said None = (refl, refl)
mark-said (Some m) = by (figure_of runway m)
  where
    by : (r : Range) → SaidAt (bytes "M" ∷ bytes "P" ∷ [] ∷ []) (mark_of r)
    by (range.Below n) = (refl, refl)
    by (range.Exact n) = (refl, refl)
    by (range.Above n) = (refl, refl)

range-said : (x : Option ℕ) → SaidAt (bytes "####" ∷ []) (range_value x)
unfolding leading
range-said None = (refl, tt)
range-said (Some m) = by (figure_of runway m) (four-figures m)
  where
    by : (r : Range) → number_of r ≤ 9999 → SaidAt (bytes "####" ∷ []) (figures_of r)
    by (range.Below n) h = (refl, omega arith)
    by (range.Exact n) h = (refl, omega arith)
    by (range.Above n) h = (refl, omega arith)

abbrev values_of : Runway → List Value
values_of w = numbered 0 (field_of w.number) ∷ side_value w.side ∷ chosen 0 ∷ mark_value w.range ∷ range_value w.range ∷ course_value w.course ∷ []

runway-sound : sound runway_shape ≡ true
unfolding sound clear printable parts_of split leading spellings unled_each unled low high
runway-sound = refl

runway-printed : (w : Runway) → is_runway w.number ≡ true → Printed runway_shape (values_of w) (show_runway w)
unfolding show_runway parts_of split leading
runway-printed w e =
    printed runway_shape (values_of w) runway-sound
    (number-said w.number e, (side-said w.side, ((refl, refl), (mark-said w.range, (range-said w.range, (course-said w.course, tt))))))
    refl

-- ---- what was written is read back

range_back : (x : Option ℕ) → read_range (mark_value x) (range_value x) ≡ Ok (class_range x)
range_back None = refl
range_back (Some m) = by (figure_of runway m) (unfold range_reading in runway-laws.reads-back m)
  where
    by : (r : Range) → range_reading r ≡ Some (foot_of runway m) → read_range (mark_of r) (figures_of r) ≡ Ok (Some (foot_of runway m))
    by (range.Below n) e = rw e
    by (range.Exact n) e = rw e
    by (range.Above n) e = rw e

side-back : (s : Side) → side_of (side_value s).which ≡ s
side-back side.None = refl
side-back side.Left = refl
side-back side.Centre = refl
side-back side.Right = refl

course-back : (c : Course) → course_of (course_value c).which ≡ c
course-back course.None = refl
course-back course.Up = refl
course-back course.Down = refl
course-back course.NoChange = refl

values-back : (n : Option ℕ) (s : Side) (x : Option ℕ) (c : Course) → is_runway n ≡ true
    → runway_by (numbered 0 (field_of n)) (side_value s) (mark_value x) (range_value x) (course_value c) ≡ Ok (record { number = n; side = s; range = class_range x; course = c })
values-back None s x c e = absurd (false≢true e)
values-back (Some n) s x c e = rw (e, range_back x, side-back s, course-back c)

-- a runway that is judged fine
abbrev pub runway_fits : Runway → Bool
runway_fits w = is_runway w.number && metres_fit false w.range

module _ (w : Runway) (e : runway_fits w ≡ true) where
  pub runway-shaped : Shaped runway_shape (show_runway w)
  runway-shaped = (runway-printed w (both (is_runway w.number) (metres_fit false w.range) e).0).shaped

  pub runway-back : read_runway (show_runway w) ≡ Ok (class_runway w)
  unfolding read_runway
  runway-back =
      let n = (both (is_runway w.number) (metres_fit false w.range) e).0 in
      let p = runway-printed w n in
      rw (p.says 0, p.says 1, p.says 3, p.says 4, p.says 5) (values-back w.number w.side w.range w.course n)

  pub runway-classed : runway_fits (class_runway w) ≡ true
  runway-classed =
      let t = both (is_runway w.number) (metres_fit false w.range) e in
      rw t.0 (by w.range t.1)
    where
      by : (x : Option ℕ) → metres_fit false x ≡ true → metres_fit false (class_range x) ≡ true
      by None e = refl
      by (Some m) e = foot-low runway-laws m e

pub runway-again : (w : Runway) → show_runway (class_runway w) ≡ show_runway w
unfolding show_runway
runway-again w = rw (mark w.range, figures w.range)
  where
    mark : (x : Option ℕ) → mark_value (class_range x) ≡ mark_value x
    mark None = refl
    mark (Some m) = ap mark_of (runway-laws.again m)

    figures : (x : Option ℕ) → range_value (class_range x) ≡ range_value x
    figures None = refl
    figures (Some m) = ap figures_of (runway-laws.again m)
