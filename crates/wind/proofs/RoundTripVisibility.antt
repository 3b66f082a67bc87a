-- The visibility's round trip: what is judged fine is written as a group of a visibility's shape, read back as its class, and written the same again.
-- Assumes nothing.
use Rattle.std.specs.Prelude.{Ok}
use Prim.Native.Nat.{◌<◌}
use native.Mathlib.Omega.{arith}
use mathlib.Core.Path.{◌≡◌, refl}
use mathlib.Core.Bool.{Bool, true, false}
use mathlib.Core.List.{[], append-nil}
use Rattle.figures.specs.Quote.{bytes}
use Rattle.figures.specs.declared.kinds.Field.{Field}
use Rattle.figures.specs.declared.kinds.Field.TheVariants as field
use Rattle.figures.specs.Figures.{number_text, slashes, field_text, field_at, Fits}
use Rattle.figures.proofs.Figures.{field_back}
use Rattle.text.proofs.Judging.{fine}
use Rattle.shapes.specs.Pattern.{low, high, fits, has_pattern, has_any, clash}
use Rattle.shapes.proofs.Patterns.{field-pattern, excluded}
use Rattle.scales.specs.Scale.{figure_of}
use Rattle.scales.specs.Metres.{visibility}
use Rattle.scales.proofs.Answers.{foot-low, metres-read}
use Rattle.scales.proofs.MetresLaws.{visibility-laws}
use Rattle.record.specs.declared.aerodrome.View.{View}
use Rattle.record.specs.declared.aerodrome.View.TheVariants as view
use Rattle.record.specs.declared.aerodrome.Visibility.{Visibility}
use Rattle.elements.specs.Visibility.{visibility_shapes, read_visibility, view_group, show_visibility, view_fits, judge_visibility, class_view, class_visibility}
use Rattle.wind.proofs.VisibilityLaws.{figure-small}

-- ---- a field of four figures

module _ (f : Field) (h : Fits 4 f) where
  field-shaped : has_pattern (field_text 4 f) (bytes "####") ≡ true
  field-shaped = field-pattern 4 f (omega arith) h

  field_plain : has_pattern (field_text 4 f) (bytes "CAVOK") ≡ false
  unfolding clash low high
  field_plain = excluded (field_text 4 f) (bytes "####") (bytes "CAVOK") refl field-shaped

  field-read : field_at (field_text 4 f) 0 4 ≡ f
  field-read = rw (append-nil (field_text 4 f)) at (field_back [] [] 4 f (omega arith) (omega arith) h)

-- ---- the view

view-shaped : (forecast : Bool) (x : View) → view_fits forecast x ≡ true → has_any visibility_shapes (view_group x) ≡ true
unfolding has_any
view-shaped forecast view.Missing h = unfold field_text slashes in rw (field-shaped field.Missing tt)
view-shaped forecast view.Cavok h = unfold has_pattern fits low high in refl
view-shaped forecast (view.Metres m) h = unfold field_text number_text in rw (field-shaped (field.Number (figure_of visibility m)) (omega (arith, figure-small m)))

view-back : (forecast : Bool) (x : View) → view_fits forecast x ≡ true → read_visibility forecast (view_group x) ≡ Ok (record { is = class_view x })
unfolding read_visibility field_text number_text slashes
view-back forecast view.Missing h = rw (field_plain field.Missing tt, field-read field.Missing tt, h)
view-back forecast view.Cavok h = unfold has_pattern fits low high in refl
view-back forecast (view.Metres m) h =
    let f = figure_of visibility m in
    let four : f < 10000 = omega (arith, figure-small m) in
    rw (field_plain (field.Number f) four, field-read (field.Number f) four, metres-read visibility-laws m)

view-again : (x : View) → view_group (class_view x) ≡ view_group x
view-again view.Missing = refl
view-again view.Cavok = refl
view-again (view.Metres m) = rw (visibility-laws.again m)

view-classed : (forecast : Bool) (x : View) → view_fits forecast x ≡ true → view_fits forecast (class_view x) ≡ true
view-classed forecast view.Missing h = h
view-classed forecast view.Cavok h = h
view-classed forecast (view.Metres m) h = foot-low visibility-laws m h

-- ---- the visibility

module _ (forecast : Bool) (v : Visibility) (e : judge_visibility forecast v ≡ Ok tt) where
  view-fits : view_fits forecast v.is ≡ true
  unfolding judge_visibility
  view-fits = (fine (view_fits forecast v.is) true e).0

  pub visibility-shaped : has_any visibility_shapes (show_visibility v) ≡ true
  unfolding show_visibility
  visibility-shaped = view-shaped forecast v.is view-fits

  pub visibility-back : read_visibility forecast (show_visibility v) ≡ Ok (class_visibility v)
  unfolding show_visibility
  visibility-back = view-back forecast v.is view-fits

  pub visibility-again : show_visibility (class_visibility v) ≡ show_visibility v
  unfolding show_visibility
  visibility-again = view-again v.is

  pub visibility-classed : judge_visibility forecast (class_visibility v) ≡ Ok tt
  unfolding judge_visibility
  visibility-classed = rw (view-classed forecast v.is view-fits)
