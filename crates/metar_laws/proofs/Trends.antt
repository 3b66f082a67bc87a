-- The changes of a trend that is judged fine: how many they are, that each is judged fine and kept, what is blank past them, the room that they take, and
-- what is read back of them.
-- Assumes nothing.
use Rattle.std.specs.Prelude.{Ok}
use Prim.Native.Nat.{◌≤◌}
use native.Mathlib.Omega.{arith}
use mathlib.Core.Path.{◌≡◌, refl, sym, ap, ◌∙◌}
use mathlib.Core.Bool.{Bool, true, false, not, false≢true}
use mathlib.Core.List.{List, [], ◌∷◌, ◌++◌}
use lib.ListN.{length}
use borrow.Author.Tests.{not-true}
use Rattle.figures.specs.Quote.{bytes}
use Rattle.text.specs.Judge.{judge}
use Rattle.text.proofs.Judging.{fine, and-then}
use Rattle.shapes.specs.Pattern.{low, high, fits, has_pattern, has_any}
use Rattle.places.specs.Engine.{Group, written}
use Rattle.places.proofs.Sizes.{Sizes, sizes-none, sizes-append, sizes-more}
use Rattle.places.proofs.Kept.{KeptRow, kept-sizes, row_room}
use Rattle.record.specs.declared.aerodrome.Tendency.{Tendency}
use Rattle.record.specs.declared.aerodrome.Tendency.TheVariants as tendency
use Rattle.record.specs.declared.aerodrome.TrendChange.{TrendChange}
use Rattle.record.specs.declared.aerodrome.Trend.{Trend}
use Rattle.record.specs.Trend.{set_tendency, set_body, blank_trend_change}
use Rattle.record.specs.SilentAerodrome.{no_tendency, is_blank_trend_change}
use Rattle.record.specs.Arrays.{BodyArrays, Each, TrendArrays}
use Rattle.record.proofs.Counted.{Listed as Counted}
use Rattle.record.proofs.AerodromeBlanks.{trend-change-blank}
use Rattle.elements.specs.Body.{changing, judge_body, has_element, class_body}
use Rattle.sky.proofs.RoundTrip.{sky-again}
use Rattle.body.proofs.Bodies.{FairBody, fair-body, wind-both, view-both, body-classed, element-classed}
use Rattle.elements.proofs.Lists.{list-fair, list-judged, one-sizes, list-sizes, list-again}
use Rattle.trend_row.specs.Times.{hours_fit}
use Rattle.trend_row.specs.Row.{row}
use Rattle.trend_row.proofs.Changes.{live, change_sizes, kept-change-row, change-classed}
use Rattle.trend.specs.Write.{judge_change, judge_each, judge_trend, show_word, show_change, show_each, show_nosig, show_trend, class_change, class_trend}

-- ---- what is judged fine of a change

pub record FairChange (nosig : Bool) (c : TrendChange) : Type 0 where
  pub word : no_tendency c.tendency ≡ false
  pub alone : nosig ≡ false
  pub hours : hours_fit c.times.is ≡ true
  pub body : FairBody changing c.body
  pub element : has_element c.body ≡ true

pub fair-change : (nosig : Bool) (c : TrendChange) → judge_change nosig c ≡ Ok tt → FairChange nosig c
unfolding judge_change
fair-change nosig c e =
    let w = and-then (judge (not (no_tendency c.tendency)) (not nosig)) _ e in
    let o = fine (not (no_tendency c.tendency)) (not nosig) w.0 in
    let h = and-then (judge (hours_fit c.times.is) true) _ w.1 in
    let b = and-then (judge_body changing c.body) (judge (has_element c.body) true) h.1 in
    record {
      word = not-true (no_tendency c.tendency) o.0;
      alone = not-true nosig o.1;
      hours = (fine (hours_fit c.times.is) true h.0).0;
      body = fair-body changing c.body b.0;
      element = (fine (has_element c.body) true b.1).0;
    }

-- a change that is judged fine, with its arrays
abbrev pub Sound : Bool → TrendChange → Type 0
Sound nosig c = BodyArrays c.body × FairChange nosig c

-- THE ROW KEEPS WHAT IS WRITTEN OF A CHANGE.
pub kept-change : (nosig : Bool) (c : TrendChange) → Sound nosig c → KeptRow change_sizes (row true) c (set_tendency c.tendency blank_trend_change)
kept-change nosig c s = kept-change-row c s.0 s.1.hours s.1.body (set_tendency c.tendency blank_trend_change) refl refl

-- ---- what is judged fine of a trend

-- The changes that stand are judged fine, and past them there are none; beside NOSIG there is none.
abbrev pub Listed : Trend → Type 0
Listed t = Counted (Sound t.nosig) is_blank_trend_change blank_trend_change 3 t.count t.items

pub listed : (t : Trend) → length t.items ≡ 3 → TrendArrays t.items → judge_trend t ≡ Ok tt → Listed t
unfolding judge_trend
listed t =
    list-fair (judge_change t.nosig) (judge_each t.nosig) refl (λ c cs. refl) is_blank_trend_change 3 t.count t.items (fair-change t.nosig) trend-change-blank

-- beside NOSIG no change is judged fine
pub none_beside : (cs : List TrendChange) → Each (Sound true) cs → cs ≡ []
none_beside [] e = refl
none_beside (c ∷ cs) e = absurd (false≢true (sym e.0.1.alone))

-- ---- the room that they take

word-sizes : (t : Tendency) → Sizes 6 (show_word t)
unfolding has_pattern has_any fits low high
word-sizes tendency.None = sizes-more (omega arith) sizes-none
word-sizes tendency.Becoming = one-sizes 5 (bytes "BECMG") (bytes "BECMG") refl refl
word-sizes tendency.Temporary = one-sizes 5 (bytes "TEMPO") (bytes "TEMPO") refl refl

change-sizes : (nosig : Bool) (c : TrendChange) → Sound nosig c → Sizes 124 (show_change c)
unfolding show_change
change-sizes nosig c s =
    let room : row_room change_sizes (row true) ≤ 118 = unfold row in omega arith in
    sizes-append (show_word c.tendency) (written (row true) c) (word-sizes c.tendency) (sizes-more room (kept-sizes (kept-change nosig c s)))

nosig-sizes : (b : Bool) → Sizes 6 (show_nosig b)
unfolding has_pattern has_any fits low high
nosig-sizes true = one-sizes 5 (bytes "NOSIG") (bytes "NOSIG") refl refl
nosig-sizes false = sizes-more (omega arith) sizes-none

-- NOSIG, or three changes
pub trend-sizes : (t : Trend) → Listed t → Sizes 378 (show_trend t)
unfolding show_trend
trend-sizes t l = sizes-append (show_nosig t.nosig) _ (nosig-sizes t.nosig) (list-sizes show_change show_each refl (λ c cs. refl) l 124 (change-sizes t.nosig))

-- ---- a change that is read back: written as it was, and judged fine as it was

-- each rounded number the reading of its class, all else as it is
pub change-is : (c : TrendChange) → class_change c ≡ set_body (class_body c.body) c
unfolding class_change
change-is c = change-classed c (set_tendency c.tendency blank_trend_change) refl

module _ (nosig : Bool) (c : TrendChange) (s : Sound nosig c) where
  written-classed : written (row true) (set_body (class_body c.body) c) ≡ written (row true) c
  unfolding row
  written-classed =
      rw ((wind-both changing live c.body s.1.body.wind).0, (view-both changing live c.body s.1.body.visibility).0, sky-again c.body.sky)

  change-again : show_change (class_change c) ≡ show_change c
  unfolding show_change
  change-again = ap show_change (change-is c) ∙ ap (λ (gs : List Group). show_word c.tendency ++ gs) written-classed

  change-judged : judge_change nosig (class_change c) ≡ Ok tt
  unfolding judge_change
  change-judged =
      ap (judge_change nosig) (change-is c)
      ∙ rw (s.1.word, s.1.alone, s.1.hours, body-classed changing live c.body s.1.body, element-classed c.body, s.1.element)

-- ---- and the trend

module _ (t : Trend) (l : Listed t) where
  pub trend-again : show_trend (class_trend t) ≡ show_trend t
  unfolding show_trend class_trend
  trend-again = rw (list-again show_change show_each refl (λ c cs. refl) l class_change (change-again t.nosig))

  pub trend-judged : judge_trend (class_trend t) ≡ Ok tt
  unfolding judge_trend class_trend
  trend-judged =
      list-judged (judge_change t.nosig) (judge_each t.nosig) refl (λ c cs. refl) is_blank_trend_change 3 t.count t.items class_change (change-judged t.nosig) l
