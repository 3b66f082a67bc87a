-- The judging of layers one after the other, and of layers that are blank, as the code comes to them.
-- Assumes nothing.
use Rattle.std.specs.Prelude.{ℕ, ⊤, Err, None, Ok, Option, Result, Some}
use native.Mathlib.Omega.{arith}
use mathlib.Core.Path.{◌≡◌, refl, sym, ◌∙◌}
use mathlib.Core.Bool.{Bool, true, false, not, ◌&&◌, and-false, and-true, and_assoc}
use mathlib.Core.List.{List, [], ◌∷◌, ◌++◌}
use lib.Dec.{leb}
use borrow.Author.Tests.{leb-true, le-leb}
use Rattle.text.specs.declared.kinds.Refusal.{Refusal}
use Rattle.text.specs.Judge.{judge, and_then}
use Rattle.text.proofs.Judging.{fine}
use Rattle.shapes.proofs.Patterns.{both}
use Rattle.record.specs.declared.aerodrome.Layer.{Layer}
use Rattle.elements.specs.Judge.{metres_fit}
use Rattle.elements.specs.Sky.{not_above, rises, has_amount, written_height, class_layer, judge_layers}
use Rattle.sky.specs.Judge.{last_height}

-- ---- the heights before a layer

pub rises-append : (ks ls : List Layer) (h : Option ℕ) → rises (ks ++ ls) h ≡ (rises ks h && rises ls h)
rises-append [] ls h = refl
rises-append (k ∷ ks) ls h = rw (rises-append ks ls h) (sym (and_assoc (not_above k.height h) (rises ks h) (rises ls h)))

-- of heights that rise the last is the greatest
last-greatest : (a b h : Option ℕ) → not_above a b ≡ true → (not_above a h && not_above b h) ≡ not_above (last_height a b) h
last-greatest a None h e = and-true (not_above a h)
last-greatest None (Some m) h e = refl
last-greatest (Some a) (Some m) None e = refl
last-greatest (Some a) (Some m) (Some b) e = go (leb m b) refl
  where
    go : (t : Bool) → leb m b ≡ t → (leb a b && leb m b) ≡ leb m b
    go true f = rw (le-leb a b (omega (arith, leb-true a m e, leb-true m b f)), f)
    go false f = rw (f, and-false (leb a b))

-- the judging of all layers has come to `left`, where the last height before is `last`
pub record Going (forecast beside : Bool) (all left : List Layer) (last : Option ℕ) : Type 0 where
  pub before : List Layer
  pub same : judge_layers forecast beside [] all ≡ judge_layers forecast beside before left
  pub heights : (h : Option ℕ) → rises before h ≡ not_above last h

abbrev pub judge_one : Bool → Bool → Option ℕ → Layer → Result ⊤ Refusal
judge_one forecast beside last l =
    judge (has_amount l.amount && metres_fit forecast l.height) (not beside && not_above last (written_height l.height))

module _ (forecast beside : Bool) where
  pub start : (all : List Layer) → Going forecast beside all all None
  start all = record { before = []; same = refl; heights = λ h. refl }

  pub finish : {all : List Layer} {last : Option ℕ} → Going forecast beside all [] last → Ok tt ≡ judge_layers forecast beside [] all
  finish g = sym g.same

  module _ {all : List Layer} (l : Layer) {ls : List Layer} {last : Option ℕ} (g : Going forecast beside all (l ∷ ls) last) where
    one : judge_layers forecast beside [] all
        ≡ and_then (judge_one forecast beside last l) (judge_layers forecast beside (g.before ++ (class_layer l ∷ [])) ls)
    one = rw (← g.heights (written_height l.height)) g.same

    pub halt : {r : Result ⊤ Refusal} {f : Refusal} → r ≡ judge_one forecast beside last l → r ≡ Err f → Err f ≡ judge_layers forecast beside [] all
    halt asked is = sym (rw (← asked, is) at one)

    pub on : {r : Result ⊤ Refusal} → r ≡ judge_one forecast beside last l → r ≡ Ok tt → Going forecast beside all ls (last_height last (written_height l.height))
    on asked is =
        let e = sym asked ∙ is in
        let h = written_height l.height in
        let fits = fine (has_amount l.amount && metres_fit forecast l.height) (not beside && not_above last h) e in
        let rise = (both (not beside) (not_above last h) fits.1).1 in
        record {
          before = g.before ++ (class_layer l ∷ []);
          same = rw e at one;
          heights = λ n.
              rises-append g.before (class_layer l ∷ []) n ∙ rw (g.heights n, and-true (not_above h n)) (last-greatest last h n rise);
        }
