-- The laws of a scan, part by part, and the law that scanning by code made for a shape cites: steps through its parts give what the scan gives.
-- Assumes nothing.
use mathlib.Core.Path.{◌≡◌, refl, sym, ap, ◌∙◌}
use mathlib.Core.Bool.{Bool, true, false, cond}
use mathlib.Core.List.{List, [], ◌∷◌}
use Prim.Native.Nat.{ℕ, suc, ◌+◌, ◌-◌, ◌≤◌, ◌<◌}
use native.Mathlib.Nat.{add-zero}
use native.Mathlib.Omega.{arith}
use lib.ListN.{length, drop, length-drop, drop_of_length-le}
use lib.Seq.{drop-drop}
use lib.Dec.{leb, ltb, eqb}
use borrow.Author.Tests.{eq-eqb, ne_eqb, ltb-true, ltb-false}
use Rattle.figures.specs.declared.kinds.Field.TheVariants.{Other}
use Rattle.figures.specs.Figures.{field_at}
use Rattle.figures.proofs.Fields.{next}
use Rattle.shapes.specs.declared.kinds.Value.{Value}
use Rattle.shapes.specs.declared.kinds.Step.{Step}
use Rattle.shapes.specs.Pattern.{Pattern, fits}
use Rattle.shapes.specs.Shape.{Part, Pick, Alternative, Nothing, Values, Says, Unlike, also, leading, begins, parts_of, field_start, field_width, value_of, pick_of, scan_parts, answered, scan_of, misfit, padded, step_to, scan_end}
use Rattle.shapes.proofs.Patterns.{both}

-- ---- an alternative that was picked is there

begins-length : (a : Pattern) (g : List ℕ) → begins a g ≡ true → length a ≤ length g
unfolding begins
begins-length [] g h = omega arith
begins-length (p ∷ ps) [] h = let z : ◌≡◌ {A = ℕ} 0 1 = cc in absurd (omega arith)
begins-length (p ∷ ps) (b ∷ g) h = omega (arith, begins-length ps g (both (fits p b) _ h).1)

pub begins-within : (a g : List ℕ) (at : ℕ) → begins a (drop at g) ≡ true → length a ≤ length g - at
begins-within a g at e = simp length-drop at (begins-length a (drop at g) e)

pick-width : (p : Part) (g : List ℕ) (k : ℕ) {v : Value} {w : ℕ} → pick_of k p g ≡ Alternative v w → w ≤ length g
unfolding pick_of
pick-width [] g k e = let z : ◌≡◌ {A = ℕ} 0 1 = cc in absurd (omega arith)
pick-width (a ∷ p) g k {v} {w} e = go (begins a g) refl (pick-width p g (k + 1)) e
  where
    go : (x : Bool) → begins a g ≡ x → (pick_of (k + 1) p g ≡ Alternative v w → w ≤ length g)
        → cond x (Alternative (value_of k a g) (length a)) (pick_of (k + 1) p g) ≡ Alternative v w → w ≤ length g
    go true h ih e = let s : w ≡ length a = cc in omega (arith, begins-length a g h)
    go false h ih e = ih e

-- ---- part by part

pub part_none : (p : Part) (ps : List Part) (g : List ℕ) → Nothing ≡ pick_of 0 p g → scan_parts (p ∷ ps) g ≡ Unlike
unfolding scan_parts
part_none p ps g e = rw (← e, scan_parts)

pub part-some : (p : Part) (ps : List Part) (g : List ℕ) {v : Value} {w : ℕ} → Alternative v w ≡ pick_of 0 p g
    → scan_parts (p ∷ ps) g ≡ also v (scan_parts ps (drop w g))
unfolding scan_parts
part-some p ps g e = rw (← e, scan_parts)

-- ---- one part as the code takes it: its alternatives in turn, and a position past the group's end where none is there

unfoldable pub step_by : ℕ → Part → List ℕ → ℕ → Step
step_by k [] g at = step_to 0 Other (length g + 1)
step_by k (a ∷ others) g at = cond (begins a (drop at g)) (record { value = value_of k a (drop at g); past = at + length a }) (step_by (k + 1) others g at)

-- s is the step by these alternatives
pub record StepBy (k : ℕ) (p : Part) (g : List ℕ) (at : ℕ) (s : Step) : Type 0 where
  pub is : s ≡ step_by k p g at

-- as the code comes to it: an alternative if it is there, with its number field or none, and otherwise a step by the later ones
module _ {k : ℕ} {a : Pattern} {others : Part} {g : List ℕ} {at : ℕ} {s o : Step} (later : StepBy (k + 1) others g at o) where
  pub figures-step : (lead width : ℕ) → field_start a ≡ lead → field_width a ≡ width
      → s ≡ cond (begins a (drop at g)) (step_to k (field_at (drop at g) lead width) (at + length a)) o → StepBy k (a ∷ others) g at s
  unfolding step_by value_of
  figures-step lead width l w e = record { is = e ∙ rw (w, l, later.is) }

  pub word-step : field_width a ≡ 0 → s ≡ cond (begins a (drop at g)) (step_to k Other (at + length a)) o → StepBy k (a ∷ others) g at s
  unfolding step_by value_of field_at
  word-step w e = record { is = e ∙ rw (w, later.is) }

pub nothing-step : {k : ℕ} {g : List ℕ} {at : ℕ} {s : Step} → s ≡ step_to k Other at → StepBy k ([] ∷ []) g at s
unfolding step_by value_of field_at begins leading
nothing-step {at = at} e = record { is = rw (add-zero at) e }

pub no_step : {k : ℕ} {g : List ℕ} {at : ℕ} {s : Step} → s ≡ step_to 0 Other (length g + 1) → StepBy k [] g at s
unfolding step_by
no_step e = record { is = e }

-- a position past the group's end stays there
step-over : (p : Part) (k : ℕ) (g : List ℕ) (at : ℕ) → length g < at → length g < (step_by k p g at).past
unfolding step_by
step-over [] k g at h = omega arith
step-over (a ∷ others) k g at h = go (begins a (drop at g)) (step-over others (k + 1) g at h)
  where
    go : (b : Bool) → length g < (step_by (k + 1) others g at).past
        → length g < (cond {A = Step} b (record { value = value_of k a (drop at g); past = at + length a }) (step_by (k + 1) others g at)).past
    go true ih = omega arith
    go false ih = ih

-- it is the alternative that a scan picks, and none
step-some : (p : Part) (g : List ℕ) (at k : ℕ) {v : Value} {w : ℕ} → pick_of k p (drop at g) ≡ Alternative v w
    → step_by k p g at ≡ record { value = v; past = at + w }
unfolding step_by pick_of
step-some [] g at k e = let z : ◌≡◌ {A = ℕ} 0 1 = cc in absurd (omega arith)
step-some (a ∷ others) g at k {v} {w} e = go (begins a (drop at g)) (step-some others g at (k + 1)) e
  where
    go : (b : Bool) → (pick_of (k + 1) others (drop at g) ≡ Alternative v w → step_by (k + 1) others g at ≡ record { value = v; past = at + w })
        → cond b (Alternative (value_of k a (drop at g)) (length a)) (pick_of (k + 1) others (drop at g)) ≡ Alternative v w
        → cond {A = Step} b (record { value = value_of k a (drop at g); past = at + length a }) (step_by (k + 1) others g at) ≡ record { value = v; past = at + w }
    go true ih e = let s : length a ≡ w = cc in let t : value_of k a (drop at g) ≡ v = cc in rw (s, t)
    go false ih e = ih e

step-none : (p : Part) (g : List ℕ) (at k : ℕ) → pick_of k p (drop at g) ≡ Nothing → (step_by k p g at).past ≡ length g + 1
unfolding step_by pick_of
step-none [] g at k e = refl
step-none (a ∷ others) g at k e = go (begins a (drop at g)) (step-none others g at (k + 1)) e
  where
    go : (b : Bool) → (pick_of (k + 1) others (drop at g) ≡ Nothing → (step_by (k + 1) others g at).past ≡ length g + 1)
        → cond b (Alternative (value_of k a (drop at g)) (length a)) (pick_of (k + 1) others (drop at g)) ≡ Nothing
        → (cond {A = Step} b (record { value = value_of k a (drop at g); past = at + length a }) (step_by (k + 1) others g at)).past ≡ length g + 1
    go true ih e = let z : ◌≡◌ {A = ℕ} 0 1 = cc in absurd (omega arith)
    go false ih e = ih e

-- ---- the steps through all parts, one from where the last one ended

infixr 20 ◌then◌
pub data Steps (g : List ℕ) : List Part → ℕ → List Step → Type 0 where
  end : {at : ℕ} → Steps g [] at []
  ◌then◌ : {p : Part} {ps : List Part} {at : ℕ} {s : Step} {ss : List Step} → StepBy 0 p g at s → Steps g ps s.past ss → Steps g (p ∷ ps) at (s ∷ ss)

abbrev pub end_of : ℕ → List Step → ℕ
end_of at [] = at
end_of at (s ∷ ss) = end_of s.past ss

abbrev pub said_in : List Step → List Value
said_in [] = []
said_in (s ∷ ss) = s.value ∷ said_in ss

abbrev up_to_end : Bool → List Value → Values
up_to_end true vs = Says vs
up_to_end false vs = Unlike

also-end : (b : Bool) (v : Value) (vs : List Value) → also v (up_to_end b vs) ≡ up_to_end b (v ∷ vs)
also-end true v vs = refl
also-end false v vs = refl

steps-over : {g : List ℕ} {ps : List Part} {at : ℕ} {ss : List Step} → Steps g ps at ss → length g < at → length g < end_of at ss
steps-over end h = h
steps-over {g = g} {at = at} (◌then◌ {p = p} t ts) h = steps-over ts (rw t.is (step-over p 0 g at h))

scan_steps : {g : List ℕ} {ps : List Part} {at : ℕ} {ss : List Step} → Steps g ps at ss → at ≤ length g
    → scan_parts ps (drop at g) ≡ up_to_end (eqb (end_of at ss) (length g)) (said_in ss)
unfolding scan_parts
scan_steps {g = g} {at = at} end h = go (ltb at (length g)) refl
  where
    go : (b : Bool) → ltb at (length g) ≡ b → scan_parts [] (drop at g) ≡ up_to_end (eqb at (length g)) []
    go true e =
        let less = ltb-true at (length g) e in
        rw (next g at less, ne_eqb at (length g) (omega arith))
    go false e =
        let most = ltb-false at (length g) e in
        rw (drop_of_length-le g {i = at} most, eq-eqb at (length g) (omega arith))
scan_steps {g = g} {at = at} (◌then◌ {p = p} {ps = ps} {s = s} {ss = ss} t ts) h = go (pick_of 0 p (drop at g)) refl (scan_steps ts)
  where
    go : (x : Pick) → pick_of 0 p (drop at g) ≡ x
        → (s.past ≤ length g → scan_parts ps (drop s.past g) ≡ up_to_end (eqb (end_of s.past ss) (length g)) (said_in ss))
        → scan_parts (p ∷ ps) (drop at g) ≡ up_to_end (eqb (end_of s.past ss) (length g)) (s.value ∷ said_in ss)
    go (Alternative v w) e ih =
        let wide = simp length-drop at (pick-width p (drop at g) 0 e) in
        let said : s ≡ record { value = v; past = at + w } = t.is ∙ step-some p g at 0 e in
        let there : s.past ≡ at + w = ap (λ (x : Step). x.past) said in
        part-some p ps (drop at g) (sym e)
        ∙ rw (drop-drop w at g, ← there, ih (omega (arith, there)), also-end (eqb (end_of s.past ss) (length g)) v (said_in ss), said)
    go Nothing e ih =
        let past : s.past ≡ length g + 1 = ap (λ (x : Step). x.past) t.is ∙ step-none p g at 0 e in
        let more = steps-over ts (omega (arith, past)) in
        part_none p ps (drop at g) (sym e) ∙ rw (ne_eqb (end_of s.past ss) (length g) (omega (arith, more)))

steps-length : {g : List ℕ} {ps : List Part} {at : ℕ} {ss : List Step} → Steps g ps at ss → length (said_in ss) ≡ length ps
steps-length end = refl
steps-length (t then ts) = ap suc (steps-length ts)

-- STEPS THROUGH THE PARTS OF A SHAPE, AT MOST EIGHT, GIVE WHAT THE SCAN GIVES.
pub scan-by-steps : (shape g : List ℕ) {ss : List Step} → leb (length (parts_of shape)) 8 ≡ true → Steps g (parts_of shape) 0 ss
    → scan_end (end_of 0 ss) (length g) (padded (said_in ss)) ≡ scan_of shape g
unfolding scan_of answered
scan-by-steps shape g {ss = ss} few ts = rw (scan_steps ts (omega arith)) (go (eqb (end_of 0 ss) (length g)))
  where
    go : (b : Bool) → cond b (record { fits = true; values = padded (said_in ss) }) misfit ≡ answered (up_to_end b (said_in ss))
    go true = rw (steps-length ts, few)
    go false = refl
