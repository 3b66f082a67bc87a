-- From the whole table to each of its entries; and what the numbers say: past code 999 there is the mark alone, and no height is the mark.
-- Assumes nothing.
use Rattle.std.specs.Prelude.{None, Option, Some}
use mathlib.Core.Path.{◌≡◌, refl, ap, ◌∙◌}
use mathlib.Core.Bool.{Bool, true, false, cond, ◌&&◌, and-eq-true_iff}
use mathlib.Core.List.{List, [], ◌∷◌, map}
use Prim.Native.Nat.{ℕ, zero, suc, ◌+◌, ◌<◌, ◌≤◌}
use native.Mathlib.Omega.{arith}
use lib.Dec.{leb, ltb, eqb}
use lib.ListN.{get_or}
use borrow.Author.Tests.{leb-true, ltb-true, ne_eqb}
use Rattle.figures.proofs.Impossible.{impossible}
use Rattle.figures.specs.Figures.{every}
use Rattle.scales.specs.Scale.{Class, run, read_in, read_of}
use Rattle.scales.specs.Metres.{cloud, metres_reading}
use Rattle.cloud_table.specs.Heights.{unused_mark, marked, height_or_mark, codes_from, cloud_table}

-- ---- from the table to each entry
mapped_at : (f : ℕ → ℕ) (n from k : ℕ) → k < n → get_or (map f (codes_from from n)) k 0 ≡ f (from + k)
unfolding codes_from
mapped_at f zero from k h = absurd (omega arith)
mapped_at f (suc n) from zero h = ap f (omega arith)
mapped_at f (suc n) from (suc k) h =
    let e : from + 1 + k ≡ from + suc k = omega arith in
    mapped_at f n (from + 1) k (omega arith) ∙ ap f e

pub entry : (code : ℕ) → code < 1000 → get_or cloud_table code 0 ≡ height_or_mark code
unfolding cloud_table
entry code h =
    let e : 0 + code ≡ code = omega arith in
    mapped_at height_or_mark 1000 0 code h ∙ ap height_or_mark e

-- ---- the classes of table 1690: each has one of the codes 000 to 999 and a foot below the mark, by one test over all of them
is_within : Class ℕ → Bool
is_within c = leb c.figure 999 && ltb c.foot unused_mark

all-within : every is_within (cloud.lowest ∷ cloud.above) ≡ true
unfolding cloud run is_within
all-within = refl

module _ (c : Class ℕ) (cs : List (Class ℕ)) (w : every is_within (c ∷ cs) ≡ true) where
  others : every is_within cs ≡ true
  others = ((and-eq-true_iff (is_within c) (every is_within cs)).0 w).1

  one : (c.figure ≤ 999) × (c.foot < unused_mark)
  unfolding is_within
  one =
      let both = (and-eq-true_iff (leb c.figure 999) (ltb c.foot unused_mark)).0 ((and-eq-true_iff (is_within c) (every is_within cs)).0 w).0 in
      (leb-true c.figure 999 both.0, ltb-true c.foot unused_mark both.1)

none_over : (cs : List (Class ℕ)) → every is_within cs ≡ true → (code : ℕ) → 999 < code → read_in eqb cs code ≡ None
unfolding read_in
none_over [] w code h = refl
none_over (c ∷ cs) w code h =
    rw (ne_eqb c.figure code (λ e. omega (arith, (one c cs w).0))) (none_over cs (others c cs w) code h)

foot-below : (cs : List (Class ℕ)) → every is_within cs ≡ true → (code : ℕ) {m : ℕ} → read_in eqb cs code ≡ Some m → m < unused_mark
unfolding read_in
foot-below [] w code e = impossible (cc)
foot-below (c ∷ cs) w code {m} e = go (eqb c.figure code) e (foot-below cs (others c cs w) code)
  where
    go : (b : Bool) → cond b (Some c.foot) (read_in eqb cs code) ≡ Some m → (read_in eqb cs code ≡ Some m → m < unused_mark) → m < unused_mark
    go true e rest =
        let is : c.foot ≡ m = cc in
        rw (← is) (one c cs w).1
    go false e rest = rest e

-- a code over 999 is unused
pub over : (code : ℕ) → 999 < code → height_or_mark code ≡ unused_mark
unfolding height_or_mark metres_reading
over code h = rw (none_over (cloud.lowest ∷ cloud.above) all-within code h)

-- the mark is a number that no height is
pub no-height : (code : ℕ) {m : ℕ} → metres_reading cloud code ≡ Some m → m < unused_mark
unfolding metres_reading
no-height code {m} e = go (read_of eqb cloud code) refl e
  where
    go : (r : Option ℕ) → read_of eqb cloud code ≡ r → r ≡ Some m → m < unused_mark
    go (Some h) q e =
        let is : h ≡ m = cc in
        rw (← is) (foot-below (cloud.lowest ∷ cloud.above) all-within code q)
    go None q e = impossible (cc)

-- ---- from a number back to the reading
module _ (code : ℕ) where
  pub is-unused : height_or_mark code ≡ unused_mark → None ≡ metres_reading cloud code
  unfolding height_or_mark metres_reading
  is-unused h = go (read_of eqb cloud code) refl h
    where
      go : (r : Option ℕ) → read_of eqb cloud code ≡ r → marked r ≡ unused_mark → None ≡ r
      go (Some m) q h = absurd (omega (arith, foot-below (cloud.lowest ∷ cloud.above) all-within code q))
      go None q h = refl

  pub is-height : (height_or_mark code ≡ unused_mark → ⊥) → Some (height_or_mark code) ≡ metres_reading cloud code
  unfolding height_or_mark metres_reading
  is-height h = go (read_of eqb cloud code) h
    where
      go : (r : Option ℕ) → (marked r ≡ unused_mark → ⊥) → Some (marked r) ≡ r
      go (Some m) h = refl
      go None h = absurd (h refl)
