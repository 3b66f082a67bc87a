-- How the search for a group's place, and for what is owed, unrolls along a row.
-- Assumes nothing.
use Prim.Native.Nat.{ℕ, zero, suc, ◌+◌, ◌-◌, ◌≤◌, ◌<◌, min}
use native.Mathlib.Omega.{arith}
use native.Mathlib.Numerals.{add-one}
use mathlib.Core.Path.{◌≡◌, refl}
use mathlib.Core.Bool.{Bool, true, false, ◌&&◌, ◌||◌, cond}
use mathlib.Core.List.{List, [], ◌∷◌}
use lib.ListN.{length, get_or, take, drop, replicate, drop_of_length-le, length-drop}
use lib.Seq.{drop-cons, take_all, take-nil}
use lib.Dec.{ltb, leb, eqb}
use borrow.Author.Tests.{leb-true, leb-false}
use Rattle.places.specs.Seek.{Stand, seek, owed}
use Rattle.places.specs.declared.kinds.Found.TheVariants.{Take, Skips}

-- ---- the search, step by step

module _ (ps : List Stand) (i k : ℕ) (late : Bool) {p : Stand} {qs : List Stand} (d : drop i ps ≡ p ∷ qs) where
  pub seek-here : (b : Bool) → late ≡ b → (p.has && ltb k p.most) ≡ true → seek i k late (drop i ps) ≡ cond b Skips (Take i k)
  unfolding seek
  seek-here b l e = rw (d, e, l)

  pub seek-next : (p.has && ltb k p.most) ≡ false → (p.has && ltb 1 p.most) ≡ false
      → seek i k late (drop i ps) ≡ seek (i + 1) 0 (late || (p.must && eqb k 0)) qs
  unfolding seek
  seek-next e f = rw (d, e, f)

pub owed-next : (us : List Bool) (i k : ℕ) {u : Bool} {vs : List Bool} → drop i us ≡ u ∷ vs → (b : Bool) → (u && eqb k 0) ≡ b
    → owed k (drop i us) ≡ (b || owed 0 vs)
unfolding owed
owed-next us i k d b e = rw (d, e)

pub owed-end : (us : List Bool) (i k : ℕ) → drop i us ≡ [] → owed k (drop i us) ≡ false
unfolding owed
owed-end us i k d = rw d

-- the same up to a place
pub owed-turn : (us : List Bool) (i k end : ℕ) → i < end → i < length us → (b : Bool) → (get_or us i false && eqb k 0) ≡ b
    → owed k (take (end - i) (drop i us)) ≡ (b || owed 0 (take (end - (i + 1)) (drop (i + 1) us)))
unfolding owed
owed-turn us i k end h l b e =
    let s : end - i ≡ suc (end - (i + 1)) = omega arith in
    rw (s, add-one i, drop-cons us i false l, e)

pub owed-stop : (us : List Bool) (i k end : ℕ) → min end (length us) ≤ i → owed k (take (end - i) (drop i us)) ≡ false
unfolding owed
owed-stop us i k end h = go (leb end i) refl
  where
    go : (b : Bool) → leb end i ≡ b → owed k (take (end - i) (drop i us)) ≡ false
    go true e = let t : end ≤ i = leb-true end i e in let z : end - i ≡ 0 = omega arith in rw z
    go false e = let t : i < end = leb-false end i e in rw (drop_of_length-le us {i = i} (omega arith), take-nil (end - i))

pub owed_all : (us : List Bool) (i k : ℕ) → owed k (take (length us - i) (drop i us)) ≡ owed k (drop i us)
owed_all us i k = rw (take_all (length us - i) (drop i us) (simp length-drop (omega arith)))

-- where no place must have a group, none is owed
none-owed : (n k : ℕ) → owed k (replicate n false) ≡ false
unfolding owed
none-owed zero k = refl
none-owed (suc n) k = none-owed n 0

pub none_left : (n c k : ℕ) → owed k (drop c (replicate n false)) ≡ false
unfolding owed
none_left n zero k = none-owed n k
none_left zero (suc c) k = refl
none_left (suc n) (suc c) k = none_left n c k
