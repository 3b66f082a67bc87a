-- The first place of a row that answers for a group, as the loop over the places finds it, and where the group goes by it.
use Rattle.std.proofs.Common.{◌≡◌, ℕ, ◌<◌, ◌≤◌, Bool, true, false, ◌&&◌, cond, List, length, drop, None, Some, Option, is_some, refl, sym, ap, ◌∙◌}
use Rattle.std.proofs.lemmas.List.{length-map}
use Rattle.std.proofs.Math.Nat.{zero-add}
use Rattle.std.proofs.Math.Dec.{ltb}
use borrow.Author.Tests.{lt-ltb, le-ltb, ltb-true, ltb-false}
use Rattle.places.specs.Seek.{answers, anywhere, fit_from, find_of, found_at}
use Rattle.places.specs.Engine.{Group, Place, place_at, standing, stands_of, mosts_of, musts_of}
use Rattle.places.specs.declared.kinds.Found.{Found}
use Rattle.places.specs.declared.kinds.Found.TheVariants.{Earlier, Unknown}
use Rattle.places.proofs.Fits.{fit-here, fit-end, find-fit, find_none, anywhere-fit}
use Rattle.rows.specs.First.{if_below}

-- ---- a number below another

-- a row of n places is short
pub few_of : (n : ℕ) → ltb n 256 ≡ true → n < 256
few_of n e = ltb-true n 256 e

is-below : (t : Bool) (i : ℕ) → is_some (cond t (Some i) None) ≡ t
is-below true i = refl
is-below false i = refl

-- which number it is
record Below (i n f : ℕ) : Type 0 where
  same : i ≡ f
  low : i < n

some-below : {i : ℕ} (n f : ℕ) → ◌≡◌ {A = Option ℕ} (Some i) (if_below n f) → Below i n f
some-below {i} n f e = go (ltb f n) refl e
  where
    go : (t : Bool) → ltb f n ≡ t → ◌≡◌ {A = Option ℕ} (Some i) (cond t (Some f) None) → Below i n f
    go true h e =
        let same : i ≡ f = cc in
        let low : f < n = ltb-true f n h in
        record { same = same; low = rw same low }
    go false h e = cc

none-below : (n f : ℕ) → ◌≡◌ {A = Option ℕ} None (if_below n f) → n ≤ f
none-below n f e = go (ltb f n) refl e
  where
    go : (t : Bool) → ltb f n ≡ t → ◌≡◌ {A = Option ℕ} None (cond t (Some f) None) → n ≤ f
    go true h e = cc
    go false h e = ltb-false f n h

module _ {R : Type 0} (row : List (Place R)) (g : Group) where
  -- ---- what the loop says at place i

  module _ (all : Bool) (i k : ℕ) {f : ℕ} (near : f ≡ fit_from all i k (drop i (stands_of row g))) where
    -- the place is the first
    pub first-here : i < length row → (answers all k (place_at row i).most && (place_at row i).has g) ≡ true → ◌≡◌ {A = Option ℕ} (Some i) (if_below (length row) f)
    first-here h e = rw (near, fit-here row g all i k h e, lt-ltb i (length row) h)

    -- none is left
    pub first-none : length row ≤ i → ◌≡◌ {A = Option ℕ} None (if_below (length row) f)
    first-none h = rw (near, fit-end row g all i k h, le-ltb i (length row) h)

  -- ---- where the group goes

  any-below : anywhere (stands_of row g) ≡ ltb (fit_from true 0 0 (stands_of row g)) (length row)
  any-below = rw (anywhere-fit (stands_of row g) 0 0, length-map row (standing {R = R} g), zero-add (length row))

  -- some place has the shape where one answers, closed ones asked too
  pub known-first : {o : Option ℕ} → o ≡ if_below (length row) (fit_from true 0 0 (stands_of row g)) → is_some o ≡ anywhere (stands_of row g)
  known-first e = ap (λ (x : Option ℕ). is_some x) e ∙ is-below (ltb (fit_from true 0 0 (stands_of row g)) (length row)) (fit_from true 0 0 (stands_of row g)) ∙ sym any-below

  module _ (c k : ℕ) where
    -- to the place that answers, or it is refused there
    pub find-first : {i : ℕ} {r : Found} → ◌≡◌ {A = Option ℕ} (Some i) (if_below (length row) (fit_from false c k (drop c (stands_of row g))))
        → r ≡ found_at (mosts_of row) (musts_of row) c k i → r ≡ find_of (stands_of row g) c k
    find-first e found =
        let b = some-below (length row) (fit_from false c k (drop c (stands_of row g))) e in
        find-fit row g c k b.same b.low found

    -- none answers
    pub find-past : ◌≡◌ {A = Option ℕ} None (if_below (length row) (fit_from false c k (drop c (stands_of row g)))) → (b : Bool) → anywhere (stands_of row g) ≡ b
        → cond b Earlier Unknown ≡ find_of (stands_of row g) c k
    find-past e b known =
        find_none row g c k {f = fit_from false c k (drop c (stands_of row g))} refl (fit_from true 0 0 (stands_of row g))
        (none-below (length row) (fit_from false c k (drop c (stands_of row g))) e) refl b (sym any-below ∙ known)
