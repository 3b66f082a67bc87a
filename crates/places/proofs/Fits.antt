-- The first place of a row that answers for a group, and what it answers, as the code finds them: this is where the group goes.
-- Assumes nothing.
use Prim.Native.Nat.{ℕ, suc, ◌+◌, ◌-◌, ◌≤◌, ◌<◌}
use native.Mathlib.Omega.{arith}
use native.Mathlib.Nat.{zero-add}
use native.Mathlib.Numerals.{add-one}
use mathlib.Core.Path.{◌≡◌, refl, sym, ap, ◌∙◌}
use mathlib.Core.Bool.{Bool, true, false, ◌&&◌, ◌||◌, cond, false≢true, or_assoc, or-false, and-eq-true_iff}
use mathlib.Core.List.{List, [], ◌∷◌, map}
use lib.ListN.{length, get_or, take, drop, length-map, length-drop, drop_of_length-le, get_or-map}
use lib.Seq.{drop-cons, get_or-drop}
use lib.Dec.{ltb, eqb}
use borrow.Author.Tests.{lt-ltb, le-ltb, eq-eqb, ne_eqb}
use Rattle.places.proofs.Rows.{drop-map}
use Rattle.places.specs.Seek.{Stand, seek, anywhere, or_earlier, find_of, owed, answers, fit_from, found_at}
use Rattle.places.specs.Engine.{Group, Place, nowhere, place_at, standing, stands_of, musts_of, mosts_of}
use Rattle.places.specs.declared.kinds.Found.{Found}
use Rattle.places.specs.declared.kinds.Found.TheVariants.{Take, Skips, Full, Earlier, Unknown}

-- ---- the first place that answers for a group, and what it answers

abbrev mosts : List Stand → List ℕ
mosts ps = map (λ (p : Stand). p.most) ps

abbrev musts : List Stand → List Bool
musts ps = map (λ (p : Stand). p.must) ps

fit-least : (all : Bool) (i k : ℕ) (ps : List Stand) → i ≤ fit_from all i k ps
unfolding fit_from
fit-least all i k [] = omega arith
fit-least all i k (p ∷ ps) = go (answers all k p.most && p.has) (fit-least all (i + 1) 0 ps)
  where
    go : (b : Bool) → i + 1 ≤ fit_from all (i + 1) 0 ps → i ≤ cond b i (fit_from all (i + 1) 0 ps)
    go true ih = omega arith
    go false ih = omega arith

-- what the search says of the places left, where `late` says whether a required one was passed
abbrev found_from : Bool → ℕ → ℕ → ℕ → List Stand → Found
found_from late i k f ps =
    cond (ltb (cond (eqb f i) k 0) (get_or (mosts ps) (f - i) 0)) (cond (late || owed k (take (f - i) (musts ps))) Skips (Take f (cond (eqb f i) k 0))) Full

none : (b : Bool) → ◌≡◌ {A = ℕ} (cond b 0 0) 0
none true = refl
none false = refl

module _ (p : Stand) (ps : List Stand) (i k : ℕ) (late : Bool) where
  -- the first place answers
  answers-here : (answers false k p.most && p.has) ≡ true → seek i k late (p ∷ ps) ≡ found_from late i k i (p ∷ ps)
  unfolding seek owed
  answers-here e =
      let z : i - i ≡ 0 = omega arith in
      let both = (and-eq-true_iff (answers false k p.most) p.has).0 e in
      rw (both.1, z, eq-eqb i i refl, or-false late) (go (ltb k p.most) (ltb 1 p.most) both.0)
    where
      go : (x y : Bool) → (x || y) ≡ true
          → cond x (cond late Skips (Take i k)) (cond y Full (seek (i + 1) 0 (late || (p.must && eqb k 0)) ps)) ≡ cond x (cond late Skips (Take i k)) Full
      go true y e = refl
      go false true e = refl
      go false false e = absurd (false≢true e)

  -- it does not
  answers-past : (answers false k p.most && p.has) ≡ false → seek i k late (p ∷ ps) ≡ seek (i + 1) 0 (late || (p.must && eqb k 0)) ps
  unfolding seek
  answers-past e = go p.has (ltb k p.most) (ltb 1 p.most) e
    where
      go : (h x y : Bool) → ((x || y) && h) ≡ false
          → cond (h && x) (cond late Skips (Take i k)) (cond (h && y) Full (seek (i + 1) 0 (late || (p.must && eqb k 0)) ps)) ≡ seek (i + 1) 0 (late || (p.must && eqb k 0)) ps
      go false x y e = refl
      go true true y e = absurd (false≢true (sym e))
      go true false true e = absurd (false≢true (sym e))
      go true false false e = refl

  found-past : (f : ℕ) → i + 1 ≤ f → found_from (late || (p.must && eqb k 0)) (i + 1) 0 f ps ≡ found_from late i k f (p ∷ ps)
  unfolding owed
  found-past f h =
      let s : f - i ≡ suc (f - (i + 1)) = omega arith in
      rw (s, ne_eqb f i (omega arith), none (eqb f (i + 1)), or_assoc late (p.must && eqb k 0) (owed 0 (take (f - (i + 1)) (musts ps))))

seek-fit : (ps : List Stand) (i k : ℕ) (late : Bool) → fit_from false i k ps < i + length ps → seek i k late ps ≡ found_from late i k (fit_from false i k ps) ps
unfolding fit_from
seek-fit [] i k late h = absurd (omega arith)
seek-fit (p ∷ ps) i k late h = go (answers false k p.most && p.has) refl (seek-fit ps (i + 1) 0 (late || (p.must && eqb k 0))) h
  where
    go : (b : Bool) → (answers false k p.most && p.has) ≡ b
        → (fit_from false (i + 1) 0 ps < i + 1 + length ps → seek (i + 1) 0 (late || (p.must && eqb k 0)) ps ≡ found_from (late || (p.must && eqb k 0)) (i + 1) 0 (fit_from false (i + 1) 0 ps) ps)
        → cond b i (fit_from false (i + 1) 0 ps) < i + suc (length ps) → seek i k late (p ∷ ps) ≡ found_from late i k (cond b i (fit_from false (i + 1) 0 ps)) (p ∷ ps)
    go true e ih h = answers-here p ps i k late e
    go false e ih h =
        answers-past p ps i k late e ∙ ih (omega arith) ∙ found-past p ps i k late (fit_from false (i + 1) 0 ps) (fit-least false (i + 1) 0 ps)

seek-unfit : (ps : List Stand) (i k : ℕ) (late : Bool) → i + length ps ≤ fit_from false i k ps → seek i k late ps ≡ Unknown
unfolding fit_from seek
seek-unfit [] i k late h = refl
seek-unfit (p ∷ ps) i k late h = go (answers false k p.most && p.has) refl (seek-unfit ps (i + 1) 0 (late || (p.must && eqb k 0))) h
  where
    go : (b : Bool) → (answers false k p.most && p.has) ≡ b → (i + 1 + length ps ≤ fit_from false (i + 1) 0 ps → seek (i + 1) 0 (late || (p.must && eqb k 0)) ps ≡ Unknown)
        → i + suc (length ps) ≤ cond b i (fit_from false (i + 1) 0 ps) → seek i k late (p ∷ ps) ≡ Unknown
    go true e ih h = absurd (omega arith)
    go false e ih h = answers-past p ps i k late e ∙ ih (omega arith)

-- some place has the shape where the first that has it, closed ones asked too, is within the row
pub anywhere-fit : (ps : List Stand) (i k : ℕ) → anywhere ps ≡ ltb (fit_from true i k ps) (i + length ps)
unfolding fit_from anywhere
anywhere-fit [] i k = sym (le-ltb i (i + 0) (omega arith))
anywhere-fit (p ∷ ps) i k = go p.has (anywhere-fit ps (i + 1) 0)
  where
    go : (h : Bool) → anywhere ps ≡ ltb (fit_from true (i + 1) 0 ps) (i + 1 + length ps)
        → (h || anywhere ps) ≡ ltb (cond h i (fit_from true (i + 1) 0 ps)) (i + suc (length ps))
    go true ih = sym (lt-ltb i (i + suc (length ps)) (omega arith))
    go false ih = let s : i + suc (length ps) ≡ i + 1 + length ps = omega arith in rw s ih

-- what the search found is kept, whatever stands earlier
kept : (here : Bool) (a b : Bool) (i k : ℕ) → or_earlier here (cond a (cond b Skips (Take i k)) Full) ≡ cond a (cond b Skips (Take i k)) Full
kept here true true i k = refl
kept here true false i k = refl
kept here false b i k = refl

-- what may stand at the place, and what must before it, in whole lists
at_place : (ps : List Stand) (c f : ℕ) → c ≤ f → get_or (mosts (drop c ps)) (f - c) 0 ≡ get_or (mosts ps) f 0
at_place ps c f h =
    let s : c + (f - c) ≡ f = omega arith in
    rw (← drop-map (λ (p : Stand). p.most) ps c, get_or-drop c (mosts ps) (f - c) 0, s)

found_in : (ps : List Stand) (here : Bool) (c k f : ℕ) → c ≤ f → or_earlier here (found_from false c k f (drop c ps)) ≡ found_at (mosts ps) (musts ps) c k f
unfolding found_at
found_in ps here c k f h =
    kept here (ltb (cond (eqb f c) k 0) (get_or (mosts (drop c ps)) (f - c) 0)) (owed k (take (f - c) (musts (drop c ps)))) f (cond (eqb f c) k 0)
    ∙ rw (at_place ps c f h, ← drop-map (λ (p : Stand). p.must) ps c)

-- what the code tests there
module _ (ms : List ℕ) (us : List Bool) (c k f : ℕ) {n m : ℕ} (stands : n ≡ cond (eqb f c) k 0) (most : m ≡ get_or ms f 0) where
  pub found-room : (o : Bool) → n < m → owed k (take (f - c) (drop c us)) ≡ o → cond o Skips (Take f n) ≡ found_at ms us c k f
  unfolding found_at
  found-room o h e = rw (← stands, ← most, lt-ltb n m h, e)

  pub found-full : m ≤ n → Full ≡ found_at ms us c k f
  unfolding found_at
  found-full h = rw (← stands, ← most, le-ltb n m h)

-- ---- the same of a row of places

stand-mosts : {R : Type 0} (row : List (Place R)) (g : Group) → mosts (stands_of row g) ≡ mosts_of row
stand-mosts [] g = refl
stand-mosts (p ∷ ps) g = ap (λ (l : List ℕ). p.most ∷ l) (stand-mosts ps g)

stand-musts : {R : Type 0} (row : List (Place R)) (g : Group) → musts (stands_of row g) ≡ musts_of row
stand-musts [] g = refl
stand-musts (p ∷ ps) g = ap (λ (l : List Bool). p.must ∷ l) (stand-musts ps g)

module _ {R : Type 0} (row : List (Place R)) (g : Group) where
  stand-at : (i : ℕ) → i < length row → drop i (stands_of row g) ≡ standing g (place_at row i) ∷ drop (i + 1) (stands_of row g)
  stand-at i h =
      let n : i < length (stands_of row g) = simp length-map h in
      rw (add-one i, drop-cons (stands_of row g) i (standing {R = R} g nowhere) n, get_or-map (standing {R = R} g) row i nowhere)

  -- whether a place may answer, as the code asks it
  module _ (all : Bool) (i k : ℕ) {n : ℕ} {ms : List ℕ} (list : ms ≡ mosts_of row) (most : n ≡ get_or ms i 0) where
    may : answers all k n ≡ answers all k (place_at row i).most
    may = let is = get_or-map (λ (p : Place R). p.most) row i nowhere in rw (most, list, is)

    pub fit-open : {b : Bool} → answers all k n ≡ true → b ≡ (place_at row i).has g → b ≡ (answers all k (place_at row i).most && (place_at row i).has g)
    fit-open a h = rw (← may, a) h

    pub fit-shut : answers all k n ≡ false → false ≡ (answers all k (place_at row i).most && (place_at row i).has g)
    fit-shut a = rw (← may, a)

  -- the place fits the group, or it does not
  module _ (all : Bool) (i k : ℕ) (h : i < length row) where
    pub fit-here : (answers all k (place_at row i).most && (place_at row i).has g) ≡ true → fit_from all i k (drop i (stands_of row g)) ≡ i
    unfolding fit_from
    fit-here e = rw (stand-at i h, e)

    pub fit_next : (answers all k (place_at row i).most && (place_at row i).has g) ≡ false
        → fit_from all i k (drop i (stands_of row g)) ≡ fit_from all (i + 1) 0 (drop (i + 1) (stands_of row g))
    unfolding fit_from
    fit_next e = rw (stand-at i h, e)

  pub fit-end : (all : Bool) (i k : ℕ) → length row ≤ i → fit_from all i k (drop i (stands_of row g)) ≡ i
  unfolding fit_from
  fit-end all i k h = rw (drop_of_length-le (stands_of row g) {i = i} (simp length-map h))

  -- WHERE A GROUP GOES, by the first place that answers for it
  module _ (c k : ℕ) {f : ℕ} (is : f ≡ fit_from false c k (drop c (stands_of row g))) where
    pub find-fit : {r : Found} → f < length row → r ≡ found_at (mosts_of row) (musts_of row) c k f → r ≡ find_of (stands_of row g) c k
    unfolding find_of found_at
    find-fit {r} h e =
        let low : c ≤ f = rw (← is) at (fit-least false c k (drop c (stands_of row g))) in
        let near : fit_from false c k (drop c (stands_of row g)) < c + length (drop c (stands_of row g)) = rw (← is) (simp (length-drop, length-map) (omega arith)) in
        let sought : seek c k false (drop c (stands_of row g)) ≡ found_from false c k f (drop c (stands_of row g)) = rw (← is) at (seek-fit (drop c (stands_of row g)) c k false near) in
        e ∙ sym (rw sought (found_in (stands_of row g) (anywhere (stands_of row g)) c k f low ∙ rw (stand-mosts row g, stand-musts row g)))

    -- no place from c on answers: an earlier one, or none, has its shape
    pub find_none : (e : ℕ) → length row ≤ f → e ≡ fit_from true 0 0 (stands_of row g) → (b : Bool) → ltb e (length row) ≡ b
        → cond b Earlier Unknown ≡ find_of (stands_of row g) c k
    unfolding find_of
    find_none e h from b test =
        let low = fit-least false c k (drop c (stands_of row g)) in
        rw (
          seek-unfit (drop c (stands_of row g)) c k false (rw (← is) (simp (length-drop, length-map) (omega arith))),
          anywhere-fit (stands_of row g) 0 0,
          ← from,
          length-map row (standing {R = R} g),
          zero-add (length row),
          test,
        )
