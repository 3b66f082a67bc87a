-- A row of places as the search sees it, and what a place that takes a group has: room for it, and its shape.
-- Assumes nothing.
use Prim.Native.Nat.{ℕ, zero, suc, ◌+◌, ◌≤◌, ◌<◌}
use native.Mathlib.Omega.{arith}
use native.Mathlib.Numerals.{add-one}
use mathlib.Core.Path.{◌≡◌, refl, sym, ap, ◌∙◌}
use mathlib.Core.Bool.{Bool, true, false, ◌&&◌, ◌||◌, not, and-eq-true_iff, false≢true}
use mathlib.Core.List.{List, [], ◌∷◌, ◌++◌, map, append_assoc}
use lib.ListN.{length, get_or, take, drop, take-append-drop, length-map, get_or-map, get_or-eq_default}
use lib.Dec.{ltb, eqb, eqb-zero-suc, eqb-suc-zero, eqb-suc-suc}
use borrow.Author.Tests.{ltb-true, not-true}
use Rattle.figures.proofs.Impossible.{impossible}
use Rattle.places.specs.Seek.{Stand, seek, anywhere, or_earlier, find_of}
use Rattle.places.specs.Engine.{Group, Place, nowhere, place_at, onward, standing, stands_of, written}
use Rattle.places.specs.declared.kinds.Found.{Found}
use Rattle.places.specs.declared.kinds.Found.TheVariants.{Take, Skips, Full, Earlier, Unknown}

-- ---- what stands at a position of a list

module _ {A : Type 0} where
  drop-suc : {x : A} {xs : List A} (l : List A) (i : ℕ) → drop i l ≡ x ∷ xs → drop (suc i) l ≡ xs
  drop-suc [] zero e = cc
  drop-suc [] (suc i) e = cc
  drop-suc (y ∷ ys) zero e = cc
  drop-suc (y ∷ ys) (suc i) e = drop-suc ys i e

  pub at_next : {x : A} {xs : List A} (l : List A) (i : ℕ) → drop i l ≡ x ∷ xs → drop (i + 1) l ≡ xs
  at_next l i e = rw (add-one i) (drop-suc l i e)

  pub at-is : (d : A) {x : A} {xs : List A} (l : List A) (i : ℕ) → drop i l ≡ x ∷ xs → get_or l i d ≡ x
  at-is d [] zero e = impossible (cc)
  at-is d [] (suc i) e = impossible (cc)
  at-is d (y ∷ ys) zero e = cc
  at-is d (y ∷ ys) (suc i) e = at-is d ys i e

  pub at_in : {x : A} {xs : List A} (l : List A) (i : ℕ) → drop i l ≡ x ∷ xs → i < length l
  at_in [] zero e = impossible (cc)
  at_in [] (suc i) e = impossible (cc)
  at_in (y ∷ ys) zero e = omega arith
  at_in (y ∷ ys) (suc i) e = let h = at_in ys i e in omega arith

  pub drop-map : {B : Type 0} (f : A → B) (l : List A) (i : ℕ) → drop i (map f l) ≡ map f (drop i l)
  drop-map f [] zero = refl
  drop-map f [] (suc i) = refl
  drop-map f (x ∷ xs) zero = refl
  drop-map f (x ∷ xs) (suc i) = drop-map f xs i

-- ---- a place that is none of n places from place b on, as the last arm of a `match` has it

abbrev pub Others : ℕ → ℕ → ℕ → Type 0
Others b zero i = Unit {0}
Others b (suc n) i = Others b n i × (i ≡ b + n → ⊥)

pub beyond : (b n i : ℕ) → b ≤ i → Others b n i → b + n ≤ i
beyond b zero i h e = omega arith
beyond b (suc n) i h e =
    let low = beyond b n i h e.0 in
    let other = e.1 in
    omega arith

-- of the first n + 1 places the one that is left

module _ {R : Type 0} (row : List (Place R)) (g : Group) where
  -- the shape of a place by its number, and that past the row there is none
  pub has-at : (n : ℕ) {i : ℕ} {b : Bool} → i ≡ n → b ≡ (place_at row n).has g → b ≡ (place_at row i).has g
  has-at n e h = rw e h

  pub has-nowhere : (i : ℕ) → length row ≤ i → false ≡ (place_at row i).has g
  has-nowhere i h = rw (get_or-eq_default row (nowhere {R = R}) {n = i} h)

-- ---- a place that takes a group

abbrev none : Stand
none = record { has = false; most = 0; must = false }

-- place j is one of the row's, has room where n groups stand, and has the group's shape
record Fit (ps : List Stand) (j n : ℕ) : Type 0 where
  within : j < length ps
  room : n < (get_or ps j none).most
  shaped : (get_or ps j none).has ≡ true

seek-fits : (ps qs : List Stand) (i k : ℕ) (late : Bool) (j n : ℕ) → drop i ps ≡ qs → seek i k late qs ≡ Take j n → Fit ps j n
unfolding seek
seek-fits ps [] i k late j n d e = impossible (cc)
seek-fits ps (q ∷ qs) i k late j n d e =
    go (q.has && ltb k q.most) refl late refl (q.has && ltb 1 q.most) refl
    (λ r s. seek-fits ps qs (i + 1) 0 (late || (q.must && eqb k 0)) j n (at_next ps i d) (rw (r, s) at e))
  where
    go : (b : Bool) → (q.has && ltb k q.most) ≡ b → (l : Bool) → late ≡ l → (f : Bool) → (q.has && ltb 1 q.most) ≡ f
        → ((q.has && ltb k q.most) ≡ false → (q.has && ltb 1 q.most) ≡ false → Fit ps j n) → Fit ps j n
    go true r true l f s ih =
        let a : Skips ≡ Take j n = rw (r, l) at e in
        impossible (cc)
    go true r false l f s ih =
        let a : Take i k ≡ Take j n = rw (r, l) at e in
        let ij : i ≡ j = cc in
        let kn : k ≡ n = cc in
        let both = (and-eq-true_iff q.has (ltb k q.most)).0 r in
        rw (← ij, ← kn)
        (record {
          within = at_in ps i d;
          room = rw (at-is none ps i d) (ltb-true k q.most both.1);
          shaped = rw (at-is none ps i d) both.0;
        })
    go false r b l true s ih =
        let a : Full ≡ Take j n = rw (r, s) at e in
        impossible (cc)
    go false r b l false s ih = ih r s

found : (here : Bool) (f : Found) (j n : ℕ) → or_earlier here f ≡ Take j n → f ≡ Take j n
found here (Take i k) j n e = e
found here Skips j n e = e
found here Full j n e = e
found here Earlier j n e = e
found true Unknown j n e = impossible (cc)
found false Unknown j n e = e

find-fits : (ps : List Stand) (c k j n : ℕ) → find_of ps c k ≡ Take j n → Fit ps j n
unfolding find_of
find-fits ps c k j n e = seek-fits ps (drop c ps) c k false j n refl (found (anywhere ps) (seek c k false (drop c ps)) j n e)

module _ {R : Type 0} where
  -- A GROUP THAT IS TAKEN GOES TO A PLACE OF THE ROW THAT HAS ROOM FOR IT AND HAS ITS SHAPE.
  pub record Open (row : List (Place R)) (g : Group) (j n : ℕ) : Type 0 where
    pub within : j < length row
    pub room : n < (place_at row j).most
    pub shaped : (place_at row j).has g ≡ true

  pub taken-open : (row : List (Place R)) (g : Group) (c k j n : ℕ) → find_of (stands_of row g) c k ≡ Take j n → Open row g j n
  taken-open row g c k j n e =
      let f = find-fits (stands_of row g) c k j n e in
      let is : get_or (stands_of row g) j none ≡ standing g (place_at row j) = get_or-map (standing g) row j nowhere in
      record {
        within = rw length-map at f.within;
        room = rw is at f.room;
        shaped = rw is at f.shaped;
      }

-- ---- tests that hold at one place alone

abbrev pub none_in : List Bool → Bool
none_in [] = true
none_in (b ∷ bs) = not b && none_in bs

abbrev pub only_at : ℕ → List Bool → Bool
only_at k [] = false
only_at zero (b ∷ bs) = b && none_in bs
only_at (suc k) (b ∷ bs) = not b && only_at k bs

none-at : (bs : List Bool) (i : ℕ) → none_in bs ≡ true → get_or bs i false ≡ false
none-at [] i e = refl
none-at (b ∷ bs) zero e = not-true b ((and-eq-true_iff (not b) (none_in bs)).0 e).0
none-at (b ∷ bs) (suc i) e = none-at bs i ((and-eq-true_iff (not b) (none_in bs)).0 e).1

pub only_at_lem : (k : ℕ) (bs : List Bool) (i : ℕ) → only_at k bs ≡ true → eqb i k ≡ get_or bs i false
only_at_lem k [] i e = absurd (false≢true e)
only_at_lem zero (b ∷ bs) zero e = sym ((and-eq-true_iff b (none_in bs)).0 e).0
only_at_lem zero (b ∷ bs) (suc i) e = eqb-suc-zero i ∙ sym (none-at bs i ((and-eq-true_iff b (none_in bs)).0 e).1)
only_at_lem (suc k) (b ∷ bs) zero e = eqb-zero-suc k ∙ sym (not-true b ((and-eq-true_iff (not b) (only_at k bs)).0 e).0)
only_at_lem (suc k) (b ∷ bs) (suc i) e = eqb-suc-suc i k ∙ only_at_lem k bs i ((and-eq-true_iff (not b) (only_at k bs)).0 e).1

module _ {R : Type 0} where
  -- the place that ends the report, where there is one
  pub ends_at : (row : List (Place R)) (k i : ℕ) → only_at k (map (λ (p : Place R). p.ends) row) ≡ true → eqb i k ≡ (place_at row i).ends
  ends_at row k i e = only_at_lem k (map (λ (p : Place R). p.ends) row) i e ∙ get_or-map (λ (p : Place R). p.ends) row i nowhere

  -- where there is none, reading goes on from the place itself
  pub endless : (row : List (Place R)) (i : ℕ) → none_in (map (λ (p : Place R). p.ends) row) ≡ true → i ≡ onward row i
  endless row i e =
      rw (← get_or-map (λ (p : Place R). p.ends) row i nowhere, none-at (map (λ (p : Place R). p.ends) row) i e)

-- ---- what a row writes, in two parts

module _ {R : Type 0} (r : R) where
  groups-append : (ps qs : List (Place R)) → written (ps ++ qs) r ≡ written ps r ++ written qs r
  groups-append [] qs = refl
  groups-append (p ∷ ps) qs = ap (λ (gs : List Group). p.show r ++ gs) (groups-append ps qs) ∙ sym (append_assoc (p.show r) (written ps r) (written qs r))

  pub groups-split : (n : ℕ) (ps : List (Place R)) → written ps r ≡ written (take n ps) r ++ written (drop n ps) r
  groups-split n ps = ap (λ (l : List (Place R)). written l r) (sym (take-append-drop n ps)) ∙ groups-append (take n ps) (drop n ps)
