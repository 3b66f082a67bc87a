-- EACH GROUP OF A TRAIL IS THE SOURCE OF WHAT WAS TAKEN THERE: no two groups are taken at the same spot of the same part.
-- Assumes nothing.
use Prim.Native.Nat.{ℕ, ◌+◌, ◌<◌}
use native.Mathlib.Omega.{arith}
use mathlib.Core.Path.{◌≡◌, refl, sym}
use mathlib.Core.Bool.{Bool, true, false, ◌&&◌, cond}
use mathlib.Core.List.{List, [], ◌∷◌, ◌++◌, map}
use lib.Dec.{eqb}
use borrow.Author.Tests.{eqb-true, eqb-false, eq-eqb, ne_eqb}
use Rattle.text.specs.Groups.{Piece}
use Rattle.places.specs.Engine.{Group, Place}
use Rattle.places.specs.Parts.{Word}
use Rattle.sources.specs.declared.kinds.Spot.{Spot}
use Rattle.sources.specs.declared.kinds.Spot.TheVariants as spot
use Rattle.sources.specs.Trail.{Taken, same_spot, group, origin_in}
use Rattle.sources.specs.Route.{Route}
use Rattle.sources.proofs.Rows.{Entry, Went, done, on, Past, past_next, past-taken}
use Rattle.sources.proofs.Parts.{as_taken, main_of, After, over, stop, one, two, Read-on}

-- it is so of each group of a trail
abbrev pub EachTaken : (Taken → Type 0) → List Taken → Type 0
EachTaken P [] = Unit {0}
EachTaken P (x ∷ xs) = P x × EachTaken P xs

pub each_map : {P Q : Taken → Type 0} → ((x : Taken) → P x → Q x) → (xs : List Taken) → EachTaken P xs → EachTaken Q xs
each_map f [] u = tt
each_map f (x ∷ xs) (p, ps) = (f x p, each_map f xs ps)

pub each_both : {P Q S : Taken → Type 0} → ((x : Taken) → P x → Q x → S x) → (xs : List Taken) → EachTaken P xs → EachTaken Q xs → EachTaken S xs
each_both f [] u v = tt
each_both f (x ∷ xs) (p, ps) (q, qs) = (f x p q, each_both f xs ps qs)

pub each_append : (P : Taken → Type 0) (xs ys : List Taken) → EachTaken P xs → EachTaken P ys → EachTaken P (xs ++ ys)
each_append P [] ys u v = v
each_append P (x ∷ xs) ys (p, ps) v = (p, each_append P xs ys ps v)

abbrev same : Taken → Taken → Bool
same y x = eqb y.part x.part && same_spot y.spot x.spot

-- no group of the list was taken where x was; no two were taken at one spot
abbrev pub Apart : Taken → List Taken → Type 0
Apart x ys = EachTaken (λ y. same y x ≡ false) ys

abbrev pub Distinct : List Taken → Type 0
Distinct [] = Unit {0}
Distinct (x ∷ xs) = Apart x xs × Distinct xs

pub apart-append : (x : Taken) (xs ys : List Taken) → Apart x xs → Apart x ys → Apart x (xs ++ ys)
apart-append x = each_append (λ y. same y x ≡ false)

same_spot_lem : (s : Spot) → same_spot s s ≡ true
same_spot_lem spot.Opening = refl
same_spot_lem spot.Joined = refl
same_spot_lem (spot.At i k) = rw (eq-eqb i i refl, eq-eqb k k refl)

-- so each is found where it was taken
pub own : (xs : List Taken) → Distinct xs → EachTaken (λ x. origin_in x.part x.spot xs ≡ group x.piece) xs
unfolding origin_in
own [] d = tt
own (x ∷ xs) (a, d) = (rw (eq-eqb x.part x.part refl, same_spot_lem x.spot), past xs (own xs d) a)
  where
    past : (ys : List Taken) → EachTaken (λ y. origin_in y.part y.spot xs ≡ group y.piece) ys → Apart x ys
        → EachTaken (λ y. cond (same y x) (group x.piece) (origin_in y.part y.spot xs) ≡ group y.piece) ys
    past [] u v = tt
    past (y ∷ ys) (p, ps) (b, bs) = (rw b p, past ys ps bs)

-- ---- the groups of one part

flip : (a b : ℕ) → eqb a b ≡ eqb b a
flip a b = go (eqb a b) refl
  where
    go : (z : Bool) → eqb a b ≡ z → z ≡ eqb b a
    go true e = sym (eq-eqb b a (sym (eqb-true a b e)))
    go false e = sym (ne_eqb b a (λ q. eqb-false a b e (sym q)))

and-false : (a b : Bool) → b ≡ false → (a && b) ≡ false
and-false true b e = e
and-false false b e = refl

module _ {R : Type 0} (row : List (Place R)) (halts : Group → Bool) (m : ℕ) where
  past-apart : {i k c₁ k₁ : ℕ} {r₁ : R} {left : List Piece} {c n : ℕ} {r : R} {gs : List Piece} {es : List Entry} (g : Piece) → Past row halts i k c n → Went row halts c₁ k₁ r₁ left c n r gs es
      → Apart (record { part = m; spot = spot.At i k; piece = g }) (map (as_taken m) es)
  past-apart g p done = tt
  past-apart {i} {k} {c} {n} g p (on {i = j} {n = l} {g = h} t e w) =
      let (q, other, before) = past_next row halts i k c n j l h.bytes p t in
      let turned : (eqb j i && eqb l k) ≡ false = rw (flip j i, flip l k) other in
      (and-false (eqb m m) (eqb j i && eqb l k) turned, past-apart g q w)

  pub went-distinct : {c₁ k₁ : ℕ} {r₁ : R} {left : List Piece} {c n : ℕ} {r : R} {gs : List Piece} {es : List Entry} → Went row halts c₁ k₁ r₁ left c n r gs es → Distinct (map (as_taken m) es)
  went-distinct done = tt
  went-distinct {c} {n} (on {i = j} {n = l} {g = h} t e w) = (past-apart h (past-taken row halts j l c n h.bytes t) w, went-distinct w)

-- ---- and of one part after the other

abbrev pub Later : ℕ → List Taken → Type 0
Later m xs = EachTaken (λ x. m < x.part) xs

pub later-append : (m : ℕ) (xs ys : List Taken) → Later m xs → Later m ys → Later m (xs ++ ys)
later-append m = each_append (λ x. m < x.part)

pub later-apart : (m : ℕ) (x : Taken) → x.part ≡ m → (xs : List Taken) → Later m xs → Apart x xs
later-apart m x is xs l = each_map (λ y h. rw (ne_eqb y.part x.part (omega arith))) xs l

later_more : (m : ℕ) (xs : List Taken) → Later (m + 1) xs → Later m xs
later_more m xs l = each_map (λ y h. omega arith) xs l

pub entries-later : (m : ℕ) (es : List Entry) → Later m (map (as_taken (m + 1)) es)
entries-later m [] = tt
entries-later m (e ∷ es) = (omega arith, entries-later m es)

pub distinct_append : (m : ℕ) (es : List Entry) (xs : List Taken) → Distinct (map (as_taken m) es) → Distinct xs → Later m xs → Distinct (map (as_taken m) es ++ xs)
distinct_append m [] xs d v l = v
distinct_append m (e ∷ es) xs (a, d) v l =
    (apart-append (as_taken m e) (map (as_taken m) es) xs a (later-apart m (as_taken m e) refl xs l), distinct_append m es xs d v l)

-- a word is at no place
word-apart : (m : ℕ) (s : Spot) (g : Piece) → ((i k : ℕ) → same_spot (spot.At i k) s ≡ false) → (es : List Entry) → Apart (record { part = m; spot = s; piece = g }) (map (as_taken m) es)
word-apart m s g never [] = tt
word-apart m s g never (e ∷ es) = (and-false (eqb m m) (same_spot (spot.At e.place e.count) s) (never e.place e.count), word-apart m s g never es)

-- nor is it of a later part
pub beside : (m : ℕ) (s : Spot) (g : Piece) (es : List Entry) (xs : List Taken) → Later (m + 1) xs → ((i k : ℕ) → same_spot (spot.At i k) s ≡ false)
    → Apart (record { part = m + 1; spot = s; piece = g }) (map (as_taken (m + 1)) es ++ xs)
beside m s g es xs l never =
    apart-append (record { part = m + 1; spot = s; piece = g }) (map (as_taken (m + 1)) es) xs (word-apart (m + 1) s g never es)
    (later-apart (m + 1) (record { part = m + 1; spot = s; piece = g }) refl xs l)

module _ {T M P W : Type 0} (route : Route M P W) (word : T → Group → Word W P) (main_takes : M → T) (main_lacks : M → Bool) (takes : T → W → P → T)
    (lacks : T → W → P → Bool) where
  after-distinct : {end rest : ℕ} {whole : T} {m : ℕ} {t : T} {gs : List Piece} {xs : List Taken} → After route word main_takes main_lacks takes lacks end rest whole m t gs xs
      → Distinct xs × Later m xs
  after-distinct (over a b) = (tt, tt)
  after-distinct (stop is a b) = (tt, tt)
  after-distinct {m = m} (one {w = w} {g = g} {es = es} {xs = xs} is plain went halted after) =
      let (d, l) = after-distinct after in
      let rest = distinct_append (m + 1) es xs (went-distinct (route.row w) route.halts (m + 1) went) d l in
      ((beside m spot.Opening g es xs l (λ i k. refl), rest), (omega arith, later-append m (map (as_taken (m + 1)) es) xs (entries-later m es) (later_more m xs l)))
  after-distinct {m = m} (two {w = w} {g = g} {h = h} {es = es} {xs = xs} is joins went halted after) =
      let (d, l) = after-distinct after in
      let rest = distinct_append (m + 1) es xs (went-distinct (route.row (route.joined w)) route.halts (m + 1) went) d l in (
        ((and-false (eqb (m + 1) (m + 1)) false refl, beside m spot.Opening g es xs l (λ i k. refl)), (beside m spot.Joined h es xs l (λ i k. refl), rest)),
        (omega arith, (omega arith, later-append m (map (as_taken (m + 1)) es) xs (entries-later m es) (later_more m xs l))),
      )

  -- EACH GROUP OF A REPORT'S TRAIL IS THE ONE FOUND WHERE IT WAS TAKEN.
  pub report-own : {end rest : ℕ} {whole : T} {m : M} {gs : List Piece} {tail : _} (d : Read-on route word main_takes main_lacks takes lacks tail end rest whole (main_of route word main_takes main_lacks takes lacks) 0 m gs)
      → EachTaken (λ x. origin_in x.part x.spot (map (as_taken 0) d.entries ++ d.follows.taken) ≡ group x.piece) (map (as_taken 0) d.entries ++ d.follows.taken)
  report-own d =
      let (e, l) = after-distinct d.follows.after in
      own (map (as_taken 0) d.entries ++ d.follows.taken) (distinct_append 0 d.entries d.follows.taken (went-distinct route.main route.main_halts 0 d.went) e l)
