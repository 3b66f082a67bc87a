-- A reading against one row, group by group, and what it says of a field of the record: the field is what the group taken at its place says, or it is as it was.
-- Assumes nothing.
use Rattle.std.specs.Prelude.{Ok}
use Prim.Native.Nat.{ℕ, ◌+◌, ◌≤◌, ◌<◌}
use native.Mathlib.Omega.{arith}
use mathlib.Core.Path.{◌≡◌, refl, sym, ap, subst, ◌∙◌}
use mathlib.Core.Bool.{Bool, true, false, ◌&&◌, ◌||◌, cond}
use mathlib.Core.List.{List, [], ◌∷◌, ◌++◌, map}
use lib.ListN.{length, drop}
use lib.Dec.{eqb, leb, ltb}
use borrow.Author.Tests.{eqb-true, ne_eqb}
use Rattle.figures.proofs.Impossible.{impossible}
use Rattle.text.specs.declared.kinds.Refusal.TheVariants as refusal
use Rattle.text.specs.Groups.{Piece}
use Rattle.places.specs.declared.kinds.Found.{Found}
use Rattle.places.specs.declared.kinds.Found.TheVariants.{Take, Skips, Full, Earlier, Unknown}
use Rattle.places.specs.declared.kinds.Turn.TheVariants as turn
use Rattle.places.specs.Seek.{Stand, seek, anywhere, or_earlier, find_of}
use Rattle.places.specs.Engine.{Group, Place, place_at, stands_of, onward}
use Rattle.places.specs.Turn.{turn_by, turn_at}
use Rattle.places.proofs.Rows.{taken-open}

-- ---- places are taken forwards

-- from place c, where k groups stand, to place i, where n stand: the same place and as many, or a later one
pub data Forward (c k i n : ℕ) : Type 0 where
  here : i ≡ c → n ≡ k → Forward c k i n
  later : c < i → Forward c k i n

seeks : (ps : List Stand) (c k : ℕ) (late : Bool) (i n : ℕ) → seek c k late ps ≡ Take i n → Forward c k i n
unfolding seek
seeks [] c k late i n e = impossible (cc)
seeks (p ∷ ps) c k late i n e = go (p.has && ltb k p.most) (p.has && ltb 1 p.most) late (seeks ps (c + 1) 0 (late || (p.must && eqb k 0)) i n) e
  where
    next : Forward (c + 1) 0 i n → Forward c k i n
    next (here a b) = later (omega arith)
    next (later h) = later (omega arith)

    go : (fits full l : Bool) → (seek (c + 1) 0 (late || (p.must && eqb k 0)) ps ≡ Take i n → Forward (c + 1) 0 i n)
        → cond fits (cond l Skips (Take c k)) (cond full Full (seek (c + 1) 0 (late || (p.must && eqb k 0)) ps)) ≡ Take i n → Forward c k i n
    go true full true rest e = impossible (cc)
    go true full false rest e =
        let a : c ≡ i = cc in
        let b : k ≡ n = cc in
        here (sym a) (sym b)
    go false true l rest e = impossible (cc)
    go false false l rest e = next (rest e)

found-forward : (ps : List Stand) (c k i n : ℕ) → find_of ps c k ≡ Take i n → Forward c k i n
unfolding find_of
found-forward ps c k i n e = go (anywhere ps) (seek c k false (drop c ps)) refl e
  where
    go : (b : Bool) (f : Found) → seek c k false (drop c ps) ≡ f → or_earlier b f ≡ Take i n → Forward c k i n
    go b (Take j m) is e = seeks (drop c ps) c k false i n (is ∙ e)
    go b Skips is e = impossible (cc)
    go b Full is e = impossible (cc)
    go b Earlier is e = impossible (cc)
    go true Unknown is e = impossible (cc)
    go false Unknown is e = impossible (cc)

taken_at : (f : Found) (i j : ℕ) → turn_by f ≡ turn.At i j → f ≡ Take i j
taken_at (Take m n) i j e =
    let p : m ≡ i = cc in
    let q : n ≡ j = cc in
    rw (p, q)
taken_at Skips i j e = impossible (cc)
taken_at Full i j e = impossible (cc)
taken_at Earlier i j e = impossible (cc)
taken_at Unknown i j e = impossible (cc)

-- A group that was taken: at which place, the how-manieth, and the group.
pub record Entry : Type 0 where
  pub place : ℕ
  pub count : ℕ
  pub piece : Piece

module _ {R : Type 0} (row : List (Place R)) (halts : Group → Bool) where
  pub at-found : (c k : ℕ) (g : Group) (i n : ℕ) → turn_at row halts c k g ≡ turn.At i n → find_of (stands_of row g) c k ≡ Take i n
  unfolding turn_at
  at-found c k g i n e = go (leb (length row) c) (halts g) e
    where
      go : (past halt : Bool) → cond past (turn.Refused refusal.Shape) (cond halt turn.Halt (turn_by (find_of (stands_of row g) c k))) ≡ turn.At i n
          → find_of (stands_of row g) c k ≡ Take i n
      go true halt e = impossible (cc)
      go false true e = impossible (cc)
      go false false e = taken_at (find_of (stands_of row g) c k) i n e

  -- a group that is taken goes forwards, to a place of the row with room and with its shape
  pub turn-forward : (c k : ℕ) (g : Group) (i n : ℕ) → turn_at row halts c k g ≡ turn.At i n → Forward c k i n
  turn-forward c k g i n e = found-forward (stands_of row g) c k i n (at-found c k g i n e)

  pub turn-within : (c k : ℕ) (g : Group) (i n : ℕ) → turn_at row halts c k g ≡ turn.At i n → (i < length row) × (n < (place_at row i).most)
  turn-within c k g i n e = let o = taken-open row g c k i n (at-found c k g i n e) in (o.within, o.room)

  pub turn-shaped : (c k : ℕ) (g : Group) (i n : ℕ) → turn_at row halts c k g ≡ turn.At i n → (place_at row i).has g ≡ true
  turn-shaped c k g i n e = (taken-open row g c k i n (at-found c k g i n e)).shaped

  -- ---- a row read group by group

  -- FROM PLACE c, WHERE k GROUPS STAND, WITH THE RECORD r, each of these groups was taken and read, up to the groups that are left.
  pub data Went (c₁ k₁ : ℕ) (r₁ : R) (left : List Piece) : ℕ → ℕ → R → List Piece → List Entry → Type 0 where
    done : Went c₁ k₁ r₁ left c₁ k₁ r₁ left []
    on : {c k i n : ℕ} {r r' : R} {g : Piece} {gs : List Piece} {es : List Entry} → turn_at row halts c k g.bytes ≡ turn.At i n
        → (place_at row i).read n g.bytes r ≡ Ok r' → Went c₁ k₁ r₁ left (onward row i) (n + 1) r' gs es
        → Went c₁ k₁ r₁ left c k r (g ∷ gs) (record { place = i; count = n; piece = g } ∷ es)

  -- no group is lost: those taken, then those left
  pub went-pieces : {c₁ k₁ : ℕ} {r₁ : R} {left : List Piece} {c k : ℕ} {r : R} {gs : List Piece} {es : List Entry} → Went c₁ k₁ r₁ left c k r gs es
      → gs ≡ map (λ (e : Entry). e.piece) es ++ left
  went-pieces done = refl
  went-pieces (on {g = g} t e w) = ap (λ (l : List Piece). g ∷ l) (went-pieces w)

-- ---- one item: a value of the record that one place says of one group

module _ {R A : Type 0} where
  -- What a place says of its k-th group, a record that is `fair` (arrays of their length) read so far; every other group leaves it as it was, one of an
  -- earlier place at least where it is still missing.
  pub record Item (row : List (Place R)) (i k : ℕ) (get : R → A) (says : Group → A → Type 0) (fair : R → Type 0) (missing : A) : Type 0 where
    pub tells : (g : Group) (a a' : R) → fair a → (place_at row i).read k g a ≡ Ok a' → says g (get a')
    pub kept : (j n : ℕ) (g : Group) (a a' : R) → n < (place_at row j).most → (eqb i j && eqb k n) ≡ false → (j < i → get a ≡ missing) → fair a → (place_at row j).read n g a ≡ Ok a'
        → get a' ≡ get a
    pub stays : (j n : ℕ) (g : Group) (a a' : R) → fair a → (place_at row j).read n g a ≡ Ok a' → fair a'

-- what one group alone may say
pub first : {R A : Type 0} {row : List (Place R)} {missing : A} (i k : ℕ) (get : R → A) (says : Group → A → Type 0) → k < 1 → Item row i 0 get says (λ r. Unit {0}) missing
    → Item row i k get says (λ r. Unit {0}) missing
first {row = row} {missing = missing} i k get says h x = let z : 0 ≡ k = omega arith in subst (λ (n : ℕ). Item row i n get says (λ r. Unit {0}) missing) z x

abbrev pub If : Bool → Type 0 → Type 0 → Type 0
If true A B = A
If false A B = B

-- what is said of the first group that was taken at place i as the k-th, or what is so where there is none
abbrev pub Told : (Piece → Type 0) → Type 0 → ℕ → ℕ → List Entry → Type 0
Told says missing i k [] = missing
Told says missing i k (e ∷ es) = If (eqb i e.place && eqb k e.count) (says e.piece) (Told says missing i k es)

-- A GROUP THAT WAS TAKEN AT A PLACE HAS ITS SHAPE.
pub shape-told : {R : Type 0} (row : List (Place R)) (halts : Group → Bool) {missing : Type 0} {c₁ k₁ : ℕ} {r₁ : R} {left : List Piece} {c n : ℕ} {r : R} {gs : List Piece} {es : List Entry} (i k : ℕ)
    → Went row halts c₁ k₁ r₁ left c n r gs es → missing → Told (λ g. (place_at row i).has g.bytes ≡ true) missing i k es
shape-told row halts i k done none = none
shape-told row halts {missing} {c = c} {n = n} i k (on {i = j} {n = m} {g = g} {es = es} t e w) none = go (eqb i j) (eqb k m) refl (shape-told row halts i k w none)
  where
    go : (a b : Bool) → eqb i j ≡ a → Told (λ h. (place_at row i).has h.bytes ≡ true) missing i k es
        → If (a && b) ((place_at row i).has g.bytes ≡ true) (Told (λ h. (place_at row i).has h.bytes ≡ true) missing i k es)
    go true true is told = rw (eqb-true i j is) (turn-shaped row halts c n g.bytes j m t)
    go true false is told = told
    go false b is told = told

module _ {R : Type 0} (row : List (Place R)) (halts : Group → Bool) where
  -- reading stands past the k-th group of place i
  pub data Past (i k c n : ℕ) : Type 0 where
    place-past : i < c → Past i k c n
    count_past : i ≡ c → k < n → Past i k c n

  pub past_next : (i k c n j m : ℕ) (g : Group) → Past i k c n → turn_at row halts c n g ≡ turn.At j m → Past i k (onward row j) (m + 1) × ((eqb i j && eqb k m) ≡ false) × (i ≤ j)
  past_next i k c n j m g p e = go (turn-forward row halts c n g j m e) (turn-within row halts c n g j m e).0 (place_at row j).ends p
    where
      left : (b : Bool) → eqb i j ≡ false → (eqb i j && b) ≡ false
      left b h = rw h

      right : (b : Bool) → eqb k m ≡ false → (b && eqb k m) ≡ false
      right true h = h
      right false h = refl

      onwards : (b : Bool) → j < length row → i < j → Past i k (cond b (length row) j) (m + 1)
      onwards true h l = place-past (omega arith)
      onwards false h l = place-past l

      same : (b : Bool) → j < length row → i ≡ j → k < m → Past i k (cond b (length row) j) (m + 1)
      same true h e l = place-past (omega arith)
      same false h e l = count_past e (omega arith)

      go : Forward c n j m → j < length row → (b : Bool) → Past i k c n → Past i k (cond b (length row) j) (m + 1) × ((eqb i j && eqb k m) ≡ false) × (i ≤ j)
      go (here a b) h x (place-past l) = (onwards x h (omega arith), left (eqb k m) (ne_eqb i j (omega arith)), omega arith)
      go (here a b) h x (count_past d l) = (same x h (d ∙ sym a) (omega arith), right (eqb i j) (ne_eqb k m (omega arith)), omega arith)
      go (later l) h x (place-past q) = (onwards x h (omega arith), left (eqb k m) (ne_eqb i j (omega arith)), omega arith)
      go (later l) h x (count_past d q) = (onwards x h (omega arith), left (eqb k m) (ne_eqb i j (omega arith)), omega arith)

  pub past-taken : (i k c n : ℕ) (g : Group) → turn_at row halts c n g ≡ turn.At i k → Past i k (onward row i) (k + 1)
  past-taken i k c n g e = go (place_at row i).ends (turn-within row halts c n g i k e).0
    where
      go : (b : Bool) → i < length row → Past i k (cond b (length row) i) (k + 1)
      go true h = place-past h
      go false h = count_past refl (omega arith)

  module _ {A : Type 0} {i k : ℕ} {get : R → A} {says : Group → A → Type 0} {fair : R → Type 0} {missing : A} (item : Item row i k get says fair missing)
      {c₁ k₁ : ℕ} {r₁ : R} {left : List Piece} where
    -- past its group an item stays as it is
    past-kept : {c n : ℕ} {r : R} {gs : List Piece} {es : List Entry} → Went row halts c₁ k₁ r₁ left c n r gs es → Past i k c n → fair r → get r₁ ≡ get r
    past-kept done p f = refl
    past-kept {c} {n} {r} (on {i = j} {n = m} {r' = r'} {g} t e w) p f =
        let (q, other, before) = past_next i k c n j m g.bytes p t in
        past-kept w q (item.stays j m g.bytes r r' f e)
        ∙ item.kept j m g.bytes r r' (turn-within row halts c n g.bytes j m t).1 other (λ l. absurd (omega arith)) f e

    -- THE ITEM AFTER A READING is what its place says of the group that was taken there, or it is missing, as it was.
    pub item-told : {c n : ℕ} {r : R} {gs : List Piece} {es : List Entry} → Went row halts c₁ k₁ r₁ left c n r gs es → fair r → get r ≡ missing
        → Told (λ g. says g.bytes (get r₁)) (get r₁ ≡ missing) i k es
    item-told done f blank = blank
    item-told {c} {n} {r} (on {i = j} {n = m} {r' = r'} {g = g} {gs = gs} {es = es} t e w) f blank = go (eqb i j) (eqb k m) refl refl (λ b. item-told w fair' b)
      where
        fair' : fair r'
        fair' = item.stays j m g.bytes r r' f e

        took : i ≡ j → k ≡ m → says g.bytes (get r₁)
        took a b =
            let t' : turn_at row halts c n g.bytes ≡ turn.At i k = rw (a, b) t in
            let e' : (place_at row i).read k g.bytes r ≡ Ok r' = rw (a, b) e in
            let w' : Went row halts c₁ k₁ r₁ left (onward row i) (k + 1) r' gs es = rw (a, b) w in
            subst (says g.bytes) (sym (past-kept w' (past-taken i k c n g.bytes t') fair')) (item.tells g.bytes r r' f e')

        still : (eqb i j && eqb k m) ≡ false → get r' ≡ missing
        still o = item.kept j m g.bytes r r' (turn-within row halts c n g.bytes j m t).1 o (λ l. blank) f e ∙ blank

        go : (a b : Bool) → eqb i j ≡ a → eqb k m ≡ b → (get r' ≡ missing → Told (λ h. says h.bytes (get r₁)) (get r₁ ≡ missing) i k es)
            → If (a && b) (says g.bytes (get r₁)) (Told (λ h. says h.bytes (get r₁)) (get r₁ ≡ missing) i k es)
        go true true x y told = took (eqb-true i j x) (eqb-true k m y)
        go true false x y told = told (still (rw (x, y)))
        go false b x y told = told (still (rw x))
