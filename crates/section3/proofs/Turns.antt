-- The row of section 3 as the code tests it: a group's turn by the one shape that it has, and that what is written is told apart from what stops the reading.
-- Assumes nothing.
use Prim.Native.Nat.{ℕ, zero, suc, ◌<◌}
use native.Mathlib.Omega.{arith}
use mathlib.Core.Path.{◌≡◌, refl, ◌∙◌}
use mathlib.Core.Bool.{Bool, true, false, or-true}
use mathlib.Core.List.{List, [], ◌∷◌}
use lib.ListN.{length}
use lib.Dec.{ltb}
use borrow.Author.Tests.{le-ltb, ne_eqb}
use Rattle.figures.specs.Quote.{bytes}
use Rattle.shapes.specs.Pattern.{low, high, clash, clash_each, all_apart, has_pattern, has_any}
use Rattle.shapes.proofs.Patterns.{excluded}
use Rattle.places.specs.declared.kinds.Turn.{Turn}
use Rattle.places.specs.declared.kinds.Turn.TheVariants as turn
use Rattle.places.specs.Seek.{Stand, seek, anywhere, find_of}
use Rattle.places.specs.Engine.{Group, stands_of, onward}
use Rattle.places.specs.Turn.{turn_by, turn_at}
use Rattle.places.proofs.Rows.{endless}
use Rattle.places.proofs.Loop.{at_most, turn-found, turn-halts}
use Rattle.places.proofs.ReadBack.{one-pattern, sound, Covered}
use Rattle.synop_row.specs.Row.{stop_words}
use Rattle.section3.specs.Row.{row, own_shapes, halts}
use Rattle.section3.specs.Step.{shape_of, turn_of}

pub row-length : length row ≡ 3
unfolding row
row-length = refl

pub row-few : at_most 2048 row ≡ true
unfolding row
row-few = refl

pub row-endless : (i : ℕ) → i ≡ onward row i
unfolding row
row-endless i = endless row i refl

-- WHAT THE ROW WRITES IS TOLD APART, from other places and from the stop words.
pub row-sound : sound stop_words row ≡ true
unfolding row stop_words low high clash clash_each all_apart
row-sound = refl

pub row-covered : Covered row
unfolding row
row-covered = (one-pattern _, (one-pattern _, (one-pattern _, tt)))

-- ---- a group's turn, by its shape

abbrev stands : Bool → Bool → Bool → List Stand
stands a b c = record { has = a; most = 1; must = false } ∷ record { has = b; most = 1; must = false } ∷ record { has = c; most = 2048; must = false } ∷ []

abbrev Turns : ℕ → ℕ → ℕ → List Stand → Type 0
Turns c k s ps = turn_of c k s ≡ turn_by (find_of ps c k)

first : (c k : ℕ) → c < 3 → Turns c k 0 (stands true false false)
unfolding find_of seek anywhere
first zero zero h = refl
first zero (suc k) h = rw (le-ltb (suc k) 1 (omega arith), ne_eqb (suc k) 0 (λ e. omega arith))
first (suc zero) k h = refl
first (suc (suc zero)) k h = refl
first (suc (suc (suc c))) k h = absurd (omega arith)

second : (c k : ℕ) → c < 3 → Turns c k 1 (stands false true false)
unfolding find_of seek anywhere
second zero k h = refl
second (suc zero) zero h = refl
second (suc zero) (suc k) h = rw (le-ltb (suc k) 1 (omega arith), ne_eqb (suc k) 0 (λ e. omega arith))
second (suc (suc zero)) k h = refl
second (suc (suc (suc c))) k h = absurd (omega arith)

third : (c k : ℕ) → c < 3 → Turns c k 2 (stands false false true)
unfolding find_of seek anywhere
third zero k h = refl
third (suc zero) k h = refl
third (suc (suc zero)) k h = go (ltb k 2048) refl
  where
    go : (b : Bool) → ltb k 2048 ≡ b → Turns 2 k 2 (stands false false true)
    go true e = rw e
    go false e = rw e
third (suc (suc (suc c))) k h = absurd (omega arith)

module _ (g : Group) where
  abbrev stood : Bool → Bool → Bool → Type 0
  stood a b c = stands_of row g ≡ stands a b c

  stand-is : stands_of row g ≡ stands (has_pattern g (bytes "1####")) (has_pattern g (bytes "2####")) (has_pattern g (bytes "8####"))
  unfolding row
  stand-is = refl

  -- the three shapes exclude each other
  by_shape : (c k : ℕ) → c < 3 → (shape_of g ≡ 3 → ⊥) → Turns c k (shape_of g) (stands_of row g)
  unfolding low high clash
  by_shape c k h some = rw stand-is (go (has_pattern g (bytes "1####")) (has_pattern g (bytes "2####")) (has_pattern g (bytes "8####")) refl refl refl)
    where
      go : (a b d : Bool) → has_pattern g (bytes "1####") ≡ a → has_pattern g (bytes "2####") ≡ b → has_pattern g (bytes "8####") ≡ d
          → Turns c k (shape_of g) (stands (has_pattern g (bytes "1####")) (has_pattern g (bytes "2####")) (has_pattern g (bytes "8####")))
      go true b d p q r =
          rw (p, excluded g (bytes "1####") (bytes "2####") refl p, excluded g (bytes "1####") (bytes "8####") refl p) (first c k h)
      go false true d p q r = rw (p, q, excluded g (bytes "2####") (bytes "8####") refl q) (second c k h)
      go false false true p q r = rw (p, q, r) (third c k h)
      go false false false p q r = absurd (some (rw (p, q, r)))

  -- what stops the reading: a stop word, or a group with none of the shapes
  none_halts : shape_of g ≡ 3 → halts g ≡ true
  unfolding halts has_any own_shapes
  none_halts e = go (has_pattern g (bytes "1####")) (has_pattern g (bytes "2####")) (has_pattern g (bytes "8####")) refl refl refl
    where
      go : (a b d : Bool) → has_pattern g (bytes "1####") ≡ a → has_pattern g (bytes "2####") ≡ b → has_pattern g (bytes "8####") ≡ d → halts g ≡ true
      go true b d p q r = let z : ◌≡◌ {A = ℕ} 0 3 = rw p at e in absurd (omega arith)
      go false true d p q r = let z : ◌≡◌ {A = ℕ} 1 3 = rw (p, q) at e in absurd (omega arith)
      go false false true p q r = let z : ◌≡◌ {A = ℕ} 2 3 = rw (p, q, r) at e in absurd (omega arith)
      go false false false p q r = rw (p, q, r) (or-true (has_any stop_words g))

  some-goes : has_any stop_words g ≡ false → (shape_of g ≡ 3 → ⊥) → halts g ≡ false
  unfolding halts has_any own_shapes
  some-goes w some = go (has_pattern g (bytes "1####")) (has_pattern g (bytes "2####")) (has_pattern g (bytes "8####")) refl refl refl
    where
      go : (a b d : Bool) → has_pattern g (bytes "1####") ≡ a → has_pattern g (bytes "2####") ≡ b → has_pattern g (bytes "8####") ≡ d → halts g ≡ false
      go true b d p q r = rw (w, p)
      go false true d p q r = rw (w, p, q)
      go false false true p q r = rw (w, p, q, r)
      go false false false p q r = absurd (some (rw (p, q, r)))

  -- THE TURN, as the code finds it.
  module _ (c k : ℕ) (here : c < 3) where
    inside : c < length row
    inside = rw row-length here

    pub halts-word : has_any stop_words g ≡ true → turn.Halt ≡ turn_at row halts c k g
    unfolding halts
    halts-word w = turn-halts row halts c k g inside (rw w)

    pub halts-none : shape_of g ≡ 3 → turn.Halt ≡ turn_at row halts c k g
    halts-none e = turn-halts row halts c k g inside (none_halts e)

    pub goes : {u : Turn} → has_any stop_words g ≡ false → (shape_of g ≡ 3 → ⊥) → u ≡ turn_of c k (shape_of g) → u ≡ turn_at row halts c k g
    goes w some is = turn-found row halts c k g inside (some-goes w some) refl (is ∙ by_shape c k here some)
