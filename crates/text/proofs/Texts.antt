-- A text as a whole, by the cases that the code comes to: what follows its "=", and its trimmed part.
-- Assumes nothing.
use Rattle.std.specs.Prelude.{None, Some}
use mathlib.Core.Path.{◌≡◌, sym, ◌∙◌}
use mathlib.Core.Bool.{or-true}
use mathlib.Core.List.{List}
use Prim.Native.Nat.{ℕ, ◌+◌, ◌≤◌, ◌<◌}
use native.Mathlib.Omega.{arith}
use borrow.Author.Tests.{le-leb, lt-leb, lt-ltb, le-ltb, eq-eqb, ne_eqb}
use lib.ListN.{length, drop}
use Rattle.text.specs.declared.kinds.Bytes.TheVariants.{Sound, Length, Byte}
use Rattle.text.specs.Bytes.{parting, allowed, lead, last_end}
use Rattle.text.specs.Groups.{past_parting}
use Rattle.text.specs.Text.{equals_at, bytes_of, junk_from, tail_of, is_bare, trimmed_start, trimmed_end}
use Rattle.text.proofs.Groups.{past_end, past-within}

-- ---- its length and bytes
pub bytes-none : (t : List ℕ) → length t ≡ 0 → bytes_of t ≡ Length
unfolding bytes_of
bytes-none t h = rw (eq-eqb (length t) 0 h)

pub bytes-long : (t : List ℕ) → 2048 < length t → bytes_of t ≡ Length
unfolding bytes_of
bytes-long t h = simp (lt-ltb 2048 (length t) h, or-true)

-- b is the first position that holds a byte that a text may not hold
module _ (t : List ℕ) (some : length t ≡ 0 → ⊥) (fits : length t ≤ 2048) (b : ℕ) (first : b ≡ lead allowed t) where
  pub bytes-bad : b < length t → bytes_of t ≡ Byte b
  unfolding bytes_of
  bytes-bad h = rw (← first, ne_eqb (length t) 0 some, le-ltb 2048 (length t) fits, lt-ltb b (length t) h)

  pub bytes-sound : length t ≤ b → bytes_of t ≡ Sound
  unfolding bytes_of
  bytes-sound h = rw (← first, ne_eqb (length t) 0 some, le-ltb 2048 (length t) fits, le-ltb b (length t) h)

-- ---- what follows position p
pub junk-there : (t : List ℕ) (p s : ℕ) → past_parting t p ≡ s → s < length t → junk_from t p ≡ Some s
unfolding junk_from
junk-there t p s e h = rw (e, lt-ltb s (length t) h)

pub junk-none : (t : List ℕ) (p s : ℕ) → past_parting t p ≡ s → length t ≤ s → junk_from t p ≡ None
unfolding junk_from
junk-none t p s e h = rw (e, le-ltb s (length t) h)

-- ---- a text whose first "=" is at q
module _ (t : List ℕ) (q : ℕ) (equals : q ≡ equals_at t) where
  pub tail_none : length t ≤ q → tail_of t ≡ None
  unfolding tail_of
  tail_none h = rw (← equals) (junk-none t (q + 1) (length t) (past_end t (q + 1) (omega arith)) (omega arith))

  -- s is the first position after it that holds no parting byte
  module _ (s : ℕ) (inside : q < length t) (past : s ≡ q + 1 + lead parting (drop (q + 1) t)) where
    at-s : past_parting t (q + 1) ≡ s
    at-s = past-within t (q + 1) (omega arith) ∙ sym past

    pub tail-junk : s < length t → tail_of t ≡ Some s
    unfolding tail_of
    tail-junk h = rw (← equals) (junk-there t (q + 1) s at-s h)

    pub tail-clear : length t ≤ s → tail_of t ≡ None
    unfolding tail_of
    tail-clear h = rw (← equals) (junk-none t (q + 1) s at-s h)

  -- s is the first position that holds no parting byte
  module _ (s : ℕ) (first : s ≡ lead parting t) where
    pub trimmed-none : q ≤ s → (trimmed_start t ≡ length t) × (trimmed_end t ≡ length t)
    unfolding trimmed_start trimmed_end is_bare
    trimmed-none h = (rw (← equals, ← first, le-leb q s h), rw (← equals, ← first, le-leb q s h))

    pub trimmed-start : s < q → trimmed_start t ≡ s
    unfolding trimmed_start is_bare
    trimmed-start h = rw (← equals, ← first, lt-leb q s h)

    pub trimmed-equals : s < q → q < length t → trimmed_end t ≡ q + 1
    unfolding trimmed_end is_bare
    trimmed-equals h k = rw (← equals, ← first, lt-leb q s h, lt-ltb q (length t) k)

    pub trimmed-last : s < q → length t ≤ q → trimmed_end t ≡ last_end t
    unfolding trimmed_end is_bare
    trimmed-last h k = rw (← equals, ← first, lt-leb q s h, le-ltb q (length t) k)
