-- The row as the code's arrays hold it, and its stop words as the code tests them.
-- Assumes nothing.
use mathlib.Core.Path.{◌≡◌, refl, sym}
use mathlib.Core.Bool.{Bool, true, false, ◌||◌, or_assoc, or-false}
use native.Mathlib.Omega.{arith}
use lib.ListN.{length}
use Rattle.figures.specs.Quote.{bytes}
use Rattle.shapes.specs.Pattern.{Pattern, has_pattern, has_any}
use Rattle.shapes.proofs.Patterns.{starless, pattern-length}
use Rattle.places.specs.Engine.{Group}
use Rattle.synop_row.specs.declared.kinds.Needs.{Needs}
use Rattle.synop_row.specs.Row.{row, stop_words}

pub row-length : (n : Needs) → length (row n) ≡ 10
unfolding row
row-length n = refl

-- ---- stop words

-- a group of another length does not fit a pattern with no '*'
unlike : (g : Group) (p : Pattern) → starless p ≡ true → (length g ≡ length p → ⊥) → has_pattern g p ≡ false
unlike g p plain other = go (has_pattern g p) refl
  where
    go : (t : Bool) → has_pattern g p ≡ t → has_pattern g p ≡ false
    go true e = absurd (other (pattern-length g p plain e))
    go false e = e

-- of three bytes it can only be 333, 444 or 555
pub stop-word-short : (g : Group) {b c d : Bool} → length g ≡ 3
    → b ≡ has_pattern g (bytes "333") → c ≡ has_pattern g (bytes "444") → d ≡ has_pattern g (bytes "555") → ((b || c) || d) ≡ has_any stop_words g
unfolding stop_words has_any
stop-word-short g {b} {c} {d} three p q r = rw (unlike g (bytes "222??") refl (λ e. omega arith), ← p, ← q, ← r, or-false d) (or_assoc b c d)

-- of any other length only 222 with two more
pub stop-word-long : (g : Group) {a : Bool} → (length g ≡ 3 → ⊥) → a ≡ has_pattern g (bytes "222??") → a ≡ has_any stop_words g
unfolding stop_words has_any
stop-word-long g {a} other p = rw (← p, unlike g (bytes "333") refl other, unlike g (bytes "444") refl other, unlike g (bytes "555") refl other) (sym (or-false a))
