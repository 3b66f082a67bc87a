-- Many codes at once: the loop that stores their numbers one after the other.
-- Assumes nothing.
use mathlib.Core.Path.{◌≡◌, refl, sym, ap, ◌∙◌}
use mathlib.Core.Bool.{false, ◌&&◌, false≢true}
use mathlib.Core.List.{List, [], ◌∷◌, map, ◌++◌}
use mathlib.Core.Logic.{⊎_elim}
use Prim.Native.Nat.{ℕ, zero, suc, ◌<◌, ◌≤◌}
use native.Mathlib.Omega.{arith}
use lib.Dec.{ltb}
use lib.ListN.{length, get_or, set, take, drop}
use borrow.Author.Tests.{lt-ltb}
use Rattle.scales.proofs.Laws.{reached}
use Rattle.cloud_table.specs.Heights.{height_or_mark, room}

-- the heights when the numbers of the first n codes are stored
abbrev pub stored : List ℕ → List ℕ → ℕ → List ℕ
stored codes heights n = take n (map height_or_mark codes) ++ drop n heights

-- one more
pub stored_on : (codes heights : List ℕ) (i : ℕ) → i < length codes → i < length heights
    → set (stored codes heights i) i (height_or_mark (get_or codes i 0)) ≡ stored codes heights (suc i)
stored_on [] hs i h k = absurd (omega arith)
stored_on (c ∷ cs) [] i h k = absurd (omega arith)
stored_on (c ∷ cs) (x ∷ hs) zero h k = refl
stored_on (c ∷ cs) (x ∷ hs) (suc i) h k = ap {B = List ℕ} (λ r. height_or_mark c ∷ r) (stored_on cs hs i (omega arith) (omega arith))

-- the loop ends where one of the two slices does
pub room-reached : (codes heights : List ℕ) (i : ℕ) → i ≤ length codes → i ≤ length heights
    → (ltb i (length codes) && ltb i (length heights)) ≡ false → i ≡ room codes heights
room-reached codes heights i h k e =
    ⊎_elim
    (λ a. omega arith)
    (λ a. ⊎_elim (λ b. omega arith) (λ b. absurd (false≢true (sym e ∙ rw (lt-ltb i (length codes) a, lt-ltb i (length heights) b)))) (reached (length heights) i))
    (reached (length codes) i)
