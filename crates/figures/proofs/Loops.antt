-- What a loop over the items of a list has left at each turn.
-- Assumes nothing.
use Rattle.std.proofs.Common.{◌≡◌, ℕ, ◌+◌, ◌<◌, List, ◌∷◌, drop, length, get_or, add-one, drop-cons}

-- the turn of number n takes the first of what is left
pub next_of : {A : Type 0} (xs : List A) (n : ℕ) (x : A) → (n < length xs) × (x ≡ get_or xs n x) → drop n xs ≡ x ∷ drop (n + 1) xs
next_of xs n x turn = rw (add-one, drop-cons xs n x turn.0, ← turn.1)
