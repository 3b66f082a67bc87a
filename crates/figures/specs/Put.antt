-- Text put over a buffer: what the printers' contracts cite. The buffer may be too short: then only the bytes that have room are written.
-- Assumes nothing: these are definitions.
use Rattle.std.specs.Prelude.{◌≡◌, ℕ, ◌+◌, ◌-◌, min, List, length}
use Rattle.std.proofs.lemmas.List.Edits.{sets}

-- b with the bytes of x stored over it, one after the other from `at`; what would stand past its end is left out
unfoldable pub splice : List ℕ → ℕ → List ℕ → List ℕ
splice b at x = sets b at x

-- the position after x put over b from `at`: as many bytes on as b has room for
unfoldable pub after : List ℕ → ℕ → List ℕ → ℕ
after b at x = at + min (length x) (length b - at)

-- e is b with x put over it from `at`, and r is the position after it
pub record Put (b : List ℕ) (at : ℕ) (x : List ℕ) (r : ℕ) (e : List ℕ) : Type 0 where
  pub next : r ≡ after b at x
  pub text : e ≡ splice b at x
