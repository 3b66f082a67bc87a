-- `figures::put::put_slashes` meets its contract: the first of five slashes, and no text past the width 5.
-- Assumes nothing.
use mathlib.Core.Path.{◌≡◌, refl, sym, ap, ◌∙◌}
use mathlib.Core.List.{◌∷◌}
use Prim.Native.Nat.{ℕ, zero, suc, ◌≤◌}
use native.Mathlib.Omega.{arith}
use lib.ListN.{length, take, replicate, length-replicate}
use borrow.Author.Rules.{rules}
use borrow.Author.Tests.{le-leb, lt-leb}
use Rattle.figures.specs.Figures.{slashes}
use Rattle.figures.proofs.Puts.{put-none}
use Rattle.figures.proofs.put.put_slashes.Statement.{statement}
use Rattle.figures.proofs.put.put_slashes.Tie as tie

first : (w n b : ℕ) → w ≤ n → take w (replicate n b) ≡ replicate w b
first zero n b h = refl
first (suc w) zero b h = absurd (omega arith)
first (suc w) (suc n) b h = ap (λ (l : _). b ∷ l) (first w n b (omega arith))

pub put_slashes_spec : {M : Type 1} → statement M
put_slashes_spec =
    tie.close
    (tie.spec
    (λ c. sym (ap length (first _ 5 47 c.if-width-le5.true) ∙ length-replicate _ 47))
    (λ c κs. search rules) (λ c. search rules)
    (λ c.
    let fits = c.if-width-le5.true in
    unfold slashes in rw (le-leb _ _ fits) (rw (first _ 5 47 fits) at c.put_text.ensures))
    (λ c. unfold slashes in rw (lt-leb _ _ c.if-width-le5.false) (put-none _ _)))
