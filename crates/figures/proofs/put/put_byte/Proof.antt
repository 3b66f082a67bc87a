-- `figures::put::put_byte` meets its contract: a store is a splice of one byte, and past the end there is none.
-- Assumes nothing.
use mathlib.Core.Path.{refl, sym}
use mathlib.Core.List.{[], ◌∷◌}
use native.Mathlib.Omega.{arith}
use borrow.Author.Rules.{rules}
use Rattle.figures.specs.Put.{splice, after}
use Rattle.figures.proofs.Puts.{splice-out}
use Rattle.figures.proofs.put.put_byte.Statement.{statement}
use Rattle.figures.proofs.put.put_byte.Tie as tie

pub put_byte_spec : {M : Type 1} → statement M
put_byte_spec =
    tie.close
    (tie.spec
    (λ c. search rules) (λ c. search rules) (λ c. search rules)
    (λ c. record { next = unfold after in omega arith; text = unfold splice in refl })
    (λ c.
    let a = c.args in
    record { next = unfold after in omega arith; text = sym (splice-out a.out.now a.at (a.b ∷ []) (omega arith)) }))
