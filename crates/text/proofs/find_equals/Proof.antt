-- `text::find_equals` meets its contract: an "=" with none before it is the first, and else the bytes other than "=" reach as far as `reach` finds.
-- Assumes nothing.
use Prim.Native.Nat.{◌-◌}
use mathlib.Core.Path.{sym, ap, ◌∙◌}
use mathlib.Core.Bool.{not}
use native.Mathlib.Nat.{zero-add}
use native.Mathlib.Omega.{arith}
use borrow.Author.Rules.{rules}
use borrow.Author.Tests.{eq-eqb}
use lib.Seq.{length-take-le}
use Rattle.text.specs.Bytes.{other}
use Rattle.text.specs.Text.{equals_at}
use Rattle.text.proofs.Leads.{lead-before, last-le}
use Rattle.text.proofs.find_equals.Statement.{statement}
use Rattle.text.proofs.find_equals.Tie as tie

pub find_equals_spec : {M : Type 1} → statement M
unfolding equals_at
find_equals_spec =
    tie.close
    (tie.spec
    (λ c κs. search rules) (λ c. search rules)
    (λ c. omega (arith, last-le c.args.text.now))
    (λ c.
    let t = c.args.text.now in
    sym (length-take-le (c.find_last_end-end.result - 1) t (omega (arith, last-le t))))
    (λ c κs. search rules)
    (λ c.
    let d = c in
    let t = d.args.text.now in
    sym (lead-before other t _ (omega (arith, last-le t)) (sym c.are_all.ensures ∙ c.if-are_all.true) (ap not (eq-eqb _ 61 d.if-text-last-eq61.true))))
    (λ c κs. search rules)
    (λ c. c.reach.ensures ∙ zero-add _))
