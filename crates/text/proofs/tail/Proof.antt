-- `text::tail` meets its contract: each return is one of the cases of `tail_of`.
-- Assumes nothing.
use mathlib.Core.Path.{sym}
use borrow.Author.Rules.{rules}
use Rattle.text.proofs.Texts.{tail_none, tail-junk, tail-clear}
use Rattle.text.proofs.tail.Statement.{statement}
use Rattle.text.proofs.tail.Tie as tie

pub tail_spec : {M : Type 1} → statement M
tail_spec =
    tie.close
    (tie.spec
    (λ c κs. search rules)
    (λ c. sym (tail_none c.args.text.now _ c.find_equals-equals.ensures c.if-text-equals.true))
    (λ c. search rules) (λ c κs. search rules)
    (λ c.
    let d = c in
    sym (tail-junk d.args.text.now _ d.find_equals-equals.ensures _ d.if-text-equals.false c.reach-place.ensures c.if-place-text.true))
    (λ c.
    let d = c in
    sym (tail-clear d.args.text.now _ d.find_equals-equals.ensures _ d.if-text-equals.false c.reach-place.ensures c.if-place-text.false)))
