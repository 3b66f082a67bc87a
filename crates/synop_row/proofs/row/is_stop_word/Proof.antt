-- `row::is_stop_word` meets its contract: by the group's length.
-- Assumes nothing.
use borrow.Author.Rules.{rules}
use Rattle.synop_row.proofs.Tests.{stop-word-short, stop-word-long}
use Rattle.synop_row.proofs.row.is_stop_word.Statement.{statement}
use Rattle.synop_row.proofs.row.is_stop_word.Tie as tie

pub is_stop_word_spec : {M : Type 1} → statement M
is_stop_word_spec =
    tie.close
    (tie.spec
    (λ c κs. search rules) (λ c κs. search rules) (λ c κs. search rules)
    (λ c. stop-word-short c.args.g.now c.if-g-eq3.true c.has_pattern.ensures c.has_pattern-then-g-eq3.ensures c.has_pattern-then-g-eq3-2.ensures)
    (λ c κs. search rules)
    (λ c. stop-word-long c.args.g.now c.if-g-eq3.false c.has_pattern-2.ensures))
