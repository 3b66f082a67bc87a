-- `shapes::scan::rest_from` meets its contract: what stands past `at` bytes, and nothing past the end.
-- Assumes nothing.
use mathlib.Core.Path.{sym}
use lib.ListN.{drop_of_length-le}
use lib.Seq.{take-nil, drop-length}
use borrow.Author.Rules.{rules}
use Rattle.shapes.proofs.Splits.{all_from}
use Rattle.shapes.proofs.scan.rest_from.Statement.{statement}
use Rattle.shapes.proofs.scan.rest_from.Tie as tie

pub rest_from_spec : {M : Type 1} → statement M
rest_from_spec =
    tie.close
    (tie.spec
    (λ c. search rules) (λ c. search rules) (λ c. search rules)
    (λ c. all_from c.args.g.now c.args.at)
    (λ c. search rules) (λ c. search rules) (λ c. search rules)
    (λ c. rw (drop-length, take-nil) (sym (drop_of_length-le c.args.g.now {i = c.args.at} c.if-at-g.false))))
