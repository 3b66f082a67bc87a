-- `section::read_section` meets its contract: its groups are read, section 3 where it follows, and the report is answered with what they come to.
-- Assumes nothing.
use borrow.Author.Rules.{rules}
use mathlib.Core.Path.{◌∙◌}
use Rattle.synop_section.proofs.SectionSteps.{answered-end, answered-third}
use Rattle.synop_section.proofs.section.read_section.Statement.{statement}
use Rattle.synop_section.proofs.section.read_section.Tie as tie

pub read_section_spec : {M : Type 1} → statement M
read_section_spec =
    tie.close
    (tie.spec
    (λ c κs. search rules) (λ c κs. search rules) (λ c. search rules) (λ c κs. search rules) (λ c. search rules) (λ c κs. search rules) (λ c κs. search rules)
    (λ c. c.by_verdict.ensures ∙ answered-end c.args.text.now c.args.from c.args.report c.read_groups-read.result _ c.needs_of-needs.ensures c.read_groups-read.ensures c.in-End.is)
    (λ c. c.by_verdict-in-Section3.ensures ∙ answered-third c.args.text.now c.args.from c.args.report c.read_groups-read.result _ c.needs_of-needs.ensures c.read_groups-read.ensures c.read_section3-third.result c.in-Section3.is c.read_section3-third.ensures))
