-- `section3::read::read_section3` meets its contract: the reading from a position on stays what the groups are read as.
-- Assumes nothing.
use borrow.Author.Rules.{rules}
use Prim.Native.Nat.{◌-◌}
use native.Mathlib.Omega.{arith}
use mathlib.Core.Path.{◌≡◌, sym, ◌∙◌}
use lib.ListN.{length}
use Rattle.text.proofs.Groups.{Follows, when-group, when-end, from_end}
use Rattle.places.specs.Parts.{Further}
use Rattle.places.proofs.Loop.{turn-room}
use Rattle.record.specs.declared.surface.Section3.{Section3}
use Rattle.record.specs.declared.surface.Synop.{Synop}
use Rattle.record.specs.Blank.{blank_section3}
use Rattle.section3.specs.Row.{row, halts, part_in}
use Rattle.section3.specs.Step.{Opened}
use Rattle.section3.proofs.Going.{reading}
use Rattle.section3.proofs.Turns.{row-few}
use Rattle.section3.proofs.Steps.{done-over, done-halt, done-fault, done-bad, goes_on}
use Rattle.section3.proofs.read.read_section3.Statement.{statement}
use Rattle.section3.proofs.read.read_section3.Tie as tie

abbrev Inv : tie.invariant-loop-at
Inv text from section3₀ place₀ count₀ at₀ section3 place count at = (takes : Section3 → Synop) (more : Further Synop Section3 Opened)
    → reading (part_in takes) more text 0 0 blank_section3 from ≡ reading (part_in takes) more text place count section3 at

abbrev μ : tie.decreases-loop-at
μ text from section3₀ place₀ count₀ at₀ section3 place count at = length text - at

-- past the next group's cut
follows : (c : tie.In-Group Inv μ) → Follows c.args.text.now c.loop-at.at c.in-Group.start c.in-Group.end
follows c = when-group _ _ _ _ (sym c.in-Group.is ∙ c.next_group.ensures)

pub read_section3_spec : {M : Type 1} → statement M
read_section3_spec =
    tie.close
    (tie.spec Inv μ
    (λ c κs. search rules)
    (λ c takes more. rw c.blank_section3-section3.ensures)
    (λ c κs. search rules) (λ c. search rules) (λ c. search rules) (λ c κs. search rules) (λ c κs. search rules)
    (λ c. done-over _ _ _ _ _ _ c.loop-at.invariant c.end_section.ensures c.end_verdict.ensures (when-end _ _ _ (sym c.in_default.is ∙ c.next_group.ensures)))
    (λ c κs. search rules) (λ c κs. search rules) (λ c. search rules) (λ c κs. search rules)
    (λ c. done-halt _ _ _ _ _ _ c.loop-at.invariant (follows c.before.before.before.before) c.part-g.ensures c.decide-turn.ensures c.end_section-in-Halt.ensures c.in-Halt.is)
    (λ c. search rules) (λ c κs. search rules)
    (λ c. done-fault _ _ _ _ _ _ c.loop-at.invariant (follows c.before.before.before.before) c.part-g.ensures c.decide-turn.ensures c.end_section-in-Refused.ensures c.in-Refused.is)
    (λ c. search rules) (λ c κs. search rules) (λ c. search rules) (λ c κs. search rules)
    (λ c. done-bad _ _ _ _ _ _ c.loop-at.invariant (follows c.before.before.before.before.before.before.before) c.part-g.ensures c.decide-turn.ensures c.in-At.is c.say_at-told.result c.say_at-told.ensures c.end_section-in-Refused-told.ensures c.in-Refused-told.is)
    (λ c κs. search rules)
    (λ c. omega (arith, turn-room row halts _ _ _ 2048 row-few c.decide-turn.ensures c.in-At.is))
    (λ c. omega (arith, follows c.before.before.before.before.before.before.before))
    (λ c. goes_on _ _ _ _ _ _ c.loop-at.invariant (follows c.before.before.before.before.before.before.before) c.part-g.ensures c.decide-turn.ensures c.in-At.is c.say_at-told.result c.say_at-told.ensures c.in_default-told.in_default-told-own.keys2 c.with_told-section3.ensures)
    (λ c κs. search rules) (λ c κs. search rules)
    (λ c. done-over _ _ _ _ _ _ c.loop-at.invariant c.end_section-2.ensures c.end_verdict-2.ensures (from_end _ _ c.loop-at-test.false)))
