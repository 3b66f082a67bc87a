-- The group that was cut belongs to the word before it, or goes by its turn.
use Rattle.std.proofs.Common.{refl, arith}
use Rattle.taf_sources.specs.Trail.{row_of}
use Rattle.taf_sources.proofs.Steps.{turn-few, met-end, met-joined, met-turn}
use Rattle.taf_sources.proofs.meet.Goals as goal

pub returns-in_default : goal.returns-in_default
returns-in_default c = met-end _ _ _ _ _ _ _ c.next_group.ensures c.in_default.is

pub returns-then-does_belong : goal.returns-then-does_belong
returns-then-does_belong c =
    met-joined _ _ _ _ _ _ _ c.next_group.ensures c.in-Group.is c.part-g.ensures c.does_belong.ensures c.if-does_belong.true c.join.ensures

pub overflow_add-result : goal.overflow_add-result
overflow_add-result c = omega (arith, turn-few _ _ _ _ _ c.decide.ensures c.in-At.is)

pub returns-in-Halt : goal.returns-in-Halt
returns-in-Halt c =
    met-turn _ _ _ _ _ _ _ c.next_group.ensures c.in-Group.is c.part-g.ensures c.does_belong.ensures c.if-does_belong.false c.row_of.ensures c.decide.ensures c.in-Halt.is (c.meet_word.ensures _)

pub returns-in-Refused : goal.returns-in-Refused
returns-in-Refused c =
    met-turn _ _ _ _ _ _ _ c.next_group.ensures c.in-Group.is c.part-g.ensures c.does_belong.ensures c.if-does_belong.false c.row_of.ensures c.decide.ensures c.in-Refused.is refl

pub returns-in-At : goal.returns-in-At
returns-in-At c =
    let a = c.args in
    met-turn _ _ _ _ _ _ _ c.next_group.ensures c.in-Group.is c.part-g.ensures c.does_belong.ensures c.if-does_belong.false c.row_of.ensures c.decide.ensures c.in-At.is (rw (c.go_past.ensures a.edition (row_of a.part a.opener)))
