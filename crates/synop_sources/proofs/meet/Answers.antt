-- The group that was cut, by its turn.
use Rattle.std.proofs.Common.{refl}
use Rattle.synop_sources.proofs.Steps.{met-end, met-turn}
use Rattle.synop_sources.proofs.meet.Goals as goal

pub returns-in_default : goal.returns-in_default
returns-in_default c = met-end _ _ _ _ _ _ c.next_group.ensures c.in_default.is

pub returns-in-Halt : goal.returns-in-Halt
returns-in-Halt c = met-turn _ _ _ _ _ _ c.next_group.ensures c.in-Group.is c.part-g.ensures c.turn_in-turn.ensures c.in-Halt.is c.meet_word.ensures

pub returns-in-Refused : goal.returns-in-Refused
returns-in-Refused c = met-turn _ _ _ _ _ _ c.next_group.ensures c.in-Group.is c.part-g.ensures c.turn_in-turn.ensures c.in-Refused.is refl

pub returns-in-At : goal.returns-in-At
returns-in-At c = met-turn _ _ _ _ _ _ c.next_group.ensures c.in-Group.is c.part-g.ensures c.turn_in-turn.ensures c.in-At.is refl
