-- The group that was cut, by its turn and by what it says.
use Rattle.std.proofs.Common.{◌≡◌, sym, ◌∙◌}
use Rattle.text.proofs.Groups.{when-group, when-end}
use Rattle.shapes.specs.Pattern.{has_any}
use Rattle.record.specs.declared.aerodrome.Leg.{Leg}
use Rattle.taf_row.specs.Row.{row, change_words}
use Rattle.taf_row.proofs.Rows.{row-few}
use Rattle.taf.specs.Said.{part_said}
use Rattle.body.proofs.Meets.{meets-halt, meets-fault, meets-said}
use Rattle.taf.proofs.part.meet.Goals as goal

pub returns-in_default : goal.returns-in_default
returns-in_default c = when-end _ _ _ (sym c.in_default.is ∙ c.next_group.ensures)

pub returns-in-Halt : goal.returns-in-Halt
returns-in-Halt c = meets-halt (row _ _) (has_any (change_words _)) part_said _ _ (λ (r : Leg). r.body ≡ c.args.body) (when-group c.args.text.now c.args.from _ _ (sym c.in-Group.is ∙ c.next_group.ensures)) c.part-g.ensures c.decide.ensures c.in-Halt.is

pub returns-in-Refused : goal.returns-in-Refused
returns-in-Refused c = meets-fault (row _ _) (has_any (change_words _)) part_said _ _ (λ (r : Leg). r.body ≡ c.args.body) (when-group c.args.text.now c.args.from _ _ (sym c.in-Group.is ∙ c.next_group.ensures)) c.part-g.ensures c.decide.ensures c.in-Refused.is

pub returns-in-At : goal.returns-in-At
returns-in-At c = meets-said (row _ _) (has_any (change_words _)) part_said _ _ (λ (r : Leg). r.body ≡ c.args.body) (when-group c.args.text.now c.args.from _ _ (sym c.in-Group.is ∙ c.next_group.ensures)) c.part-g.ensures c.decide.ensures c.in-At.is (row-few _ _) c.say_at-said.result c.say_at-said.ensures c.meet_said.ensures
