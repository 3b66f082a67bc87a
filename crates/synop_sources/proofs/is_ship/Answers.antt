-- By the text's first group, if it has one.
use Rattle.std.proofs.Common.{sym, ◌∙◌}
use Rattle.text.proofs.Groups.{when-group, when-end}
use Rattle.synop_sources.specs.Trail.{ship_in}
use Rattle.synop_sources.proofs.is_ship.Goals as goal

pub returns-in_default : goal.returns-in_default
unfolding ship_in
returns-in_default c = rw (when-end _ _ _ (sym c.in_default.is ∙ c.next_group.ensures))

pub returns : goal.returns
unfolding ship_in
returns c = rw ((when-group _ _ _ _ (sym c.in-Group.is ∙ c.next_group.ensures)).groups, ← c.part.ensures) c.has_pattern.ensures
