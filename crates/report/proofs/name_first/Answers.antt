-- By the first group.
use Rattle.std.proofs.Common.{sym, ◌∙◌}
use Rattle.text.proofs.Groups.{when-group, when-end}
use Rattle.report.proofs.Names.{end_is}
use Rattle.report.proofs.name_first.Goals as goal

pub returns-in-End : goal.returns-in-End
returns-in-End c = rw (when-end c.args.text.now 0 _ (sym c.in-End.is ∙ c.next_group.ensures))

pub returns-in-Group : goal.returns-in-Group
returns-in-Group c =
    let t = c.args.text.now in
    let f = when-group t 0 _ _ (sym c.in-Group.is ∙ c.next_group.ensures) in
    rw (f.groups, end_is t _ _ f, ← c.part.ensures) c.name_group.ensures
