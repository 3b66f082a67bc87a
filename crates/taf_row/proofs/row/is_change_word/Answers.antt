-- One of the four words.
use Rattle.taf_row.proofs.Rows.{change-word}
use Rattle.taf_row.proofs.row.is_change_word.Goals as goal

pub returns : goal.returns
returns c = change-word c.args.edition c.args.g.now c.has_pattern-becoming.ensures c.has_pattern-temporary.ensures c.has_pattern-probable.ensures c.is_from-from.ensures
