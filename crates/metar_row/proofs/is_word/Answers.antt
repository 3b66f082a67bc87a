-- One of the five words.
use Rattle.metar_row.proofs.Tests.{word-is}
use Rattle.metar_row.proofs.is_word.Goals as goal

pub returns : goal.returns
returns c = word-is c.args.g.now c.has_pattern-nosig.ensures c.has_pattern-becoming.ensures c.has_pattern-temporary.ensures c.has_pattern-shear.ensures c.has_pattern-remarks.ensures
