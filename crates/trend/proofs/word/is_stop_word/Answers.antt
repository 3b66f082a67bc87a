-- WS or RMK.
use Rattle.trend.proofs.Turns.{stop_is}
use Rattle.trend.proofs.word.is_stop_word.Goals as goal

pub returns : goal.returns
returns c = stop_is c.args.g.now c.has_pattern-shear.ensures c.has_pattern-remarks.ensures
