-- RR, and what the runway is like.
use Rattle.figures.proofs.Puts.{then}
use Rattle.text.proofs.Writes.{write-group}
use Rattle.runway_states.specs.State.{show_state}
use Rattle.runway_states.proofs.write.put_state.Goals as goal

pub returns : goal.returns
returns c = unfold show_state in write-group c.open_group-opened.ensures (then c.put_two-named.ensures c.put_condition.ensures)
