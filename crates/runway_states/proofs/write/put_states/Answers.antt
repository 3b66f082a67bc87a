-- The states, then SNOCLO.
use Rattle.text.proofs.Writes.{write-groups}
use Rattle.runway_states.specs.State.{show_states}
use Rattle.runway_states.proofs.write.put_states.Goals as goal

pub returns : goal.returns
returns c = unfold show_states in write-groups _ _ c.put_each-told.ensures c.put_if.ensures
