-- What the round trip promises of runway states, in the words of documents 01 and 02: each exact field comes back as it was, a depth as the reading of its
-- class, within the class and never above it.
-- Assumes nothing.
use Rattle.std.specs.Prelude.{Option}
use Prim.Native.Nat.{ℕ}
use mathlib.Core.Path.{◌≡◌, refl}
use lib.ListN.{take, drop}
use lib.Dec.{eqb}
use Rattle.scales.specs.Depth.{depth}
use Rattle.scales.proofs.Down.{Down, down}
use Rattle.scales.proofs.DepthLaws.{depth-laws}
use Rattle.record.specs.declared.aerodrome.Depth.{Depth}
use Rattle.record.specs.declared.aerodrome.Depth.TheVariants as deep
use Rattle.record.specs.declared.aerodrome.Condition.{Condition}
use Rattle.record.specs.declared.aerodrome.Condition.TheVariants as condition
use Rattle.record.specs.declared.aerodrome.RunwayState.{RunwayState}
use Rattle.record.specs.declared.aerodrome.RunwayStates.{RunwayStates}
use Rattle.record.proofs.Counted.{taken, dropped, EachRead, each_read}
use Rattle.runway_states.specs.State.{class_depth, class_condition, class_state, class_states}
use Rattle.runway_states.proofs.StatesBack.{Counted}

-- a depth and its reading
pub data DepthKept : Depth → Depth → Type 0 where
  no-depth : DepthKept deep.Missing deep.Missing
  closed : DepthKept deep.Closed deep.Closed
  lower : {m n : ℕ} → Down depth m n → DepthKept (deep.Millimetres m) (deep.Millimetres n)

-- "The numbers scaled here are the rounded ones; all else in a record .. is carried exactly."
pub data ConditionKept : Condition → Condition → Type 0 where
  cleared : ConditionKept condition.Cleared condition.Cleared
  covered : {d e b : Option ℕ} {h q : Depth} → DepthKept h q → ConditionKept (condition.Covered d e h b) (condition.Covered d e q b)

pub record StateKept (s q : RunwayState) : Type 0 where
  pub runway : q.runway ≡ s.runway
  pub condition : ConditionKept s.condition q.condition

-- SNOCLO, and the states up to the count; what stands past it is as it was
pub record StatesKept (ss qs : RunwayStates) : Type 0 where
  pub snoclo : qs.snoclo ≡ ss.snoclo
  pub count : qs.count ≡ ss.count
  pub states : EachRead StateKept (take ss.count ss.items) (take ss.count qs.items)
  pub past : drop ss.count qs.items ≡ drop ss.count ss.items

depth-kept : (h : Depth) → DepthKept h (class_depth h)
depth-kept deep.Missing = no-depth
depth-kept deep.Closed = closed
depth-kept (deep.Millimetres m) = lower (down eqb depth depth-laws m)

condition-kept : (c : Condition) → ConditionKept c (class_condition c)
condition-kept condition.Cleared = cleared
condition-kept (condition.Covered d e h b) = covered (depth-kept h)

state-kept : (s : RunwayState) → StateKept s (class_state s)
state-kept s = record { runway = refl; condition = condition-kept s.condition }

pub states-kept : (ss : RunwayStates) → Counted ss → StatesKept ss (class_states ss)
states-kept ss l =
    record {
      snoclo = refl;
      count = refl;
      states = rw (taken class_state ss.count ss.items l.many) (each_read StateKept class_state (λ s f. state-kept s) (take ss.count ss.items) l.each);
      past = dropped class_state ss.count ss.items l.many;
    }
