-- Runway states of records that no text is read as: the rulings' examples of what the writer judges and writes.
-- Assumes nothing.
use Rattle.std.specs.Prelude.{Err, None, Ok, Some}
use Prim.Native.Nat.{ℕ, ◌-◌}
use mathlib.Core.Path.{◌≡◌, refl}
use mathlib.Core.Bool.{Bool, true, false}
use mathlib.Core.List.{List, [], ◌∷◌, ◌++◌, map}
use lib.ListN.{length, replicate}
use Rattle.figures.specs.Quote.{bytes}
use Rattle.figures.specs.Figures.{figures, number_text, slashes, field_text}
use Rattle.text.specs.declared.kinds.Refusal.TheVariants as refusal
use Rattle.scales.specs.Scale.{run, class_in}
use Rattle.scales.specs.Metres.{metres_figure}
use Rattle.scales.specs.Depth as scale
use Rattle.record.specs.declared.aerodrome.Depth.{Depth}
use Rattle.record.specs.declared.aerodrome.Depth.TheVariants as deep
use Rattle.record.specs.declared.aerodrome.Condition.TheVariants as condition
use Rattle.record.specs.declared.aerodrome.RunwayState.{RunwayState}
use Rattle.record.specs.declared.aerodrome.RunwayStates.{RunwayStates}
use Rattle.record.specs.Observation.{blank_state}
use Rattle.runway_states.specs.State.{show_state, show_states, judge_states}

-- a runway with a deposit of this depth, of which no more is told
abbrev pub under : ℕ → Depth → RunwayState
under runway depth = record { runway = Some runway; condition = condition.Covered None None depth None }

-- these states, beside SNOCLO or not
abbrev pub states_of : Bool → List RunwayState → RunwayStates
states_of snoclo ss = record { items = ss ++ replicate (4 - length ss) blank_state; count = length ss; snoclo = snoclo }

-- 99 mm are written 90; 91 is written never, and 99 for a closed runway alone
pub depths-written : show_states (states_of false (under 24 (deep.Millimetres 99) ∷ under 24 (deep.Millimetres 149) ∷ under 24 (deep.Millimetres 99999) ∷ under 24 deep.Closed ∷ [])) ≡ bytes "24//90//" ∷ bytes "24//92//" ∷ bytes "24//98//" ∷ bytes "24//99//" ∷ []
unfolding show_states show_state field_text number_text slashes figures metres_figure scale.depth run class_in
depths-written = refl

-- beside SNOCLO the first state's own 11, then 7; a depth over 99,999 mm; five states
pub states-judged : map judge_states
    (states_of true (under 0 deep.Missing ∷ [])
    ∷ states_of true (under 24 deep.Missing ∷ under 0 deep.Missing ∷ [])
    ∷ states_of true []
    ∷ states_of false (under 24 (deep.Millimetres 100000) ∷ [])
    ∷ record { items = replicate 4 (under 24 deep.Missing); count = 5; snoclo = true } ∷ [])
    ≡ Err refusal.Value ∷ Err refusal.Disagreement ∷ Ok tt ∷ Err refusal.Value ∷ Err refusal.Value ∷ []
unfolding judge_states
states-judged = refl
