-- The places of runway states: what is written at each of states that are judged fine has the place's shape, takes a known room, and is read back as what
-- is put.
-- Assumes nothing.
use Rattle.std.specs.Prelude.{Ok}
use Prim.Native.Nat.{ℕ}
use native.Mathlib.Omega.{arith}
use mathlib.Core.Path.{◌≡◌, refl}
use mathlib.Core.Bool.{Bool, true, false}
use mathlib.Core.List.{List, [], ◌∷◌}
use borrow.Author.Tests.{lt-ltb}
use Rattle.shapes.specs.Pattern.{low, high, fits, has_pattern, has_any}
use Rattle.places.proofs.ReadBack.{one-pattern, fill}
use Rattle.places.proofs.Sizes.{measured, sized-any, sized-each}
use Rattle.places.proofs.Kept.{Kept, keep_one, keep-none, keep-each}
use Rattle.record.specs.declared.aerodrome.RunwayState.{RunwayState}
use Rattle.record.specs.declared.aerodrome.RunwayStates.{RunwayStates}
use Rattle.record.specs.Observation.{blank_state, blank_states}
use Rattle.elements.proofs.Lists.{fill-listed}
use Rattle.runway_states.specs.State.{state_shapes, snoclo_shape, show_state, show_states, class_state, states_place, snoclo_place, beside_place}
use Rattle.runway_states.proofs.StateBack.{state-back}
use Rattle.runway_states.proofs.StatesBack.{Fit, Counted, states-shaped, states-few}

states-measured : measured 8 state_shapes ≡ true
unfolding low high
states-measured = refl

-- the states, read into none
abbrev holding : List RunwayState → ℕ → RunwayStates
holding items count = record { items = items; count = count; snoclo = false }

module _ (ss : RunwayStates) (l : Counted ss) where
  states-filled : fill states_place 0 (show_states ss) blank_states ≡ Ok (states_place.put ss blank_states)
  unfolding show_states
  states-filled =
      fill-listed states_place holding show_state class_state blank_state 4 (Fit ss.snoclo)
      (λ k xs s room f. rw (state-back s f.1.0, lt-ltb k 4 room)) l

  pub kept-states : Kept states_place 8 ss blank_states
  kept-states =
      let s = states-shaped ss l in
      keep-each refl s (sized-each (λ g. has_any state_shapes g ≡ true) 8 state_shapes (show_states ss) states-measured s) (states-few ss l) states-filled

-- SNOCLO, where no state was read
pub kept-snoclo : (ss acc : RunwayStates) → (ss.snoclo ≡ true → acc.count ≡ 0) → acc.snoclo ≡ false → Kept snoclo_place 6 ss acc
unfolding has_pattern fits low high
kept-snoclo ss acc alone unset = go ss.snoclo refl
  where
    go : (b : Bool) → ss.snoclo ≡ b → Kept snoclo_place 6 ss acc
    go true is =
        keep_one snoclo_shape (rw is) refl (one-pattern snoclo_shape snoclo_shape refl) (sized-any 6 (snoclo_shape ∷ []) snoclo_shape refl (one-pattern snoclo_shape snoclo_shape refl)) (omega arith)
        (rw (alone is, is))
    go false is = keep-none (rw is) refl (rw (is, ← unset))

-- after it nothing is written
pub kept-beside : (ss acc : RunwayStates) → Kept beside_place 0 ss acc
kept-beside ss acc = keep-none refl refl refl
