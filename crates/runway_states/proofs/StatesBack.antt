-- The round trip of up to four runway states: what is written of those that stand is read back as their classes, and the rest is blank. Where the writer
-- judges them fine, none stands beside SNOCLO.
-- Assumes nothing.
use Rattle.std.specs.Prelude.{⊤, Ok, Result}
use Rattle.text.specs.declared.kinds.Refusal.{Refusal}
use Prim.Native.Nat.{◌≤◌}
use native.Mathlib.Omega.{arith}
use mathlib.Core.Path.{◌≡◌, refl, sym, ◌∙◌}
use mathlib.Core.Bool.{Bool, true, not, false≢true}
use mathlib.Core.List.{List, [], ◌∷◌, map}
use lib.ListN.{length, take, length-map}
use Rattle.text.specs.Judge.{judge}
use Rattle.text.proofs.Judging.{fine}
use Rattle.shapes.specs.Pattern.{has_any}
use Rattle.places.proofs.ReadBack.{All}
use Rattle.record.specs.declared.aerodrome.RunwayState.{RunwayState}
use Rattle.record.specs.declared.aerodrome.RunwayStates.{RunwayStates}
use Rattle.record.specs.Observation.{blank_state, blank_states}
use Rattle.record.specs.SilentAerodrome.{is_blank_state}
use Rattle.record.specs.Arrays.{Each}
use Rattle.record.proofs.AerodromeBlanks.{state-blank}
use Rattle.record.proofs.Counted.{Listed}
use Rattle.elements.proofs.Lists.{list-fair, list-judged, list-again}
use Rattle.runway_states.specs.State.{state_shapes, show_state, show_states, state_fits, judge_each_state, judge_states, class_state, class_states}
use Rattle.runway_states.proofs.StateBack.{state-shaped, state-again, state-classed}

-- ---- what is judged fine

-- one that may be any
abbrev pub Any : RunwayState → Type 0
Any s = Unit {0}

any-each : (ss : List RunwayState) → Each Any ss
any-each [] = tt
any-each (s ∷ ss) = (tt, any-each ss)

-- its figures are listed, and it does not stand beside SNOCLO
abbrev pub Fit : Bool → RunwayState → Type 0
Fit snoclo s = Any s × ((state_fits s ≡ true) × (not snoclo ≡ true))

-- at most four, each fit, and blank past them
abbrev pub Counted : RunwayStates → Type 0
Counted ss = Listed (Fit ss.snoclo) is_blank_state blank_state 4 ss.count ss.items

abbrev judge_one : Bool → RunwayState → Result ⊤ Refusal
judge_one snoclo s = judge (state_fits s) (not snoclo)

pub states-fit : (ss : RunwayStates) → length ss.items ≡ 4 → judge_states ss ≡ Ok tt → Counted ss
unfolding judge_states
states-fit ss four e =
    list-fair (judge_one ss.snoclo) (judge_each_state ss.snoclo) refl (λ x xs. refl) is_blank_state 4 ss.count ss.items
    (λ s h. fine (state_fits s) (not ss.snoclo) h) (λ s a h. state-blank s h) four (any-each ss.items) e

-- those of a record that says nothing
pub none-counted : Counted blank_states
none-counted = record { few = omega arith; each = tt; many = refl; past = refl; rest = refl }

-- SNOCLO stands alone
pub snoclo-alone : (ss : RunwayStates) → Counted ss → ss.snoclo ≡ true → ss.count ≡ 0
snoclo-alone ss l closed = sym l.many ∙ go (take ss.count ss.items) l.each
  where
    go : (xs : List RunwayState) → Each (Fit ss.snoclo) xs → length xs ≡ 0
    go [] a = refl
    go (x ∷ xs) a = absurd (false≢true (rw closed at a.0.1.1))

-- ---- what is written

shown-each : (snoclo : Bool) (ss : List RunwayState) → Each (Fit snoclo) ss → All (λ g. (has_any state_shapes g ≡ true) × (has_any state_shapes g ≡ true)) (map show_state ss)
shown-each snoclo [] a = tt
shown-each snoclo (s ∷ ss) a = let h = state-shaped s a.0.1.0 in ((h, h), shown-each snoclo ss a.1)

module _ (ss : RunwayStates) (l : Counted ss) where
  pub states-shaped : All (λ g. (has_any state_shapes g ≡ true) × (has_any state_shapes g ≡ true)) (show_states ss)
  unfolding show_states
  states-shaped = shown-each ss.snoclo (take ss.count ss.items) l.each

  pub states-few : length (show_states ss) ≤ 4
  unfolding show_states
  states-few = rw (length-map (take ss.count ss.items) show_state, l.many) l.few

  -- ---- the classes are written alike, and judged fine

  pub states-again : show_states (class_states ss) ≡ show_states ss
  unfolding show_states
  states-again = list-again (λ (s : RunwayState). show_state s ∷ []) (map show_state) refl (λ x xs. refl) l class_state (λ s f. rw (state-again s f.1.0))

  pub states-classed : judge_states (class_states ss) ≡ Ok tt
  unfolding judge_states
  states-classed =
      list-judged (judge_one ss.snoclo) (judge_each_state ss.snoclo) refl (λ x xs. refl) is_blank_state 4 ss.count ss.items class_state
      (λ s f. rw (state-classed s f.1.0, f.1.1)) l
