-- How a part of a report is read from group to group, as the loop of its reader meets them: for any report, part and row, and whatever follows the part.
-- Assumes nothing.
use Rattle.std.specs.Prelude.{Err, Ok}
use Prim.Native.Nat.{ℕ, ◌+◌}
use mathlib.Core.Path.{◌≡◌, sym, ap, ◌∙◌}
use mathlib.Core.List.{List, [], ◌∷◌}
use lib.ListN.{length}
use Rattle.text.specs.declared.kinds.Refusal.{Refusal}
use Rattle.text.specs.Groups.{groups_from, part_of}
use Rattle.text.specs.Text.{tail_of}
use Rattle.text.proofs.Groups.{Follows}
use Rattle.places.specs.declared.kinds.Turn.{Turn}
use Rattle.places.specs.declared.kinds.Turn.TheVariants as turn
use Rattle.places.specs.Engine.{Group, place_at, onward, On, Halt, Stop, Outcome, Fault}
use Rattle.places.specs.Answer.{outcome_of, end_verdict}
use Rattle.places.specs.Parts.{step_by, run_to, Part, Further, turned, unless, owes, part_from}
use Rattle.places.specs.Turn.{turn_at}
use Rattle.places.proofs.Loop.{turn_step, turn-steps}
use Rattle.places.proofs.Turns.{ends_so}

module _ {T P W R : Type 0} (part : Part T P W R) (more : Further T P W) (text : List ℕ) where
  -- what the text is read as from a position on
  unfoldable pub reading : ℕ → ℕ → R → ℕ → Outcome T
  reading c k r at = part_from (tail_of text) (length text) part more c k r (groups_from text at)

  module _ (c k : ℕ) (r : R) (at : ℕ) where
    pub reads_over : groups_from text at ≡ [] → reading c k r at ≡ outcome_of (end_verdict (tail_of text) (length text) (owes part c k r)) (part.takes r)
    unfolding reading run_to
    reads_over none = rw none (ends_so (tail_of text) (length text) (owes part c k r) (part.takes r))

    module _ {from to : ℕ} {g : Group} {u : Turn} (follows : Follows text at from to) (cut : g ≡ part_of text from to)
        (is : u ≡ turn_at part.row part.halts c k g) where
      groups : groups_from text at ≡ record { start = from; bytes = g } ∷ groups_from text to
      groups = rw cut follows.groups

      steps : (v : Turn) → u ≡ v → step_by part.row part.halts c k r g ≡ turn_step part.row r g v
      steps v e = turn-steps part.row part.halts c k g r ∙ ap (turn_step part.row r g) (sym is ∙ e)

      -- a word: an absence first, then what it comes to
      pub reads-halt : u ≡ turn.Halt → reading c k r at
          ≡ unless (owes part c k r) from (turned more (part.takes r) (record { start = from; bytes = g }) (groups_from text to) (part.word (part.takes r) g))
      unfolding reading run_to
      reads-halt e = let s : step_by part.row part.halts c k r g ≡ Halt = steps turn.Halt e in rw (groups, s)

      pub reads-fault : {f : Refusal} → u ≡ turn.Refused f → reading c k r at ≡ Fault f from
      unfolding reading run_to
      reads-fault {f} e = let s : step_by part.row part.halts c k r g ≡ Stop f = steps (turn.Refused f) e in rw (groups, s)

      -- the group goes to place i, and is read there
      module _ {i j : ℕ} (e : u ≡ turn.At i j) where
        pub reads_on : {r' : R} {p : ℕ} → (place_at part.row i).read j g r ≡ Ok r' → p ≡ onward part.row i → reading c k r at ≡ reading p (j + 1) r' to
        unfolding reading run_to
        reads_on {r'} good past =
            let s : step_by part.row part.halts c k r g ≡ On (onward part.row i) (j + 1) r' = steps (turn.At i j) e ∙ rw good in
            rw (past, groups, s)

        pub reads-bad : {f : Refusal} → (place_at part.row i).read j g r ≡ Err f → reading c k r at ≡ Fault f from
        unfolding reading run_to
        reads-bad {f} bad =
            let s : step_by part.row part.halts c k r g ≡ Stop f = steps (turn.At i j) e ∙ rw bad in
            rw (groups, s)
