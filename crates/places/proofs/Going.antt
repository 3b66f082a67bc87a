-- How a reading goes on, group by group, for any row: what a kind's reader loop has seen, and what `run` and `step` say there.
-- Assumes nothing.
use Rattle.std.specs.Prelude.{Ok}
use Prim.Native.Nat.{ℕ, ◌+◌, ◌<◌}
use mathlib.Core.Path.{◌≡◌}
use mathlib.Core.Bool.{Bool, true, false, cond}
use mathlib.Core.List.{List, [], ◌∷◌}
use lib.ListN.{length, drop}
use native.Mathlib.Omega.{arith}
use borrow.Author.Tests.{lt-leb, lt-ltb}
use Rattle.text.specs.declared.kinds.Refusal.{Refusal}
use Rattle.text.specs.Groups.{groups_from}
use Rattle.text.specs.Text.{tail_of}
use Rattle.shapes.specs.Pattern.{Pattern, has_any}
use Rattle.places.specs.Seek.{seek, find_of, owed}
use Rattle.places.specs.Engine.{Group, Place, place_at, musts_of, taken, onward, On, Halt, Stop, step, Outcome, Fault, finish, closed, over, run}

module _ {R : Type 0} (row : List (Place R)) where
  -- a group at place i, where n stand, by what the place says of it
  module _ (i n : ℕ) (acc : R) (g : Group) where
    pub taken-good : (acc' : R) (b : Bool) → (place_at row i).ends ≡ b → (place_at row i).read n g acc ≡ Ok acc'
        → taken (onward row i) (n + 1) ((place_at row i).read n g acc) ≡ On (cond b (length row) i) (n + 1) acc'
    taken-good acc' b z e = rw (z, e)

  -- reading ends at a position of the text
  pub closes : (at c k : ℕ) (acc : R) (b : Bool) → owed k (drop c (musts_of row)) ≡ b → closed row at c k acc ≡ finish b at acc
  closes at c k acc b e = rw e

-- a group that has the shape of a row's first place, where none stands yet
module _ {R : Type 0} (p : Place R) (ps : List (Place R)) (words : List Pattern) (acc : R) (g : Group) where
  pub step-first : p.has g ≡ true → 0 < p.most → has_any words g ≡ false → step (p ∷ ps) words 0 0 acc g ≡ taken (onward (p ∷ ps) 0) 1 (p.read 0 g acc)
  unfolding step find_of seek
  step-first has room none = rw (lt-leb (length (p ∷ ps)) 0 (omega arith), none, has, lt-ltb 0 p.most room)

module _ {R : Type 0} (row : List (Place R)) (words : List Pattern) where
  -- ---- one group

  module _ (c k : ℕ) (acc : R) (g : Group) where
    pub step-word : c < length row → has_any words g ≡ true → step row words c k acc g ≡ Halt
    unfolding step
    step-word h w = rw (lt-leb (length row) c h, w)

  -- ---- the groups from a position of a text on

  unfoldable pub going : List ℕ → ℕ → ℕ → R → ℕ → Outcome R
  going t c k acc at = run row words (tail_of t) (length t) c k acc (groups_from t at)

  module _ (t : List ℕ) (c k : ℕ) (acc : R) (at : ℕ) where
    pub going-over : groups_from t at ≡ [] → going t c k acc at ≡ over row (tail_of t) (length t) c k acc
    unfolding going run
    going-over none = rw none

    -- a group, and the groups after it
    module _ (from to : ℕ) (part : Group) (next : groups_from t at ≡ record { start = from; bytes = part } ∷ groups_from t to) where
      pub going_on : (c' k' : ℕ) (acc' : R) → step row words c k acc part ≡ On c' k' acc' → going t c k acc at ≡ going t c' k' acc' to
      unfolding going run
      going_on c' k' acc' e = rw (next, e)

      pub going-halt : step row words c k acc part ≡ Halt → going t c k acc at ≡ closed row from c k acc
      unfolding going run
      going-halt e = rw (next, e)

      pub going-fault : (r : Refusal) → step row words c k acc part ≡ Stop r → going t c k acc at ≡ Fault r from
      unfolding going run
      going-fault r e = rw (next, e)
