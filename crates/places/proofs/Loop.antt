-- What a kind's reader loop cites, for any row and any record: a group's turn is what a step of the row says, and how reading goes on from group to group.
-- Assumes nothing.
use Rattle.std.specs.Prelude.{Err, Ok, Option}
use Prim.Native.Nat.{ℕ, zero, suc, ◌+◌, ◌≤◌, ◌<◌}
use native.Mathlib.Omega.{arith}
use mathlib.Core.Path.{◌≡◌, refl, sym, ap, ◌∙◌}
use mathlib.Core.Bool.{Bool, true, false, ◌&&◌, cond, and-eq-true_iff}
use mathlib.Core.List.{List, [], ◌∷◌}
use lib.ListN.{length, drop}
use lib.Dec.{leb}
use borrow.Author.Tests.{leb-true, le-leb, lt-leb}
use Rattle.text.specs.declared.kinds.Refusal.{Refusal}
use Rattle.text.specs.declared.kinds.Refusal.TheVariants as refusal
use Rattle.text.specs.Groups.{groups_from, part_of}
use Rattle.text.proofs.Groups.{Follows}
use Rattle.text.specs.Text.{tail_of}
use Rattle.figures.proofs.Impossible.{impossible}
use Rattle.shapes.specs.Pattern.{Pattern, has_any}
use Rattle.places.specs.declared.kinds.Found.{Found}
use Rattle.places.specs.declared.kinds.Found.TheVariants.{Take, Skips, Full, Earlier, Unknown}
use Rattle.places.specs.declared.kinds.Turn.{Turn}
use Rattle.places.specs.declared.kinds.Turn.TheVariants as turn
use Rattle.places.specs.Seek.{find_of, owed}
use Rattle.places.specs.Engine.{Group, Place, place_at, stands_of, musts_of, taken, judged, onward, Step, Halt, Stop, step, Outcome, Fault, finish, closed, over}
use Rattle.places.specs.Parts.{step_by}
use Rattle.places.specs.Turn.{turn_by, turn_at}
use Rattle.places.proofs.Rows.{taken-open}
use Rattle.places.proofs.Going.{closes, going, going-over, going_on, going-halt, going-fault}

-- ---- a group's turn

taken_at : (f : Found) (i j : ℕ) → turn_by f ≡ turn.At i j → f ≡ Take i j
taken_at (Take m n) i j e =
    let p : m ≡ i = cc in
    let q : n ≡ j = cc in
    rw (p, q)
taken_at Skips i j e = impossible (cc)
taken_at Full i j e = impossible (cc)
taken_at Earlier i j e = impossible (cc)
taken_at Unknown i j e = impossible (cc)

-- no place of a row may have more groups than this
abbrev pub at_most : {R : Type 0} → ℕ → List (Place R) → Bool
at_most n [] = true
at_most n (p ∷ ps) = leb p.most n && at_most n ps

few-at : {R : Type 0} (n : ℕ) (ps : List (Place R)) → at_most n ps ≡ true → (i : ℕ) → (place_at ps i).most ≤ n
few-at n [] e i = omega arith
few-at n (p ∷ ps) e zero = leb-true p.most n ((and-eq-true_iff (leb p.most n) (at_most n ps)).0 e).0
few-at n (p ∷ ps) e (suc i) = few-at n ps ((and-eq-true_iff (leb p.most n) (at_most n ps)).0 e).1 i

module _ {R : Type 0} (row : List (Place R)) where
  -- what a group's turn comes to with what was read before it
  abbrev pub turn_step : R → Group → Turn → Step R
  turn_step r g (turn.At i k) = taken (onward row i) (k + 1) ((place_at row i).read k g r)
  turn_step r g turn.Halt = Halt
  turn_step r g (turn.Refused f) = Stop f

  by-found : (r : R) (g : Group) (f : Found) → judged row r g f ≡ turn_step r g (turn_by f)
  by-found r g (Take i k) = refl
  by-found r g Skips = refl
  by-found r g Full = refl
  by-found r g Earlier = refl
  by-found r g Unknown = refl

  module _ (halts : Group → Bool) (c k : ℕ) (g : Group) where
    -- the turn, by what was asked of the group
    pub turn-past : length row ≤ c → turn.Refused refusal.Shape ≡ turn_at row halts c k g
    unfolding turn_at
    turn-past h = rw (le-leb (length row) c h)

    module _ (here : c < length row) where
      pub turn-halts : halts g ≡ true → turn.Halt ≡ turn_at row halts c k g
      unfolding turn_at
      turn-halts w = rw (lt-leb (length row) c here, w)

      pub turn-found : {f : Found} {u : Turn} → halts g ≡ false → f ≡ find_of (stands_of row g) c k → u ≡ turn_by f → u ≡ turn_at row halts c k g
      unfolding turn_at
      turn-found w asked is = rw (lt-leb (length row) c here, w, ← asked) is

    -- A STEP OF THE ROW IS WHAT THE GROUP'S TURN COMES TO, WHATEVER WAS READ BEFORE.
    pub turn-steps : (r : R) → step_by row halts c k r g ≡ turn_step r g (turn_at row halts c k g)
    unfolding turn_at
    turn-steps r = go (leb (length row) c) (halts g)
      where
        go : (past halt : Bool) → cond past (Stop refusal.Shape) (cond halt Halt (judged row r g (find_of (stands_of row g) c k)))
            ≡ turn_step r g (cond past (turn.Refused refusal.Shape) (cond halt turn.Halt (turn_by (find_of (stands_of row g) c k))))
        go true halt = refl
        go false true = refl
        go false false = by-found r g (find_of (stands_of row g) c k)

    -- so many groups stand where it goes that one more may
    pub turn-room : (n : ℕ) {i j : ℕ} {u : Turn} → at_most n row ≡ true → u ≡ turn_at row halts c k g → u ≡ turn.At i j → j < n
    unfolding turn_at
    turn-room n {i} {j} few is at = go (leb (length row) c) (halts g) (sym is ∙ at)
      where
        go : (past halt : Bool) → cond past (turn.Refused refusal.Shape) (cond halt turn.Halt (turn_by (find_of (stands_of row g) c k))) ≡ turn.At i j → j < n
        go true halt e = impossible (cc)
        go false true e = impossible (cc)
        go false false e = omega (arith, (taken-open row g c k i j (taken_at (find_of (stands_of row g) c k) i j e)).room, few-at n row few i)

-- ---- from group to group; `answer` is what the kind makes of a reading's end

module _ {R X : Type 0} (answer : Outcome R → X) (row : List (Place R)) where
  -- reading ends: by what is owed; the groups are over: by what follows the "="
  pub closed-by : (at c k : ℕ) (r : R) (b : Bool) {us : List Bool} {o : Bool} → us ≡ musts_of row → o ≡ owed k (drop c us) → o ≡ b
      → answer (finish b at r) ≡ answer (closed row at c k r)
  closed-by at c k r b p q e = ap answer (sym (closes row at c k r b (rw (← p) (sym q ∙ e))))

  pub over_by : (end c k : ℕ) (r : R) {x y z : Option ℕ} → y ≡ x → y ≡ z → answer (over row x end c k r) ≡ answer (over row z end c k r)
  over_by end c k r p q = rw (← p, q)

  module _ (words : List Pattern) where
    -- what the text is read as from a position on
    unfoldable pub goes_on : List ℕ → ℕ → ℕ → R → ℕ → X
    goes_on t c k r at = answer (going row words t c k r at)

    module _ (t : List ℕ) (c k : ℕ) (r : R) (at : ℕ) where
      pub reads_over : groups_from t at ≡ [] → goes_on t c k r at ≡ answer (over row (tail_of t) (length t) c k r)
      unfolding goes_on
      reads_over e = ap answer (going-over row words t c k r at e)

      module _ {from to : ℕ} {g : Group} {u : Turn} (follows : Follows t at from to) (cut : g ≡ part_of t from to) (is : u ≡ turn_at row (has_any words) c k g) where
        groups : groups_from t at ≡ record { start = from; bytes = g } ∷ groups_from t to
        groups = rw cut follows.groups

        steps : (v : Turn) → u ≡ v → step row words c k r g ≡ turn_step row r g v
        unfolding step
        steps v e = turn-steps row (has_any words) c k g r ∙ ap (turn_step row r g) (sym is ∙ e)

        pub reads-halt : u ≡ turn.Halt → goes_on t c k r at ≡ answer (closed row from c k r)
        unfolding goes_on
        reads-halt e = ap answer (going-halt row words t c k r at from to g groups (steps turn.Halt e))

        pub reads-fault : {f : Refusal} → u ≡ turn.Refused f → goes_on t c k r at ≡ answer (Fault f from)
        unfolding goes_on
        reads-fault {f} e = ap answer (going-fault row words t c k r at from to g groups f (steps (turn.Refused f) e))

        -- the group goes to place i, and is read there
        module _ {i j : ℕ} (e : u ≡ turn.At i j) where
          pub reads_on : {r' : R} {p : ℕ} → (place_at row i).read j g r ≡ Ok r' → p ≡ onward row i → goes_on t c k r at ≡ goes_on t p (j + 1) r' to
          unfolding goes_on
          reads_on {r'} good past = rw past (ap answer (going_on row words t c k r at from to g groups (onward row i) (j + 1) r' (steps (turn.At i j) e ∙ rw good)))

          pub reads-bad : {f : Refusal} → (place_at row i).read j g r ≡ Err f → goes_on t c k r at ≡ answer (Fault f from)
          unfolding goes_on
          reads-bad {f} bad = ap answer (going-fault row words t c k r at from to g groups f (steps (turn.At i j) e ∙ rw bad))
