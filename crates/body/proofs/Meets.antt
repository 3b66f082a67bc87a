-- The next group of a text is met as its turn in the row says and as what it says at its place, for any row and any record.
-- Assumes nothing.
use Rattle.std.specs.Prelude.{Err, Ok, Result}
use Prim.Native.Nat.{ℕ, ◌+◌}
use native.Mathlib.Omega.{arith}
use mathlib.Core.Path.{◌≡◌, refl, sym, ap, ◌∙◌}
use mathlib.Core.Bool.{Bool, true}
use mathlib.Core.List.{List}
use Rattle.text.specs.declared.kinds.Refusal.{Refusal}
use Rattle.text.specs.Groups.{part_of}
use Rattle.text.proofs.Groups.{Follows}
use Rattle.places.specs.declared.kinds.Turn.{Turn}
use Rattle.places.specs.declared.kinds.Turn.TheVariants as turn
use Rattle.places.specs.Engine.{Group, then, Place, onward, taken}
use Rattle.places.specs.Parts.{step_by}
use Rattle.places.specs.Turn.{turn_at}
use Rattle.places.proofs.Loop.{at_most, turn_step, turn-steps, turn-room}
use Rattle.elements.specs.declared.kinds.Said.{Said}
use Rattle.body.specs.declared.kinds.Saying.{Saying}
use Rattle.body.specs.declared.kinds.Met.{Met}
use Rattle.body.specs.declared.kinds.Met.TheVariants as met
use Rattle.body.specs.Said.{unless_refused, SaysAt}
use Rattle.body.specs.Met.{met_as, Lies, Meets}
use Rattle.body.proofs.Says.{unless-then}

-- what is refused is so with any record
unless-all : {R : Type 0} (r : R) (x : Said) → unless_refused x r ≡ then (unless_refused x (tt {0})) (λ u. Ok r)
unless-all r x = unless-then (λ u. r) (tt {0}) x

module _ {R : Type 0} (row : List (Place R)) (halts : Group → Bool) (put : ℕ → Group → Said → R → R) (c k : ℕ) (seen : R → Type 0)
    {text : List ℕ} {at start end : ℕ} (follows : Follows text at start end) {g : Group} (cut : g ≡ part_of text start end)
    {u : Turn} (turns : u ≡ turn_at row halts c k g) where
  abbrev meets : Met → Type 0
  meets m = Meets row halts put c k seen text at m

  lies : Lies text at start end
  lies = record { groups = follows.groups; ahead = omega (arith, follows.after, follows.some); within = follows.within }

  steps : (v : Turn) → u ≡ v → (r : R) → step_by row halts c k r (part_of text start end) ≡ turn_step row r (part_of text start end) v
  steps v is r = rw (← cut, ← is, turns) (turn-steps row halts c k g r)

  pub meets-halt : u ≡ turn.Halt → meets (met.Halt start end)
  meets-halt is = (lies, λ r is_seen. steps turn.Halt is r)

  pub meets-fault : {f : Refusal} → u ≡ turn.Refused f → meets (met.Refused f start)
  meets-fault {f} is = (end, lies, λ r is_seen. steps (turn.Refused f) is r)

  -- the group goes to place i, and says this there
  pub meets-said : {i j : ℕ} → u ≡ turn.At i j → at_most 4 row ≡ true → (x : Said) → SaysAt row put seen i j g x
      → {m : Met} → m ≡ met_as start (unless_refused x (record { said = x; place = i; count = j; start = start; end = end })) → meets m
  meets-said {i} {j} is few x says-it e = rw (e, unless-all {R = Saying} (record { said = x; place = i; count = j; start = start; end = end }) x) (go (unless_refused x (tt {0})) refl)
    where
      reads : (v : Result (Unit {0}) Refusal) → unless_refused x (tt {0}) ≡ v → (r : R) → seen r
          → step_by row halts c k r (part_of text start end) ≡ taken (onward row i) (j + 1) (then v (λ u. Ok (put j (part_of text start end) x r)))
      reads v is-v r is_seen =
          let said : unless_refused x (put j (part_of text start end) x r) ≡ then v (λ u. Ok (put j (part_of text start end) x r)) =
          rw (unless-all (put j (part_of text start end) x r) x, is-v) in
          steps (turn.At i j) is r ∙ ap (taken (onward row i) (j + 1)) (sym (rw cut at (says-it r is_seen)) ∙ said)

      go : (v : Result (Unit {0}) Refusal) → unless_refused x (tt {0}) ≡ v → meets (met_as start (then v (λ u. Ok (record { said = x; place = i; count = j; start = start; end = end }))))
      go (Ok u) is-v = (lies, turn-room row halts c k g 4 few turns is, reads (Ok u) is-v)
      go (Err f) is-v = (end, lies, reads (Err f) is-v)
