-- The laws of one group of a trend's change: what it says goes into the change as its place reads it.
-- Assumes nothing.
use Rattle.std.specs.Prelude.{Ok, Result}
use Rattle.text.specs.declared.kinds.Refusal.{Refusal}
use Prim.Native.Nat.{ℕ, ◌≤◌}
use mathlib.Core.Path.{◌≡◌, refl}
use mathlib.Core.Bool.{Bool, true, false}
use mathlib.Core.List.{List, [], ◌∷◌}
use lib.Dec.{T}
use types.Run.{OneOf}
use denote.Enum.Declared.{tag_of}
use Rattle.text.specs.declared.kinds.Refusal.TheVariants as refusal
use Rattle.places.specs.Engine.{Group, then, place_at, onward}
use Rattle.places.proofs.Rows.{endless}
use Rattle.places.proofs.Loop.{at_most}
use Rattle.record.specs.declared.aerodrome.Times.{Times}
use Rattle.record.specs.declared.aerodrome.Body.{Body}
use Rattle.record.specs.declared.aerodrome.TrendChange.{TrendChange}
use Rattle.record.specs.Trend.{set_times, set_body}
use Rattle.elements.specs.declared.kinds.Said.{Said}
use Rattle.elements.specs.declared.kinds.Said.TheVariants as said
use Rattle.elements.specs.contracts.kinds.Said as says
use Rattle.elements.specs.Answers.{as_times}
use Rattle.elements.specs.Body.{changing, body_row}
use Rattle.body.specs.Said.{is_of_body, Says as BodySays}
use Rattle.body.proofs.Variants.{each, by-tag, never}
use Rattle.body.proofs.Says.{value-says, body-says, past-says}
use Rattle.trend_row.specs.Times.{read_from, read_until, read_at}
use Rattle.trend_row.specs.Row.{row}
use Rattle.trend_row.proofs.Rows.{row-length}
use Rattle.trend.specs.Said.{onto_body, change_said, Says}

-- ---- the row

-- no place has more than four groups
pub row-few : (free : Bool) → at_most 4 (row free) ≡ true
unfolding row
row-few true = refl
row-few false = refl

-- and none ends the report
pub row-endless : (free : Bool) (i : ℕ) → i ≡ onward (row free) i
unfolding row
row-endless free i = endless (row free) i refl

-- ---- what a group says

-- what says no times is of the body
abbrev elsewhere : List ℕ
elsewhere = 0 ∷ 1 ∷ 2 ∷ 3 ∷ 4 ∷ 5 ∷ 6 ∷ 7 ∷ 8 ∷ 9 ∷ 10 ∷ 11 ∷ 12 ∷ 13 ∷ 14 ∷ 15 ∷ 16 ∷ 17 ∷ 18 ∷ 19 ∷ 20 ∷ 21 ∷ 23 ∷ 24 ∷ []

pub others : (k : ℕ) (g : Group) (c : TrendChange) (x : Said) → OneOf elsewhere (tag_of says.the_type x) → onto_body k x c ≡ change_said k g x c
unfolding change_said
others k g c = by-tag elsewhere (λ x. onto_body k x c ≡ change_said k g x c) (search never)

of-body : (k : ℕ) (g : Group) (c : TrendChange) (x : Said) → is_of_body x ≡ true → onto_body k x c ≡ change_said k g x c
unfolding change_said
of-body k g c x own = each (λ x. T (is_of_body x) → onto_body k x c ≡ change_said k g x c) (search never) x (rw own tt)

module _ (k : ℕ) (g : Group) (t : Times) (b : Body) where
  -- in a change that has the times and the body that were seen, after any word
  abbrev seen : TrendChange → Type 0
  seen c = (c.times ≡ t) × (c.body ≡ b)

  abbrev SaysAt : ℕ → Said → Type 0
  SaysAt i x = (free : Bool) → Says free i k g t b x

  -- the times, with those that stand already
  says-times : (i : ℕ) (read : Times → Result Times Refusal) → ((free : Bool) (c : TrendChange) → (place_at (row free) i).read k g c ≡ then (read c.times) (λ x. Ok (set_times x c)))
      → SaysAt i (as_times (read t))
  unfolding change_said
  says-times i read reads free = value-says (row free) change_said seen k g i said.Times set_times (read t) (λ c x. refl) (λ c is. rw (← is.0) (reads free c))

  pub says-from : SaysAt 1 (as_times (read_from g))
  unfolding row
  says-from = says-times 1 (λ s. read_from g) (λ free c. refl)

  pub says-until : SaysAt 2 (as_times (read_until g t))
  unfolding row
  says-until = says-times 2 (read_until g) (λ free c. refl)

  pub says-moment : SaysAt 3 (as_times (read_at g t))
  unfolding row
  says-moment = says-times 3 (read_at g) (λ free c. refl)

  -- the body
  pub says-body : (i j : ℕ) {x : Said} → BodySays true true false j k g b x
      → ((free : Bool) (c : TrendChange) → (place_at (row free) i).read k g c ≡ then ((place_at (body_row changing) j).read k g c.body) (λ b. Ok (set_body b c))) → SaysAt i x
  says-body i j s reads free = body-says (row free) change_said seen k g (λ c. c.body) set_body b (λ c is. is.1) (of-body k g) i s (λ c is. (false, false, reads free c))

  -- past the row no group is taken
  pub says_nothing : (i : ℕ) → 8 ≤ i → SaysAt i (said.Refused refusal.Shape)
  says_nothing i h free = past-says (row free) change_said seen k g i (rw (row-length free) h)
