-- The laws of one group of a TAF's part: what it says goes into the part as its place reads it.
-- Assumes nothing.
use Rattle.std.specs.Prelude.{Ok}
use Prim.Native.Nat.{ℕ, ◌≤◌}
use mathlib.Core.Path.{◌≡◌, refl}
use mathlib.Core.Bool.{Bool, true, false, not}
use mathlib.Core.List.{List, [], ◌∷◌}
use lib.Dec.{T}
use types.Run.{OneOf}
use denote.Enum.Declared.{tag_of}
use Rattle.text.specs.declared.kinds.Refusal.TheVariants as refusal
use Rattle.places.specs.Engine.{Group, then, place_at}
use Rattle.record.specs.declared.aerodrome.Body.{Body}
use Rattle.record.specs.declared.aerodrome.Leg.{Leg}
use Rattle.record.specs.declared.aerodrome.Edition.{Edition}
use Rattle.record.specs.Taf.{set_time, set_period, set_body}
use Rattle.elements.specs.declared.kinds.Said.{Said}
use Rattle.elements.specs.declared.kinds.Said.TheVariants as said
use Rattle.elements.specs.contracts.kinds.Said as says
use Rattle.elements.specs.Answers.{as_said}
use Rattle.elements.specs.Body.{body_row}
use Rattle.aerodrome_groups.specs.Head.{read_time}
use Rattle.body.specs.Said.{is_of_body, Says as BodySays}
use Rattle.body.proofs.Variants.{each, by-tag, never}
use Rattle.body.proofs.Says.{value-says, body-says, past-says}
use Rattle.taf_row.specs.declared.kinds.Part.{Part}
use Rattle.taf_row.proofs.Rows.{row-length}
use Rattle.taf_row.specs.Row.{is_main, is_whole, forecast_in, own_form, change_form, read_period, row}
use Rattle.taf.specs.Said.{onto_body, part_said, Says}

-- ---- what a group says

-- what has no arm of its own in the loop is of the body, and so is what a place of the body says
abbrev elsewhere : List ℕ
elsewhere = 0 ∷ 1 ∷ 6 ∷ 10 ∷ 12 ∷ 14 ∷ 16 ∷ 17 ∷ 18 ∷ 19 ∷ 20 ∷ 21 ∷ 22 ∷ 23 ∷ 24 ∷ []

pub others : (k : ℕ) (g : Group) (r : Leg) (x : Said) → OneOf elsewhere (tag_of says.the_type x) → onto_body k x r ≡ part_said k g x r
unfolding part_said
others k g r = by-tag elsewhere (λ x. onto_body k x r ≡ part_said k g x r) (search never)

of-body : (k : ℕ) (g : Group) (r : Leg) (x : Said) → is_of_body x ≡ true → onto_body k x r ≡ part_said k g x r
unfolding part_said
of-body k g r x own = each (λ x. T (is_of_body x) → onto_body k x r ≡ part_said k g x r) (search never) x (rw own tt)

-- whether NSW may stand, as the code asked it
pub nsw-asked : (w : Part) {m : Bool} {j k : ℕ} {g : Group} {b : Body} {x : Said} → m ≡ is_main w → BodySays true (not m) false j k g b x → BodySays true (not (is_main w)) false j k g b x
nsw-asked w e s = rw (← e) s

-- in a part that has the body that was seen
module _ (e : Edition) (w : Part) (k : ℕ) (g : Group) (b : Body) where
  abbrev seen : Leg → Type 0
  seen r = r.body ≡ b

  pub says-body : (i j : ℕ) {x : Said} → BodySays true (not (is_main w)) false j k g b x
      → ((r : Leg) → (place_at (row e w) i).read k g r ≡ then ((place_at (body_row (forecast_in w)) j).read k g r.body) (λ b. Ok (set_body b r))) → Says e w i k g b x
  says-body i j s reads = body-says (row e w) part_said seen k g (λ r. r.body) set_body b (λ r is. is) (of-body k g) i s (λ r is. (is_whole w, false, reads r))

  pub says-time : Says e w 3 k g b (as_said said.Time (read_time g))
  unfolding row part_said
  says-time = value-says (row e w) part_said seen k g 3 said.Time set_time (read_time g) (λ r a. refl) (λ r is. refl)

  -- the report's own period, and a change's
  pub says-own : Says e w 5 k g b (as_said said.Period (read_period (own_form e) g))
  unfolding row part_said
  says-own = value-says (row e w) part_said seen k g 5 said.Period set_period (read_period (own_form e) g) (λ r a. refl) (λ r is. refl)

  pub says-change : Says e w 6 k g b (as_said said.Period (read_period (change_form e) g))
  unfolding row part_said
  says-change = value-says (row e w) part_said seen k g 6 said.Period set_period (read_period (change_form e) g) (λ r a. refl) (λ r is. refl)

  -- past the row no group is taken
  pub says_nothing : (i : ℕ) → 12 ≤ i → Says e w i k g b (said.Refused refusal.Shape)
  says_nothing i h = past-says (row e w) part_said seen k g i (rw (row-length e w) h)
