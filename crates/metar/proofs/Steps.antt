-- The laws of reading a METAR: what a group says goes into the record as its place reads it, where the observation ends, and the name at the row's first
-- place.
-- Assumes nothing.
use Rattle.std.specs.Prelude.{Err, Ok, Option, Result}
use Rattle.text.specs.declared.kinds.Refusal.{Refusal}
use Prim.Native.Nat.{ℕ, ◌≤◌}
use native.Mathlib.Omega.{arith}
use mathlib.Core.Path.{◌≡◌, refl, sym, ◌∙◌, subst}
use mathlib.Core.Bool.{Bool, true, false, cond, or-false, false≢true}
use mathlib.Core.List.{List, [], ◌∷◌}
use lib.ListN.{length, drop}
use lib.Dec.{T, eqb}
use types.Run.{OneOf, miss}
use denote.Enum.Declared.{tag_of}
use Rattle.text.specs.declared.kinds.Refusal.TheVariants as refusal
use Rattle.text.specs.declared.kinds.Refused.{Refused}
use Rattle.text.specs.Groups.{Piece, part_of}
use Rattle.figures.specs.Quote.{bytes}
use Rattle.shapes.specs.Pattern.{low, high, fits, has_pattern, has_any, clash, clash_each, all_apart}
use Rattle.shapes.proofs.Patterns.{or_right, excluded, all-excluded}
use Rattle.places.specs.Engine.{Group, then, place_at, musts_of, On, step}
use Rattle.places.specs.Seek.{owed}
use Rattle.places.specs.Parts.{Part, step_by, run_to, owes, report_of}
use Rattle.places.specs.Answer.{outcome_of}
use Rattle.places.proofs.Turns.{comes, within}
use Rattle.places.proofs.ReadBack.{two-patterns}
use Rattle.places.proofs.Going.{step-first}
use Rattle.places.proofs.Loop.{at_most}
use Rattle.record.specs.declared.aerodrome.Body.{Body}
use Rattle.record.specs.declared.aerodrome.Observation.{Observation}
use Rattle.record.specs.declared.aerodrome.RunwayState.{RunwayState}
use Rattle.record.specs.declared.aerodrome.Metar.{Metar}
use Rattle.record.specs.declared.aerodrome.Trend.{Trend}
use Rattle.record.specs.declared.aerodrome.TrendChange.{TrendChange}
use Rattle.record.specs.Observation.{blank_observation, set_special, set_time, set_body, set_variation, set_runways, set_temperatures, set_qnh, set_recents, set_states}
use Rattle.record.specs.Trend.{blank_trend}
use Rattle.elements.specs.declared.kinds.Said.{Said}
use Rattle.elements.specs.declared.kinds.Said.TheVariants as said
use Rattle.elements.specs.contracts.kinds.Said as says
use Rattle.elements.specs.Wind.{read_variation}
use Rattle.elements.specs.Weather.{read_recent, with_weather}
use Rattle.elements.specs.Answers.{as_said}
use Rattle.aerodrome_groups.specs.Head.{read_time}
use Rattle.aerodrome_groups.specs.Runway.{read_runway, with_runway}
use Rattle.aerodrome_groups.specs.Temperatures.{read_temperatures, read_qnh}
use Rattle.elements.specs.Parts.{disagrees}
use Rattle.runway_states.specs.State.{read_state, with_state, with_snoclo}
use Rattle.elements.specs.Body.{body_row}
use Rattle.body.specs.Said.{unless_refused, is_of_body, Says as BodySays}
use Rattle.body.specs.declared.kinds.Met.{Met}
use Rattle.body.specs.declared.kinds.Met.TheVariants as met
use Rattle.body.specs.contracts.kinds.Met as mets
use Rattle.body.specs.Met.{Meets}
use Rattle.body.proofs.Variants.{each, by-tag, never}
use Rattle.body.proofs.Parts.{Reached, reads_over, reads_word, reads-fault}
use Rattle.body.proofs.Says.{value-says, body-says, past-says}
use Rattle.metar_row.specs.Row.{is_name, observed, row, words}
use Rattle.metar.specs.Said.{onto_body, report_said, DependsOn, Says}
use Rattle.trend_row.specs.declared.kinds.Word.{Word}
use Rattle.trend.specs.declared.kinds.Next.{Next}
use Rattle.trend.specs.Read.{parts}
use Rattle.trend.specs.Step.{after_part, MetWord}
use Rattle.metar.specs.Read.{main_part, groups_read, behind_name, reading, is_refused, answer}
use Rattle.metar.specs.Step.{alone, beside, word_at, left_at}

-- ---- the row

pub row-length : length row ≡ 19
unfolding row
row-length = refl

-- ---- what a group says

-- what is none of these is of the body
abbrev elsewhere : List ℕ
elsewhere = 2 ∷ 7 ∷ 8 ∷ 9 ∷ 11 ∷ 13 ∷ 14 ∷ 15 ∷ 16 ∷ 20 ∷ 21 ∷ 22 ∷ []

pub others : (k : ℕ) (g : Group) (r : Observation) (x : Said) → OneOf elsewhere (tag_of says.the_type x) → onto_body k x r ≡ report_said k g x r
unfolding report_said
others k g r = by-tag elsewhere (λ x. onto_body k x r ≡ report_said k g x r) (search never)

of-body : (k : ℕ) (g : Group) (r : Observation) (x : Said) → is_of_body x ≡ true → onto_body k x r ≡ report_said k g x r
unfolding report_said
of-body k g r x own = each (λ x. T (is_of_body x) → onto_body k x r ≡ report_said k g x r) (search never) x (rw own tt)

-- what a place over a part of the record reads, set back into the record
set_back_lem : {A B R : Type 0} (x : Result A Refusal) (f : A → B) (set : B → R) → then x (λ a. Ok (set (f a))) ≡ then (then x (λ a. Ok (f a))) (λ b. Ok (set b))
set_back_lem (Ok a) f set = refl
set_back_lem (Err n) f set = refl

-- in a record that has the body that was seen and as many runway states, AUTO or not
module _ (k : ℕ) (g : Group) (automatic : Bool) (b : Body) (states : ℕ) where
  abbrev seen : Observation → Type 0
  seen = DependsOn automatic b states

  -- what is of the body, by its place there
  pub says-body : (i j : ℕ) {x : Said} → BodySays false false automatic j k g b x
      → ((r : Observation) → (place_at row i).read k g r ≡ then ((place_at (body_row (observed r)) j).read k g r.body) (λ b. Ok (set_body b r))) → Says i k g automatic b states x
  says-body i j s reads =
      body-says row report_said seen k g (λ r. r.body) set_body b (λ r is. is.1) (of-body k g) i s (λ r is. (
        true,
        r.nil,
        subst
            (λ (z : Bool). (place_at row i).read k g r ≡ then ((place_at (body_row (record { forecast = false; required = true; may_nsw = false; automatic = z; silent = r.nil })) j).read k g r.body) (λ b. Ok (set_body b r)))
            is.0
            (reads r),
      ))

  pub says-time : Says 3 k g automatic b states (as_said said.Time (read_time g))
  unfolding row report_said
  says-time = value-says row report_said seen k g 3 said.Time set_time (read_time g) (λ r a. refl) (λ r is. refl)

  pub says-variation : Says 7 k g automatic b states (as_said said.Variation (read_variation g))
  unfolding row report_said
  says-variation = value-says row report_said seen k g 7 said.Variation set_variation (read_variation g) (λ r a. refl) (λ r is. refl)

  pub says-runway : Says 9 k g automatic b states (as_said said.Runway (read_runway g))
  unfolding row report_said
  says-runway = value-says row report_said seen k g 9 said.Runway (λ x r. set_runways (with_runway k r.runways x) r) (read_runway g) (λ r a. refl) (λ r is. refl)

  pub says-temperatures : Says 12 k g automatic b states (as_said said.Temperatures (read_temperatures g))
  unfolding row report_said
  says-temperatures = value-says row report_said seen k g 12 said.Temperatures set_temperatures (read_temperatures g) (λ r a. refl) (λ r is. refl)

  pub says-qnh : Says 13 k g automatic b states (as_said said.Qnh (read_qnh g))
  unfolding row report_said
  says-qnh = value-says row report_said seen k g 13 said.Qnh set_qnh (read_qnh g) (λ r a. refl) (λ r is. refl)

  pub says-recent : Says 14 k g automatic b states (as_said said.Recent (read_recent automatic g))
  unfolding row report_said
  says-recent = value-says row report_said seen k g 14 said.Recent (λ x r. set_recents (with_weather k r.recents x) r) (read_recent automatic g) (λ r a. refl) (λ r is. rw is.0)

  pub says-state : Says 15 k g automatic b states (as_said said.State (read_state g))
  unfolding row report_said
  says-state =
      value-says row report_said seen k g 15 said.State (λ x r. set_states (with_state k r.states x) r) (read_state g) (λ r a. refl)
      (λ r is. sym (set_back_lem (read_state g) (with_state k r.states) (λ ss. set_states ss r)))

  -- SNOCLO, by whether a state stands
  pub says-snoclo : Says 16 k g automatic b states (cond (eqb states 0) said.Snoclo (said.Refused refusal.Disagreement))
  unfolding row report_said
  says-snoclo r is = rw (← is.2) (go (eqb r.states.count 0))
    where
      says : Bool → Said
      says alone = cond alone said.Snoclo (said.Refused refusal.Disagreement)

      go : (alone : Bool) → unless_refused (says alone) (report_said k g (says alone) r) ≡ then (cond alone (Ok (with_snoclo true r.states)) disagrees) (λ ss. Ok (set_states ss r))
      go true = refl
      go false = refl

  -- a state after SNOCLO
  pub says-beside : Says 17 k g automatic b states (as_said said.State (then (read_state g) (λ x. disagrees)))
  unfolding row report_said
  says-beside r is = go (read_state g)
    where
      beside : Result RunwayState Refusal → Result RunwayState Refusal
      beside x = then x (λ y. disagrees)

      go : (x : Result RunwayState Refusal)
          → unless_refused (as_said said.State (beside x)) (report_said k g (as_said said.State (beside x)) r) ≡ then (then x (λ y. disagrees)) (λ ss. Ok (set_states ss r))
      go (Ok y) = refl
      go (Err f) = refl

  -- past the row no group is taken
  pub says_nothing : (i : ℕ) → 19 ≤ i → Says i k g automatic b states (said.Refused refusal.Shape)
  says_nothing i h = past-says row report_said seen k g i (rw row-length h)

-- no place has more than four groups
pub row-few : at_most 4 row ≡ true
unfolding row
row-few = refl

-- ---- where the observation ends

pub owes_is : (c k : ℕ) (o : Observation) {us : List Bool} {b : Bool} → us ≡ musts_of row → b ≡ owed k (drop c us) → b ≡ owes main_part c k o
owes_is c k o p q = q ∙ rw p (sym (or-false (owed k (drop c (musts_of row)))))

-- at a word
pub word-leads : (text : List ℕ) (start end c k : ℕ) (o : Observation) {g : Group} {b : Bool} {x : Next} → g ≡ part_of text start end → b ≡ owes main_part c k o
    → MetWord g start end 0 false b x → word_at text start end c k o ≡ after_part text 0 (alone o) x
word-leads text start end c k o cut is met = rw (is, cut) at (met.reads text (alone o) (record { alone = refl; many = λ e. refl }))

-- the observation is one part, which one report takes in
abbrev pub one_part : Unit {0} → Part Metar TrendChange Word Observation
one_part u = main_part

-- every Met but a group that is taken
abbrev pub untaken : List ℕ
untaken = 0 ∷ 1 ∷ 2 ∷ []

-- where the next group is not taken, the text comes to what it says there
module _ {text : List ℕ} {o₀ : Observation} {start c k : ℕ} {o : Observation} {at : ℕ} (reached : Reached parts text one_part row (has_any words) 3 1 o₀ start c k o at) where
  abbrev sees : Observation → Type 0
  sees = DependsOn o.automatic o.body o.states.count

  pub leaves : (m : Met) → Meets row (has_any words) report_said c k sees text at m → OneOf untaken (tag_of mets.the_type m) → within parts text main_part 3 0 1 o₀ start ≡ left_at text m c k o
  unfolding comes
  leaves met.Over meets told = reads_over reached report_said sees meets (refl, refl, refl) refl tt
  leaves (met.Halt s e) meets told = reads_word reached report_said sees meets (refl, refl, refl) refl tt
  leaves (met.Refused f s) meets told = reads-fault reached report_said sees meets (refl, refl, refl) refl tt
  leaves (met.Says x) meets told = absurd (miss untaken 3 tt told)

-- ---- the answer

-- a refused text comes to its refusal, whatever was read
pub refused-so : (v : Result ℕ Refused) (r s : Metar) → is_refused v ≡ true → outcome_of v r ≡ outcome_of v s
refused-so (Ok rest) r s is = absurd (false≢true is)
refused-so (Err x) r s is = refl

-- the observation is made blank where the text is refused, and else stays
pub blanked : (v : Result ℕ Refused) (o : Observation) {p : Observation} {t : Trend} → is_refused v ≡ true → p ≡ blank_observation → t ≡ blank_trend → reading v (beside p t) ≡ answer (outcome_of v (beside o t))
blanked (Ok rest) o is p t = absurd (false≢true is)
blanked (Err x) o is p t = rw (p, t)

pub unblanked : (v : Result ℕ Refused) (o : Observation) {p : Observation} {t : Trend} → is_refused v ≡ false → p ≡ o → reading v (beside p t) ≡ answer (outcome_of v (beside o t))
unblanked (Ok rest) o is p = rw p
unblanked (Err x) o is p = absurd (false≢true (sym is))

-- ---- the name, at the row's first place

abbrev pub name_for : Bool → List ℕ
name_for special = cond special (bytes "SPECI") (bytes "METAR")

module _ (special : Bool) (g : Group) (is : has_pattern g (name_for special) ≡ true) where
  tells : (is_name g ≡ true) × (has_pattern g (bytes "SPECI") ≡ special)
  unfolding clash fits low high
  tells = go special is
    where
      go : (s : Bool) → has_pattern g (name_for s) ≡ true → (is_name g ≡ true) × (has_pattern g (bytes "SPECI") ≡ s)
      go true e = (or_right (has_pattern g (bytes "METAR")) (has_pattern g (bytes "SPECI")) e, e)
      go false e = (rw e, excluded g (bytes "METAR") (bytes "SPECI") refl e)

  no_stop : has_any words g ≡ false
  unfolding words all_apart clash_each clash fits low high
  no_stop = all-excluded g (bytes "METAR" ∷ bytes "SPECI" ∷ []) words refl (two-patterns (bytes "METAR") (bytes "SPECI") g tells.0)

  stands-first : step row words 0 0 blank_observation g ≡ On 0 1 (set_special special blank_observation)
  unfolding row
  stands-first = step-first _ _ words blank_observation g tells.0 (omega arith) no_stop ∙ rw tells.1

  taken-first : step_by row (has_any words) 0 0 blank_observation g ≡ On 0 1 (set_special special blank_observation)
  unfolding step
  taken-first = stands-first

-- BEHIND THE NAME the groups come to what all groups come to.
pub past-name : (special : Bool) (tail : Option ℕ) (end : ℕ) (g : Piece) (gs : List Piece) → has_pattern g.bytes (name_for special) ≡ true
    → groups_read tail end (g ∷ gs) ≡ behind_name special tail end gs
unfolding groups_read behind_name report_of run_to
past-name special tail end g gs is = rw (taken-first special g.bytes is)
