-- The laws of section 1: its row, and what a group says at a place.
-- Assumes nothing.
use Rattle.std.specs.Prelude.{Err, Ok, Result}
use Prim.Native.Nat.{ℕ, ◌+◌, zero-le}
use mathlib.Core.Path.{◌≡◌, refl, sym, ap, ◌∙◌}
use mathlib.Core.Bool.{Bool, true, false, or-false}
use mathlib.Core.List.{List, [], ◌∷◌}
use lib.ListN.{length, drop, get_or-eq_default}
use types.Run.{OneOf, miss}
use denote.Enum.Declared.{tag_of}
use Rattle.text.specs.declared.kinds.Refusal.{Refusal}
use Rattle.text.specs.declared.kinds.Refusal.TheVariants as refusal
use Rattle.text.specs.declared.kinds.Refused.{Refused}
use Rattle.text.specs.Groups.{Piece, groups_from, part_of}
use Rattle.text.specs.Text.{tail_of}
use Rattle.text.proofs.Groups.{Follows}
use Rattle.text.specs.Refusals.{refused_with}
use Rattle.shapes.specs.Pattern.{has_pattern, has_any}
use Rattle.places.specs.Seek.{owed}
use Rattle.places.specs.Engine.{Group, Place, nowhere, place_at, musts_of, onward}
use Rattle.places.specs.declared.kinds.Turn.{Turn}
use Rattle.places.specs.declared.kinds.Turn.TheVariants as turn
use Rattle.places.specs.Answer.{outcome_of, end_verdict}
use Rattle.places.specs.Turn.{turn_at}
use Rattle.places.specs.Parts.{owes, turned, unless, part_from, begins, further, report_of}
use Rattle.places.proofs.Rows.{Others, beyond, endless}
use Rattle.places.proofs.Loop.{at_most}
use Rattle.record.specs.declared.surface.Surface.{Surface}
use Rattle.record.specs.declared.surface.Synop.{Synop}
use Rattle.record.specs.Set.{set_surface, set_section3}
use Rattle.record.specs.Blank.{blank_section3}
use Rattle.section3.specs.declared.kinds.Section3Read.{Section3Read}
use Rattle.section3.specs.Step.{Section3Done}
use Rattle.section3.proofs.Going.{reading, reads_over, reads-halt, reads-fault, reads_on, reads-bad}
use Rattle.synop_groups.specs.declared.kinds.Said.{Said}
use Rattle.synop_groups.specs.declared.kinds.Said.TheVariants as said
use Rattle.synop_groups.specs.contracts.kinds.Said as saids
use Rattle.synop_row.specs.declared.kinds.Needs.{Needs}
use Rattle.synop_row.specs.Row.{needs_of, with_said, row, stop_words, section3_word}
use Rattle.synop_row.proofs.Tests.{row-length}
use Rattle.synop_section.specs.declared.kinds.SectionRead.{SectionRead}
use Rattle.synop_section.specs.declared.kinds.Next.{Next}
use Rattle.synop_section.specs.declared.kinds.Next.TheVariants as next
use Rattle.synop_section.specs.Answer.{word_of, first_part, third_part, parts, section, answer}
use Rattle.synop_section.specs.Section.{Says, said_onto, later, after_section, Leaves, SectionDone}

-- the answer with what follows section 1: the end, or section 3
module _ (text : List ℕ) (from : ℕ) (r : Synop) (x : SectionRead) (n : Needs) (needs : n ≡ needs_of r.surface) (done : SectionDone text from n r.surface x) where
  taken : section r (tail_of text) (length text) (groups_from text from) ≡ after_section text (set_surface x.surface r) x.next
  unfolding section report_of
  taken = rw (← needs) (done (λ s. set_surface s r))

  pub answered-end : {v : Result ℕ Refused} → x.next ≡ next.End v
      → answer (outcome_of v (set_surface x.surface r)) ≡ answer (section r (tail_of text) (length text) (groups_from text from))
  answered-end {v} is =
      let t : section r (tail_of text) (length text) (groups_from text from) ≡ outcome_of v (set_surface x.surface r) = taken ∙ rw is in
      ap answer (sym t)

  pub answered-third : {at : ℕ} (y : Section3Read) → x.next ≡ next.Section3 at → Section3Done text at y
      → answer (outcome_of y.verdict (set_section3 y.section3 (set_surface x.surface r))) ≡ answer (section r (tail_of text) (length text) (groups_from text from))
  answered-third {at} y is third =
      let t : section r (tail_of text) (length text) (groups_from text from) ≡ outcome_of y.verdict (set_section3 y.section3 (set_surface x.surface r)) =
      taken ∙ rw is (third (λ s. set_section3 s (set_surface x.surface r)) (later text 0)) in
      ap answer (sym t)

-- ---- a stop word

-- what the word comes to, where nothing is owed and where something is
module _ (g : Group) (start end : ℕ) (n : Needs) (c k : ℕ) {o : Bool} (is : o ≡ owed k (drop c (musts_of (row n)))) where
  pub leaves-owed : o ≡ true → Leaves g start end n c k (next.End (Err (refused_with refusal.Absence start)))
  leaves-owed e text r = rw (← is, e)

  pub leaves-third : o ≡ false → has_pattern g section3_word ≡ true → Leaves g start end n c k (next.Section3 end)
  unfolding further
  leaves-third e w text r = rw (← is, e, w) (begins-third (groups_from text end))
    where
      begins-third : (gs : List Piece) → begins (tail_of text) (length text) parts (later text 0) r tt blank_section3 gs
          ≡ part_from (tail_of text) (length text) (third_part r) (later text 0) 0 0 blank_section3 gs
      begins-third [] = refl
      begins-third (p ∷ gs) = refl

  pub leaves-rest : o ≡ false → has_pattern g section3_word ≡ false → Leaves g start end n c k (next.End (Ok start))
  leaves-rest e w text r = rw (← is, e, w)

-- what is owed is all that section 1 needs
pub only-owed : (n : Needs) (takes : Surface → Synop) (c k : ℕ) (s : Surface) → owes (first_part n takes) c k s ≡ owed k (drop c (musts_of (row n)))
only-owed n takes c k s = or-false (owed k (drop c (musts_of (row n))))

-- ---- the loop that reads section 1, from group to group

module _ (text : List ℕ) (from : ℕ) (n : Needs) (earlier : Surface) (c k : ℕ) (s : Surface) (at : ℕ)
    (inv : (takes : Surface → Synop) → reading (first_part n takes) (later text 1) text 0 0 earlier from ≡ reading (first_part n takes) (later text 1) text c k s at) where
  hands : {x : SectionRead} {v : Next} → x ≡ record { next = v; surface = s }
      → ((takes : Surface → Synop) → reading (first_part n takes) (later text 1) text c k s at ≡ after_section text (takes s) v) → SectionDone text from n earlier x
  unfolding reading
  hands p q takes = inv takes ∙ rw p (q takes)

  pub done-over : {x : SectionRead} {v : Next} → x ≡ record { next = v; surface = s }
      → v ≡ next.End (end_verdict (tail_of text) (length text) (owed k (drop c (musts_of (row n))))) → groups_from text at ≡ [] → SectionDone text from n earlier x
  done-over p q none =
      hands p
      (λ takes.
      reads_over (first_part n takes) (later text 1) text c k s at none
      ∙ rw q (ap (λ (b : Bool). outcome_of (end_verdict (tail_of text) (length text) b) (takes s)) (only-owed n takes c k s)))

  module _ {start end : ℕ} {g : Group} {u : Turn} (follows : Follows text at start end) (cut : g ≡ part_of text start end) (is : u ≡ turn_at (row n) (has_any stop_words) c k g) where
    pub done-halt : {x : SectionRead} {v : Next} → x ≡ record { next = v; surface = s } → u ≡ turn.Halt → Leaves g start end n c k v → SectionDone text from n earlier x
    done-halt p e leaves =
        hands p
        (λ takes.
        reads-halt (first_part n takes) (later text 1) text c k s at follows cut is e
        ∙ ap (λ (b : Bool). unless b start (turned (later text 1) (takes s) (record { start = start; bytes = g }) (groups_from text end) (word_of g))) (only-owed n takes c k s)
        ∙ leaves text (takes s))

    pub done-fault : {x : SectionRead} {f : Refusal} → x ≡ record { next = next.End (Err (refused_with f start)); surface = s } → u ≡ turn.Refused f → SectionDone text from n earlier x
    done-fault p e = hands p (λ takes. reads-fault (first_part n takes) (later text 1) text c k s at follows cut is e)

    module _ {i j : ℕ} (e : u ≡ turn.At i j) where
      pub done-bad : {x : SectionRead} {f : Refusal} → x ≡ record { next = next.End (Err (refused_with f start)); surface = s } → (place_at (row n) i).read j g s ≡ Err f → SectionDone text from n earlier x
      done-bad p bad = hands p (λ takes. reads-bad (first_part n takes) (later text 1) text c k s at follows cut is e bad)

      pub goes_on : {s' : Surface} {p : ℕ} → (place_at (row n) i).read j g s ≡ Ok s' → p ≡ onward (row n) i
          → (takes : Surface → Synop) → reading (first_part n takes) (later text 1) text 0 0 earlier from ≡ reading (first_part n takes) (later text 1) text p (j + 1) s' end
      goes_on good past takes = inv takes ∙ reads_on (first_part n takes) (later text 1) text c k s at follows cut is e good past

-- ---- the row

-- one group may stand at each place, and none ends the report
pub row-few : (n : Needs) → at_most 1 (row n) ≡ true
unfolding row
row-few n = refl

pub row-endless : (n : Needs) (i : ℕ) → i ≡ onward (row n) i
unfolding row
row-endless n i = endless (row n) i refl

-- ---- what a group says at a place

-- place i is place j of the row, and what was read is what the group says there
pub says_at : (n : Needs) (j : ℕ) (g : Group) {i : ℕ} {x y : Said} → i ≡ j → x ≡ y → Says n j g y → Says n i g x
says_at n j g p q says = rw (p, q) says

-- past the row no group is taken
pub says_nothing : (n : Needs) (i : ℕ) (g : Group) → Others 0 10 i → Says n i g (said.Refused refusal.Shape)
unfolding with_said
says_nothing n i g others = λ m s. ap (λ (p : Place Surface). p.read m g s) (get_or-eq_default (row n) nowhere (rw (row-length n) (beyond 0 10 i zero-le others)))

-- what is read at a place, by what the group was found to say
pub said-reads : (n : Needs) (i k : ℕ) (g : Group) (s : Surface) {x y : Said} {z : Result Surface Refusal} → Says n i g x → x ≡ y → with_said y s ≡ z → (place_at (row n) i).read k g s ≡ z
said-reads n i k g s says is put = says k s ∙ rw is put

-- whatever is no refusal is added: what is of one of several variants, where a refusal, number 0, is of none of them
pub added-among : (ks : List ℕ) → (OneOf ks 0 → ⊥) → (x : Said) → OneOf ks (tag_of saids.the_type x) → (s : Surface) → with_said x s ≡ Ok (said_onto x s)
unfolding with_said
added-among ks none (said.Refused f) told s = absurd (none told)
added-among ks none (said.Time t) told s = refl
added-among ks none (said.Station n) told s = refl
added-among ks none (said.Position p) told s = refl
added-among ks none (said.Indicators i) told s = refl
added-among ks none (said.Wind w) told s = refl
added-among ks none (said.Speed n) told s = refl
added-among ks none (said.Air a) told s = refl
added-among ks none (said.Moisture m) told s = refl
added-among ks none (said.Pressure p) told s = refl
added-among ks none (said.Level l) told s = refl
added-among ks none (said.Tendency t) told s = refl
added-among ks none (said.Rainfall f) told s = refl
added-among ks none (said.Weather w) told s = refl
added-among ks none (said.Clouds c) told s = refl
added-among ks none (said.Clock c) told s = refl
added-among ks none (said.Layer l) told s = refl

-- every variant but the refusal
abbrev pub right : List ℕ
right = 1 ∷ 2 ∷ 3 ∷ 4 ∷ 5 ∷ 6 ∷ 7 ∷ 8 ∷ 9 ∷ 10 ∷ 11 ∷ 12 ∷ 13 ∷ 14 ∷ 15 ∷ 16 ∷ []

pub added : (x : Said) → OneOf right (tag_of saids.the_type x) → (s : Surface) → with_said x s ≡ Ok (said_onto x s)
added = added-among right (miss right 0 tt)
