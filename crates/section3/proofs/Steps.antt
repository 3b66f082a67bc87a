-- The loop that reads section 3, from group to group: what it hands over is what the section comes to, whatever report takes it in.
-- Assumes nothing.
use Rattle.std.specs.Prelude.{Err, Ok, Result}
use Prim.Native.Nat.{ℕ, zero, suc, ◌+◌, ◌≤◌, ◌<◌}
use mathlib.Core.Path.{◌≡◌, refl, sym, ap, ◌∙◌}
use mathlib.Core.Bool.{Bool, true, false, or-false}
use mathlib.Core.List.{List, [], ◌∷◌}
use lib.ListN.{length, take, drop, get_or-eq_default}
use lib.Seq.{drop-nil}
use borrow.Author.Tests.{le-leb, lt-leb}
use types.Run.{OneOf, miss}
use denote.Enum.Declared.{tag_of}
use Rattle.figures.specs.Quote.{bytes}
use Rattle.shapes.specs.Pattern.{has_pattern}
use Rattle.text.specs.declared.kinds.Refusal.{Refusal}
use Rattle.text.specs.declared.kinds.Refusal.TheVariants as refusal
use Rattle.text.specs.declared.kinds.Refused.{Refused}
use Rattle.text.specs.Groups.{groups_from, part_of}
use Rattle.text.specs.Text.{tail_of}
use Rattle.text.proofs.Groups.{Follows}
use Rattle.text.specs.Refusals.{refused_with}
use Rattle.places.specs.declared.kinds.Turn.{Turn}
use Rattle.places.specs.declared.kinds.Turn.TheVariants as turn
use Rattle.places.specs.Seek.{owed}
use Rattle.places.specs.Engine.{Group, Place, nowhere, musts_of}
use Rattle.places.specs.Answer.{outcome_of, end_verdict}
use Rattle.places.specs.Parts.{Further}
use Rattle.places.specs.Turn.{turn_at}
use Rattle.record.specs.declared.surface.CloudLayer.{CloudLayer}
use Rattle.record.specs.declared.surface.CloudLayers.{CloudLayers}
use Rattle.record.specs.declared.surface.Section3.{Section3}
use Rattle.record.specs.declared.surface.Synop.{Synop}
use Rattle.record.specs.Blank.{blank_section3}
use Rattle.section3.specs.declared.kinds.Told.{Told}
use Rattle.section3.specs.declared.kinds.Told.TheVariants as told
use Rattle.section3.specs.declared.kinds.Section3Read.{Section3Read}
use Rattle.section3.specs.contracts.kinds.Told as tolds
use Rattle.synop_groups.specs.Reads.{said_layer}
use Rattle.section3.specs.Row.{rises, air_by, told_by, risen, layer_at, with_told, row, halts, part_in}
use Rattle.section3.specs.Step.{Says, told_onto, Opened, Section3Done}
use Rattle.section3.proofs.Going.{reading, reads_over, reads-halt, reads-fault, reads_on, reads-bad}
use Rattle.section3.proofs.Turns.{row-length, row-endless}

-- nothing is required in section 3
none-owed : (c k : ℕ) → owed k (drop c (musts_of row)) ≡ false
unfolding row owed
none-owed zero k = refl
none-owed (suc zero) k = refl
none-owed (suc (suc zero)) k = refl
none-owed (suc (suc (suc c))) k = rw (drop-nil c)

-- ---- what a group says at a place

pub says_at : (j : ℕ) (g : Group) (ls : CloudLayers) {i : ℕ} {x y : Told} → i ≡ j → x ≡ y → Says j g ls y → Says i g ls x
says_at j g ls p q says = rw (p, q) says

pub says_nothing : (i : ℕ) (g : Group) (ls : CloudLayers) → 3 ≤ i → Says i g ls (told.Refused refusal.Shape)
says_nothing i g ls past = λ k s is. ap (λ (p : Place Section3). p.read k g s) (get_or-eq_default row nowhere (rw row-length past))

-- whatever is no refusal is added
abbrev pub right : List ℕ
right = 0 ∷ 2 ∷ 3 ∷ 4 ∷ []

added : (x : Told) → OneOf right (tag_of tolds.the_type x) → (s : Section3) → with_told x s ≡ Ok (told_onto x s)
added told.Nothing one s = refl
added (told.Refused f) one s = absurd (miss right 1 tt one)
added (told.Maximum a) one s = refl
added (told.Minimum a) one s = refl
added (told.Layer l) one s = refl

-- ---- 8NChh, after the layers before it

-- what is no layer stays as it is
abbrev pub unlayered : List ℕ
unlayered = 0 ∷ 1 ∷ 2 ∷ 3 ∷ []

other : (ls : CloudLayers) (x : Told) → OneOf unlayered (tag_of tolds.the_type x) → x ≡ risen ls x
other ls told.Nothing one = refl
other ls (told.Refused f) one = refl
other ls (told.Maximum a) one = refl
other ls (told.Minimum a) one = refl
other ls (told.Layer l) one = absurd (miss unlayered 4 tt one)

module _ (ls : CloudLayers) (g : Group) where
  pub layer-none : has_pattern g (bytes "8////") ≡ true → told.Nothing ≡ layer_at ls g
  unfolding layer_at
  layer-none e = rw e

  module _ (filled : has_pattern g (bytes "8////") ≡ false) where
    pub layer-fifth : 4 ≤ ls.count → told.Refused refusal.Limit ≡ layer_at ls g
    unfolding layer_at
    layer-fifth h = rw (filled, le-leb 4 ls.count h)

    module _ (few : ls.count < 4) {x : Told} (is : x ≡ told_by (air_by false) (said_layer g)) where
      reads : layer_at ls g ≡ risen ls x
      unfolding layer_at
      reads = rw (filled, lt-leb 4 ls.count few, ← is)

      pub layer-follows : (l : CloudLayer) → x ≡ told.Layer l → rises (take ls.count ls.items) l ≡ true → told.Layer l ≡ layer_at ls g
      layer-follows l e up = sym (reads ∙ rw (e, up))

      pub layer-falls : (l : CloudLayer) → x ≡ told.Layer l → rises (take ls.count ls.items) l ≡ false → told.Refused refusal.Disagreement ≡ layer_at ls g
      layer-falls l e down = sym (reads ∙ rw (e, down))

      pub layer-other : OneOf unlayered (tag_of tolds.the_type x) → x ≡ layer_at ls g
      layer-other one = other ls x one ∙ sym reads

-- ---- from group to group

module _ (text : List ℕ) (from c k : ℕ) (s : Section3) (at : ℕ)
    (inv : (takes : Section3 → Synop) (more : Further Synop Section3 Opened) → reading (part_in takes) more text 0 0 blank_section3 from ≡ reading (part_in takes) more text c k s at) where
  -- what the loop hands over
  hands : {x : Section3Read} {v : Result ℕ Refused} → x ≡ record { verdict = v; section3 = s }
      → ((takes : Section3 → Synop) (more : Further Synop Section3 Opened) → reading (part_in takes) more text c k s at ≡ outcome_of v (takes s)) → Section3Done text from x
  unfolding reading
  hands p q takes more = inv takes more ∙ rw p (q takes more)

  pub done-over : {x : Section3Read} {v : Result ℕ Refused} → x ≡ record { verdict = v; section3 = s } → v ≡ end_verdict (tail_of text) (length text) false → groups_from text at ≡ []
      → Section3Done text from x
  done-over p q none =
      hands p
      (λ takes more.
      reads_over (part_in takes) more text c k s at none
      ∙ rw q (ap (λ (b : Bool). outcome_of (end_verdict (tail_of text) (length text) b) (takes s)) (or-false (owed k (drop c (musts_of row))) ∙ none-owed c k)))

  module _ {start end : ℕ} {g : Group} {u : Turn} (follows : Follows text at start end) (cut : g ≡ part_of text start end) (is : u ≡ turn_at row halts c k g) where
    pub done-halt : {x : Section3Read} → x ≡ record { verdict = Ok start; section3 = s } → u ≡ turn.Halt → Section3Done text from x
    done-halt p e =
        hands p (λ takes more. reads-halt (part_in takes) more text c k s at follows cut is e ∙ rw (none-owed c k))

    pub done-fault : {x : Section3Read} {f : Refusal} → x ≡ record { verdict = Err (refused_with f start); section3 = s } → u ≡ turn.Refused f → Section3Done text from x
    done-fault p e = hands p (λ takes more. reads-fault (part_in takes) more text c k s at follows cut is e)

    module _ {i j : ℕ} (e : u ≡ turn.At i j) (y : Told) (says : Says i g s.layers y) where
      pub done-bad : {x : Section3Read} {f : Refusal} → x ≡ record { verdict = Err (refused_with f start); section3 = s } → y ≡ told.Refused f → Section3Done text from x
      done-bad {f = f} p bad =
          hands p (λ takes more. reads-bad (part_in takes) more text c k s at follows cut is e {f = f} (says j s refl ∙ rw bad))

      pub goes_on : {s' : Section3} → OneOf right (tag_of tolds.the_type y) → s' ≡ told_onto y s
          → (takes : Section3 → Synop) (more : Further Synop Section3 Opened) → reading (part_in takes) more text 0 0 blank_section3 from ≡ reading (part_in takes) more text i (j + 1) s' end
      goes_on one put takes more =
          inv takes more ∙ reads_on (part_in takes) more text c k s at follows cut is e (says j s refl ∙ rw put (added y one s)) (row-endless i)
