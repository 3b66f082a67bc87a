-- A list of changes as parts of a report: what is known of one change, wherever it stands in the list, is known of all of them.
-- Assumes nothing.
use Rattle.std.specs.Prelude.{None}
use Prim.Native.Nat.{ℕ, ◌+◌, ◌≤◌, ◌<◌}
use native.Mathlib.Omega.{arith}
use native.Mathlib.Nat.{zero-add, add-zero}
use native.Mathlib.Numerals.{add-one}
use mathlib.Core.Path.{◌≡◌, refl, ap, ◌∙◌}
use mathlib.Core.Bool.{Bool, true, false}
use mathlib.Core.List.{List, [], ◌∷◌, ◌++◌, map, append_assoc}
use lib.ListN.{length, take, drop, set, replicate, length-map, length-replicate}
use lib.Seq.{sets, sets-eq}
use Rattle.figures.proofs.Impossible.{impossible}
use Rattle.text.specs.Groups.{Piece}
use Rattle.shapes.specs.Pattern.{Pattern, has_any}
use Rattle.places.specs.Engine.{Group, Done, written, put_all}
use Rattle.places.specs.Parts.{Word, Part, Parts, report_of}
use Rattle.places.proofs.ReadBack.{groups_of, sound, Covered, stops_any, plain}
use Rattle.places.proofs.Kept.{KeptRow, kept-spoken}
use Rattle.places.proofs.Parts.{Saying, KeptPart, unjoined, Opening, row_of, taken, taken_all, said_all, KeptAll, Last, LastAll, report-back}
use Rattle.record.specs.Arrays.{Each}
use Rattle.record.proofs.Counted.{Listed}

-- a part that halts at its words and whose row keeps what is written
pub keep-part : {T P W R : Type 0} {part : Part T P W R} {r acc : R} {sizes : List ℕ} (words : List Pattern) → 0 < length part.row → sound words part.row ≡ true
    → Covered part.row → KeptRow sizes part.row r acc → part.halts ≡ has_any words → part.lacks (put_all part.row r acc) ≡ false → KeptPart part r acc
keep-part {part = part} {r} {sizes = sizes} words some told covered kept halts whole =
    record {
      words = words;
      sizes = sizes;
      some = some;
      told = told;
      covered = covered;
      kept = kept;
      plain = rw halts (plain words part.row r told (kept-spoken kept));
      whole = whole;
    }

module _ {T P W : Type 0} (parts : Parts T P W) where
  -- a part after which the report may be over has none after it where it is
  pub last-unless : {R : Type 0} (part : Part T P W R) (r : R) (xs : List (Saying P W)) (over : Bool) → (over ≡ true → xs ≡ []) → (over ≡ false → stops_any part.row r ≡ false)
      → Last parts part r xs
  last-unless part r [] over none on = tt
  last-unless part r (x ∷ xs) true none on = impossible (let e = none refl in cc)
  last-unless part r (x ∷ xs) false none on = on refl

  -- a word that no group joins
  pub alone : (w : W) (gs : List Group) → ((g : Group) → parts.joins w g ≡ false) → unjoined parts w gs ≡ true
  alone w [] e = refl
  alone w (g ∷ gs) e = rw (e g)

  module _ (halts : Group → Bool) (word : T → Group → Word W P) where
    -- A part is said in the report t: its words open it, whatever comes after it; it is kept, and does not end the report; the words halt it as they halted
    -- the part before it; its groups are gs; and t with it is u.
    pub record SaidOne (t u : T) (gs : List Group) (x : Saying P W) : Type 0 where
      pub opens : (rest : List Group) → Opening parts halts word t x.kind x.start (written (row_of parts t x) x.said ++ rest) x.words
      pub kept : KeptPart (parts.part t x.kind) x.said x.start
      pub on : stops_any (row_of parts t x) x.said ≡ false
      pub alike : ((parts.part t x.kind).halts ≡ halts) × ((parts.part t x.kind).word ≡ word)
      pub groups : x.words ++ written (row_of parts t x) x.said ≡ gs
      pub back : taken parts t x ≡ u

    -- Several parts are said in it, one after the other.
    pub record Said (t u : T) (gs : List Group) (xs : List (Saying P W)) : Type 0 where
      pub kept : KeptAll parts halts word t xs
      pub last : LastAll parts t xs
      pub groups : gs ≡ said_all parts t xs
      pub back : taken_all parts t xs ≡ u

    pub said-none : (t : T) → Said t t [] []
    said-none t = record { kept = tt; last = tt; groups = refl; back = refl }

    pub said_more : {t u v : T} {gs hs : List Group} (x : Saying P W) (xs : List (Saying P W)) → SaidOne t u gs x → Said u v hs xs → Said t v (gs ++ hs) (x ∷ xs)
    said_more {t} {u} {v} {gs} {hs} x xs one all =
        let rest : Said (taken parts t x) v hs xs = rw one.back all in
        record {
          kept = (one.opens (said_all parts (taken parts t x) xs), one.kept, rw (one.alike.0, one.alike.1) rest.kept);
          last = (last-unless (parts.part t x.kind) x.said xs false (λ e. impossible (cc)) (λ e. one.on), rest.last);
          groups = rw (← one.groups) (append_assoc x.words (written (row_of parts t x) x.said) hs ∙ ap (λ (l : List Group). x.words ++ (written (row_of parts t x) x.said ++ l)) rest.groups);
          back = rest.back;
        }

    -- ---- the changes one after the other

    -- how they are said and shown, what each is read back as, and the report with a list of so many
    module _ {A : Type 0} (saying : A → Saying P W) (one : A → List Group) (each : List A → List Group) (none : each [] ≡ [])
        (more : (x : A) (xs : List A) → each (x ∷ xs) ≡ one x ++ each xs) (class : A → A) (with : List A → ℕ → T) {most : ℕ} {Q : A → Type 0}
        (said : (x : A) → Q x → (items : List A) (n : ℕ) → n < most → SaidOne (with items n) (with (set items n (class x)) (n + 1)) (one x) (saying x)) where
      said_each : (xs : List A) → Each Q xs → (items : List A) (n : ℕ) → n + length xs ≤ most
          → Said (with items n) (with (sets items n (map class xs)) (n + length xs)) (each xs) (map saying xs)
      said_each [] a items n h = rw (none, add-zero n) (said-none (with items n))
      said_each (x ∷ xs) a items n h =
          let m : n + length (x ∷ xs) ≡ n + 1 + length xs = omega arith in
          let still : sets (set items n (class x)) (n + 1) (map class xs) ≡ sets items n (map class (x ∷ xs)) = rw (add-one n) in
          rw (more x xs, m, ← still) (said_more (saying x) (map saying xs) (said x a.0 items n (omega arith)) (said_each xs a.1 (set items n (class x)) (n + 1) (omega arith)))

      -- A COUNTED LIST OF CHANGES IS SAID, and read back as their classes.
      pub list-said : {is_blank : A → Bool} {blank : A} {n : ℕ} {xs : List A} → Listed Q is_blank blank most n xs
          → Said (with (replicate most blank) 0) (with (map class (take n xs) ++ drop n xs) n) (each (take n xs)) (map saying (take n xs))
      list-said {blank = blank} {n} {xs} l =
          let cs = take n xs in
          let many : length (map class cs) ≡ n = length-map cs class ∙ l.many in
          rw (sets-eq (map class cs) (replicate most blank) 0 (omega (arith, many, l.few, length-replicate most blank)), zero-add (length (map class cs)), zero-add (length cs), many, l.many, l.rest) at (said_each cs l.each (replicate most blank) 0 (omega (arith, l.many, l.few)))

  -- THE REPORT IS READ BACK, from any pieces that hold its main part and what is said after it.
  pub report-said : {M : Type 0} {u : T} {hs : List Group} {xs : List (Saying P W)} (main : Part T P W M) (m acc : M) (end n : ℕ) (gs : List Piece)
      → KeptPart main m acc → Last parts main m xs → Said main.halts main.word (main.takes (put_all main.row m acc)) u hs xs → length xs ≤ n
      → groups_of gs ≡ written main.row m ++ hs → report_of None end parts n main acc gs ≡ Done end u
  report-said {xs = xs} main m acc end n gs kept last said few are =
      report-back parts xs end n main m acc gs kept last said.kept said.last few (are ∙ ap (λ (l : List Group). written main.row m ++ l) said.groups)
      ∙ ap (Done end) said.back
