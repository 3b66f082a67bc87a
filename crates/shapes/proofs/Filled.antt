-- The laws of an alternative with its number field filled in: it fits the alternative, and its field reads back.
-- Assumes nothing.
use mathlib.Core.Path.{◌≡◌, refl, sym, ap, ◌∙◌}
use mathlib.Core.Bool.{Bool, true, false, cond, not}
use mathlib.Core.List.{List, [], ◌∷◌, ◌++◌, append_assoc}
use Prim.Native.Nat.{ℕ, zero, suc, ◌+◌, ◌≤◌, ◌<◌}
use native.Mathlib.Omega.{arith}
use lib.ListN.{length, take, drop, get_or, replicate, take-append-drop}
use lib.Seq.{drop-drop, length-take-le}
use lib.Dec.{leb, eqb}
use borrow.Author.Tests.{le-leb, leb-true, eqb-true}
use Rattle.figures.specs.declared.kinds.Field.{Field}
use Rattle.figures.specs.declared.kinds.Field.TheVariants.{Other}
use Rattle.figures.specs.Figures.{every, field_at, field_text}
use Rattle.figures.proofs.Figures.{field_back}
use Rattle.shapes.specs.declared.kinds.Value.{Value}
use Rattle.shapes.specs.Pattern.{Pattern, low, high, fits}
use Rattle.shapes.specs.Shape.{Part, leading, run_length, field_start, field_width, value_of, filled, plain, printable, printable_each, FieldOf}
use Rattle.shapes.proofs.Patterns.{both, neither, starless, field-pattern}
use Rattle.shapes.proofs.Splits.{lead-le}
use Rattle.shapes.proofs.Exact.{exact, exact-is, exact-length, exact-append}

-- ---- the pieces

-- a plain character stands for itself
plain_fits : (p : ℕ) → plain p ≡ true → fits p p ≡ true
unfolding fits low high
plain_fits p h =
    let a = neither (eqb p 35) _ h in
    let b = neither (eqb p 64) _ (ap not a.1) in
    let c = neither (eqb p 63) _ (ap not b.1) in
    rw (a.0, b.0, c.0, le-leb p p (omega arith))

plain-exact : (x : List ℕ) → every plain x ≡ true → exact x x ≡ true
plain-exact [] h = refl
plain-exact (p ∷ x) h = let t = both (plain p) (every plain x) h in rw (plain_fits p t.0) (plain-exact x t.1)

hashes-starless : (w : ℕ) → starless (replicate w 35) ≡ true
hashes-starless zero = refl
hashes-starless (suc w) = hashes-starless w

field-exact : (w : ℕ) (f : Field) → w ≤ 5 → FieldOf w f → exact (replicate w 35) (field_text w f) ≡ true
unfolding field_text
field-exact zero f h e = rw e
field-exact (suc w) f h e =
    exact-is (replicate (suc w) 35) (field_text (suc w) f) (hashes-starless (suc w)) ∙ field-pattern (suc w) f h e

run-text : (a : Pattern) → take (run_length a) a ≡ replicate (run_length a) 35
unfolding leading
run-text [] = refl
run-text (p ∷ a) = go (eqb p 35) refl (run-text a)
  where
    go : (x : Bool) → eqb p 35 ≡ x → take (run_length a) a ≡ replicate (run_length a) 35
        → take (cond x (suc (run_length a)) 0) (p ∷ a) ≡ replicate (cond x (suc (run_length a)) 0) 35
    go true e ih = rw (eqb-true p 35 e, ih)
    go false e ih = refl

no_field : (s : List ℕ) (at : ℕ) → field_at s at 0 ≡ Other
unfolding field_at
no_field s at = refl

-- ---- the whole

-- an alternative is the text before its field, the field, and the text after it
pieces : (a : Pattern) → take (field_start a) a ++ (replicate (field_width a) 35 ++ drop (field_start a + field_width a) a) ≡ a
pieces a =
    rw (← run-text (drop (field_start a) a), ← drop-drop (field_width a) (field_start a) a, take-append-drop (field_width a) (drop (field_start a) a))
    (take-append-drop (field_start a) a)

module _ (a : Pattern) (f : Field) (ok : printable a ≡ true) (said : FieldOf (field_width a) f) where
  parts : (every plain (take (field_start a) a) ≡ true) × (field_width a ≤ 5) × (every plain (drop (field_start a + field_width a) a) ≡ true)
  unfolding printable
  parts =
      let t = both (every plain (take (field_start a) a)) _ ok in
      let u = both (leb (field_width a) 5) _ t.1 in
      (t.0, leb-true _ _ u.0, u.1)

  pub filled-exact : exact a (filled a f) ≡ true
  unfolding filled
  filled-exact =
      ap (λ (p : Pattern). exact p (take (field_start a) a ++ (field_text (field_width a) f ++ drop (field_start a + field_width a) a))) (sym (pieces a))
      ∙ exact-append (take (field_start a) a) _ (take (field_start a) a) _ (plain-exact (take (field_start a) a) parts.0)
      (exact-append (replicate (field_width a) 35) _ (field_text (field_width a) f) _ (field-exact (field_width a) f parts.1 said)
      (plain-exact (drop (field_start a + field_width a) a) parts.2))

  pub filled-length : length (filled a f) ≡ length a
  filled-length = exact-length a (filled a f) filled-exact

  pub filled-field : (rest : List ℕ) → field_at (filled a f ++ rest) (field_start a) (field_width a) ≡ f
  unfolding filled
  filled-field rest = go (field_width a) parts.1 said
    where
      go : (w : ℕ) → w ≤ 5 → FieldOf w f
          → field_at (take (field_start a) a ++ (field_text w f ++ drop (field_start a + w) a) ++ rest) (field_start a) w ≡ f
      go zero h e = no_field _ (field_start a) ∙ sym e
      go (suc w) h e =
          let pre = take (field_start a) a in
          let post = drop (field_start a + suc w) a in
          let shape : pre ++ (field_text (suc w) f ++ post) ++ rest ≡ pre ++ field_text (suc w) f ++ (post ++ rest) = simp append_assoc in
          let len : length pre ≡ field_start a = length-take-le (field_start a) a (lead-le _ a) in
          rw shape (rw len at (field_back pre (post ++ rest) (suc w) f (omega arith) h e))

pub filled-value : (v : Value) (a : Pattern) (rest : List ℕ) → printable a ≡ true → FieldOf (field_width a) v.field
    → value_of v.which a (filled a v.field ++ rest) ≡ v
unfolding value_of
filled-value v a rest ok said = rw (filled-field a v.field ok said rest)

-- an alternative of a part that can be printed can be printed
pub printable-at : (p : Part) (i : ℕ) → printable_each p ≡ true → i < length p → printable (get_or p i []) ≡ true
printable-at [] i h l = absurd (omega arith)
printable-at (a ∷ p) zero h l = (both (printable a) (printable_each p) h).0
printable-at (a ∷ p) (suc i) h l = printable-at p i (both (printable a) (printable_each p) h).1 (omega arith)
