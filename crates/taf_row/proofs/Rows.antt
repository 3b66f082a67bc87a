-- The laws of a part's row: its arrays in the code, where reading stands past a place, its change words, and what a part owes.
-- Assumes nothing.
use Prim.Native.Nat.{ℕ, zero, suc}
use mathlib.Core.Path.{◌≡◌, refl, sym, ◌∙◌}
use mathlib.Core.Bool.{Bool, true, false, not, cond, ◌||◌, or-false}
use mathlib.Core.List.{List, [], ◌∷◌, ◌++◌}
use lib.ListN.{length, drop, get_or, replicate, get_or-map}
use lib.Dec.{eqb}
use Rattle.figures.specs.Quote.{bytes}
use Rattle.shapes.specs.Pattern.{has_pattern, has_any}
use Rattle.places.specs.Seek.{owed}
use Rattle.places.specs.Engine.{Group, Place, nowhere, place_at, onward}
use Rattle.places.proofs.Rows.{only_at_lem}
use Rattle.places.proofs.Loop.{at_most}
use Rattle.record.specs.declared.aerodrome.Leg.{Leg}
use Rattle.record.specs.declared.aerodrome.Edition.{Edition}
use Rattle.taf_row.specs.declared.kinds.Part.{Part}
use Rattle.taf_row.specs.declared.kinds.Part.TheVariants as part
use Rattle.taf_row.specs.Row.{is_main, is_whole, is_changing, from_shape, row, change_words}
use Rattle.elements.specs.Body.{has_element}
use Rattle.taf_row.specs.Tests.{Mosts, Musts, Owes}

-- ---- the row

pub row-length : (e : Edition) (w : Part) → length (row e w) ≡ 12
unfolding row
row-length e w = refl

musts-so : (w : Part) → Musts w (is_main w ∷ false ∷ is_main w ∷ is_main w ∷ false ∷ is_main w ∷ is_changing w ∷ false ∷ is_whole w ∷ is_whole w ∷ false ∷ false ∷ [])
unfolding row
musts-so part.Main e = refl
musts-so part.Changing e = refl
musts-so part.From e = refl

pub musts-by : (w : Part) {m p a : Bool} → m ≡ is_main w → p ≡ is_changing w → a ≡ is_whole w
    → Musts w (m ∷ false ∷ m ∷ m ∷ false ∷ m ∷ p ∷ false ∷ a ∷ a ∷ false ∷ false ∷ [])
musts-by w m p a e = rw (m, p, a) (musts-so w e)

pub mosts-by : (w : Part) {m p : Bool} {i j : ℕ} → m ≡ is_main w → i ≡ cond m 1 0 → p ≡ is_changing w → j ≡ cond p 1 0
    → Mosts w (i ∷ i ∷ i ∷ i ∷ i ∷ i ∷ j ∷ i ∷ 1 ∷ 1 ∷ 3 ∷ 4 ∷ [])
unfolding row
mosts-by w m i p j e = rw (i, m, j, p)

-- no place has more than four groups
pub row-few : (e : Edition) (w : Part) → at_most 4 (row e w) ≡ true
unfolding row
row-few e part.Main = refl
row-few e part.Changing = refl
row-few e part.From = refl

-- NIL and CNL end the report: where either of two lists of tests holds
abbrev either : List Bool → List Bool → List Bool
either [] ys = ys
either (x ∷ xs) [] = x ∷ xs
either (x ∷ xs) (y ∷ ys) = (x || y) ∷ either xs ys

either-at : (xs ys : List Bool) (i : ℕ) → (get_or xs i false || get_or ys i false) ≡ get_or (either xs ys) i false
either-at [] ys i = refl
either-at (x ∷ xs) [] i = or-false (get_or (x ∷ xs) i false)
either-at (x ∷ xs) (y ∷ ys) zero = refl
either-at (x ∷ xs) (y ∷ ys) (suc i) = either-at xs ys i

abbrev alone : ℕ → ℕ → List Bool
alone n m = replicate n false ++ (true ∷ replicate m false)

ends_by : (e : Edition) (w : Part) (i : ℕ) → (eqb i 4 || eqb i 7) ≡ (place_at (row e w) i).ends
unfolding row
ends_by e w i =
    rw (only_at_lem 4 (alone 4 7) i refl, only_at_lem 7 (alone 7 4) i refl)
    (either-at (alone 4 7) (alone 7 4) i ∙ get_or-map (λ (p : Place Leg). p.ends) (row e w) i nowhere)

pub past_end : (e : Edition) (w : Part) (i : ℕ) (b : Bool) → (eqb i 4 || eqb i 7) ≡ b → cond b 12 i ≡ onward (row e w) i
past_end e w i b is = rw (row-length e w, ← ends_by e w i, is)

-- ---- its change words

any_of : (a b c d : Bool) → (((a || b) || c) || d) ≡ (a || (b || (c || (d || false))))
any_of true b c d = refl
any_of false true c d = refl
any_of false false true d = refl
any_of false false false d = sym (or-false d)

pub change-word : (e : Edition) (g : Group) {a b c d : Bool}
    → a ≡ has_pattern g (bytes "BECMG") → b ≡ has_pattern g (bytes "TEMPO") → c ≡ has_pattern g (bytes "PROB##") → d ≡ has_pattern g (from_shape e)
    → (((a || b) || c) || d) ≡ has_any (change_words e) g
unfolding change_words has_any
change-word e g {a} {b} {c} {d} p q r s = rw (← p, ← q, ← r, ← s) (any_of a b c d)

-- ---- what a part owes

pub owes-by : (w : Part) (c k : ℕ) (r : Leg) {us : List Bool} {o m s : Bool} → Musts w us → o ≡ owed k (drop c us) → m ≡ is_main w → s ≡ has_element r.body
    → Owes w c k r (o || not (m || s))
owes-by w c k r p q m s e = rw (q, p e, m, s)
