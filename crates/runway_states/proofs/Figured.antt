-- The laws of the tables: a figure that a table lists is not above its last entry, so that it can be written; and a number that is listed is read back.
-- Assumes nothing.
use Rattle.std.specs.Prelude.{None, Option, Some}
use Prim.Native.Nat.{ℕ, ◌≤◌}
use native.Mathlib.Omega.{arith}
use mathlib.Core.Path.{◌≡◌, refl}
use mathlib.Core.Bool.{Bool, true, false≢true}
use mathlib.Core.List.{List, [], ◌∷◌}
use lib.Dec.{leb}
use borrow.Author.Tests.{leb-true, eqb-true}
use Rattle.figures.specs.Figures.{every, Fits}
use Rattle.shapes.proofs.Patterns.{both, or_cases}
use Rattle.record.specs.Missing.{optional}
use Rattle.aerodrome_groups.specs.Head.{field_of}
use Rattle.runway_states.specs.declared.tables.Table.{Table}
use Rattle.runway_states.specs.Tables.{Entry, Only, UpTo, From, lists, has, table_of, holds}
use Rattle.runway_states.specs.State.{number_in}

-- ---- how great a figure may be

-- the last figure of an entry
abbrev top : Entry → ℕ
top (Only a) = a
top (UpTo a) = a
top (From a b) = b

abbrev pub up_to : ℕ → List Entry → Bool
up_to most es = every (λ e. leb (top e) most) es

entry_top : (e : Entry) (n : ℕ) → lists e n ≡ true → n ≤ top e
entry_top (Only a) n h = let e = eqb-true n a h in omega arith
entry_top (UpTo a) n h = leb-true n a h
entry_top (From a b) n h = leb-true n b (both (leb a n) (leb n b) h).1

pub listed_below : (most : ℕ) (es : List Entry) (n : ℕ) → up_to most es ≡ true → has es n ≡ true → n ≤ most
listed_below most [] n u h = absurd (false≢true h)
listed_below most (e ∷ []) n u h =
    let t = leb-true (top e) most (both (leb (top e) most) true u).0 in
    omega (arith, t, entry_top e n h)
listed_below most (e ∷ (d ∷ es)) n u h =
    let t = both (leb (top e) most) (up_to most (d ∷ es)) u in
    or_cases (lists e n) (has (d ∷ es) n) h
    (λ here. omega (arith, leb-true (top e) most t.0, entry_top e n here))
    (λ there. listed_below most (d ∷ es) n t.1 there)

-- ---- numbers in a group

-- a number that is listed, or missing, as a field
pub holds-field : (t : Table) (n : Option ℕ) → optional (has (table_of t)) n ≡ true → holds t true (field_of n) ≡ true
holds-field t None h = refl
holds-field t (Some n) h = h

pub number-back : (n : Option ℕ) → number_in (field_of n) ≡ n
number-back None = refl
number-back (Some n) = refl

-- it can be written in one figure, and in two
module _ (es : List Entry) (n : Option ℕ) (h : optional (has es) n ≡ true) where
  pub one-figure : up_to 9 es ≡ true → Fits 1 (field_of n)
  one-figure u = go n h
    where
      go : (n : Option ℕ) → optional (has es) n ≡ true → Fits 1 (field_of n)
      go None e = tt
      go (Some n) e = let l = listed_below 9 es n u e in omega arith

  pub two-figures : up_to 99 es ≡ true → Fits 2 (field_of n)
  two-figures u = go n h
    where
      go : (n : Option ℕ) → optional (has es) n ≡ true → Fits 2 (field_of n)
      go None e = tt
      go (Some n) e = let l = listed_below 99 es n u e in omega arith
