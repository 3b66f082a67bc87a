-- The laws of the table's codes: what a computed test of a list of codes says of each code of the list, and lists one after the other.
-- Assumes nothing.
use mathlib.Core.Path.{◌≡◌, refl, sym, ap, ◌∙◌}
use mathlib.Core.Bool.{Bool, true, ◌||◌, or_assoc, false≢true}
use mathlib.Core.List.{List, [], ◌∷◌, ◌++◌}
use Prim.Native.Nat.{ℕ}
use lib.Dec.{eqb}
use borrow.Author.Tests.{eqb-true}
use Rattle.figures.specs.Quote.{bytes}
use Rattle.shapes.proofs.Patterns.{both, or_cases}
use Rattle.elements.specs.Weather.{codes_of, same, among, all_among, is_descriptor, is_precipitation, is_phenomenon, one, is_code, all_codes}

pub same-eq : (c d : List ℕ) → same c d ≡ true → c ≡ d
same-eq [] [] h = refl
same-eq [] (y ∷ d) h = absurd (false≢true h)
same-eq (x ∷ c) [] h = absurd (false≢true h)
same-eq (x ∷ c) (y ∷ d) h =
    let t = both (eqb x y) (same c d) h in
    let e : x ≡ y = eqb-true x y t.0 in
    let f = same-eq c d t.1 in
    cc

-- what every code of a list passes, a code that is one of them passes
pub in_table : (test : List ℕ → Bool) (ds : List (List ℕ)) → all_among test ds ≡ true → (c : List ℕ) → among c ds ≡ true → test c ≡ true
in_table test [] a c h = absurd (false≢true h)
in_table test (d ∷ ds) a c h =
    let t = both (test d) (all_among test ds) a in
    or_cases (same c d) (among c ds) h (λ e. rw (same-eq c d e) t.0) (in_table test ds t.1 c)

-- and so codes that are each one of them
pub all-in-table : (test : List ℕ → Bool) (ds : List (List ℕ)) → all_among test ds ≡ true → (cs : List (List ℕ)) → all_among (λ c. among c ds) cs ≡ true
    → all_among test cs ≡ true
all-in-table test ds a [] h = refl
all-in-table test ds a (c ∷ cs) h =
    let t = both (among c ds) (all_among (λ c. among c ds) cs) h in
    rw (in_table test ds a c t.0) (all-in-table test ds a cs t.1)

pub all_alike : (f g : List ℕ → Bool) → ((c : List ℕ) → f c ≡ g c) → (cs : List (List ℕ)) → all_among f cs ≡ all_among g cs
all_alike f g e [] = refl
all_alike f g e (c ∷ cs) = rw (e c, all_alike f g e cs)

among-append : (c : List ℕ) (xs ys : List (List ℕ)) → among c (xs ++ ys) ≡ (among c xs || among c ys)
among-append c [] ys = refl
among-append c (x ∷ xs) ys = rw (among-append c xs ys) (sym (or_assoc (same c x) (among c xs) (among c ys)))

-- a code of the table is one of all
pub code-among : (c : List ℕ) → among c all_codes ≡ is_code c
code-among c =
    rw (or_assoc (is_descriptor c || is_precipitation c) (is_phenomenon c) (one "VC" c), or_assoc (is_descriptor c) (is_precipitation c) (is_phenomenon c || one "VC" c))
    (split
    ∙ ap (λ (t : Bool). is_descriptor c || t) (among-append c precipitation (phenomenon ++ vicinity) ∙ ap (λ (t : Bool). is_precipitation c || t) (among-append c phenomenon vicinity)))
  where
    descriptor : List (List ℕ)
    descriptor = codes_of (bytes "MIBCPRDRBLSHTSFZ")

    precipitation : List (List ℕ)
    precipitation = codes_of (bytes "DZRASNSGICPLGRGSUP")

    phenomenon : List (List ℕ)
    phenomenon = codes_of (bytes "BRFGFUVADUSAHZPOSQFCSSDS")

    vicinity : List (List ℕ)
    vicinity = codes_of (bytes "VC")

    whole : all_codes ≡ descriptor ++ (precipitation ++ (phenomenon ++ vicinity))
    whole = unfold codes_of in refl

    split : among c all_codes ≡ (is_descriptor c || among c (precipitation ++ (phenomenon ++ vicinity)))
    split = rw whole (among-append c descriptor (precipitation ++ (phenomenon ++ vicinity)))
