-- THE CAUSES for which the writer refuses a record, in the words of document 01's table of refusals, each with the field or the group that it is about; and
-- what a list of them in the order of judging comes to.
-- Assumes nothing.
use Rattle.std.specs.Prelude.{⊤, Err, None, Ok, Option, Result, Some}
use mathlib.Core.Path.{◌≡◌, refl, sym, ap, ◌∙◌}
use mathlib.Core.Bool.{Bool, true, false, cond, not, ◌&&◌, ◌||◌}
use mathlib.Core.List.{List, [], ◌∷◌, ◌++◌}
use Prim.Native.Nat.{ℕ, ◌+◌}
use Rattle.figures.proofs.Impossible.{impossible}
use Rattle.text.specs.declared.kinds.Refusal.{Refusal}
use Rattle.text.specs.declared.kinds.Refusal.TheVariants as refusal
use Rattle.text.specs.Judge.{judge, and_then}
use Rattle.record.specs.Missing.{is_missing, present, optional}

-- "writer: a value outside its range, a bad name, a required one missing, half of a pair, a count over its limit, a slot past its count or a field foreign to
-- the kind (or to NIL, CNL) that is not blank"; "groups each right that disagree". That "the buffer is shorter" is no cause of the record's.
pub data ListedCause (F : Type 0) : Type 0 where
  outside-its-range : F → ListedCause F
  bad-name : F → ListedCause F
  required-missing : F → ListedCause F
  half-of-a-pair : F → ListedCause F
  over-its-limit : F → ListedCause F
  slot-past-its-count : F → ListedCause F
  foreign : F → ListedCause F
  disagreeing : F → ListedCause F

-- A cause, and whether it holds of the record.
pub data Asked (F : Type 0) : Type 0 where
  asked : ListedCause F → Bool → Asked F

-- where a number is there and is not what it has to be
abbrev pub strays : (ℕ → Bool) → Option ℕ → Bool
strays ok None = false
strays ok (Some n) = not (ok n)

-- a test, and that it does not fail
pub twice : (b : Bool) → b ≡ (not (not b) && true)
twice true = refl
twice false = refl

module _ {F : Type 0} where
  -- "7 | groups each right that disagree"; the others are 11
  abbrev pub refused_by : ListedCause F → Refusal
  refused_by (outside-its-range f) = refusal.Value
  refused_by (bad-name f) = refusal.Value
  refused_by (required-missing f) = refusal.Value
  refused_by (half-of-a-pair f) = refusal.Value
  refused_by (over-its-limit f) = refusal.Value
  refused_by (slot-past-its-count f) = refusal.Value
  refused_by (foreign f) = refusal.Value
  refused_by (disagreeing f) = refusal.Disagreement

  pub seven-or-eleven : (P : Refusal → Type 0) → P refusal.Disagreement → P refusal.Value → (c : ListedCause F) → P (refused_by c)
  seven-or-eleven P seven eleven (outside-its-range f) = eleven
  seven-or-eleven P seven eleven (bad-name f) = eleven
  seven-or-eleven P seven eleven (required-missing f) = eleven
  seven-or-eleven P seven eleven (half-of-a-pair f) = eleven
  seven-or-eleven P seven eleven (over-its-limit f) = eleven
  seven-or-eleven P seven eleven (slot-past-its-count f) = eleven
  seven-or-eleven P seven eleven (foreign f) = eleven
  seven-or-eleven P seven eleven (disagreeing f) = seven

  -- what the first cause that holds is refused by
  abbrev pub first_of : List (Asked F) → Result ⊤ Refusal
  first_of [] = Ok tt
  first_of (asked c h ∷ qs) = cond h (Err (refused_by c)) (first_of qs)

  -- the cause holds, where the test fails
  abbrev pub unless : Bool → ListedCause F → List (Asked F)
  unless test c = asked c (not test) ∷ []

  -- a number of a field that has to be there, and one that may be missing
  abbrev pub needed : F → (ℕ → Bool) → Option ℕ → List (Asked F)
  needed f ok n = asked (required-missing f) (is_missing n) ∷ asked (outside-its-range f) (strays ok n) ∷ []

  abbrev pub free : F → (ℕ → Bool) → Option ℕ → List (Asked F)
  free f ok n = asked (outside-its-range f) (strays ok n) ∷ []

  -- a name, which has to be there and to be right
  abbrev pub named : F → Bool → Bool → List (Asked F)
  named f missing right = asked (required-missing f) missing ∷ asked (bad-name f) (not missing && not right) ∷ []

  -- ---- exactly

  -- the cause is the first of the list that holds
  pub data First : List (Asked F) → ListedCause F → Type 0 where
    here : {c : ListedCause F} {qs : List (Asked F)} → First (asked c true ∷ qs) c
    later : {c d : ListedCause F} {qs : List (Asked F)} → First qs c → First (asked d false ∷ qs) c

  -- it is one of the list, and holds
  pub data Holds : List (Asked F) → ListedCause F → Type 0 where
    at : {c : ListedCause F} {qs : List (Asked F)} → Holds (asked c true ∷ qs) c
    further : {c : ListedCause F} {a : Asked F} {qs : List (Asked F)} → Holds qs c → Holds (a ∷ qs) c

  pub first_holds : {qs : List (Asked F)} {c : ListedCause F} → First qs c → Holds qs c
  first_holds here = at
  first_holds (later x) = further (first_holds x)

  pub first-refused : {qs : List (Asked F)} {c : ListedCause F} → First qs c → first_of qs ≡ Err (refused_by c)
  first-refused here = refl
  first-refused (later x) = first-refused x

  pub refused-first : (qs : List (Asked F)) (f : Refusal) → first_of qs ≡ Err f → (c : ListedCause F) × First qs c × (refused_by c ≡ f)
  refused-first [] f e = impossible (cc)
  refused-first (asked c true ∷ qs) f e = (c, here, (cc))
  refused-first (asked c false ∷ qs) f e = let (d, x, is) = refused-first qs f e in (d, later x, is)

  pub some_first : {qs : List (Asked F)} {c : ListedCause F} → Holds qs c → (d : ListedCause F) × First qs d
  some_first (at {c = c}) = (c, here)
  some_first (further {a = asked d true} x) = (d, here)
  some_first (further {a = asked d false} x) = let (e, y) = some_first x in (e, later y)

  -- ---- judging in turn

  pub first_then : (qs bs : List (Asked F)) → first_of (qs ++ bs) ≡ and_then (first_of qs) (first_of bs)
  first_then [] bs = refl
  first_then (asked c true ∷ qs) bs = refl
  first_then (asked c false ∷ qs) bs = first_then qs bs

  -- none of the list holds
  abbrev pub clear : List (Asked F) → Bool
  clear [] = true
  clear (asked c h ∷ qs) = not h && clear qs

  -- all of the list are refused alike
  pub data Alike (f : Refusal) : List (Asked F) → Type 0 where
    none : Alike f []
    one_more : {c : ListedCause F} {h : Bool} {qs : List (Asked F)} → refused_by c ≡ f → Alike f qs → Alike f (asked c h ∷ qs)

  pub alike-first : {f : Refusal} {qs : List (Asked F)} → Alike f qs → first_of qs ≡ cond (clear qs) (Ok tt) (Err f)
  alike-first none = refl
  alike-first (one_more {h = true} is x) = ap Err is
  alike-first (one_more {h = false} is x) = alike-first x

  pub alike_both : {f : Refusal} {qs bs : List (Asked F)} → Alike f qs → Alike f bs → Alike f (qs ++ bs)
  alike_both none y = y
  alike_both (one_more is x) y = one_more is (alike_both x y)

  -- ---- a judgement and its list

  -- A judgement by a list of causes: it is what the first of them that holds is refused by.
  pub record Judges (j : Result ⊤ Refusal) (qs : List (Asked F)) : Type 0 where
    pub is : j ≡ first_of qs

  -- A test by a list of causes that are refused alike: it succeeds where none of them holds.
  pub record Clears (f : Refusal) (test : Bool) (qs : List (Asked F)) : Type 0 where
    pub alike : Alike f qs
    pub is : test ≡ clear qs

  -- a group's 11 before its 7
  pub group-judges : {qs bs : List (Asked F)} {within agrees : Bool} → Clears refusal.Value within qs → Clears refusal.Disagreement agrees bs → Judges (judge within agrees) (qs ++ bs)
  group-judges {qs} {bs} w a =
      record { is = rw (first_then qs bs, alike-first w.alike, alike-first a.alike, w.is, a.is) (go (clear qs) (clear bs)) }
    where
      go : (v u : Bool) → judge v u ≡ and_then (cond v (Ok tt) (Err refusal.Value)) (cond u (Ok tt) (Err refusal.Disagreement))
      go true u = refl
      go false u = refl

  -- a group that has no 7
  pub value-judges : {qs : List (Asked F)} {within : Bool} → Clears refusal.Value within qs → Judges (judge within true) qs
  value-judges w = record { is = rw (alike-first w.alike, w.is) }

  -- EXACTLY: what is so judged is refused for the first cause of the list that holds, by its number, and for nothing else; where any of them holds, it is refused
  module _ {j : Result ⊤ Refusal} {qs : List (Asked F)} (by : Judges j qs) where
    pub refused-for : (f : Refusal) → j ≡ Err f → (c : ListedCause F) × First qs c × (refused_by c ≡ f)
    refused-for f e = refused-first qs f (sym by.is ∙ e)

    pub first-refuses : {c : ListedCause F} → First qs c → j ≡ Err (refused_by c)
    first-refuses x = by.is ∙ first-refused x

    pub each-refuses : {c : ListedCause F} → Holds qs c → (d : ListedCause F) × First qs d × (j ≡ Err (refused_by d))
    each-refuses x = let (d, y) = some_first x in (d, y, first-refuses y)

  -- one judgement after another
  pub in-turn : {qs bs : List (Asked F)} {x y : Result ⊤ Refusal} → Judges x qs → Judges y bs → Judges (and_then x y) (qs ++ bs)
  in-turn {qs} {bs} e g = record { is = rw (e.is, g.is) (sym (first_then qs bs)) }

  -- one or the other
  pub chosen : (b : Bool) {qs bs : List (Asked F)} {x y : Result ⊤ Refusal} → Judges x qs → Judges y bs → Judges (cond b x y) (cond b qs bs)
  chosen true e g = e
  chosen false e g = g

  pub no-cause : Judges (Ok tt) []
  no-cause = record { is = refl }

  -- ---- a test and its list

  pub no_test : {f : Refusal} → Clears f true []
  no_test = record { alike = none; is = refl }

  pub both-clear : {f : Refusal} {qs bs : List (Asked F)} {a b : Bool} → Clears f a qs → Clears f b bs → Clears f (a && b) (qs ++ bs)
  both-clear {qs = qs} {bs} {a} {b} e g = record { alike = alike_both e.alike g.alike; is = go qs a b e.is g.is }
    where
      go : (qs : List (Asked F)) (a b : Bool) → a ≡ clear qs → b ≡ clear bs → (a && b) ≡ clear (qs ++ bs)
      go [] a b e g = rw (e, g)
      go (asked c true ∷ qs) a b e g = rw e
      go (asked c false ∷ qs) a b e g = go qs a b e g

  pub clear-unless : {c : ListedCause F} (b : Bool) → Clears (refused_by c) b (unless b c)
  clear-unless b = record { alike = one_more refl none; is = twice b }

  -- a cause that holds where a test succeeds
  pub clear-asked : {c : ListedCause F} (h : Bool) → Clears (refused_by c) (not h) (asked c h ∷ [])
  clear-asked true = record { alike = one_more refl none; is = refl }
  clear-asked false = record { alike = one_more refl none; is = refl }

  pub clear-needed : {f : F} (ok : ℕ → Bool) (n : Option ℕ) → Clears refusal.Value (present ok n) (needed f ok n)
  clear-needed ok None = record { alike = one_more refl (one_more refl none); is = refl }
  clear-needed ok (Some n) = record { alike = one_more refl (one_more refl none); is = twice (ok n) }

  pub clear-free : {f : F} (ok : ℕ → Bool) (n : Option ℕ) → Clears refusal.Value (optional ok n) (free f ok n)
  clear-free ok None = record { alike = one_more refl none; is = refl }
  clear-free ok (Some n) = record { alike = one_more refl none; is = twice (ok n) }

  pub clear-named : {f : F} (missing right : Bool) → (missing ≡ true → right ≡ false) → Clears refusal.Value right (named f missing right)
  clear-named true right none-there = record { alike = one_more refl (one_more refl none); is = none-there refl }
  clear-named false right none-there = record { alike = one_more refl (one_more refl none); is = twice right }

  -- a test that is asked only where it is called for
  pub clear-where : {f : Refusal} (b : Bool) {test : Bool} {qs : List (Asked F)} → Clears f test qs → Clears f (not b || test) (cond b qs [])
  clear-where true x = x
  clear-where false x = no_test

  -- ---- lists: each in turn, with its number in the list

  abbrev pub each_from : {A : Type 0} → (ℕ → A → List (Asked F)) → ℕ → List A → List (Asked F)
  each_from causes n [] = []
  each_from causes n (x ∷ xs) = causes n x ++ each_from causes (n + 1) xs

  -- "a count over its limit, a slot past its count .. that is not blank"
  abbrev pub counted : F → Bool → Bool → List (Asked F)
  counted f within blank = unless within (over-its-limit f) ++ unless blank (slot-past-its-count f)

  pub count-clear : {f : F} (within blank : Bool) → Clears refusal.Value (within && blank) (counted f within blank)
  count-clear within blank = both-clear (clear-unless within) (clear-unless blank)

-- ---- the causes of a part of a record as those of the whole: their fields by other names

module _ {F G : Type 0} (at : F → G) where
  abbrev pub renamed : ListedCause F → ListedCause G
  renamed (outside-its-range f) = outside-its-range (at f)
  renamed (bad-name f) = bad-name (at f)
  renamed (required-missing f) = required-missing (at f)
  renamed (half-of-a-pair f) = half-of-a-pair (at f)
  renamed (over-its-limit f) = over-its-limit (at f)
  renamed (slot-past-its-count f) = slot-past-its-count (at f)
  renamed (foreign f) = foreign (at f)
  renamed (disagreeing f) = disagreeing (at f)

  abbrev pub within : List (Asked F) → List (Asked G)
  within [] = []
  within (asked c h ∷ qs) = asked (renamed c) h ∷ within qs

  same-refusal : (c : ListedCause F) → refused_by (renamed c) ≡ refused_by c
  same-refusal (outside-its-range f) = refl
  same-refusal (bad-name f) = refl
  same-refusal (required-missing f) = refl
  same-refusal (half-of-a-pair f) = refl
  same-refusal (over-its-limit f) = refl
  same-refusal (slot-past-its-count f) = refl
  same-refusal (foreign f) = refl
  same-refusal (disagreeing f) = refl

  pub judges-within : {j : Result ⊤ Refusal} {qs : List (Asked F)} → Judges j qs → Judges j (within qs)
  judges-within {qs = qs} x = record { is = x.is ∙ go qs }
    where
      go : (qs : List (Asked F)) → first_of qs ≡ first_of (within qs)
      go [] = refl
      go (asked c true ∷ qs) = ap Err (sym (same-refusal c))
      go (asked c false ∷ qs) = go qs
