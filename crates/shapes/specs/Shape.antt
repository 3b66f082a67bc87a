-- Shapes: parts in a row, each a choice of patterns. A shape is written as text, "FEW|SCT|BKN|OVC ### CB|TCU|": a space stands between two
-- parts and '|' between two alternatives of a part; one of some letters or nothing is "L|C|R|".
-- Assumes nothing: these are definitions.
use Rattle.std.specs.Prelude.{ℕ, zero, suc, ◌+◌, ◌-◌, ◌≡◌, Bool, true, false, cond, not, ◌&&◌, ◌||◌, List, [], ◌∷◌, ◌++◌, map, length, get_or, take, drop, replicate, leb, ltb, eqb}
use Rattle.figures.specs.declared.kinds.Field.{Field}
use Rattle.figures.specs.declared.kinds.Field.TheVariants.{Other}
use Rattle.figures.specs.Figures.{field_at, field_text, Fits, every}
use Rattle.shapes.specs.Pattern.{Pattern, fits, more, apart, all_apart}
use Rattle.shapes.specs.declared.kinds.Value.{Value}
use Rattle.shapes.specs.declared.kinds.Scan.{Scan}
use Rattle.shapes.specs.declared.kinds.Step.{Step}

-- how many bytes at the front of a text pass the test; how many stand before the first c
unfoldable pub leading : (ℕ → Bool) → List ℕ → ℕ
leading t [] = 0
leading t (b ∷ bs) = cond (t b) (suc (leading t bs)) 0

abbrev pub up_to : ℕ → List ℕ → ℕ
up_to c s = leading (λ b. not (eqb b c)) s

-- a text cut at each byte c
abbrev pub onto : ℕ → List (List ℕ) → List (List ℕ)
onto b [] = (b ∷ []) ∷ []
onto b (w ∷ ws) = (b ∷ w) ∷ ws

unfoldable pub split : ℕ → List ℕ → List (List ℕ)
split c [] = [] ∷ []
split c (b ∷ bs) = cond (eqb b c) ([] ∷ split c bs) (onto b (split c bs))

-- the parts of a shape, each with its alternatives: ' ' is 32, '|' is 124
abbrev pub Part : Type 0
Part = List Pattern

unfoldable pub parts_of : List ℕ → List Part
parts_of shape = map (split 124) (split 32 shape)

-- ---- scanning

-- the group begins with bytes that fit the pattern
unfoldable pub begins : Pattern → List ℕ → Bool
begins [] g = true
begins (p ∷ ps) [] = false
begins (p ∷ ps) (b ∷ bs) = fits p b && begins ps bs

-- the number field of an alternative is its first run of '#' (35): where it begins, and how long it is
abbrev pub field_start : Pattern → ℕ
field_start a = up_to 35 a

abbrev pub run_length : Pattern → ℕ
run_length a = leading (λ b. eqb b 35) a

abbrev pub field_width : Pattern → ℕ
field_width a = run_length (drop (field_start a) a)

-- what a group that begins with alternative number k, a, says there
unfoldable pub value_of : ℕ → Pattern → List ℕ → Value
value_of k a g = record { which = k; field = field_at g (field_start a) (field_width a) }

-- The alternative of a part that a group begins with: what the group says there, and how many bytes it takes.
pub data Pick : Type 0 where
  Alternative : Value → ℕ → Pick
  Nothing : Pick

-- the first alternative that the group begins with, where k were passed
unfoldable pub pick_of : ℕ → Part → List ℕ → Pick
pick_of k [] g = Nothing
pick_of k (a ∷ others) g = cond (begins a g) (Alternative (value_of k a g) (length a)) (pick_of (k + 1) others g)

-- What a scan gives: the value at each part, or nothing where the group has not the shape.
pub data Values : Type 0 where
  Says : List Value → Values
  Unlike : Values

abbrev pub also : Value → Values → Values
also v (Says vs) = Says (v ∷ vs)
also v Unlike = Unlike

unfoldable pub scan_parts : List Part → List ℕ → Values
scan_parts [] [] = Says []
scan_parts [] (b ∷ g) = Unlike
scan_parts (p ∷ ps) g =
    elim (pick_of 0 p g) [
      | Alternative v w ↦ also v (scan_parts ps (drop w g))
      | Nothing ↦ Unlike
    ]

-- the code's answer: the values in an array of eight, the rest of it blank; a shape of more than eight parts is no shape
abbrev pub blank_value : Value
blank_value = record { which = 0; field = Other }

abbrev pub misfit : Scan
misfit = record { fits = false; values = replicate 8 blank_value }

-- one part as the code takes it: the alternative's number, its number field, and where the group goes on
abbrev pub step_to : ℕ → Field → ℕ → Step
step_to k f past = record { value = record { which = k; field = f }; past = past }

-- and all of them: values that lead to the position `past` of a group of n bytes
abbrev pub scan_end : ℕ → ℕ → List Value → Scan
scan_end past n values = cond (eqb past n) (record { fits = true; values = values }) misfit

abbrev pub padded : List Value → List Value
padded vs = vs ++ replicate (8 - length vs) blank_value

unfoldable pub answered : Values → Scan
answered (Says vs) = cond (leb (length vs) 8) (record { fits = true; values = padded vs }) misfit
answered Unlike = misfit

unfoldable pub scan_of : List ℕ → List ℕ → Scan
scan_of shape g = answered (scan_parts (parts_of shape) g)

unfoldable pub has_shape : List ℕ → List ℕ → Bool
has_shape shape g = (scan_of shape g).fits

-- ---- printing

-- an alternative with its number field filled in
unfoldable pub filled : Pattern → Field → List ℕ
filled a f = take (field_start a) a ++ (field_text (field_width a) f ++ drop (field_start a + field_width a) a)

unfoldable pub print_parts : List Part → List Value → List ℕ
print_parts [] vs = []
print_parts (p ∷ ps) [] = []
print_parts (p ∷ ps) (v ∷ vs) = filled (get_or p v.which []) v.field ++ print_parts ps vs

unfoldable pub print_of : List ℕ → List Value → List ℕ
print_of shape vs = print_parts (parts_of shape) vs

-- ---- the groups of a shape, and when a shape can be scanned

-- every way to take one alternative of each part
abbrev pub each_before : Pattern → List Pattern → List Pattern
each_before a [] = []
each_before a (c ∷ cs) = (a ++ c) ∷ each_before a cs

abbrev pub with_each : Part → List Pattern → List Pattern
with_each [] cs = []
with_each (a ∷ others) cs = each_before a cs ++ with_each others cs

unfoldable pub spellings : List Part → List Pattern
spellings [] = [] ∷ []
spellings (p ∷ ps) = with_each p (spellings ps)

-- nothing that fits the pattern x begins with e
unfoldable pub unled : Pattern → Pattern → Bool
unled [] xs = false
unled (e ∷ es) [] = true
unled (e ∷ es) (x ∷ xs) = apart x e || unled es xs

unfoldable pub unled_each : Pattern → List Pattern → Bool
unled_each e [] = true
unled_each e (x ∷ xs) = unled e x && unled_each e xs

-- no group that takes a later alternative of a part begins with an earlier one
abbrev pub clear_part : Part → List Pattern → Bool
clear_part [] cs = true
clear_part (a ∷ others) cs = unled_each a (with_each others cs) && clear_part others cs

unfoldable pub clear : List Part → Bool
clear [] = true
clear (p ∷ ps) = clear_part p (spellings ps) && clear ps

-- an alternative can be printed: a number field of at most 5 figures, and characters that stand for themselves before and after it
abbrev pub plain : ℕ → Bool
plain p = not (eqb p 35 || (eqb p 64 || (eqb p 63 || more p)))

unfoldable pub printable : Pattern → Bool
printable a = every plain (take (field_start a) a) && (leb (field_width a) 5 && every plain (drop (field_start a + field_width a) a))

abbrev pub printable_each : Part → Bool
printable_each [] = true
printable_each (a ∷ others) = printable a && printable_each others

abbrev pub printable_all : List Part → Bool
printable_all [] = true
printable_all (p ∷ ps) = printable_each p && printable_all ps

-- Computed from the shape alone: what is printed by it is scanned back.
unfoldable pub sound : List ℕ → Bool
sound shape = clear (parts_of shape) && (printable_all (parts_of shape) && leb (length (parts_of shape)) 8)

-- The values that a shape prints and scans back: an alternative that is there, and its number field, or none where it has none.
abbrev pub FieldOf : ℕ → Field → Type 0
FieldOf zero f = f ≡ Other
FieldOf (suc w) f = Fits (suc w) f

abbrev pub Sayable : List Part → List Value → Type 0
Sayable [] [] = Unit {0}
Sayable [] (v ∷ vs) = ⊥
Sayable (p ∷ ps) [] = ⊥
Sayable (p ∷ ps) (v ∷ vs) = ((ltb v.which (length p) ≡ true) × FieldOf (field_width (get_or p v.which [])) v.field) × Sayable ps vs

-- no group has both shapes
unfoldable pub shapes_apart : List ℕ → List ℕ → Bool
shapes_apart s t = all_apart (spellings (parts_of s)) (spellings (parts_of t))
