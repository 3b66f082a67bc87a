-- Figures, slashes and letters, and number fields: "Number fields have a width of 1 to 5 figures, leading zeros written"; "Missing is slashes,
-- as many as letters".
-- Assumes nothing: these are definitions.
use Rattle.std.specs.Prelude.{ℕ, zero, suc, ◌+◌, ◌-◌, ◌*◌, ◌/◌, ◌%◌, ◌^◌, ◌<◌, Bool, true, false, cond, ◌&&◌, List, [], ◌∷◌, ◌++◌, length, take, drop, replicate, leb, eqb}
use Rattle.figures.specs.declared.kinds.Field.{Field}
use Rattle.figures.specs.declared.kinds.Field.TheVariants.{Number, Missing, Mixed, Other}

-- '0' to '9', '/', 'A' to 'Z'
abbrev pub is_figure : ℕ → Bool
is_figure b = leb 48 b && leb b 57

abbrev pub is_slash : ℕ → Bool
is_slash b = eqb b 47

abbrev pub is_letter : ℕ → Bool
is_letter b = leb 65 b && leb b 90

-- the w last figures of n, most significant first, leading zeros written
unfoldable pub figures : ℕ → ℕ → List ℕ
figures zero n = []
figures (suc w) n = figures w (n / 10) ++ ((48 + n % 10) ∷ [])

-- what the bytes hold, after bytes that hold the number n, and had a figure, and had a slash
unfoldable pub scan : ℕ → Bool → Bool → List ℕ → Field
scan n fig slash [] = cond slash (cond fig Mixed Missing) (Number n)
scan n fig slash (b ∷ bs) =
    cond (is_figure b) (scan (n * 10 + (b - 48)) true slash bs) (cond (is_slash b) (scan n fig true bs) Other)

-- what the number field of w bytes from `at` holds; Other where they are not there, or w is not 1 to 5
unfoldable pub field_at : List ℕ → ℕ → ℕ → Field
field_at s at w = cond (leb 1 w && leb w 5 && leb (at + w) (length s)) (scan 0 false false (take w (drop at s))) Other

-- a number field as it is written; a width over 5 is none
unfoldable pub number_text : ℕ → ℕ → List ℕ
number_text w n = cond (leb w 5) (figures w n) []

unfoldable pub slashes : ℕ → List ℕ
slashes w = cond (leb w 5) (replicate w 47) []

-- a number field that may be missing, as it is written; what is neither has no text
unfoldable pub field_text : ℕ → Field → List ℕ
field_text w (Number n) = number_text w n
field_text w Missing = slashes w
field_text w Mixed = []
field_text w Other = []

-- f can be written at the width w: a number of at most w figures, or missing
abbrev pub Fits : ℕ → Field → Type 0
Fits w (Number n) = n < 10 ^ w
Fits w Missing = Unit {0}
Fits w Mixed = ⊥
Fits w Other = ⊥

-- every byte of a text, or every element of a list, is of a kind
abbrev pub every : {A : Type 0} → (A → Bool) → List A → Bool
every kind [] = true
every kind (b ∷ bs) = kind b && every kind bs
