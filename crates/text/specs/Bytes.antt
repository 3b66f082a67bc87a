-- The bytes of a text: which part groups, which a group may hold, which a text may hold; and how far a run of bytes reaches.
-- Assumes nothing: these are definitions.
use Rattle.std.specs.Prelude.{ℕ, suc, Bool, true, false, not, cond, ◌&&◌, ◌||◌, List, [], ◌∷◌, leb, eqb}
use Rattle.text.specs.declared.Run.{Run}
use Rattle.text.specs.declared.Run.TheVariants as run

-- "Groups are parted by one or more of space, CR, LF."
abbrev pub parting : ℕ → Bool
parting b = eqb b 32 || eqb b 13 || eqb b 10

-- a byte of a group: no parting byte, and not "="
abbrev pub inner : ℕ → Bool
inner b = not (parting b || eqb b 61)

-- a byte other than "="
abbrev pub other : ℕ → Bool
other b = not (eqb b 61)

-- refusal 2: "a byte that is not A-Z, 0-9, / + - = space CR LF"
abbrev pub allowed : ℕ → Bool
allowed b =
    leb 65 b && leb b 90
    || leb 48 b && leb b 57
    || eqb b 47 || eqb b 43 || eqb b 45 || eqb b 61 || eqb b 32 || eqb b 13 || eqb b 10

-- a byte of a run
abbrev pub passes : Run → ℕ → Bool
passes run.Parting = parting
passes run.Inner = inner
passes run.Other = other
passes run.Allowed = allowed

-- how many bytes at the front of a list pass a test
unfoldable pub lead : (ℕ → Bool) → List ℕ → ℕ
lead P [] = 0
lead P (x ∷ xs) = elim (P x) [ true ↦ suc (lead P xs) | false ↦ 0 ]

-- the position after the last byte that is no parting byte; 0 where all are
unfoldable pub last_end : List ℕ → ℕ
last_end [] = 0
last_end (x ∷ xs) = cond (parting x && eqb (last_end xs) 0) 0 (suc (last_end xs))
