-- What the row's tests in the code say, and those that decide at a group or at a part's end.
-- Assumes nothing: these are definitions.
use Rattle.std.specs.Prelude.{ℕ, ◌≡◌, List, Bool, true, false, not, ◌&&◌, ◌||◌, drop, leb}
use Rattle.places.specs.Seek.{owed}
use Rattle.places.specs.Engine.{Group, mosts_of, musts_of, onward}
use Rattle.record.specs.declared.aerodrome.Opening.{Opening}
use Rattle.record.specs.declared.aerodrome.Opening.TheVariants as opening
use Rattle.record.specs.declared.aerodrome.Leg.{Leg}
use Rattle.record.specs.declared.aerodrome.Edition.{Edition}
use Rattle.taf_row.specs.declared.kinds.Part.{Part}
use Rattle.taf_row.specs.Row.{element_stands, word, row}

-- ---- the row

-- how many groups may stand at each place of a part, and which places must have one, in any edition
abbrev pub Mosts : Part → List ℕ → Type 0
Mosts w ns = (e : Edition) → ns ≡ mosts_of (row e w)

abbrev pub Musts : Part → List Bool → Type 0
Musts w bs = (e : Edition) → bs ≡ musts_of (row e w)

-- where reading stands past place i, in any part of any edition
abbrev pub Onward : ℕ → ℕ → Type 0
Onward i j = (e : Edition) (w : Part) → j ≡ onward (row e w) i

-- ---- TEMPO at once after PROB30 or PROB40

abbrev pub is_probable : Opening → Bool
is_probable opening.None = false
is_probable opening.Becoming = false
is_probable opening.Temporary = false
is_probable (opening.Probable n) = true
is_probable (opening.ProbablyTemporary n) = false
is_probable opening.From = false

abbrev pub joins : Opening → Group → Bool
joins o g = is_probable o && word "TEMPO" g

-- ---- the end of a part, where k groups stand at place c: a required group is absent, or a change body has no element

abbrev pub owes_in : Edition → Part → ℕ → ℕ → Leg → Bool
owes_in e w c k r = owed k (drop c (musts_of (row e w))) || not (element_stands w r.body)

-- in any edition
abbrev pub Owes : Part → ℕ → ℕ → Leg → Bool → Type 0
Owes w c k r b = (e : Edition) → b ≡ owes_in e w c k r

-- ---- "up to .. 16 change groups": there is no room for one more

abbrev pub is_full : ℕ → Bool
is_full n = leb 16 n
