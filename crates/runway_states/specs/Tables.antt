-- The figures that a runway state may have, as they are listed: its runways by document 02, No. 13, the others by the tables of document 003. A figure that
-- is reserved, or that a table does not list, is 5.
-- Assumes nothing: these are definitions.
use Rattle.std.specs.Prelude.{ℕ, Bool, false, ◌||◌, ◌&&◌, List, [], ◌∷◌, leb, eqb}
use Rattle.figures.specs.declared.kinds.Field.{Field}
use Rattle.figures.specs.declared.kinds.Field.TheVariants as field
use Rattle.runway_states.specs.declared.tables.Table.{Table}
use Rattle.runway_states.specs.declared.tables.Table.TheVariants as table

-- one figure, those up to it, or those from one to another
pub data Entry : Type 0 where
  Only : ℕ → Entry
  UpTo : ℕ → Entry
  From : ℕ → ℕ → Entry

abbrev pub lists : Entry → ℕ → Bool
lists (Only a) n = eqb n a
lists (UpTo a) n = leb n a
lists (From a b) n = leb a n && leb n b

abbrev pub has : List Entry → ℕ → Bool
has [] n = false
has (e ∷ []) n = lists e n
has (e ∷ (d ∷ es)) n = lists e n || has (d ∷ es) n

-- "runway RR (01-36, 51-86 the right-hand one, 88 all, 99 repeated from the last)"
abbrev pub runways : List Entry
runways = From 1 36 ∷ From 51 86 ∷ Only 88 ∷ Only 99 ∷ []

-- 0919, the deposit: clear and dry, damp, wet, rime and frost, dry snow, wet snow, slush, ice, compacted snow, frozen ruts
abbrev pub deposits : List Entry
deposits = UpTo 9 ∷ []

-- 0519, its extent: to 10 %, 11 to 25 %, 26 to 50 %, 51 to 100 % of the runway; 3, 4, 6, 7 and 8 are reserved
abbrev pub extents : List Entry
extents = Only 1 ∷ Only 2 ∷ Only 5 ∷ Only 9 ∷ []

-- 0366, friction 0.00 to 0.90, then braking action poor, medium to poor, medium, medium to good, good; 96 to 98 are reserved; unreliable
abbrev pub brakings : List Entry
brakings = UpTo 95 ∷ Only 99 ∷ []

abbrev pub table_of : Table → List Entry
table_of table.Runways = runways
table_of table.Deposits = deposits
table_of table.Extents = extents
table_of table.Brakings = brakings

-- the figures of a group, or slashes where they may be missing; a slash beside a figure is neither
abbrev pub holds : Table → Bool → Field → Bool
holds t slashes (field.Number n) = has (table_of t) n
holds t slashes field.Missing = slashes
holds t slashes field.Mixed = false
holds t slashes field.Other = false
