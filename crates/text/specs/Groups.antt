-- The groups of a text and their places, and the text that groups are joined to.
-- Assumes nothing: these are definitions.
use Rattle.std.specs.Prelude.{ℕ, zero, suc, ◌+◌, ◌-◌, ◌≡◌, Bool, true, false, cond, ◌&&◌, List, [], ◌∷◌, ◌++◌, length, take, drop, leb}
use Rattle.text.specs.Bytes.{parting, inner, lead}
use Rattle.text.specs.declared.kinds.Cut.{Cut}
use Rattle.text.specs.declared.kinds.Cut.TheVariants.{Group, End}

-- a group of a text: its place, where its first byte stands, and its bytes
pub record Piece : Type 0 where
  pub start : ℕ
  pub bytes : List ℕ

-- the groups of a list that stands at position p, of which the first s bytes are passed over: up to the first "=" or the end
unfoldable pub groups_in : ℕ → ℕ → List ℕ → List Piece
groups_in p s [] = []
groups_in p zero (x ∷ xs) =
    elim (parting x) [
      | true ↦ groups_in (suc p) zero xs
      | false ↦ elim (inner x) [
        | true ↦ record { start = p; bytes = take (lead inner (x ∷ xs)) (x ∷ xs) } ∷ groups_in (suc p) (lead inner xs) xs
        | false ↦ []
      ]
    ]
groups_in p (suc s) (x ∷ xs) = groups_in (suc p) s xs

-- all groups of a text from a position on, up to the first "=" or the end
unfoldable pub groups_from : List ℕ → ℕ → List Piece
groups_from text at = groups_in at 0 (drop at text)

-- what stands at position p, where the list there begins with no parting byte
unfoldable pub cut_at : ℕ → List ℕ → Cut
cut_at p [] = End p
cut_at p (x ∷ xs) = elim (inner x) [ true ↦ Group p (p + lead inner (x ∷ xs)) | false ↦ End p ]

-- the first position at or after `at` that holds no parting byte; the length, past the end
unfoldable pub past_parting : List ℕ → ℕ → ℕ
past_parting text at = elim (leb (length text) at) [ true ↦ length text | false ↦ at + lead parting (drop at text) ]

-- the next group at or after a position, or where the groups end
unfoldable pub next_of : List ℕ → ℕ → Cut
next_of text at = cut_at (past_parting text at) (drop (past_parting text at) text)

-- the part from s up to e; the empty part where there is none
unfoldable pub part_of : List ℕ → ℕ → ℕ → List ℕ
part_of text s e = cond (leb s e && leb e (length text)) (take (e - s) (drop s text)) []

-- "Canonical text: single spaces, no leading blank, "=" at once after the last group, no unread rest."
unfoldable pub spaced : List (List ℕ) → List ℕ
spaced [] = []
spaced (g ∷ gs) = 32 ∷ (g ++ spaced gs)

unfoldable pub parted : List (List ℕ) → List ℕ
parted [] = []
parted (g ∷ gs) = g ++ spaced gs

unfoldable pub join : List (List ℕ) → List ℕ
join gs = parted gs ++ (61 ∷ [])

-- what stands before a group that is written at position `at` of a canonical text
abbrev pub opening : ℕ → List ℕ
opening zero = []
opening (suc at) = 32 ∷ []

-- groups and their places in the text that they are joined to, from position p on
unfoldable pub placed : ℕ → List (List ℕ) → List Piece
placed p [] = []
placed p (g ∷ gs) = record { start = p; bytes = g } ∷ placed (p + length g + 1) gs

-- what groups add to a canonical text that has reached position `at`
unfoldable pub written : ℕ → List (List ℕ) → List ℕ
written at [] = []
written at (g ∷ gs) = (opening at ++ g) ++ written (at + length (opening at ++ g)) gs

-- each byte of a list, of a list of groups, passes a test
abbrev pub Every : (ℕ → Bool) → List ℕ → Type 0
Every P [] = Unit {0}
Every P (x ∷ xs) = (P x ≡ true) × Every P xs

abbrev pub Everywhere : (ℕ → Bool) → List (List ℕ) → Type 0
Everywhere P [] = Unit {0}
Everywhere P (g ∷ gs) = Every P g × Everywhere P gs

-- a group that can be joined: at least one byte, and each a byte of a group
abbrev pub Some : List ℕ → Type 0
Some [] = ⊥
Some (x ∷ xs) = Unit {0}

abbrev pub Whole : List ℕ → Type 0
Whole g = Some g × Every inner g

abbrev pub Wholes : List (List ℕ) → Type 0
Wholes [] = Unit {0}
Wholes (g ∷ gs) = Whole g × Wholes gs
