-- The place engine: one reading of a report's groups against its row of places, and one writing, for every report kind. Refusals 4 and 8 come from here
-- and from nowhere else, and so do 6 and 9, but where a place's own reading of a group answers them; 5 and 7 come from such a reading alone.
-- Assumes nothing: these are definitions.
use Rattle.std.specs.Prelude.{ℕ, ◌+◌, Bool, true, false, cond, List, [], ◌∷◌, ◌++◌, map, length, get_or, drop, leb, Err, None, Ok, Option, Result, Some}
use Rattle.text.specs.declared.kinds.Refusal.{Refusal}
use Rattle.text.specs.declared.kinds.Refusal.TheVariants as refusal
use Rattle.text.specs.Groups.{Piece}
use Rattle.shapes.specs.Pattern.{Pattern, has_any}
use Rattle.places.specs.declared.kinds.Found.{Found}
use Rattle.places.specs.declared.kinds.Found.TheVariants.{Take, Skips, Full, Earlier, Unknown}
use Rattle.places.specs.Seek.{Stand, find_of, owed, refusal_of}

abbrev pub Group : Type 0
Group = List ℕ

-- what is read goes on, or the refusal stands
abbrev pub then : {A B : Type 0} → Result B Refusal → (B → Result A Refusal) → Result A Refusal
then (Ok b) k = k b
then (Err f) k = Err f

-- A place of a report; `R` is the record.
pub record Place (R : Type 0) : Type 0 where
  -- a group has the place's shape; and patterns of which every such group fits one
  pub has : Group → Bool
  pub cover : List Pattern
  -- patterns of which every group that is written here fits one
  pub spoken : List Pattern
  -- so many groups may stand here, whether one must, and whether it ends the report (NIL, CNL)
  pub most : ℕ
  pub must : Bool
  pub ends : Bool
  -- the record with what the group says, where so many stand already
  pub read : ℕ → Group → R → Result R Refusal
  -- writing: the groups that say it of a record, and what reading them back makes of the record read so far
  pub show : R → List Group
  pub put : R → R → R

-- One group read: reading goes on at a place where so many stand, it stops at a stop word, or the group is refused.
pub data Step (R : Type 0) : Type 0 where
  On : ℕ → ℕ → R → Step R
  Halt : Step R
  Stop : Refusal → Step R

-- The end of a reading: where the unread rest begins, with the record; or a refusal and its place in the text.
pub data Outcome (R : Type 0) : Type 0 where
  Done : ℕ → R → Outcome R
  Fault : Refusal → ℕ → Outcome R

module _ {R : Type 0} where
  -- past the row no group is taken
  abbrev pub nowhere : Place R
  nowhere = record { has = λ g. false; cover = []; spoken = []; most = 0; must = false; ends = false; read = λ k g r. Err refusal.Shape; show = λ r. []; put = λ r acc. acc }

  abbrev pub place_at : List (Place R) → ℕ → Place R
  place_at row i = get_or row i nowhere

  -- a row as it stands to a group; which of its places must have one, how many may stand at each
  abbrev pub standing : Group → Place R → Stand
  standing g p = record { has = p.has g; most = p.most; must = p.must }

  abbrev pub stands_of : List (Place R) → Group → List Stand
  stands_of row g = map (standing g) row

  abbrev pub musts_of : List (Place R) → List Bool
  musts_of row = map (λ (p : Place R). p.must) row

  abbrev pub mosts_of : List (Place R) → List ℕ
  mosts_of row = map (λ (p : Place R). p.most) row

  abbrev pub taken : ℕ → ℕ → Result R Refusal → Step R
  taken i n (Ok r) = On i n r
  taken i n (Err f) = Stop f

  -- past a place that ends the report reading is past the row
  abbrev pub onward : List (Place R) → ℕ → ℕ
  onward row i = cond (place_at row i).ends (length row) i

  abbrev pub judged : List (Place R) → R → Group → Found → Step R
  judged row acc g (Take i k) = taken (onward row i) (k + 1) ((place_at row i).read k g acc)
  judged row acc g Skips = Stop (refusal_of Skips)
  judged row acc g Full = Stop (refusal_of Full)
  judged row acc g Earlier = Stop (refusal_of Earlier)
  judged row acc g Unknown = Stop (refusal_of Unknown)

  -- One group, read where k groups stand at place c. "a group .. after NIL or CNL, a stop word too" is refused 4; a stop word stops the reading.
  unfoldable pub step : List (Place R) → List Pattern → ℕ → ℕ → R → Group → Step R
  step row words c k acc g =
      cond (leb (length row) c) (Stop refusal.Shape) (cond (has_any words g) Halt (judged row acc g (find_of (stands_of row g) c k)))

  abbrev pub carry : Step R → ℕ → Outcome R → (ℕ → ℕ → R → Outcome R) → Outcome R
  carry (On c k acc) at halted f = f c k acc
  carry Halt at halted f = halted
  carry (Stop r) at halted f = Fault r at

  abbrev pub finish : Bool → ℕ → R → Outcome R
  finish true at acc = Fault refusal.Absence at
  finish false at acc = Done at acc

  -- reading ends at a position of the text: a required group is absent there, or the unread rest begins there
  abbrev pub closed : List (Place R) → ℕ → ℕ → ℕ → R → Outcome R
  closed row at c k acc = finish (owed k (drop c (musts_of row))) at acc

  -- the groups are over: what follows the "=" is refused first, "an absence at the end last"
  abbrev pub over : List (Place R) → Option ℕ → ℕ → ℕ → ℕ → R → Outcome R
  over row (Some at) end c k acc = Fault refusal.Shape at
  over row None end c k acc = closed row end c k acc

  -- the groups left, where k groups stand at place c; what follows the "=", and the text's length
  unfoldable pub run : List (Place R) → List Pattern → Option ℕ → ℕ → ℕ → ℕ → R → List Piece → Outcome R
  run row words tail end c k acc [] = over row tail end c k acc
  run row words tail end c k acc (g ∷ gs) =
      carry (step row words c k acc g.bytes) g.start (closed row g.start c k acc) (λ c' k' acc'. run row words tail end c' k' acc' gs)

  -- Writing: the groups of each place in turn; and the record that they are read back as.
  abbrev pub written : List (Place R) → R → List Group
  written [] r = []
  written (p ∷ ps) r = p.show r ++ written ps r

  abbrev pub put_all : List (Place R) → R → R → R
  put_all [] r acc = acc
  put_all (p ∷ ps) r acc = put_all ps r (p.put r acc)
