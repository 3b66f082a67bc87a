-- Where a group goes in a row of places: "every other group is taken at the first place still open whose shape it has".
-- Assumes nothing: these are definitions.
use Rattle.std.specs.Prelude.{ℕ, ◌+◌, ◌-◌, Bool, false, ◌&&◌, ◌||◌, cond, List, [], ◌∷◌, get_or, take, drop, ltb, eqb}
use Rattle.text.specs.declared.kinds.Refusal.{Refusal}
use Rattle.text.specs.declared.kinds.Refusal.TheVariants as refusal
use Rattle.places.specs.declared.kinds.Found.{Found}
use Rattle.places.specs.declared.kinds.Found.TheVariants.{Take, Skips, Full, Earlier, Unknown}

-- What a place is to one group: whether the group has its shape, how many groups may stand there, and whether one must.
pub record Stand : Type 0 where
  pub has : Bool
  pub most : ℕ
  pub must : Bool

-- The first place from i on, k groups standing at i, that is open and has the group's shape. A place that one group may stand at is closed by
-- it; one where more may stand stays open, and a group too many there is over the limit. `late`: a place that must have a group was passed.
unfoldable pub seek : ℕ → ℕ → Bool → List Stand → Found
seek i k late [] = Unknown
seek i k late (p ∷ ps) =
    cond (p.has && ltb k p.most) (cond late Skips (Take i k))
    (cond (p.has && ltb 1 p.most) Full (seek (i + 1) 0 (late || (p.must && eqb k 0)) ps))

-- some place of the row has the group's shape
unfoldable pub anywhere : List Stand → Bool
anywhere [] = false
anywhere (p ∷ ps) = p.has || anywhere ps

abbrev pub or_earlier : Bool → Found → Found
or_earlier here (Take i k) = Take i k
or_earlier here Skips = Skips
or_earlier here Full = Full
or_earlier here Earlier = Earlier
or_earlier here Unknown = cond here Earlier Unknown

-- where a group goes, reading standing at place c with k groups there
unfoldable pub find_of : List Stand → ℕ → ℕ → Found
find_of ps c k = or_earlier (anywhere ps) (seek c k false (drop c ps))

-- ---- the same in the code's steps: the first place that may answer for the group, then what it answers

-- a place that may answer: a group may still stand there, or it repeats and is full; `all`: closed ones too
abbrev pub answers : Bool → ℕ → ℕ → Bool
answers all k most = all || (ltb k most || ltb 1 most)

-- the first such place from i on, where k groups stand, that has the group's shape; the row's length where none is
unfoldable pub fit_from : Bool → ℕ → ℕ → List Stand → ℕ
fit_from all i k [] = i
fit_from all i k (p ∷ ps) = cond (answers all k p.most && p.has) i (fit_from all (i + 1) 0 ps)

-- "a required group is absent": is one left to come, where k groups stand at the first of these places
unfoldable pub owed : ℕ → List Bool → Bool
owed k [] = false
owed k (u ∷ us) = (u && eqb k 0) || owed 0 us

-- the refusal of a group that no place takes; one that is taken has none, and Shape stands for it
abbrev pub refusal_of : Found → Refusal
refusal_of (Take i k) = refusal.Shape
-- "a later place's group comes first"
refusal_of Skips = refusal.Absence
-- "more groups than the limit"
refusal_of Full = refusal.Limit
-- "a group of an earlier place, or a second where one may stand"
refusal_of Earlier = refusal.Order
-- "a group with no shape known in this report"
refusal_of Unknown = refusal.Shape

-- what a group comes to at place f, the first from c on that answers for it; how many may stand at each place, and which must have one
unfoldable pub found_at : List ℕ → List Bool → ℕ → ℕ → ℕ → Found
found_at ms us c k f =
    cond (ltb (cond (eqb f c) k 0) (get_or ms f 0)) (cond (owed k (take (f - c) (drop c us))) Skips (Take f (cond (eqb f c) k 0))) Full
