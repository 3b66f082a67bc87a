-- Where a reading ends, for any row: its refusal is one of 1 to 9, and its place, or where the unread rest begins, is at most the text's length. It holds
-- of a reading if it holds of what each place says of a group (`Fairly`), of the groups' places (`Within`) and of what follows the "=".
-- Assumes nothing.
use Rattle.std.specs.Prelude.{Err, None, Ok, Option, Result, Some}
use Prim.Native.Nat.{ℕ, zero, suc, ◌+◌, ◌≤◌}
use mathlib.Core.Path.{◌≡◌, refl}
use mathlib.Core.Bool.{Bool, true, false, cond, ◌||◌}
use mathlib.Core.List.{List, [], ◌∷◌}
use native.Mathlib.Omega.{arith}
use lib.ListN.{length, take, drop, length-drop, drop_of_length-le}
use lib.Dec.{leb, ltb, eqb}
use borrow.Author.Tests.{leb-true, leb-false, ltb-true}
use Rattle.text.specs.declared.kinds.Refusal.{Refusal}
use Rattle.text.specs.declared.kinds.Refusal.TheVariants as refusal
use Rattle.text.specs.declared.kinds.Bytes.{Bytes}
use Rattle.text.specs.declared.kinds.Bytes.TheVariants as judgement
use Rattle.text.specs.Refusals.{number_of}
use Rattle.text.specs.Bytes.{parting, inner, allowed, lead}
use Rattle.text.specs.Groups.{Piece, groups_in, groups_from, past_parting}
use Rattle.text.specs.Text.{equals_at, bytes_of, junk_from, tail_of}
use Rattle.places.specs.declared.kinds.Found.{Found}
use Rattle.places.specs.declared.kinds.Found.TheVariants.{Take, Skips, Full, Earlier, Unknown}
use Rattle.places.specs.Seek.{find_of}
use Rattle.places.specs.Engine.{Group, Place, place_at, stands_of, taken, judged, Step, On, Halt, Stop, Outcome, Done, Fault, finish}
use Rattle.places.specs.Parts.{Exits, step_by, carry_to, run_to, Begun, Word, Ends, Opens, Bars, Part, Parts, Further, turned, ended, unless, owes, part_exits, part_from, after_first, begins, further, report_of}

-- something of each element of a list, in its order
abbrev pub Each : {A : Type 0} → (A → Type 0) → List A → Type 0
Each P [] = Unit {0}
Each P (a ∷ others) = P a × Each P others

-- said of one and then of the others
infixr 5 ◌&◌
abbrev pub ◌&◌ : {A B : Type 0} → A → B → A × B
a & b = (a, b)

-- a reader's refusal: document 01's 1 to 9, as 10 and 11 are the writer's
abbrev pub Fair : Refusal → Type 0
Fair f = leb (number_of f) 9 ≡ true

pub one-or-more : (f : Refusal) → 1 ≤ number_of f
one-or-more refusal.Length = omega arith
one-or-more refusal.Byte = omega arith
one-or-more refusal.Kind = omega arith
one-or-more refusal.Shape = omega arith
one-or-more refusal.Figure = omega arith
one-or-more refusal.Order = omega arith
one-or-more refusal.Disagreement = omega arith
one-or-more refusal.Absence = omega arith
one-or-more refusal.Limit = omega arith
one-or-more refusal.Room = omega arith
one-or-more refusal.Value = omega arith
one-or-more refusal.Times = omega arith

-- what is read of a group: the value, or such a refusal
pub data Fairly {R : Type 0} : Result R Refusal → Type 0 where
  good : (r : R) → Fairly (Ok r)
  bad : (f : Refusal) → Fair f → Fairly (Err f)

-- what a reading comes to in a text of n bytes
pub data Placed {R : Type 0} (n : ℕ) : Outcome R → Type 0 where
  done : (rest : ℕ) (r : R) → rest ≤ n → Placed n (Done rest r)
  fault : (f : Refusal) (at : ℕ) → Fair f → at ≤ n → Placed n (Fault f at)

-- the same, of the two cases
abbrev pub At : {R : Type 0} → ℕ → Outcome R → Type 0
At n (Done rest r) = rest ≤ n
At n (Fault f at) = Fair f × (at ≤ n)

pub at_place : {R : Type 0} {n : ℕ} (o : Outcome R) → Placed n o → At n o
at_place _ (done rest r u) = u
at_place _ (fault f at a u) = (a, u)

-- ---- the groups of a text, and what follows its "=", stand within it

abbrev pub Within : ℕ → List Piece → Type 0
Within n [] = Unit {0}
Within n (g ∷ gs) = (g.start ≤ n) × Within n gs

abbrev pub TailWithin : ℕ → Option ℕ → Type 0
TailWithin n None = Unit {0}
TailWithin n (Some at) = at ≤ n

in_within : (n p s : ℕ) (xs : List ℕ) → p + length xs ≤ n → Within n (groups_in p s xs)
unfolding groups_in
in_within n p s [] h = tt
in_within n p zero (x ∷ xs) h =
    go (parting x) (inner x) (take (lead inner (x ∷ xs)) (x ∷ xs)) (groups_in (suc p) zero xs) (groups_in (suc p) (lead inner xs) xs)
    (in_within n (suc p) zero xs (omega arith)) (in_within n (suc p) (lead inner xs) xs (omega arith))
  where
    go : (a b : Bool) (g : List ℕ) (us vs : List Piece) → Within n us → Within n vs
        → Within n (elim a [ true ↦ us | false ↦ elim b [ true ↦ record { start = p; bytes = g } ∷ vs | false ↦ [] ] ])
    go true b g us vs u v = u
    go false true g us vs u v = (omega arith, v)
    go false false g us vs u v = tt
in_within n p (suc s) (x ∷ xs) h = in_within n (suc p) s xs (omega arith)

pub groups-within : (t : List ℕ) (at : ℕ) → Within (length t) (groups_from t at)
unfolding groups_from groups_in
groups-within t at = go (leb at (length t)) refl
  where
    go : (b : Bool) → leb at (length t) ≡ b → Within (length t) (groups_in at 0 (drop at t))
    go true e = let h = leb-true at (length t) e in in_within (length t) at 0 (drop at t) (omega (arith, h, length-drop at t))
    go false e = let h = leb-false at (length t) e in rw (drop_of_length-le t {i = at} (omega (arith, h))) tt

pub tail_within : (t : List ℕ) → TailWithin (length t) (tail_of t)
unfolding tail_of junk_from
tail_within t = go (past_parting t (equals_at t + 1)) (ltb (past_parting t (equals_at t + 1)) (length t)) refl
  where
    go : (p : ℕ) (b : Bool) → ltb p (length t) ≡ b → TailWithin (length t) (cond b (Some p) None)
    go p true e = omega (arith, ltb-true p (length t) e)
    go p false e = tt

abbrev pub BytesWithin : ℕ → Bytes → Type 0
BytesWithin n judgement.Sound = Unit {0}
BytesWithin n judgement.Length = Unit {0}
BytesWithin n (judgement.Byte at) = at ≤ n

pub bytes-within : (t : List ℕ) → BytesWithin (length t) (bytes_of t)
unfolding bytes_of
bytes-within t = go (eqb (length t) 0 || ltb 2048 (length t)) (ltb (lead allowed t) (length t)) refl
  where
    go : (a b : Bool) → ltb (lead allowed t) (length t) ≡ b → BytesWithin (length t) (cond a judgement.Length (cond b (judgement.Byte (lead allowed t)) judgement.Sound))
    go true b e = tt
    go false true e = omega (arith, ltb-true (lead allowed t) (length t) e)
    go false false e = tt

-- ---- a group at its place

module _ {R : Type 0} where
  abbrev pub FairPlace : Place R → Type 0
  FairPlace p = (k : ℕ) (g : Group) (r : R) → Fairly (p.read k g r)

  abbrev pub FairRow : List (Place R) → Type 0
  FairRow row = Each FairPlace row

  fair-at : (row : List (Place R)) → FairRow row → (i : ℕ) → FairPlace (place_at row i)
  fair-at [] f i = λ k g r. bad refusal.Shape refl
  fair-at (p ∷ ps) f zero = f.0
  fair-at (p ∷ ps) f (suc i) = fair-at ps f.1 i

  abbrev FairStep : Step R → Type 0
  FairStep (On c k r) = Unit {0}
  FairStep Halt = Unit {0}
  FairStep (Stop f) = Fair f

  taken-fair : (i n : ℕ) (x : Result R Refusal) → Fairly x → FairStep (taken i n x)
  taken-fair i n _ (good r) = tt
  taken-fair i n _ (bad f h) = h

  module _ (row : List (Place R)) (fair : FairRow row) where
    judged-fair : (r : R) (g : Group) (f : Found) → FairStep (judged row r g f)
    judged-fair r g (Take i k) = taken-fair _ _ ((place_at row i).read k g r) (fair-at row fair i k g r)
    judged-fair r g Skips = refl
    judged-fair r g Full = refl
    judged-fair r g Earlier = refl
    judged-fair r g Unknown = refl

    step-fair : (past halt : Bool) (r : R) (g : Group) (f : Found) → FairStep (cond past (Stop refusal.Shape) (cond halt Halt (judged row r g f)))
    step-fair true halt r g f = refl
    step-fair false true r g f = tt
    step-fair false false r g f = judged-fair r g f

    -- ---- a row, up to wherever it ends
    module _ {X : Type 0} (Q : X → Type 0) (n : ℕ) (halts : Group → Bool) (x : Exits R X)
        (at-end : (c k : ℕ) (r : R) → Q (x.over c k r))
        (at-halt : (c k : ℕ) (r : R) (g : Piece) (gs : List Piece) → g.start ≤ n → Within n gs → Q (x.halt c k r g gs))
        (at-fault : (f : Refusal) (at : ℕ) → Fair f → at ≤ n → Q (x.fault f at)) where
      pub runs_to : (gs : List Piece) → Within n gs → (c k : ℕ) (r : R) → Q (run_to row halts x c k r gs)
      unfolding run_to
      runs_to [] w c k r = at-end c k r
      runs_to (g ∷ gs) w c k r =
          go (step_by row halts c k r g.bytes) (step-fair (leb (length row) c) (halts g.bytes) r g.bytes (find_of (stands_of row g.bytes) c k)) (runs_to gs w.1)
        where
          go : (s : Step R) → FairStep s → ((c k : ℕ) (r : R) → Q (run_to row halts x c k r gs)) → Q (carry_to s x c k r g gs (λ c' k' r'. run_to row halts x c' k' r' gs))
          go (On c' k' r') h ih = ih c' k' r'
          go Halt h ih = at-halt c k r g gs w.0 w.1
          go (Stop f) h ih = at-fault f g.start h w.0

module _ {T : Type 0} (n : ℕ) where
  finish-placed : (owes : Bool) (at : ℕ) (t : T) → at ≤ n → Placed n (finish owes at t)
  finish-placed true at t h = fault refusal.Absence at refl h
  finish-placed false at t h = done at t h

  unless-placed : (owes : Bool) (at : ℕ) {o : Outcome T} → at ≤ n → Placed n o → Placed n (unless owes at o)
  unless-placed true at h p = fault refusal.Absence at refl h
  unless-placed false at h p = p

  ended-placed : (tail : Option ℕ) (end : ℕ) → TailWithin n tail → end ≤ n → (owes : Bool) (t : T) → Placed n (ended tail end owes t)
  ended-placed (Some at) end w h owes t = fault refusal.Shape at refl w
  ended-placed None end w h owes t = finish-placed owes end t h

-- ---- a report of parts

-- what a word comes to: it ends the reading, opens a part or is refused, each by a reader's refusal
pub data FairWord {W P : Type 0} : Word W P → Type 0 where
  ends : FairWord Ends
  opens : (x : Result (Begun W P) Refusal) → Fairly x → FairWord (Opens x)
  bars : (f : Refusal) → Fair f → FairWord (Bars f)

pub record FairPart {T P W R : Type 0} (part : Part T P W R) : Type 0 where
  pub row : FairRow part.row
  pub word : (t : T) (g : Group) → FairWord (part.word t g)

module _ {T P W : Type 0} (n : ℕ) (tail : Option ℕ) (end : ℕ) (w : TailWithin n tail) (h : end ≤ n) where
  abbrev FairFurther : Further T P W → Type 0
  FairFurther f = (t : T) (g : Piece) (x : Result (Begun W P) Refusal) (gs : List Piece) → g.start ≤ n → Fairly x → Within n gs → Placed n (f t g x gs)

  turned-placed : (f : Further T P W) → FairFurther f → (t : T) (g : Piece) (gs : List Piece) → g.start ≤ n → Within n gs → (x : Word W P) → FairWord x → Placed n (turned f t g gs x)
  turned-placed f fair t g gs u v _ ends = done g.start t u
  turned-placed f fair t g gs u v _ (opens x a) = fair t g x gs u a v
  turned-placed f fair t g gs u v _ (bars r a) = fault r g.start a u

  part_placed : {R : Type 0} (part : Part T P W R) → FairPart part → (f : Further T P W) → FairFurther f
      → (gs : List Piece) → Within n gs → (c k : ℕ) (r : R) → Placed n (part_from tail end part f c k r gs)
  part_placed part fair f further-fair gs v c k r =
      runs_to part.row fair.row (Placed n) n part.halts (part_exits tail end part f)
      (λ c k r. ended-placed n tail end w h (owes part c k r) (part.takes r))
      (λ c k r g gs u v. unless-placed n (owes part c k r) g.start u (turned-placed f further-fair (part.takes r) g gs u v (part.word (part.takes r) g.bytes) (fair.word (part.takes r) g.bytes)))
      (λ g at a u. fault g at a u) gs v c k r

  module _ (parts : Parts T P W) (fair : (t : T) (o : W) → FairPart (parts.part t o)) where
    begins-placed : (f : Further T P W) → FairFurther f → (t : T) (o : W) (p : P) (gs : List Piece) → Within n gs → Placed n (begins tail end parts f t o p gs)
    begins-placed f further-fair t o p [] v = part_placed (parts.part t o) (fair t o) f further-fair [] tt 0 0 p
    begins-placed f further-fair t o p (g ∷ gs) v = go (parts.joins o g.bytes)
      where
        go : (b : Bool) → Placed n (after_first tail end parts b f t o p g gs)
        go true = part_placed (parts.part t (parts.joined o)) (fair t (parts.joined o)) f further-fair gs v.1 0 0 p
        go false = part_placed (parts.part t o) (fair t o) f further-fair (g ∷ gs) v 0 0 p

    further-placed : (m : ℕ) → FairFurther (further tail end parts m)
    unfolding further
    further-placed zero t g x gs u a v = fault refusal.Limit g.start refl u
    further-placed (suc m) t g _ gs u (good b) v = begins-placed (λ t' g' x' gs'. further tail end parts m t' g' x' gs') (further-placed m) t b.kind b.start gs v
    further-placed (suc m) t g _ gs u (bad f a) v = fault f g.start a u

    pub report-placed : {M : Type 0} (m : ℕ) (main : Part T P W M) → FairPart main → (r : M) (gs : List Piece) → Within n gs → Placed n (report_of tail end parts m main r gs)
    unfolding report_of
    report-placed m main a r gs v = part_placed main a (further tail end parts m) (further-placed m) gs v 0 0 r
