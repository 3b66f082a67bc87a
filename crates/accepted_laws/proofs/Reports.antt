-- What the reading of a report of parts leaves at its end: whatever is accepted, all places of each row are left behind, or the report has ended.
-- Assumes nothing.
use Rattle.std.specs.Prelude.{None, Option, Result, Some}
use Prim.Native.Nat.{ℕ, zero, suc}
use mathlib.Core.Path.{◌≡◌, refl}
use mathlib.Core.Bool.{Bool, true, false}
use mathlib.Core.List.{List, [], ◌∷◌}
use lib.ListN.{drop}
use Rattle.figures.proofs.Impossible.{impossible}
use Rattle.text.specs.declared.kinds.Refusal.{Refusal}
use Rattle.text.specs.Groups.{Piece}
use Rattle.shapes.proofs.Patterns.{both_false}
use Rattle.places.specs.Seek.{owed}
use Rattle.places.specs.Engine.{Group, musts_of, Outcome, Done, Fault, finish}
use Rattle.places.specs.Parts.{Begun, Word, Ends, Opens, Bars, Part, Parts, Further, turned, ended, unless, owes, part_exits, part_from, after_first, begins as begins-part, further, report_of}
use Rattle.accepted_laws.proofs.Gives.{Gives, good, bad}
use Rattle.accepted_laws.proofs.Stages.{Stage, Left, ServesRow, StandsAt, left_at, Reached, within, ended as over-there, runs_to}

-- what a reading comes to: something holds of the record, where the text is accepted
pub data Comes {T : Type 0} (Q : T → Type 0) : Outcome T → Type 0 where
  done : {at : ℕ} {t : T} → Q t → Comes Q (Done at t)
  fault : {f : Refusal} {at : ℕ} → Comes Q (Fault f at)

pub comes-done : {T : Type 0} {Q : T → Type 0} {o : Outcome T} {at : ℕ} {t : T} → Comes Q o → o ≡ Done at t → Q t
comes-done {Q = Q} {at = at} {t} (done {t = t'} q) e = let is : t' ≡ t = cc in rw is at q
comes-done fault e = impossible (cc)

module _ {T : Type 0} (Q : T → Type 0) where
  finished : (owes : Bool) (at : ℕ) (t : T) → (owes ≡ false → Q t) → Comes Q (finish owes at t)
  finished true at t q = fault
  finished false at t q = done (q refl)

  at-end : (tail : Option ℕ) (end : ℕ) (owes : Bool) (t : T) → (owes ≡ false → Q t) → Comes Q (ended tail end owes t)
  at-end (Some at) end owes t q = fault
  at-end None end owes t q = finished owes end t q

  at-word : (owes : Bool) (at : ℕ) {o : Outcome T} → (owes ≡ false → Comes Q o) → Comes Q (unless owes at o)
  at-word true at q = fault
  at-word false at q = q refl

-- ---- a report of parts

-- F: what holds of the report where a part is whole, so that another may follow; G: what holds of it at the end; O: of a part that is opened
module _ {T P W : Type 0} (F G : T → Type 0) (O : T → W → P → Type 0) where
  -- what a word comes to: a part is opened so
  pub data Turns (t : T) : Word W P → Type 0 where
    ends : Turns t Ends
    bars : {f : Refusal} → Turns t (Bars f)
    opens : {x : Result (Begun W P) Refusal} → Gives (λ b. O t b.kind b.start) x → Turns t (Opens x)

  -- a part leaves what the report needs of it
  pub record Leaves {R : Type 0} (part : Part T P W R) (start : R) : Type 1 where
    pub over : R → Type 0
    pub before : R → Type 0
    pub stages : List (Stage R)
    pub serves : ServesRow over before part.row stages
    pub begins : StandsAt over before stages 0 0 start
    pub whole : (r : R) → Left before stages r → part.lacks r ≡ false → F (part.takes r)
    pub ended : (r : R) → over r → G (part.takes r)
    pub word : (t : T) (g : Group) → F t → part.halts g ≡ true → Turns t (part.word t g)

  module _ (tail : Option ℕ) (end : ℕ) (parts : Parts T P W) (full : (t : T) → F t → G t)
      (leaves : (t : T) (w : W) (p : P) → F t → O t w p → Leaves (parts.part t w) p)
      (joins : (t : T) (w : W) (p : P) (g : Group) → O t w p → parts.joins w g ≡ true → O t (parts.joined w) p) where
    abbrev Goes_on : Further T P W → Type 0
    Goes_on f = (t : T) (g : Piece) (x : Result (Begun W P) Refusal) (gs : List Piece) → F t → Gives (λ b. O t b.kind b.start) x → Comes G (f t g x gs)

    turned-comes : (f : Further T P W) → Goes_on f → (t : T) (g : Piece) (gs : List Piece) (x : Word W P) → F t → Turns t x → Comes G (turned f t g gs x)
    turned-comes f on t g gs _ h ends = done (full t h)
    turned-comes f on t g gs _ h bars = fault
    turned-comes f on t g gs _ h (opens {x} o) = on t g x gs h o

    part-comes : {R : Type 0} (part : Part T P W R) (r : R) → Leaves part r → (f : Further T P W) → Goes_on f → (gs : List Piece) → Comes G (part_from tail end part f 0 0 r gs)
    part-comes part r l f on gs =
        runs_to l.over l.before part.row l.stages l.serves (Comes G) part.halts (part_exits tail end part f)
        (λ c k r st. at-end G tail end (owes part c k r) (part.takes r) (λ e. ends_so c k r st e))
        (λ c k r g gs st h. at-word G (owes part c k r) g.start (λ e.
        let t = part.takes r in
        let w = whole-so c k r st e in
        turned-comes f on t g gs (part.word t g.bytes) w (l.word t g.bytes w h)))
        (λ f at. fault) gs 0 0 r (within l.begins)
      where
        whole-so : (c k : ℕ) (r : _) → StandsAt l.over l.before l.stages c k r → owes part c k r ≡ false → F (part.takes r)
        whole-so c k r st e =
            let (due, lacks) = both_false (owed k (drop c (musts_of part.row))) (part.lacks r) e in
            l.whole r (left_at l.over l.before part.row l.stages l.serves c k r st due) lacks

        ends_so : (c k : ℕ) (r : _) → Reached l.over l.before l.stages part.row c k r → owes part c k r ≡ false → G (part.takes r)
        ends_so c k r (within st) e = full (part.takes r) (whole-so c k r st e)
        ends_so c k r (over-there h z) e = l.ended r z

    begins-comes : (f : Further T P W) → Goes_on f → (t : T) (w : W) (p : P) (gs : List Piece) → F t → O t w p → Comes G (begins-part tail end parts f t w p gs)
    begins-comes f on t w p [] h o = part-comes (parts.part t w) p (leaves t w p h o) f on []
    begins-comes f on t w p (g ∷ gs) h o = go (parts.joins w g.bytes) refl
      where
        go : (b : Bool) → parts.joins w g.bytes ≡ b → Comes G (after_first tail end parts b f t w p g gs)
        go true e = part-comes (parts.part t (parts.joined w)) p (leaves t (parts.joined w) p h (joins t w p g.bytes o e)) f on gs
        go false e = part-comes (parts.part t w) p (leaves t w p h o) f on (g ∷ gs)

    further-comes : (n : ℕ) → Goes_on (further tail end parts n)
    unfolding further
    further-comes zero t g x gs h o = fault
    further-comes (suc n) t g _ gs h (good {a = b} o) = begins-comes (λ t' g' x' gs'. further tail end parts n t' g' x' gs') (further-comes n) t b.kind b.start gs h o
    further-comes (suc n) t g _ gs h bad = fault

    -- WHAT A REPORT OF PARTS LEAVES.
    pub report-leaves : {M : Type 0} (n : ℕ) (main : Part T P W M) (m : M) → Leaves main m → (gs : List Piece) → Comes G (report_of tail end parts n main m gs)
    unfolding report_of
    report-leaves n main m l gs = part-comes main m l (further tail end parts n) (further-comes n) gs
