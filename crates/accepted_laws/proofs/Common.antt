-- Stages of common kinds: a group that stands once and is read into a part of the record, several groups, a word, and places of which nothing is left.
-- Assumes nothing.
use Rattle.std.specs.Prelude.{Ok, Result}
use Rattle.text.specs.declared.kinds.Refusal.{Refusal}
use Prim.Native.Nat.{ℕ, ◌+◌, ◌≤◌, ◌<◌}
use native.Mathlib.Omega.{arith}
use mathlib.Core.Path.{◌≡◌, refl, sym}
use mathlib.Core.Logic.{◌⊎◌, inl, inr}
use mathlib.Core.Bool.{Bool, true, false, false≢true}
use mathlib.Core.List.{List, [], ◌∷◌}
use Rattle.places.specs.Engine.{Group, Place, then}
use Rattle.accepted_laws.proofs.Gives.{Gives, good, bad, gives_more}
use Rattle.accepted_laws.proofs.Stages.{Stage, Blank, and_past, Left, Moved, Serves}

-- said of one and then of the others
infixr 5 ◌&◌
abbrev pub ◌&◌ : {A B : Type 0} → A → B → A × B
a & b = (a, b)

-- what is read is set into the record
pub gives-onto : {A R : Type 0} {P : R → Type 0} (f : A → R) {x : Result A Refusal} → Gives (λ a. P (f a)) x → Gives P (then x (λ a. Ok (f a)))
gives-onto f (good p) = good p
gives-onto f bad = bad

-- ---- what a row leaves, place by place in its order

abbrev pub Past : {R : Type 0} → List (Stage R) → R → Type 0
Past [] r = Unit {0}
Past (s ∷ ss) r = s.past r × Past ss r

pub left-all : {R : Type 0} (B : R → Type 0) (ss : List (Stage R)) (r : R) → Left B ss r → B r × Past ss r
left-all B [] r x = (x, tt)
left-all B (s ∷ ss) r x = let (b, p) = left-all (and_past B s) ss r x in (b.0, (b.1, p))

-- ---- one group

module _ {A : Type 0} (P : A → Type 0) (blank : A) where
  -- where k stand: none, and it is blank, or it was read; and once it is left behind, where one must stand or not
  abbrev pub Once : ℕ → A → Type 0
  Once k x = ((k ≡ 0) × (x ≡ blank)) ⊎ P x

  abbrev pub Given : Bool → A → Type 0
  Given must x = ((must ≡ false) × (x ≡ blank)) ⊎ P x

  pub once-left : (must : Bool) (k : ℕ) (x : A) → (must ≡ true → 1 ≤ k) → Once k x → Given must x
  once-left true k x m (inl (z, is)) = absurd (omega (arith, m refl, z))
  once-left false k x m (inl (z, is)) = inl (refl, is)
  once-left must k x m (inr p) = inr p

  -- what must stand was read
  pub given-read : (x : A) → Given true x → P x
  given-read x (inl (e, is)) = absurd (false≢true (sym e))
  given-read x (inr p) = p

abbrev pub once : {R A : Type 0} → (A → Type 0) → A → Bool → (R → A) → Stage R
once P blank must get = record { blank = λ r. get r ≡ blank; held = λ k r. Once P blank k (get r); past = λ r. Given P blank must (get r) }

-- several groups: something holds where so many stand, and that is kept
abbrev pub many : {R : Type 0} → (R → Type 0) → (ℕ → R → Type 0) → Stage R
many blank held = record { blank = blank; held = held; past = λ r. (k : ℕ) × held k r }

-- a word that ends the report, of which the record says whether it stood
abbrev pub ending : {R : Type 0} → (R → Bool) → Stage R
ending get = record { blank = λ r. get r ≡ false; held = λ k r. get r ≡ false; past = λ r. get r ≡ false }

-- a word of which nothing more is asked than that it is not there where nothing was read
abbrev pub flag : {R : Type 0} → (R → Bool) → Stage R
flag get = record { blank = λ r. get r ≡ false; held = λ k r. Unit {0}; past = λ r. Unit {0} }

-- what holds of the blank record too, and is kept
abbrev pub kept : {R : Type 0} → (R → Type 0) → Stage R
kept P = record { blank = P; held = λ k r. P r; past = P }

-- nothing is asked
abbrev pub free : {R : Type 0} → Stage R
free = record { blank = λ r. Unit {0}; held = λ k r. Unit {0}; past = λ r. Unit {0} }

module _ {R : Type 0} (Z B : R → Type 0) (p : Place R) (ss : List (Stage R)) where
  moved : (s : Stage R) (k : ℕ) (r : R) {x : Result R Refusal} → p.ends ≡ false → Gives (λ r'. B r' × s.held k r' × Blank ss r') x → Gives (Moved Z B s ss p.ends k) x
  moved s k r e x = rw e x

  pub serves-once : {A : Type 0} (P : A → Type 0) (blank : A) (get : R → A) → p.ends ≡ false
      → ((k : ℕ) (g : Group) (r : R) → k < p.most → p.has g ≡ true → B r → Blank ss r → Gives (λ r'. B r' × P (get r') × Blank ss r') (p.read k g r)) → Serves Z B p (once P blank p.must get) ss
  serves-once P blank get on takes =
      record {
        begins = λ r b e. inl (refl, e);
        passes = λ k r b m h. once-left P blank p.must k (get r) m h;
        takes = λ k g r room has b h e. moved (once P blank p.must get) (k + 1) r on (gives_more (takes k g r room has b e) (λ r' t. (t.0, inr t.1, t.2)));
      }

  pub serves-many : (blank : R → Type 0) (held : ℕ → R → Type 0) → p.ends ≡ false → ((r : R) → B r → blank r → held 0 r)
      → ((k : ℕ) (g : Group) (r : R) → k < p.most → B r → held k r → Blank ss r → Gives (λ r'. B r' × held (k + 1) r' × Blank ss r') (p.read k g r)) → Serves Z B p (many blank held) ss
  serves-many blank held on begins takes =
      record {
        begins = begins;
        passes = λ k r b m h. (k, h);
        takes = λ k g r room has b h e. moved (many blank held) (k + 1) r on (takes k g r room b h e);
      }

  pub serves-ending : (get : R → Bool) → p.ends ≡ true → ((k : ℕ) (g : Group) (r : R) → k < p.most → B r → get r ≡ false → Blank ss r → Gives Z (p.read k g r)) → Serves Z B p (ending get) ss
  serves-ending get over takes =
      record {
        begins = λ r b e. e;
        passes = λ k r b m h. h;
        takes = λ k g r room has b h e. rw over (takes k g r room b h e);
      }

  -- a word or a place of which nothing is left: the others are as they were
  pub serves-flag : (get : R → Bool) → p.ends ≡ false → ((k : ℕ) (g : Group) (r : R) → B r → Blank ss r → Gives (λ r'. B r' × Blank ss r') (p.read k g r)) → Serves Z B p (flag get) ss
  serves-flag get on takes =
      record {
        begins = λ r b e. tt;
        passes = λ k r b m h. tt;
        takes = λ k g r room has b h e. moved (flag get) (k + 1) r on (gives_more (takes k g r b e) (λ r' t. (t.0, tt, t.1)));
      }

  pub serves-kept : (P : R → Type 0) → p.ends ≡ false
      → ((k : ℕ) (g : Group) (r : R) → p.has g ≡ true → B r → P r → Blank ss r → Gives (λ r'. B r' × P r' × Blank ss r') (p.read k g r)) → Serves Z B p (kept P) ss
  serves-kept P on takes =
      record {
        begins = λ r b e. e;
        passes = λ k r b m h. h;
        takes = λ k g r room has b h e. moved (kept P) (k + 1) r on (takes k g r has b h e);
      }

  pub serves-free : p.ends ≡ false → ((k : ℕ) (g : Group) (r : R) → B r → Blank ss r → Gives (λ r'. B r' × Blank ss r') (p.read k g r)) → Serves Z B p free ss
  serves-free on takes =
      record {
        begins = λ r b e. tt;
        passes = λ k r b m h. tt;
        takes = λ k g r room has b h e. moved free (k + 1) r on (gives_more (takes k g r b e) (λ r' t. (t.0, tt, t.1)));
      }
