-- The answers of the code on the six scales in metres: what is written reads back as the foot, each used figure is the one written for its own
-- reading, and an unused figure is written for no value. All feet may be written.
-- Assumes nothing.
use Rattle.std.specs.Prelude.{None, Option, Some}
use mathlib.Core.Path.{◌≡◌, refl, ap}
use mathlib.Core.Bool.{Bool, true, cond, ◌&&◌, and-eq-true_iff}
use mathlib.Core.List.{List, [], ◌∷◌}
use mathlib.Core.Logic.{⊎_elim}
use Prim.Native.Nat.{ℕ, ◌≤◌}
use native.Mathlib.Omega.{arith}
use lib.Dec.{leb, eqb}
use borrow.Author.Tests.{le-leb, lt-leb, leb-true}
use Rattle.figures.proofs.Impossible.{impossible}
use Rattle.scales.specs.Scale.{Class, Scale, run, read_in, read_of, figure_of, foot_of}
use Rattle.scales.specs.Metres.{land, sea, base, visibility, runway, cloud, same_range, metres_figure, metres_reading, range_figure, range_reading}
use Rattle.scales.proofs.Laws.{Decides, Lawful, reached, read_head, none_left}
use Rattle.scales.proofs.MetresLaws.{numbers, ranges, land-laws, sea-laws, base-laws, visibility-laws, runway-laws, cloud-laws}
use Rattle.scales.proofs.Rounds.{Rounds, rounds}

pub foot-of : (r : Option ℕ) (v : ℕ) → r ≡ Some v → r ≡ Some v
foot-of (Some m) v e = let j : m ≡ v = cc in ap Some j
foot-of None v e = impossible (cc)

module _ {F : Type 0} where
  -- every foot may be written
  unfoldable pub low : List (Class F) → Bool
  low [] = true
  low (c ∷ cs) = leb c.foot 99999 && low cs

  low_read : (same : F → F → Bool) → Decides same → (cs : List (Class F)) (f : F) (m : ℕ) → low cs ≡ true → read_in same cs f ≡ Some m → m ≤ 99999
  low_read same dec [] f m l e = absurd (none_left same dec f m e)
  low_read same dec (c ∷ cs) f m l e =
      let p = (and-eq-true_iff (leb c.foot 99999) (low cs)).0 (unfold low in l) in
      ⊎_elim
      (λ q. omega (arith, q.1, leb-true c.foot 99999 p.0))
      (λ g. low_read same dec cs f m p.1 g)
      (read_head same dec c cs f m e)

  -- whatever the answers are made with
  module _ {A : Type 0} (is : F → A) (out : A) (one : (a b : F) → is a ≡ is b → a ≡ b) (never : (a : F) → out ≡ is a → ⊥) (same : F → F → Bool) (dec : Decides same) (s : Scale F) (law : Lawful same s) (l : low (s.lowest ∷ s.above) ≡ true) where
    abbrev figure_is : ℕ → F → Type 0
    figure_is v f = cond (leb v 99999) (is (figure_of s v)) out ≡ is f

    abbrev reads : F → ℕ → Type 0
    reads f v = read_of same s f ≡ Some v

    back : (v : ℕ) (f : F) → figure_is v f → reads f (foot_of s v)
    back v f w =
        ⊎_elim
        (λ h. let j : figure_of s v ≡ f = one (figure_of s v) f (rw (le-leb v 99999 h) at w) in rw j at (law.reads-back v))
        (λ h. absurd (never f (rw (lt-leb v 99999 h) at w)))
        (reached v 99999)

    own : (f : F) (v : ℕ) → reads f v → figure_is v f
    own f v e =
        let r : read_of same s f ≡ Some v = foot-of (read_of same s f) v e in
        rw (le-leb v 99999 (low_read same dec (s.lowest ∷ s.above) f v l r)) (ap is (law.own f v r))

    answers : Rounds figure_is reads (λ f. read_of same s f ≡ None) (foot_of s)
    answers = rounds back own (λ f v u e. impossible (cc))

-- what a scale with whole numbers for figures keeps to
abbrev pub MetresRounds : Scale ℕ → Type 0
MetresRounds s = Rounds (λ v f. metres_figure s v ≡ Some f) (λ f v. metres_reading s f ≡ Some v) (λ f. metres_reading s f ≡ None) (foot_of s)

pub metres : (s : Scale ℕ) → Lawful eqb s → low (s.lowest ∷ s.above) ≡ true → MetresRounds s
unfolding metres_figure metres_reading
metres s law l =
    answers Some None (λ a b e. (cc)) (λ a e. impossible (cc)) eqb numbers s law l

pub land-rounds : MetresRounds land
unfolding land run low
land-rounds = metres land land-laws refl

pub sea-rounds : MetresRounds sea
unfolding sea low
sea-rounds = metres sea sea-laws refl

pub base-rounds : MetresRounds base
unfolding base low
base-rounds = metres base base-laws refl

pub visibility-rounds : MetresRounds visibility
unfolding visibility run low
visibility-rounds = metres visibility visibility-laws refl

pub cloud-rounds : MetresRounds cloud
unfolding cloud run low
cloud-rounds = metres cloud cloud-laws refl

pub runway-rounds : Rounds (λ v f. range_figure v ≡ Some f) (λ f v. range_reading f ≡ Some v) (λ f. range_reading f ≡ None) (foot_of runway)
unfolding range_figure range_reading runway run low
runway-rounds =
    answers Some None (λ a b e. (cc)) (λ a e. impossible (cc)) same_range ranges runway runway-laws refl
