-- Q as a scale that rounds down: its feet, 0, 10, 20 .. tenths of hPa, rise like any, and its figures are 0, 1, 2 .. .
-- Assumes nothing.
use Rattle.std.specs.Prelude.{None, Some}
use mathlib.Core.Path.{◌≡◌, refl, ◌∙◌}
use mathlib.Core.Bool.{true}
use mathlib.Core.List.{[], ◌∷◌, append-nil}
use Prim.Native.Nat.{ℕ, zero, suc, ◌+◌, ◌*◌, ◌/◌, ◌≤◌, ◌<◌}
use native.Mathlib.Nat.{suc-mul}
use native.Mathlib.Omega.{arith}
use lib.Dec.{eqb}
use borrow.Author.Tests.{lt-ltb, le-leb, ne_eqb}
use Rattle.scales.specs.Scale.{Class, Scale, run, steps, class_in, read_in, class_of, read_of, rising, unlike, distinct}
use Rattle.scales.specs.Metres.{class}
use Rattle.scales.proofs.Laws.{Lawful, lawful}
use Rattle.scales.proofs.MetresLaws.{numbers}
use Rattle.scales.proofs.MetresRounds.{low, MetresRounds, metres}
use Rattle.scales.proofs.Runs.{plain, inside, skip, meet}

-- ---- the tests of a scale, for a run of any length
rising-steps : (n foot apart number next : ℕ) (c : Class ℕ) → 0 < apart → c.foot < foot → rising c (steps n foot apart number next) ≡ true
unfolding rising run
rising-steps zero foot apart number next c p h = refl
rising-steps (suc n) foot apart number next c p h =
    rw (lt-ltb c.foot foot h) (rising-steps n (foot + apart) apart (number + next) next (class foot number) p (omega arith))

unlike-steps : (f n foot apart number next : ℕ) → f < number → unlike eqb f (steps n foot apart number next) ≡ true
unfolding unlike run
unlike-steps f zero foot apart number next h = refl
unlike-steps f (suc n) foot apart number next h =
    rw (ne_eqb number f (λ e. omega arith)) (unlike-steps f n (foot + apart) apart (number + next) next (omega arith))

distinct-steps : (n foot apart number next : ℕ) → 0 < next → distinct eqb (steps n foot apart number next) ≡ true
unfolding distinct run
distinct-steps zero foot apart number next p = refl
distinct-steps (suc n) foot apart number next p =
    rw (unlike-steps number n (foot + apart) apart (number + next) next (omega arith)) (distinct-steps n (foot + apart) apart (number + next) next p)

low-steps : (n foot apart number next : ℕ) → foot + n * apart ≤ 99999 + apart → low (steps n foot apart number next) ≡ true
unfolding low run
low-steps zero foot apart number next h = refl
low-steps (suc n) foot apart number next h =
    let m : suc n * apart ≡ n * apart + apart = suc-mul n apart in
    rw (le-leb foot 99999 (omega arith)) (low-steps n (foot + apart) apart (number + next) next (omega arith))

-- ---- feet ten apart, n above the lowest
unfoldable tens : ℕ → Scale ℕ
tens n = record { lowest = class 0 0; above = steps n 10 10 1 1 }

all : (n : ℕ) → (tens n).lowest ∷ (tens n).above ≡ steps (suc n) 0 10 0 1
unfolding tens run
all n = refl

tens-laws : (n : ℕ) → Lawful eqb (tens n)
unfolding tens
tens-laws n =
    lawful eqb (tens n) numbers refl (rising-steps n 10 10 1 1 (class 0 0) (omega arith) (omega arith)) (rw (all n) (distinct-steps (suc n) 0 10 0 1 (omega arith)))

tens-class : (n v : ℕ) → v / 10 ≤ n → class_of (tens n) v ≡ class (v / 10 * 10) (v / 10)
unfolding tens
tens-class n v h =
    let foot : 0 + v / 10 * 10 ≡ v / 10 * 10 = omega arith in
    let figure : 0 + v / 10 * 1 ≡ v / 10 = omega arith in
    rw (foot, figure, append-nil (steps n 10 10 1 1)) at (inside plain 10 1 n 0 0 [] v (v / 10) (λ c. unfold class_in in refl) h (omega arith) (omega arith))

tens-read : (n f : ℕ) → f ≤ n → read_of eqb (tens n) f ≡ Some (f * 10)
tens-read n f h =
    let foot : 0 + f * 10 ≡ f * 10 = omega arith in
    rw (all n, ← append-nil (steps (suc n) 0 10 0 1), ← foot) (meet 10 1 f (suc n) 0 0 [] f (omega arith) (omega arith) (omega arith))

tens-unread : (n f : ℕ) → n < f → read_of eqb (tens n) f ≡ None
tens-unread n f h =
    rw (all n, ← append-nil (steps (suc n) 0 10 0 1)) (skip 10 1 f (suc n) 0 0 [] (λ k l e. omega arith) ∙ unfold read_in in refl)

-- ---- Q: "0000-9999"
unfoldable pub pressures : Scale ℕ
pressures = record { lowest = class 0 0; above = steps 9999 10 10 1 1 }

pub pressures-laws : Lawful eqb pressures
unfolding pressures tens
pressures-laws = tens-laws 9999

pub pressures-rounds : MetresRounds pressures
unfolding pressures tens
pressures-rounds = metres (tens 9999) (tens-laws 9999) (rw (all 9999) (low-steps 10000 0 10 0 1 (omega arith)))

pub pressure-class : (v : ℕ) → v ≤ 99999 → class_of pressures v ≡ class (v / 10 * 10) (v / 10)
unfolding pressures tens
pressure-class v h = tens-class 9999 v (omega arith)

pub pressure-read : (f : ℕ) → f ≤ 9999 → read_of eqb pressures f ≡ Some (f * 10)
unfolding pressures tens
pressure-read f h = tens-read 9999 f h

pub pressure-unread : (f : ℕ) → 9999 < f → read_of eqb pressures f ≡ None
unfolding pressures tens
pressure-unread f h = tens-unread 9999 f h
