-- The laws of the six scales in metres: each scale passes the two tests of `lawful`.
-- Assumes nothing.
use mathlib.Core.Path.{◌≡◌, refl, ap}
use mathlib.Core.Bool.{true, false≢true}
use lib.Dec.{eqb}
use borrow.Author.Tests.{eqb-true, eq-eqb}
use Rattle.scales.specs.Scale.{run, rising, unlike, distinct}
use Rattle.scales.specs.Metres.{land, sea, base, visibility, runway, cloud, same_range}
use Rattle.scales.specs.declared.kinds.Range.{Range}
use Rattle.scales.specs.declared.kinds.Range.TheVariants.{Below, Exact, Above}
use Rattle.scales.proofs.Laws.{Decides, Lawful, lawful}

pub numbers : Decides eqb
numbers = record { one = eqb-true; itself = λ a. eq-eqb a a refl }

pub ranges : Decides same_range
unfolding same_range
ranges = record { one = one; itself = itself }
  where
    one : (a b : Range) → same_range a b ≡ true → a ≡ b
    one (Below a) (Below b) e = ap Below (eqb-true a b e)
    one (Below a) (Exact b) e = absurd (false≢true e)
    one (Below a) (Above b) e = absurd (false≢true e)
    one (Exact a) (Below b) e = absurd (false≢true e)
    one (Exact a) (Exact b) e = ap Exact (eqb-true a b e)
    one (Exact a) (Above b) e = absurd (false≢true e)
    one (Above a) (Below b) e = absurd (false≢true e)
    one (Above a) (Exact b) e = absurd (false≢true e)
    one (Above a) (Above b) e = ap Above (eqb-true a b e)

    itself : (a : Range) → same_range a a ≡ true
    itself (Below a) = eq-eqb a a refl
    itself (Exact a) = eq-eqb a a refl
    itself (Above a) = eq-eqb a a refl

pub land-laws : Lawful eqb land
unfolding land run rising unlike distinct
land-laws = lawful eqb land numbers refl refl refl

pub sea-laws : Lawful eqb sea
unfolding sea rising unlike distinct
sea-laws = lawful eqb sea numbers refl refl refl

pub base-laws : Lawful eqb base
unfolding base rising unlike distinct
base-laws = lawful eqb base numbers refl refl refl

pub visibility-laws : Lawful eqb visibility
unfolding visibility run rising unlike distinct
visibility-laws = lawful eqb visibility numbers refl refl refl

pub runway-laws : Lawful same_range runway
unfolding runway run rising unlike distinct same_range
runway-laws = lawful same_range runway ranges refl refl refl

pub cloud-laws : Lawful eqb cloud
unfolding cloud run rising unlike distinct
cloud-laws = lawful eqb cloud numbers refl refl refl
