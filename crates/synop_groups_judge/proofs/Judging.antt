-- What the judging functions say in the definitions' words: a range from zero.
-- Assumes nothing.
use Rattle.std.specs.Prelude.{ℕ, None, Option, Some}
use mathlib.Core.Path.{◌≡◌, refl}
use lib.Dec.{leb-zero}
use Rattle.synop_groups.specs.Judge.{metres}
use Rattle.record.specs.Missing.{between, optional}

-- metres are a range from zero
pub optional-metres : (n : Option ℕ) → optional (between 0 99999) n ≡ optional metres n
optional-metres None = refl
optional-metres (Some n) = rw (leb-zero n)
