-- Signed numbers by sign and magnitude. The record keeps tenths as whole signed numbers; a text has a sign and figures.
-- Assumes nothing: these are definitions.
use Rattle.std.specs.Prelude.{ℕ, Bool, true, false, cond, leb, ℤ, pos, negsuc, neg_ℤ, None, Option, Some}

abbrev pub negative : ℤ → Bool
negative (pos n) = false
negative (negsuc n) = true

-- a sign, true for minus, and a magnitude as one number
abbrev pub with_sign : Bool → ℕ → ℤ
with_sign false m = pos m
with_sign true m = neg_ℤ (pos m)

-- the same where it fits the record's 32 bits either way
unfoldable pub signed_of : Bool → ℕ → Option ℤ
signed_of minus m = cond (leb m 2147483647) (Some (with_sign minus m)) None
