-- The laws of sign and magnitude: a signed number is its sign and magnitude put together again.
-- Assumes nothing.
use Rattle.std.specs.Prelude.{Some}
use mathlib.Core.Path.{◌≡◌, refl}
use mathlib.Core.Bool.{Bool, true, false}
use Prim.Native.Nat.{ℕ, zero, suc, ◌≤◌}
use native.Mathlib.Omega.{arith}
use lib.IntN.{ℤ, pos, negsuc, nat_abs}
use lib.Signed.{lt_z}
use borrow.Author.Tests.{le-leb, le-ltb}
use mir.Syntax.{w32}
use mir.Val.{SFits}
use Rattle.figures.specs.Signed.{negative, with_sign, signed_of}

-- the code's test
pub below-zero : (t : ℤ) → lt_z t (pos 0) ≡ negative t
below-zero (pos n) = le-ltb n 0 (omega arith)
below-zero (negsuc n) = refl

pub with-sign : (t : ℤ) → with_sign (negative t) (nat_abs t) ≡ t
with-sign (pos n) = refl
with-sign (negsuc n) = refl

pub signed-in : (s : Bool) (m : ℕ) → m ≤ 2147483647 → Some (with_sign s m) ≡ signed_of s m
unfolding signed_of
signed-in s m h = rw (le-leb m 2147483647 h)

pub signed_back : (t : ℤ) → nat_abs t ≤ 2147483647 → signed_of (negative t) (nat_abs t) ≡ Some t
unfolding signed_of
signed_back t h = rw (le-leb (nat_abs t) 2147483647 h, with-sign t)

-- a magnitude below 2 ^ 31 fits 32 bits either way
pub magnitude-fits : (s : Bool) (m : ℕ) → m ≤ 2147483647 → SFits w32 (with_sign s m)
magnitude-fits false m h = record { sfits = omega arith }
magnitude-fits true zero h = record { sfits = omega arith }
magnitude-fits true (suc m) h = record { sfits = omega arith }

pub magnitude-back : (s : Bool) (m : ℕ) → nat_abs (with_sign s m) ≡ m
magnitude-back false m = refl
magnitude-back true zero = refl
magnitude-back true (suc m) = refl

pub sign-back : (s : Bool) (m : ℕ) → 1 ≤ m → negative (with_sign s m) ≡ s
sign-back false m h = refl
sign-back true zero h = absurd (omega arith)
sign-back true (suc m) h = refl
