-- The row's tests say the row: its words, the times of a trend, and how NIL ends the report.
-- Assumes nothing.
use Prim.Native.Nat.{ℕ}
use mathlib.Core.Path.{◌≡◌, refl, sym, ap, ◌∙◌}
use mathlib.Core.Bool.{Bool, true, false, cond, ◌||◌, or-false}
use lib.Dec.{eqb}
use Rattle.figures.specs.Quote.{bytes}
use Rattle.shapes.specs.Pattern.{has_pattern, has_any}
use Rattle.places.specs.Engine.{Group, onward}
use Rattle.places.proofs.Rows.{ends_at}
use Rattle.metar_row.specs.Row.{from_shape, until_shape, at_shape, time_shapes, row, words}

any_of : (a b c d e : Bool) → ((((a || b) || c) || d) || e) ≡ (a || (b || (c || (d || (e || false)))))
any_of true b c d e = refl
any_of false true c d e = refl
any_of false false true d e = refl
any_of false false false true e = refl
any_of false false false false e = sym (or-false e)

pub word-is : (g : Group) {a b c d e : Bool}
    → a ≡ has_pattern g (bytes "NOSIG") → b ≡ has_pattern g (bytes "BECMG") → c ≡ has_pattern g (bytes "TEMPO") → d ≡ has_pattern g (bytes "WS") → e ≡ has_pattern g (bytes "RMK")
    → ((((a || b) || c) || d) || e) ≡ has_any words g
unfolding words has_any
word-is g {a} {b} {c} {d} {e} p q r s t = rw (← p, ← q, ← r, ← s, ← t) (any_of a b c d e)

any-time : (a b c : Bool) → ((a || b) || c) ≡ (a || (b || (c || false)))
any-time true b c = refl
any-time false true c = refl
any-time false false c = sym (or-false c)

pub time-is : (g : Group) {a b c : Bool} → a ≡ has_pattern g from_shape → b ≡ has_pattern g until_shape → c ≡ has_pattern g at_shape → ((a || b) || c) ≡ has_any time_shapes g
unfolding has_any
time-is g {a} {b} {c} p q r = rw (← p, ← q, ← r) (any-time a b c)

-- NIL ends the report
pub past-nil : (i : ℕ) (b : Bool) → eqb i 4 ≡ b → cond b 19 i ≡ onward row i
unfolding row
past-nil i b e = ap (λ (x : Bool). cond x 19 i) (sym e ∙ ends_at row 4 i refl)
