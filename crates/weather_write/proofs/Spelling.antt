-- A record's codes spelt one after the other into a small buffer: the text of codes that is judged.
-- Assumes nothing.
use Rattle.std.specs.Prelude.{None, Option, Some}
use mathlib.Core.Path.{◌≡◌, refl}
use mathlib.Core.List.{List, [], ◌++◌, append_assoc}
use Prim.Native.Nat.{ℕ, ◌+◌, ◌≤◌}
use native.Mathlib.Omega.{arith}
use lib.ListN.{length, take, replicate, length-append}
use lib.Seq.{length-take-le}
use Rattle.figures.specs.Put.{Put}
use Rattle.figures.proofs.Puts.{put_next, put-before, length-put, then}
use Rattle.record.specs.declared.aerodrome.Code.{Code}
use Rattle.elements.specs.Weather.{codes_of, code_text, listed}

codes-listed : (a : Option Code) (s : List ℕ) → codes_of (code_text a ++ s) ≡ listed a (codes_of s)
unfolding codes_of
codes-listed None s = refl
codes-listed (Some z) s = refl

last-listed : (c : Option Code) → codes_of (code_text c) ≡ listed c []
unfolding codes_of
last-listed None = refl
last-listed (Some z) = refl

at_most_two : (c : Option Code) → length (code_text c) ≤ 2
at_most_two None = omega arith
at_most_two (Some z) = omega arith

-- the three codes are put one after the other
module _ (a b c : Option Code) {i j r : ℕ} {x y e : List ℕ} (first : Put (replicate 6 0) 0 (code_text a) i x) (second : Put x i (code_text b) j y) (third : Put y j (code_text c) r e) where
  p : Put (replicate 6 0) 0 (code_text a ++ code_text b ++ code_text c) r e
  p = then (then first second) third

  abbrev text : List ℕ
  text = code_text a ++ code_text b ++ code_text c

  room : 0 + length text ≤ 6
  room =
      simp length-append
      (let x = at_most_two a in
      let y = at_most_two b in
      let z = at_most_two c in
      omega arith)

  pub spelt-within : r ≤ length e
  spelt-within = omega (arith, put_next p room, length-put p, room)

  pub spelt-length : r ≡ length (take r e)
  spelt-length = rw (length-take-le r e spelt-within)

  spelt : take r e ≡ text
  spelt = rw (put_next p room) (put-before p room)

  pub spelt-codes : codes_of (take r e) ≡ listed a (listed b (listed c []))
  spelt-codes = rw (spelt, append_assoc (code_text a) (code_text b) (code_text c), codes-listed a (code_text b ++ code_text c), codes-listed b (code_text c), last-listed c)
