-- Where a part of a text lies: what is cut within the text, and what is handed back where there is no such part.
-- Assumes nothing.
use Prim.Native.Nat.{ℕ, ◌+◌, ◌-◌, ◌≤◌, ◌<◌}
use mathlib.Core.Path.{◌≡◌, sym, ◌∙◌}
use mathlib.Core.Bool.{Bool, false, ◌&&◌}
use mathlib.Core.List.{List}
use native.Mathlib.Omega.{arith}
use lib.ListN.{length, take, drop}
use lib.Dec.{leb}
use borrow.Author.Tests.{le-leb, lt-leb}
use denote.Ref.{Bor}
use Rattle.text.specs.Groups.{part_of}
use Rattle.text.specs.Part.{part_place, PartAt}
use Rattle.text.proofs.Groups.{part-is, part-nothing}

-- is there a part of a text of n bytes from s up to e?
abbrev pub there : ℕ → ℕ → ℕ → Bool
there n s e = leb s e && leb e n

pub ends-early : (n s e : ℕ) → e < s → there n s e ≡ false
ends-early n s e h = simp (lt-leb s e h)

pub ends-late : (n s e : ℕ) → s ≤ e → n < e → there n s e ≡ false
ends-late n s e h k = simp (le-leb s e h, lt-leb e n k)

place_is : (t : List ℕ) (s e : ℕ) → s ≤ e → e ≤ length t → part_place t s e ≡ s
unfolding part_place
place_is t s e h k = simp (le-leb s e h, le-leb e (length t) k)

place_none : (t : List ℕ) (s e : ℕ) → there (length t) s e ≡ false → part_place t s e ≡ length t
unfolding part_place
place_none t s e h = rw h

module _ (t r : Bor (List ℕ)) where
  -- cut out of the text: s bytes behind its first, as far as e
  pub cut_at : (s e : ℕ) → s ≤ e → e ≤ length t.now → r.ref_ptr.0 ≡ t.ref_ptr.0 → r.ref_ptr.1 ≡ s + t.ref_ptr.1 → r.now ≡ take (e - s) (drop s t.now) → PartAt t r s e
  cut_at s e h k b o n = record { block = b; place = omega (arith, o, place_is t.now s e h k); bytes = n ∙ sym (part-is t.now s e h k) }

  -- the empty part at the text's end
  abbrev pub AtEnd : Type 0
  AtEnd = PartAt t r (length t.now) (length t.now)

  -- it stands for a part that there is not
  pub no-part-at : (s e : ℕ) → there (length t.now) s e ≡ false → AtEnd → PartAt t r s e
  unfolding part_of
  no-part-at s e h p =
      let n = length t.now in
      record {
        block = p.block;
        place = omega (arith, p.place, place_is t.now n n (omega arith) (omega arith), place_none t.now s e h);
        bytes = p.bytes ∙ part-nothing t.now n ∙ sym (rw h);
      }
