-- Where a part of a text lies that a call hands back: "handed back as a part of the caller's text", "is a part of whichever text it stands in".
-- Assumes nothing: these are definitions.
use Rattle.std.specs.Prelude.{ℕ, ◌+◌, ◌≡◌, cond, ◌&&◌, List, length, leb}
use Rattle.std.specs.Borrow.{Bor}
use Rattle.text.specs.Groups.{part_of}

-- where the part from s up to e begins; the text's end where there is no such part
unfoldable pub part_place : List ℕ → ℕ → ℕ → ℕ
part_place text s e = cond (leb s e && leb e (length text)) s (length text)

-- r IS THE PART OF THE TEXT t FROM s UP TO e, and no copy of it: r points into the block of memory that t points into, its first byte is t's byte at that
-- place, and it holds the bytes that t has there. Of two texts with the same bytes it is a part of the one named.
pub record PartAt (t r : Bor (List ℕ)) (s e : ℕ) : Type 0 where
  pub block : r.ref_ptr.0 ≡ t.ref_ptr.0
  pub place : r.ref_ptr.1 ≡ t.ref_ptr.1 + part_place t.now s e
  pub bytes : r.now ≡ part_of t.now s e
