-- A row keeps what is written of a record: place by place its groups have their shape, are as many as may stand there, take a known room, and are read
-- back as what is put. So the canonical text of the whole row is sound, short, and read back whole.
-- Assumes nothing.
use Rattle.std.specs.Prelude.{None, Ok}
use Prim.Native.Nat.{ℕ, ◌+◌, ◌*◌, ◌≤◌, ◌<◌}
use native.Mathlib.Omega.{arith}
use native.Mathlib.Nat.{mul-le-mul_left}
use mathlib.Core.Path.{◌≡◌, refl, sym, ◌∙◌}
use mathlib.Core.Bool.{true, false, false≢true}
use mathlib.Core.List.{List, [], ◌∷◌, ◌++◌}
use lib.ListN.{length}
use Rattle.text.specs.declared.kinds.Bytes.TheVariants as judgement
use Rattle.text.specs.Groups.{groups_from, join}
use Rattle.text.specs.Text.{bytes_of}
use Rattle.text.proofs.Joins.{round-trip-bytes, join-sound}
use Rattle.figures.proofs.Impossible.{impossible}
use Rattle.shapes.specs.Pattern.{Pattern, has_any}
use Rattle.places.specs.Engine.{Group, Place, Done, run, written, put_all}
use Rattle.places.proofs.ReadBack.{All, sound, Covered, Shaped, Spoken, fill, Served, ServedRow, stops, read_back}
use Rattle.places.proofs.Sizes.{Sized, Sizes, sizes-none, sizes-all, sizes-append, sizes-more, join-room, room}

module _ {R : Type 0} where
  -- the groups of r at a place have at most n bytes each, and read into acc they make what is put
  pub record Kept (p : Place R) (n : ℕ) (r acc : R) : Type 0 where
    pub shaped : Shaped p (p.show r)
    pub sized : All (Sized n) (p.show r)
    pub served : Served p (p.show r) acc (p.put r acc)

  -- a row keeps it, each place with the bytes that its groups may have; past a place at which the report ends nothing is written and nothing is put
  pub data KeptRow : List ℕ → List (Place R) → R → R → Type 0 where
    done : {r acc : R} → KeptRow [] [] r acc
    more : {n : ℕ} {ns : List ℕ} {p : Place R} {ps : List (Place R)} {r acc : R} → Kept p n r acc → stops p r ≡ false → KeptRow ns ps r (p.put r acc)
        → KeptRow (n ∷ ns) (p ∷ ps) r acc
    last : {n : ℕ} {ns : List ℕ} {p : Place R} {ps : List (Place R)} {r acc : R} → Kept p n r acc → stops p r ≡ true → p.most ≡ 1
        → written ps r ≡ [] → put_all ps r (p.put r acc) ≡ p.put r acc → KeptRow (n ∷ ns) (p ∷ ps) r acc

  none-shown : (p : Place R) (ps : List (Place R)) (r : R) → written (p ∷ ps) r ≡ [] → (p.show r ≡ []) × (written ps r ≡ [])
  none-shown p ps r e = go (p.show r) e
    where
      go : (gs : List Group) → gs ++ written ps r ≡ [] → (gs ≡ []) × (written ps r ≡ [])
      go [] e = (refl, e)
      go (g ∷ gs) e = impossible (cc)

  none-spoken : (ps : List (Place R)) (r : R) → written ps r ≡ [] → Spoken ps r
  none-spoken [] r e = tt
  none-spoken (p ∷ ps) r e = let n = none-shown p ps r e in (rw n.0 tt, none-spoken ps r n.1)

  pub kept-spoken : {ns : List ℕ} {ps : List (Place R)} {r acc : R} → KeptRow ns ps r acc → Spoken ps r
  kept-spoken done = tt
  kept-spoken (more k s ks) = (k.shaped, kept-spoken ks)
  kept-spoken {r = r} (last {ps = ps} k s o w e) = (k.shaped, none-spoken ps r w)

  pub kept-served : {ns : List ℕ} {ps : List (Place R)} {r acc : R} → KeptRow ns ps r acc → ServedRow ps r acc
  kept-served done = tt
  kept-served (more k s ks) = (k.served, (λ e. absurd (false≢true (sym s ∙ e))), λ e. kept-served ks)
  kept-served (last k s o w e) = (k.served, (λ t. (o, w, e)), λ t. absurd (false≢true (sym t ∙ s)))

  -- the bytes that a row's groups may take in a text
  abbrev pub row_room : List ℕ → List (Place R) → ℕ
  row_room [] ps = 0
  row_room (n ∷ ns) [] = 0
  row_room (n ∷ ns) (p ∷ ps) = (n + 1) * p.most + row_room ns ps

  shown-sizes : (p : Place R) (n : ℕ) (r acc : R) → Kept p n r acc → Sizes ((n + 1) * p.most) (p.show r)
  shown-sizes p n r acc k = sizes-more (mul-le-mul_left (n + 1) k.served.few) (sizes-all n (p.show r) k.sized)

  pub kept-sizes : {ns : List ℕ} {ps : List (Place R)} {r acc : R} → KeptRow ns ps r acc → Sizes (row_room ns ps) (written ps r)
  kept-sizes done = sizes-none
  kept-sizes {r = r} {acc} (more {n} {ns} {p} {ps} k s ks) = sizes-append (p.show r) (written ps r) (shown-sizes p n r acc k) (kept-sizes ks)
  kept-sizes {r = r} {acc} (last {n} {ns} {p} {ps} k s o w e) =
      sizes-append (p.show r) (written ps r) (shown-sizes p n r acc k) (rw w (sizes-more (omega arith) sizes-none))

  -- THE TEXT OF WHAT A ROW KEEPS: how long it is, that a text may hold its bytes, and that it is read back whole.
  module _ (row : List (Place R)) (words : List Pattern) (ns : List ℕ) (r acc : R) (kept : KeptRow ns row r acc) where
    pub text-short : 0 < length (written row r) → length (join (written row r)) ≤ row_room ns row
    text-short some = go (written row r) some (kept-sizes kept).short
      where
        go : (gs : List Group) → 0 < length gs → room gs ≤ row_room ns row → length (join gs) ≤ row_room ns row
        go [] s h = absurd (omega arith)
        go (g ∷ gs) s h = rw (join-room g gs) h

    pub text-sound : 0 < length (written row r) → row_room ns row ≤ 2048 → bytes_of (join (written row r)) ≡ judgement.Sound
    text-sound some h = let s = text-short some in join-sound (written row r) (kept-sizes kept).allow (omega arith)

    pub text-back : 0 < length row → sound words row ≡ true → Covered row → (end : ℕ)
        → run row words None end 0 0 acc (groups_from (join (written row r)) 0) ≡ Done end (put_all row r acc)
    text-back some told covered end =
        read_back row words r acc some told covered (kept-spoken kept) (kept-served kept) (groups_from (join (written row r)) 0)
        (round-trip-bytes (written row r) (kept-sizes kept).wholes) end

  -- ---- places of common forms

  -- one group that must stand: it has the shape, fits what the place speaks, and is read as what is put
  pub keep_one : {p : Place R} {n : ℕ} {r acc : R} (g : Group) → p.show r ≡ g ∷ [] → p.has g ≡ true → has_any p.spoken g ≡ true → Sized n g → 1 ≤ p.most
      → p.read 0 g acc ≡ Ok (p.put r acc) → Kept p n r acc
  keep_one {p} {n} {r} {acc} g is h s z m e =
      record {
        shaped = rw is ((h, s), tt);
        sized = rw is (z, tt);
        served = rw is (record { few = m; there = λ t. omega arith; reads = rw e });
      }

  -- none where none must
  pub keep-none : {p : Place R} {n : ℕ} {r acc : R} → p.show r ≡ [] → p.must ≡ false → p.put r acc ≡ acc → Kept p n r acc
  keep-none {p} {n} {r} {acc} is m e =
      record {
        shaped = rw is tt;
        sized = rw is tt;
        served = rw (is, e) (record { few = omega arith; there = λ t. absurd (false≢true (sym m ∙ t)); reads = refl });
      }

  -- several where none must
  pub keep-each : {p : Place R} {n : ℕ} {r acc : R} → p.must ≡ false → Shaped p (p.show r) → All (Sized n) (p.show r)
      → length (p.show r) ≤ p.most → fill p 0 (p.show r) acc ≡ Ok (p.put r acc) → Kept p n r acc
  keep-each m s z few e = record { shaped = s; sized = z; served = record { few = few; there = λ t. absurd (false≢true (rw m at t)); reads = e } }
