-- The text that groups are joined to: cutting it gives the groups and their places, nothing follows its "=", it is sound and trimmed;
-- and how it grows by one group and by several.
-- Assumes nothing.
use Rattle.std.specs.Prelude.{None}
use mathlib.Core.Path.{◌≡◌, refl, sym, ap, ◌∙◌}
use mathlib.Core.Bool.{Bool, true, false, false≢true, or-true}
use mathlib.Core.List.{List, [], ◌∷◌, ◌++◌, map, append_assoc}
use Prim.Native.Nat.{ℕ, suc, ◌+◌, ◌≤◌, ◌<◌}
use native.Mathlib.Nat.{add-zero, suc-add, zero-add}
use native.Mathlib.Numerals.{add-one}
use native.Mathlib.Omega.{arith}
use lib.ListN.{length, length-append}
use lib.Seq.{take-append_seam, drop-append_seam}
use lib.Dec.{eqb}
use Rattle.text.specs.declared.kinds.Bytes.TheVariants.{Sound}
use Rattle.text.specs.Bytes.{parting, inner, other, allowed, lead}
use Rattle.text.specs.Groups.{Piece, groups_in, groups_from, spaced, parted, join, opening, placed, written, Every, Everywhere, Whole, Wholes}
use Rattle.text.specs.Text.{equals_at, bytes_of, tail_of, trimmed_of}
use Rattle.text.proofs.Leads.{lead-cons-yes, lead-cons-no, lead-end}
use Rattle.text.proofs.Groups.{at-group, inner-not-parting, whole_part}
use Rattle.text.proofs.Texts.{bytes-sound, tail-clear, trimmed-start, trimmed-equals}

-- ---- lists of which each byte passes a test
module _ (P : ℕ → Bool) where
  pub every_append : (l m : List ℕ) → Every P l → Every P m → Every P (l ++ m)
  every_append [] m a b = b
  every_append (x ∷ l) m a b = (a.0, every_append l m a.1 b)

  pub every-lead : (l : List ℕ) → Every P l → lead P l ≡ length l
  unfolding lead
  every-lead [] a = refl
  every-lead (x ∷ l) a = lead-cons-yes P x l a.0 ∙ ap suc (every-lead l a.1)

  -- up to the first byte that does not pass
  pub every-until : (l : List ℕ) (y : ℕ) (ys : List ℕ) → Every P l → P y ≡ false → lead P (l ++ y ∷ ys) ≡ length l
  every-until [] y ys a e = lead-cons-no P y ys e
  every-until (x ∷ l) y ys a e = lead-cons-yes P x (l ++ y ∷ ys) a.0 ∙ ap suc (every-until l y ys a.1 e)

  every-spaced : (gs : List (List ℕ)) → P 32 ≡ true → Everywhere P gs → Every P (spaced gs)
  unfolding spaced
  every-spaced [] b a = tt
  every-spaced (g ∷ gs) b a = (b, every_append g (spaced gs) a.0 (every-spaced gs b a.1))

  -- a test that the space passes is passed by the parted groups where each group passes it
  pub every-parted : (gs : List (List ℕ)) → P 32 ≡ true → Everywhere P gs → Every P (parted gs)
  unfolding parted
  every-parted [] b a = tt
  every-parted (g ∷ gs) b a = every_append g (spaced gs) a.0 (every-spaced gs b a.1)

-- what passes one test passes another that follows from it
pub every-so : (P Q : ℕ → Bool) → ((x : ℕ) → P x ≡ true → Q x ≡ true) → (l : List ℕ) → Every P l → Every Q l
every-so P Q f [] a = tt
every-so P Q f (x ∷ l) a = (f x a.0, every-so P Q f l a.1)

inner-other : (x : ℕ) → inner x ≡ true → other x ≡ true
inner-other x e = go (eqb x 61) refl
  where
    go : (b : Bool) → eqb x 61 ≡ b → other x ≡ true
    go true h = absurd (false≢true (simp (h, or-true) at e))
    go false h = rw h

wholes-other : (gs : List (List ℕ)) → Wholes gs → Everywhere other gs
wholes-other [] w = tt
wholes-other (g ∷ gs) w = (every-so inner other inner-other g w.0.1, wholes-other gs w.1)

-- ---- cutting undoes joining
front : (p : ℕ) (g : List ℕ) (y : ℕ) (ys : List ℕ) → Whole g → inner y ≡ false
    → groups_in p 0 (g ++ y ∷ ys) ≡ record { start = p; bytes = g } ∷ groups_in (p + length g) 0 (y ∷ ys)
front p [] y ys w e = absurd w.0
front p (x ∷ g) y ys w e = at-group p x (g ++ y ∷ ys) w.1.0
    ∙ rw (every-until inner (x ∷ g) y ys w.1 e, take-append_seam (x ∷ g) (y ∷ ys), drop-append_seam (x ∷ g) (y ∷ ys))

front-spaced : (p : ℕ) (g : List ℕ) (gs : List (List ℕ)) → Whole g
    → groups_in p 0 ((g ++ spaced gs) ++ (61 ∷ [])) ≡ record { start = p; bytes = g } ∷ groups_in (p + length g) 0 (spaced gs ++ (61 ∷ []))
unfolding spaced
front-spaced p g [] w = rw (append_assoc g [] (61 ∷ [])) (front p g 61 [] w refl)
front-spaced p g (h ∷ gs) w = rw (append_assoc g (32 ∷ (h ++ spaced gs)) (61 ∷ [])) (front p g 32 ((h ++ spaced gs) ++ (61 ∷ [])) w refl)

spaced-trip : (p : ℕ) (gs : List (List ℕ)) → Wholes gs → groups_in p 0 (spaced gs ++ (61 ∷ [])) ≡ placed (p + 1) gs
unfolding spaced groups_in placed
spaced-trip p [] w = refl
spaced-trip p (g ∷ gs) w = rw (add-one p) (front-spaced (suc p) g gs w.0 ∙ ap (λ (r : List Piece). record { start = suc p; bytes = g } ∷ r) (spaced-trip (suc p + length g) gs w.1))

-- the groups cut from a joined text are those that were joined, at their places
pub round_trip : (gs : List (List ℕ)) → Wholes gs → groups_from (join gs) 0 ≡ placed 0 gs
unfolding join parted groups_from groups_in placed
round_trip [] w = refl
round_trip (g ∷ gs) w = front-spaced 0 g gs w.0 ∙ ap (λ (r : List Piece). record { start = 0; bytes = g } ∷ r) (spaced-trip (0 + length g) gs w.1)

pub placed-bytes : (p : ℕ) (gs : List (List ℕ)) → map (λ (g : Piece). g.bytes) (placed p gs) ≡ gs
unfolding placed
placed-bytes p [] = refl
placed-bytes p (g ∷ gs) = ap (λ (r : List (List ℕ)). g ∷ r) (placed-bytes (p + length g + 1) gs)

pub round-trip-bytes : (gs : List (List ℕ)) → Wholes gs → map (λ (g : Piece). g.bytes) (groups_from (join gs) 0) ≡ gs
round-trip-bytes gs w = ap (map (λ (g : Piece). g.bytes)) (round_trip gs w) ∙ placed-bytes 0 gs

-- ---- a joined text as a whole
pub length-join : (gs : List (List ℕ)) → length (join gs) ≡ length (parted gs) + 1
unfolding join
length-join gs = length-append (parted gs) (61 ∷ [])

pub join-equals : (gs : List (List ℕ)) → Wholes gs → equals_at (join gs) ≡ length (parted gs)
unfolding join equals_at
join-equals gs w = every-until other (parted gs) 61 [] (every-parted other gs refl (wholes-other gs w)) refl

-- nothing follows its "="
pub join-tail : (gs : List (List ℕ)) → Wholes gs → tail_of (join gs) ≡ None
join-tail gs w =
    let n = length (parted gs) in
    let none = lead-end parting (join gs) (n + 1) (omega (arith, length-join gs)) in
    tail-clear (join gs) n (sym (join-equals gs w)) (n + 1) (omega (arith, length-join gs)) (omega arith) (omega (arith, length-join gs))

-- its bytes are those that a text may hold
pub join-sound : (gs : List (List ℕ)) → Everywhere allowed gs → length (join gs) ≤ 2048 → bytes_of (join gs) ≡ Sound
join-sound gs a h = bytes-sound (join gs) (λ e. omega (arith, length-join gs)) h (length (join gs)) (sym every) (omega arith)
  where
    every : lead allowed (join gs) ≡ length (join gs)
    every = unfold join in every-lead allowed (parted gs ++ (61 ∷ [])) (every_append allowed (parted gs) (61 ∷ []) (every-parted allowed gs refl a) (refl, tt))

-- it is its own trimmed part
pub join-trimmed : (gs : List (List ℕ)) → 0 < length gs → Wholes gs → trimmed_of (join gs) ≡ join gs
join-trimmed [] h w = absurd (omega arith)
join-trimmed ([] ∷ gs) h w = absurd w.0.0
join-trimmed ((x ∷ g) ∷ gs) h w =
    unfold trimmed_of in
    rw (trimmed-start (join hs) n equals 0 (sym none) some, trimmed-equals (join hs) n equals 0 (sym none) some (omega (arith, length-join hs)))
    (whole_part (join hs) (n + 1) (sym (length-join hs)))
  where
    hs : List (List ℕ)
    hs = (x ∷ g) ∷ gs

    n : ℕ
    n = length (parted hs)

    equals : n ≡ equals_at (join hs)
    equals = sym (join-equals hs w)

    none : lead parting (join hs) ≡ 0
    none = unfold join parted in lead-cons-no parting x ((g ++ spaced gs) ++ (61 ∷ [])) (inner-not-parting x w.0.1.0)

    some : 0 < n
    some = unfold parted in omega arith

-- ---- how the parted groups grow
pub wholes-append : (gs hs : List (List ℕ)) → Wholes gs → Wholes hs → Wholes (gs ++ hs)
wholes-append [] hs v w = w
wholes-append (g ∷ gs) hs v w = (v.0, wholes-append gs hs v.1 w)

pub everywhere-append : (P : ℕ → Bool) (gs hs : List (List ℕ)) → Everywhere P gs → Everywhere P hs → Everywhere P (gs ++ hs)
everywhere-append P [] hs v w = w
everywhere-append P (g ∷ gs) hs v w = (v.0, everywhere-append P gs hs v.1 w)

pub written-append : (at : ℕ) (gs hs : List (List ℕ)) → written at (gs ++ hs) ≡ written at gs ++ written (at + length (written at gs)) hs
unfolding written
written-append at [] hs = rw add-zero
written-append at (g ∷ gs) hs =
    let o = opening at ++ g in
    let l = written (at + length o) gs in
    ap (λ (m : List ℕ). o ++ m) (written-append (at + length o) gs hs)
    ∙ sym (append_assoc o l (written (at + length o + length l) hs))
    ∙ ap (λ (n : ℕ). (o ++ l) ++ written n hs) (omega (arith, length-append o l))

-- past the first position each group has its space
spaced-written : (n : ℕ) (gs : List (List ℕ)) → spaced gs ≡ written (suc n) gs
unfolding spaced written
spaced-written n [] = refl
spaced-written n (g ∷ gs) = rw (suc-add n (suc (length g)), ← spaced-written (n + suc (length g)) gs)

-- the canonical text is what the groups add to an empty one
pub parted-written : (gs : List (List ℕ)) → Wholes gs → parted gs ≡ written 0 gs
unfolding parted written
parted-written [] w = refl
parted-written ([] ∷ gs) w = absurd w.0.0
parted-written ((x ∷ g) ∷ gs) w = rw (zero-add (suc (length g)), ← spaced-written (length g) gs)
