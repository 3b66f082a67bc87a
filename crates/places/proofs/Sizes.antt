-- Groups as parts of a text: what is written of figures, letters, strokes and signs can be joined and cut, holds only bytes that a text may hold, and
-- takes a known room.
-- Assumes nothing.
use Prim.Native.Nat.{ℕ, ◌+◌, ◌*◌, ◌≤◌}
use native.Mathlib.Omega.{arith}
use native.Mathlib.Nat.{mul-suc}
use mathlib.Core.Path.{◌≡◌, refl}
use mathlib.Core.Bool.{Bool, true, false, not, ◌&&◌, ◌||◌, false≢true}
use mathlib.Core.List.{List, [], ◌∷◌, ◌++◌}
use lib.ListN.{length, length-append}
use lib.Dec.{leb}
use borrow.Author.Tests.{leb-true, leb-false, le-leb, lt-leb, ne_eqb, not-true}
use Rattle.figures.specs.Figures.{is_figure, is_letter, every}
use Rattle.text.specs.Bytes.{inner, allowed}
use Rattle.text.specs.Groups.{spaced, parted, join, Every, Everywhere, Whole, Wholes}
use Rattle.text.proofs.Joins.{length-join, wholes-append, everywhere-append}
use Rattle.shapes.specs.Pattern.{Pattern, low, high, fits, more, has_pattern, has_any}
use Rattle.shapes.proofs.Patterns.{both, or_cases, starless, pattern-length, within}
use Rattle.places.specs.Engine.{Group}
use Rattle.places.proofs.ReadBack.{All, All-map}

-- ---- bytes

-- the bytes from l through h are all figures or slashes, all letters, or a sign
abbrev plain_from : ℕ → ℕ → Bool
plain_from l h = (leb 47 l && leb h 57) || ((leb 65 l && leb h 90) || ((leb 43 l && leb h 43) || (leb 45 l && leb h 45)))

-- a figure or a slash, a letter, a sign
pub data Plain (b : ℕ) : Type 0 where
  figure : 47 ≤ b → b ≤ 57 → Plain b
  letter : 65 ≤ b → b ≤ 90 → Plain b
  plus : b ≡ 43 → Plain b
  minus : b ≡ 45 → Plain b

plain-from : (l h b : ℕ) → plain_from l h ≡ true → l ≤ b → b ≤ h → Plain b
plain-from l h b e lo hi =
    or_cases (leb 47 l && leb h 57) _ e
    (λ f.
    let t = both (leb 47 l) (leb h 57) f in
    let x = leb-true 47 l t.0 in
    let y = leb-true h 57 t.1 in
    figure (omega arith) (omega arith))
    (λ e2.
    or_cases (leb 65 l && leb h 90) _ e2
    (λ f.
    let t = both (leb 65 l) (leb h 90) f in
    let x = leb-true 65 l t.0 in
    let y = leb-true h 90 t.1 in
    letter (omega arith) (omega arith))
    (λ e3.
    or_cases (leb 43 l && leb h 43) (leb 45 l && leb h 45) e3
    (λ f.
    let t = both (leb 43 l) (leb h 43) f in
    let x = leb-true 43 l t.0 in
    let y = leb-true h 43 t.1 in
    plus (omega arith))
    (λ f.
    let t = both (leb 45 l) (leb h 45) f in
    let x = leb-true 45 l t.0 in
    let y = leb-true h 45 t.1 in
    minus (omega arith))))

plain-inner : (b : ℕ) → Plain b → inner b ≡ true
plain-inner b (figure l h) = rw (ne_eqb b 32 (λ q. omega arith), ne_eqb b 13 (λ q. omega arith), ne_eqb b 10 (λ q. omega arith), ne_eqb b 61 (λ q. omega arith))
plain-inner b (letter l h) = rw (ne_eqb b 32 (λ q. omega arith), ne_eqb b 13 (λ q. omega arith), ne_eqb b 10 (λ q. omega arith), ne_eqb b 61 (λ q. omega arith))
plain-inner b (plus e) = rw e
plain-inner b (minus e) = rw e

plain-allowed : (b : ℕ) → Plain b → allowed b ≡ true
plain-allowed b (figure l h) = slash-or-figure (leb 48 b) refl
  where
    slash-or-figure : (x : Bool) → leb 48 b ≡ x → allowed b ≡ true
    slash-or-figure true f = rw (lt-leb 65 b (omega arith), f, le-leb b 57 h)
    slash-or-figure false f =
        let n = leb-false 48 b f in
        let s : b ≡ 47 = omega arith in
        rw s
plain-allowed b (letter l h) = rw (le-leb 65 b l, le-leb b 90 h)
plain-allowed b (plus e) = rw e
plain-allowed b (minus e) = rw e

-- ---- groups

abbrev pub AllPlain : Group → Type 0
AllPlain [] = Unit {0}
AllPlain (b ∷ g) = Plain b × AllPlain g

-- A group that can be joined and cut and that a text may hold, of at most n bytes.
pub record Sized (n : ℕ) (g : Group) : Type 0 where
  pub whole : Whole g
  pub allow : Every allowed g
  pub short : length g ≤ n

all-inner : (g : Group) → AllPlain g → Every inner g
all-inner [] e = tt
all-inner (b ∷ g) e = (plain-inner b e.0, all-inner g e.1)

all-allowed : (g : Group) → AllPlain g → Every allowed g
all-allowed [] e = tt
all-allowed (b ∷ g) e = (plain-allowed b e.0, all-allowed g e.1)

sized : (n : ℕ) (g : Group) → 1 ≤ length g → length g ≤ n → AllPlain g → Sized n g
sized n [] some h e = absurd (omega arith)
sized n (b ∷ g) some h e = record { whole = (tt, all-inner (b ∷ g) e); allow = all-allowed (b ∷ g) e; short = h }

-- a call sign
pub sized-sign : (n : ℕ) (g : Group) → (leb 3 (length g) && leb (length g) n && every (λ b. is_letter b || is_figure b) g) ≡ true → Sized n g
sized-sign n g e =
    let t = both (leb 3 (length g) && leb (length g) n) (every (λ b. is_letter b || is_figure b) g) e in
    let s = both (leb 3 (length g)) (leb (length g) n) t.0 in
    let three = leb-true 3 (length g) s.0 in
    sized n g (omega arith) (leb-true (length g) n s.1) (go g t.1)
  where
    byte : (b : ℕ) → (is_letter b || is_figure b) ≡ true → Plain b
    byte b e =
        or_cases (is_letter b) (is_figure b) e
        (λ h. let t = both (leb 65 b) (leb b 90) h in letter (leb-true 65 b t.0) (leb-true b 90 t.1))
        (λ h.
        let t = both (leb 48 b) (leb b 57) h in
        let l = leb-true 48 b t.0 in
        figure (omega arith) (leb-true b 57 t.1))

    go : (g : Group) → every (λ b. is_letter b || is_figure b) g ≡ true → AllPlain g
    go [] e = tt
    go (b ∷ g) e = let t = both (is_letter b || is_figure b) (every (λ b. is_letter b || is_figure b) g) e in (byte b t.0, go g t.1)

-- a pattern that leaves room for such bytes alone
abbrev pub plain_pattern : Pattern → Bool
plain_pattern [] = true
plain_pattern (p ∷ ps) = (not (more p) && plain_from (low p) (high p)) && plain_pattern ps

plain-starless : (ps : Pattern) → plain_pattern ps ≡ true → starless ps ≡ true
plain-starless [] e = refl
plain-starless (p ∷ ps) e =
    let t = both (not (more p) && plain_from (low p) (high p)) (plain_pattern ps) e in
    rw (both (not (more p)) _ t.0).0 (plain-starless ps t.1)

pattern-plain : (g : Group) (ps : Pattern) → plain_pattern ps ≡ true → has_pattern g ps ≡ true → AllPlain g
unfolding has_pattern
pattern-plain [] ps e h = tt
pattern-plain (b ∷ g) [] e h = absurd (false≢true h)
pattern-plain (b ∷ g) (p ∷ ps) e h =
    let t = both (not (more p) && plain_from (low p) (high p)) (plain_pattern ps) e in
    let s = both (not (more p)) (plain_from (low p) (high p)) t.0 in
    let f = both (fits p b) (has_pattern g ps) (rw (not-true (more p) s.0) at h) in
    let w = within p b f.0 in
    (plain-from (low p) (high p) b s.1 (omega (arith, w)) (omega (arith, w)), pattern-plain g ps t.1 f.1)

-- a group of one of several such patterns, of 1 to n bytes each
abbrev pub measured : ℕ → List Pattern → Bool
measured n [] = true
measured n (p ∷ ps) = (plain_pattern p && (leb 1 (length p) && leb (length p) n)) && measured n ps

pub sized-any : (n : ℕ) (ps : List Pattern) (g : Group) → measured n ps ≡ true → has_any ps g ≡ true → Sized n g
unfolding has_any
sized-any n [] g e h = absurd (false≢true h)
sized-any n (p ∷ ps) g e h =
    let t = both (plain_pattern p && (leb 1 (length p) && leb (length p) n)) (measured n ps) e in
    let s = both (plain_pattern p) (leb 1 (length p) && leb (length p) n) t.0 in
    let r = both (leb 1 (length p)) (leb (length p) n) s.1 in
    let l = leb-true 1 (length p) r.0 in
    let u = leb-true (length p) n r.1 in
    or_cases (has_pattern g p) (has_any ps g) h
    (λ q.
    let m = pattern-length g p (plain-starless p s.0) q in
    sized n g (omega arith) (omega arith) (pattern-plain g p s.0 q))
    (sized-any n ps g t.1)

-- each of several groups
pub sized-each : (P : Group → Type 0) (n : ℕ) (ps : List Pattern) (gs : List Group) → measured n ps ≡ true → All (λ g. P g × (has_any ps g ≡ true)) gs → All (Sized n) gs
sized-each P n ps gs e a = All-map (λ g h. sized-any n ps g e h.1) gs a

-- ---- groups one after the other

-- the bytes of groups in a text, each with the space or the "=" after it
abbrev pub room : List Group → ℕ
room [] = 0
room (g ∷ gs) = length g + 1 + room gs

room-append : (gs hs : List Group) → room (gs ++ hs) ≡ room gs + room hs
room-append [] hs = omega arith
room-append (g ∷ gs) hs = let e = room-append gs hs in omega arith

length-spaced : (gs : List Group) → length (spaced gs) ≡ room gs
unfolding spaced
length-spaced [] = refl
length-spaced (g ∷ gs) = let e = length-spaced gs in omega (arith, length-append g (spaced gs))

pub join-room : (g : Group) (gs : List Group) → length (join (g ∷ gs)) ≡ room (g ∷ gs)
join-room g gs = let e = length-spaced gs in unfold parted in omega (arith, length-join (g ∷ gs), length-append g (spaced gs))

-- Groups that can be joined and cut, that a text may hold, and that take at most n bytes.
pub record Sizes (n : ℕ) (gs : List Group) : Type 0 where
  pub wholes : Wholes gs
  pub allow : Everywhere allowed gs
  pub short : room gs ≤ n

pub sizes-none : Sizes 0 []
sizes-none = record { wholes = tt; allow = tt; short = omega arith }

pub sizes-cons : {m n : ℕ} {g : Group} {gs : List Group} → Sized m g → Sizes n gs → Sizes (m + 1 + n) (g ∷ gs)
sizes-cons s r = record { wholes = (s.whole, r.wholes); allow = (s.allow, r.allow); short = omega (arith, s.short, r.short) }

pub sizes-append : {m n : ℕ} (gs hs : List Group) → Sizes m gs → Sizes n hs → Sizes (m + n) (gs ++ hs)
sizes-append gs hs s r =
    record {
      wholes = wholes-append gs hs s.wholes r.wholes;
      allow = everywhere-append allowed gs hs s.allow r.allow;
      short = omega (arith, room-append gs hs, s.short, r.short);
    }

pub sizes-more : {m n : ℕ} {gs : List Group} → m ≤ n → Sizes m gs → Sizes n gs
sizes-more h s = record { wholes = s.wholes; allow = s.allow; short = omega (arith, s.short) }

-- groups of at most n bytes each
pub sizes-all : (n : ℕ) (gs : List Group) → All (Sized n) gs → Sizes ((n + 1) * length gs) gs
sizes-all n [] a = sizes-more (omega arith) sizes-none
sizes-all n (g ∷ gs) a =
    let r = sizes-all n gs a.1 in
    sizes-more (omega (arith, mul-suc (n + 1) (length gs))) (sizes-cons a.0 r)
