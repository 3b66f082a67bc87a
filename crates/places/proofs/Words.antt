-- Words that are looked for last: where no word that halts has the shape of a place, a group's turn is known from its place alone, and a word is asked for
-- only where no place has the group's shape.
-- Assumes nothing.
use Prim.Native.Nat.{ℕ, zero, suc, ◌+◌, ◌<◌}
use mathlib.Core.Path.{◌≡◌, refl, sym, ◌∙◌}
use mathlib.Core.Bool.{Bool, true, false, ◌&&◌, false≢true}
use mathlib.Core.List.{List, [], ◌∷◌}
use lib.ListN.{length, drop}
use borrow.Author.Tests.{lt-leb}
use Rattle.shapes.specs.Pattern.{Pattern, all_apart, has_any}
use Rattle.shapes.proofs.Patterns.{both, both_false, all-excluded}
use Rattle.places.specs.declared.kinds.Found.{Found}
use Rattle.places.specs.declared.kinds.Found.TheVariants.{Take, Skips, Full, Earlier, Unknown}
use Rattle.places.specs.declared.kinds.Turn.{Turn}
use Rattle.places.specs.Seek.{Stand, seek, anywhere, find_of}
use Rattle.places.specs.Engine.{Group, Place, stands_of}
use Rattle.places.specs.Turn.{turn_by, is_unknown, turn_unknown, turn_at}
use Rattle.places.proofs.Loop.{turn-found}
use Rattle.places.proofs.ReadBack.{Covered, untrue}

-- ---- a group whose shape no place has

sought : (ss : List Stand) → anywhere ss ≡ false → (i k : ℕ) (late : Bool) → seek i k late ss ≡ Unknown
unfolding anywhere seek
sought [] none i k late = refl
sought (s ∷ ss) none i k late = let n = both_false s.has (anywhere ss) none in rw n.0 (sought ss n.1 (i + 1) 0 _)

left : (ss : List Stand) (c : ℕ) → anywhere ss ≡ false → anywhere (drop c ss) ≡ false
unfolding anywhere
left ss zero none = none
left [] (suc c) none = none
left (s ∷ ss) (suc c) none = left ss c (both_false s.has (anywhere ss) none).1

pub goes-nowhere : (ss : List Stand) (c k : ℕ) → anywhere ss ≡ false → find_of ss c k ≡ Unknown
unfolding find_of
goes-nowhere ss c k none = rw (none, sought (drop c ss) (left ss c none) c k false)

unknown : (x : Found) → is_unknown x ≡ true → x ≡ Unknown
unknown (Take i j) e = absurd (false≢true e)
unknown Skips e = absurd (false≢true e)
unknown Full e = absurd (false≢true e)
unknown Earlier e = absurd (false≢true e)
unknown Unknown e = refl

-- ---- a row without words

module _ {R : Type 0} where
  -- no place of the row has the shape of a word
  abbrev pub wordless : List Pattern → List (Place R) → Bool
  wordless words [] = true
  wordless words (p ∷ ps) = all_apart words p.cover && wordless words ps

  word-nowhere : (words : List Pattern) (ps : List (Place R)) (g : Group) → wordless words ps ≡ true → Covered ps → has_any words g ≡ true → anywhere (stands_of ps g) ≡ false
  unfolding anywhere
  word-nowhere words [] g is covered word = refl
  word-nowhere words (p ∷ ps) g is covered word =
      let t = both (all_apart words p.cover) (wordless words ps) is in
      rw (untrue (p.has g) (has_any p.cover g) (covered.0 g) (all-excluded g words p.cover t.0 word)) (word-nowhere words ps g t.1 covered.1 word)

  -- A GROUP'S TURN, the words last: where no place has its shape, and where one has.
  module _ (row : List (Place R)) (words : List Pattern) (c k : ℕ) (g : Group) (here : c < length row) {f : Found} (found : f ≡ find_of (stands_of row g) c k) where
    pub turn-nowhere : {u : Turn} → is_unknown f ≡ true → u ≡ turn_unknown (has_any words g) → u ≡ turn_at row (has_any words) c k g
    unfolding turn_at
    turn-nowhere is made = rw (lt-leb (length row) c here, ← found, unknown f is) made

    pub turn-somewhere : {u : Turn} → wordless words row ≡ true → Covered row → is_unknown f ≡ false → u ≡ turn_by f → u ≡ turn_at row (has_any words) c k g
    turn-somewhere is covered known made = turn-found row (has_any words) c k g here (go (has_any words g) refl) found made
      where
        go : (b : Bool) → has_any words g ≡ b → has_any words g ≡ false
        go false e = e
        go true e =
            let lost : f ≡ Unknown = found ∙ goes-nowhere (stands_of row g) c k (word-nowhere words row g is covered e) in
            absurd (false≢true (sym known ∙ rw lost))
