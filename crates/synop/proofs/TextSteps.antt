-- The laws of a reading as a whole: what follows NIL, and a ship's call sign.
-- Assumes nothing.
use Rattle.std.specs.Prelude.{None, Option, Some}
use Prim.Native.Nat.{ℕ}
use mathlib.Core.Path.{◌≡◌, refl, ap}
use mathlib.Core.Bool.{Bool, true, false}
use mathlib.Core.List.{List, [], ◌∷◌, map}
use lib.ListN.{length}
use Rattle.text.specs.declared.kinds.Refusal.TheVariants as refusal
use Rattle.text.specs.Groups.{Piece, groups_from, part_of}
use Rattle.text.specs.Text.{tail_of}
use Rattle.text.proofs.Groups.{Follows}
use Rattle.places.specs.Engine.{Group, Fault}
use Rattle.record.specs.declared.surface.CallSign.{CallSign}
use Rattle.record.specs.declared.surface.Synop.{Synop}
use Rattle.record.specs.Set.{set_sign, set_site}
use Rattle.synop_section.specs.declared.kinds.Reading.{Reading}
use Rattle.synop_section.specs.Answer.{begun, refused, answer}
use Rattle.synop.specs.Read.{is_call_sign, sign_of, posts, cut_short, after_nil, walk, groups_read}
use Rattle.synop.specs.Head.{named, post_of}

-- ---- after NIL

more-after : (x : Option ℕ) (end : ℕ) (r : Synop) (g : Piece) (gs : List Piece) → Fault refusal.Shape g.start ≡ after_nil x end r (g ∷ gs)
more-after (Some at) end r g gs = refl
more-after None end r g gs = refl

module _ (t : List ℕ) (at : ℕ) (r : Synop) where
  pub nil-then : (s e : ℕ) → Follows t at s e → refused refusal.Shape s ≡ answer (after_nil (tail_of t) (length t) r (groups_from t at))
  nil-then s e f = rw f.groups (ap answer (more-after (tail_of t) (length t) r (record { start = s; bytes = part_of t s e }) (groups_from t e)))

  pub nil-over : (x : Option ℕ) → groups_from t at ≡ [] → x ≡ tail_of t → answer (after_nil x (length t) r []) ≡ answer (after_nil (tail_of t) (length t) r (groups_from t at))
  nil-over x none is = rw (none, is)

-- ---- a ship's call sign comes before the groups known by position

-- what the groups come to from a position on, those known by position
abbrev from-posts : List ℕ → Synop → ℕ → Reading
from-posts t r at = answer (walk (map post_of (named r.ship)) r (tail_of t) (length t) (groups_from t at))

module _ (t : List ℕ) (at : ℕ) (ship : Bool) where
  -- what all groups of the report come to
  abbrev whole : Reading
  whole = answer (groups_read ship (tail_of t) (length t) (groups_from t at))

  pub sign-over : ship ≡ true → groups_from t at ≡ [] → answer (cut_short (tail_of t) (length t)) ≡ whole
  unfolding groups_read posts walk
  sign-over sea none = rw (sea, none)

  module _ (from to : ℕ) {g : Group} (sea : ship ≡ true) (follows : Follows t at from to) (cut : g ≡ part_of t from to) where
    pub sign-other : is_call_sign g ≡ false → refused refusal.Shape from ≡ whole
    unfolding groups_read posts walk
    sign-other e = rw (sea, follows.groups, ← cut, e)

    pub sign-stands : {b r : Synop} {s : CallSign} {next : ℕ} → is_call_sign g ≡ true → b ≡ begun ship → s ≡ sign_of g → r ≡ set_site (set_sign s b.site) b → next ≡ to
        → from-posts t r next ≡ whole
    unfolding groups_read posts walk
    sign-stands e begins sign is past = rw (is, past, begins, sea, follows.groups, ← cut, e, sign)

  pub land-walks : {b r : Synop} {next : ℕ} → ship ≡ false → b ≡ begun ship → r ≡ b → next ≡ at → from-posts t r next ≡ whole
  unfolding groups_read posts
  land-walks land begins is past = rw (is, past, begins, land)
