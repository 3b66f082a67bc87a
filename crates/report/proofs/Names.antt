-- The name of a text: what it says of the text's first group, and which it is where that group is one of the five words.
-- Assumes nothing.
use Prim.Native.Nat.{ℕ, ◌+◌}
use native.Mathlib.Omega.{arith}
use mathlib.Core.Path.{◌≡◌, refl, ◌∙◌}
use mathlib.Core.Bool.{Bool, true, false, cond}
use mathlib.Core.List.{List, ◌∷◌}
use lib.ListN.{length}
use Rattle.figures.specs.Quote.{bytes}
use Rattle.text.specs.declared.kinds.Bytes.{Bytes}
use Rattle.text.specs.declared.kinds.Bytes.TheVariants as judgement
use Rattle.text.specs.declared.kinds.Cut.{Cut}
use Rattle.text.specs.declared.kinds.Cut.TheVariants.{Group as Stands, End}
use Rattle.text.specs.Groups.{Piece, groups_from, next_of, part_of}
use Rattle.text.specs.Text.{bytes_of}
use Rattle.text.proofs.Groups.{Follows, when-group, when-end, part_length}
use Rattle.shapes.specs.Pattern.{Pattern, low, high, has_pattern, clash}
use Rattle.shapes.proofs.Patterns.{excluded}
use Rattle.places.specs.Engine.{Group}
use Rattle.report_record.specs.declared.kinds.Name.{Name}
use Rattle.report_record.specs.declared.kinds.Name.TheVariants as name
use Rattle.report.specs.Read.{word, name_by, first_name, after_bytes, name_of}

-- ---- a text whose first group is a word

abbrev pub surface_word : Bool → Pattern
surface_word ship = cond ship (bytes "BBXX") (bytes "AAXX")

abbrev pub observed_word : Bool → Pattern
observed_word special = cond special (bytes "SPECI") (bytes "METAR")

abbrev pub forecast_word : Pattern
forecast_word = bytes "TAF"

-- the bytes may stand in a text, and of its groups the first is the word
pub record Named (t : List ℕ) (w : Pattern) : Type 0 where
  pub sound : bytes_of t ≡ judgement.Sound
  pub first : Piece
  pub others : List Piece
  pub groups : groups_from t 0 ≡ first ∷ others
  pub named : has_pattern first.bytes w ≡ true

-- ---- the groups behind the first

pub end_is : (t : List ℕ) (s e : ℕ) → Follows t 0 s e → s + length (part_of t s e) ≡ e
end_is t s e f = let l = part_length t s e (omega (arith, f.some)) f.within in omega (arith, l, f.some)

pub behind-first : (t : List ℕ) (g : Piece) (gs : List Piece) → groups_from t 0 ≡ g ∷ gs → groups_from t (g.start + length g.bytes) ≡ gs
behind-first t g gs are = go (next_of t 0) refl
  where
    go : (x : Cut) → x ≡ next_of t 0 → groups_from t (g.start + length g.bytes) ≡ gs
    go (Stands s e) is =
        let f = when-group t 0 s e is in
        let same : g ≡ record { start = s; bytes = part_of t s e } = cc in
        let rest : groups_from t e ≡ gs = cc in
        rw (same, end_is t s e f) rest
    go (End e) is = let none = when-end t 0 e is in let z : ◌≡◌ {A = ℕ} 0 1 = cc in absurd (omega arith)

-- ---- what a name says

abbrev Behind : List ℕ → Pattern → ℕ → Type 0
Behind t w at = (n : Named t w) × (groups_from t at ≡ n.others)

abbrev pub Says : List ℕ → Name → Type 0
Says t (name.Surface ship at) = Behind t (surface_word ship) at
Says t (name.Observed special at) = Behind t (observed_word special) at
Says t (name.Forecast at) = Behind t forecast_word at
Says t (name.Refused f at) = Unit {0}

either : (t : List ℕ) (b : Bool) (x y : Name) → (b ≡ true → Says t x) → Says t y → Says t (cond b x y)
either t true x y p q = p refl
either t false x y p q = q

by-words : (t : List ℕ) (g : Group) (s e : ℕ) → ((w : Pattern) → has_pattern g w ≡ true → Behind t w e) → Says t (name_by g s e)
by-words t g s e found =
    either t (word "AAXX" g) _ _ (found (bytes "AAXX"))
    (either t (word "BBXX" g) _ _ (found (bytes "BBXX"))
    (either t (word "METAR" g) _ _ (found (bytes "METAR"))
    (either t (word "SPECI" g) _ _ (found (bytes "SPECI")) (either t (word "TAF" g) _ _ (found (bytes "TAF")) tt))))

pub name-says : (t : List ℕ) → Says t (name_of t)
unfolding name_of
name-says t = go (bytes_of t) refl
  where
    first : bytes_of t ≡ judgement.Sound → (x : Cut) → x ≡ next_of t 0 → Says t (first_name (groups_from t 0))
    first sound (Stands s e) is =
        let f = when-group t 0 s e is in
        rw (f.groups, end_is t s e f)
        (by-words t (part_of t s e) s e
        (λ w has. (record { sound = sound; first = record { start = s; bytes = part_of t s e }; others = groups_from t e; groups = f.groups; named = has }, refl)))
    first sound (End e) is = rw (when-end t 0 e is) tt

    go : (b : Bytes) → bytes_of t ≡ b → Says t (after_bytes b (first_name (groups_from t 0)))
    go judgement.Sound sound = first sound (next_of t 0) refl
    go judgement.Length e = tt
    go (judgement.Byte at) e = tt

-- ---- which name a text has

module _ {t : List ℕ} {w : Pattern} (n : Named t w) where
  abbrev g : Group
  g = n.first.bytes

  abbrev pub past : ℕ
  past = n.first.start + length n.first.bytes

  pub others-behind : groups_from t past ≡ n.others
  others-behind = behind-first t n.first n.others n.groups

  name-is : name_of t ≡ name_by g n.first.start past
  unfolding name_of
  name-is = rw (n.sound, n.groups)

  other : (q : Pattern) → clash w q ≡ true → has_pattern g q ≡ false
  other q apart = excluded g w q apart n.named

pub surface-name : {t : List ℕ} (ship : Bool) (n : Named t (surface_word ship)) → name_of t ≡ name.Surface ship (past n)
unfolding clash low high
surface-name false n = name-is n ∙ rw n.named
surface-name true n = name-is n ∙ rw (other n (bytes "AAXX") refl, n.named)

pub observed-name : {t : List ℕ} (special : Bool) (n : Named t (observed_word special)) → name_of t ≡ name.Observed special (past n)
unfolding clash low high
observed-name false n = name-is n ∙ rw (other n (bytes "AAXX") refl, other n (bytes "BBXX") refl, n.named)
observed-name true n = name-is n ∙ rw (other n (bytes "AAXX") refl, other n (bytes "BBXX") refl, other n (bytes "METAR") refl, n.named)

pub forecast-name : {t : List ℕ} (n : Named t forecast_word) → name_of t ≡ name.Forecast (past n)
unfolding clash low high
forecast-name n =
    name-is n ∙ rw (other n (bytes "AAXX") refl, other n (bytes "BBXX") refl, other n (bytes "METAR") refl, other n (bytes "SPECI") refl, n.named)
