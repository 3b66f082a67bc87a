-- A whole TAF, by the law of a report of parts: what is written of a record that is judged fine is read back, from any pieces that hold it, as the
-- record's classes.
-- Assumes nothing.
use Rattle.std.specs.Prelude.{None, Ok}
use Prim.Native.Nat.{ℕ, ◌+◌, ◌<◌}
use native.Mathlib.Omega.{arith}
use mathlib.Core.Path.{◌≡◌, refl, sym}
use mathlib.Core.Bool.{Bool, true, false, ◌||◌, false≢true}
use mathlib.Core.List.{List, ◌++◌, map}
use lib.ListN.{take, set, length-map}
use borrow.Author.Tests.{lt-ltb}
use Rattle.figures.specs.Quote.{bytes}
use Rattle.text.specs.Groups.{Piece}
use Rattle.shapes.specs.Pattern.{low, high, fits, has_pattern, has_any}
use Rattle.shapes.proofs.Patterns.{both, or_right, neither}
use Rattle.places.specs.Engine.{Group, Done, written, put_all}
use Rattle.places.specs.Parts.{Word, Opens}
use Rattle.places.proofs.ReadBack.{All, groups_of as piece_groups, plain}
use Rattle.places.proofs.Kept.{kept-spoken}
use Rattle.places.proofs.Parts.{Saying, Opening as OpenedBy, one, two, unjoined}
use Rattle.record.specs.declared.aerodrome.Opening.{Opening}
use Rattle.record.specs.declared.aerodrome.Opening.TheVariants as opening
use Rattle.record.specs.declared.aerodrome.Period.{Period}
use Rattle.record.specs.declared.aerodrome.Leg.{Leg}
use Rattle.record.specs.declared.aerodrome.Change.{Change}
use Rattle.record.specs.declared.aerodrome.Edition.{Edition}
use Rattle.record.specs.declared.aerodrome.Taf.{Taf}
use Rattle.record.specs.Taf.{blank_leg}
use Rattle.record.specs.SilentAerodrome.{no_instant}
use Rattle.record.specs.Arrays.{TafArrays}
use Rattle.elements.specs.Body.{has_element}
use Rattle.body.proofs.Sayings.{keep-part, last-unless, alone, SaidOne, list-said, report-said}
use Rattle.taf_row.specs.declared.kinds.Part.TheVariants as part
use Rattle.taf_row.specs.Row.{word, change_form, show_period, from_shape, row, change_words}
use Rattle.taf_row.proofs.Sound.{row-sound, row-covered}
use Rattle.taf.specs.Read.{opened_by, part_of, main_part, changes, groups_read, is_chance}
use Rattle.taf.specs.Write.{period_fits, from_fits, opening_fits, leg_of, judge_of, show_chance, show_from, show_opening, show_change, show_each, groups_of, opened_leg, class_change, classed_of}
use Rattle.taf_laws.proofs.Periods.{chance-shaped, chance-opened, from-shaped, from-opened}
use Rattle.taf_laws.proofs.Parts.{Sound, fair, kept-main, main-goes-on, kept-change, change-goes-on, element-back}
use Rattle.taf_laws.proofs.Changes.{listed, none_over, part-change}

abbrev change_word : Edition → Taf → Group → Word Opening Leg
change_word e t g = Opens (opened_by e g)

-- ---- the words of a change

not-tempo : (e : Edition) (g : Group) → has_any (change_words e) g ≡ false → word "TEMPO" g ≡ false
unfolding change_words has_any
not-tempo e g h = go (has_pattern g (bytes "BECMG")) (has_pattern g (bytes "TEMPO")) _ h
  where
    go : (a b x : Bool) → (a || (b || x)) ≡ false → b ≡ false
    go true b x h = absurd (false≢true (sym h))
    go false true x h = absurd (false≢true (sym h))
    go false false x h = refl

-- what comes after the words is not taken for one of them: under PROB30 and PROB40 the period comes first
calm : (e : Edition) (o : Opening) (c : Change) (rest : List Group) → All (λ g. has_any (change_words e) g ≡ false) (written (row e (part_of o)) (leg_of c))
    → unjoined (changes e) o (written (row e (part_of o)) (leg_of c) ++ rest) ≡ true
unfolding row
calm e (opening.Probable n) c rest a = rw (not-tempo e (show_period (change_form e) c.period) a.0)
calm e opening.None c rest a = alone (changes e) opening.None (written (row e part.Changing) (leg_of c) ++ rest) (λ g. refl)
calm e opening.Becoming c rest a = alone (changes e) opening.Becoming (written (row e part.Changing) (leg_of c) ++ rest) (λ g. refl)
calm e opening.Temporary c rest a = alone (changes e) opening.Temporary (written (row e part.Changing) (leg_of c) ++ rest) (λ g. refl)
calm e (opening.ProbablyTemporary n) c rest a = alone (changes e) (opening.ProbablyTemporary n) (written (row e part.Changing) (leg_of c) ++ rest) (λ g. refl)
calm e opening.From c rest a = alone (changes e) opening.From (written (row e part.From) (leg_of c) ++ rest) (λ g. refl)

chance-word : (e : Edition) (g : Group) → has_pattern g (bytes "PROB##") ≡ true → has_any (change_words e) g ≡ true
unfolding change_words has_any
chance-word e g s = or_right (has_pattern g (bytes "BECMG")) _ (or_right (has_pattern g (bytes "TEMPO")) _ (rw s))

from-word : (e : Edition) (g : Group) → has_pattern g (from_shape e) ≡ true → has_any (change_words e) g ≡ true
unfolding change_words has_any
from-word e g s = or_right (has_pattern g (bytes "BECMG")) _ (or_right (has_pattern g (bytes "TEMPO")) _ (or_right (has_pattern g (bytes "PROB##")) _ (rw s)))

words_open : (e : Edition) (t : Taf) (o : Opening) (p : Period) (its : List Group) → opening_fits e o p ≡ true → unjoined (changes e) o its ≡ true
    → OpenedBy (changes e) (has_any (change_words e)) (change_word e) t o (opened_leg o p) its (show_opening e o p)
unfolding change_words has_any has_pattern fits low high opened_by
words_open e t opening.None p its f u = absurd (false≢true f)
words_open e t opening.Becoming p its f u = one refl refl u
words_open e t opening.Temporary p its f u = one refl refl u
words_open e t (opening.Probable n) p its f u =
    let c = (both (is_chance n) (period_fits (change_form e) p) f).0 in
    one {g = show_chance n} (chance-word e (show_chance n) (chance-shaped n c)) (rw (chance-opened n c e)) u
words_open e t (opening.ProbablyTemporary n) p its f u =
    let c = (both (is_chance n) (period_fits (change_form e) p) f).0 in
    two {g = show_chance n} {h = bytes "TEMPO"} (opening.Probable n) (chance-word e (show_chance n) (chance-shaped n c)) (rw (chance-opened n c e)) refl refl
words_open e t opening.From p its f u =
    let c = (both (from_fits e p.from) (no_instant p.to) f).0 in
    one {g = show_from e p.from} (from-word e (show_from e p.from) (from-shaped e p.from c)) (rw (from-opened e p.from c)) u

-- ---- a change as a part

abbrev saying : Edition → Change → Saying Leg Opening
saying e c = record { words = show_opening e c.opening c.period; kind = c.opening; start = opened_leg c.opening c.period; said = leg_of c }

-- the report with a list of changes
abbrev listing : Edition → Leg → List Change → ℕ → Taf
listing e l items n = record { edition = e; leg = l; changes = record { items = items; count = n } }

-- A CHANGE IS SAID, wherever it stands.
change-said : (e : Edition) (l : Leg) (c : Change) → Sound e c → (items : List Change) (n : ℕ) → n < 16
    → SaidOne (changes e) (has_any (change_words e)) (change_word e) (listing e l items n) (listing e l (set items n (class_change e c)) (n + 1)) (show_change e c) (saying e c)
unfolding show_change class_change
change-said e l c s items n h =
    let o = c.opening in
    let w = part_of o in
    let k = kept-change e c s.0 s.1 in
    let some : has_element c.body ≡ true = rw (part-change o) at s.1.part.element in
    record {
      opens =
          λ rest.
          words_open e (listing e l items n) o c.period _ s.1.opens
          (calm e o c rest (plain (change_words e) (row e w) (leg_of c) (row-sound e w) (kept-spoken k)));
      kept = keep-part (change_words e) (unfold row in omega arith) (row-sound e w) (row-covered e w) k refl (rw (element-back e w (leg_of c) (opened_leg o c.period), part-change o, some));
      on = change-goes-on e w (leg_of c) (part-change o);
      alike = (refl, refl);
      groups = refl;
      back = rw (lt-ltb n 16 h);
    }

-- ---- the report

-- THE GROUPS OF A RECORD ARE READ BACK, from any pieces that hold them. NIL and CNL have no change after them.
pub pieces-back : (t : Taf) → TafArrays t → judge_of t ≡ Ok tt → (end : ℕ) (gs : List Piece) → piece_groups gs ≡ groups_of t
    → groups_read t.edition None end gs ≡ Done end (classed_of t)
unfolding groups_read groups_of classed_of
pieces-back t arrays fine end gs are =
    let e = t.edition in
    let f = fair t fine in
    let l = listed t arrays f in
    let cs = take t.changes.count t.changes.items in
    report-said (changes e) (main_part e) t.leg blank_leg end 16 gs
    (keep-part (change_words e) (unfold row in omega arith) (row-sound e part.Main) (row-covered e part.Main) (kept-main t arrays f) refl refl)
    (last-unless (changes e) (main_part e) t.leg (map (saying e) cs) (t.leg.nil || t.leg.cancelled) (λ o. rw (none_over t f o))
    (λ o. let n = neither t.leg.nil t.leg.cancelled (rw o) in main-goes-on e t.leg n.0 n.1))
    (list-said (changes e) (has_any (change_words e)) (change_word e) (saying e) (show_change e) (show_each e) refl (λ c cs. refl) (class_change e)
    (listing e (put_all (row e part.Main) t.leg blank_leg)) (change-said e _) l)
    (omega (arith, length-map cs (saying e), l.many, l.few)) are
