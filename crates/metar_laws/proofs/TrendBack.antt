-- A trend, by the law of a report of parts: what is written of one that is judged fine is kept part by part, and read back as its classes.
-- Assumes nothing.
use Prim.Native.Nat.{ℕ, ◌+◌, ◌≤◌, ◌<◌}
use native.Mathlib.Omega.{arith}
use mathlib.Core.Path.{◌≡◌, refl, sym, ap, ◌∙◌}
use mathlib.Core.Bool.{Bool, true, false, false≢true}
use mathlib.Core.List.{List, [], ◌∷◌, map}
use lib.ListN.{length, take, set, length-map}
use borrow.Author.Tests.{lt-ltb}
use Rattle.figures.specs.Quote.{bytes}
use Rattle.shapes.specs.Pattern.{low, high, fits, has_pattern, has_any}
use Rattle.places.specs.Engine.{Group, put_all}
use Rattle.places.specs.Parts.{Word as Coming}
use Rattle.places.proofs.Parts.{Saying, Opening as OpenedBy, one}
use Rattle.record.specs.declared.aerodrome.Tendency.{Tendency}
use Rattle.record.specs.declared.aerodrome.Tendency.TheVariants as tendency
use Rattle.record.specs.declared.aerodrome.Observation.{Observation}
use Rattle.record.specs.declared.aerodrome.TrendChange.{TrendChange}
use Rattle.record.specs.declared.aerodrome.Trend.{Trend}
use Rattle.record.specs.declared.aerodrome.Metar.{Metar}
use Rattle.record.specs.Trend.{set_tendency, blank_trend_change, blank_trend}
use Rattle.record.specs.SilentAerodrome.{no_tendency}
use Rattle.body.proofs.Sayings.{keep-part, alone, SaidOne, Said as SaidBy, said-none, said_more, list-said}
use Rattle.metar_row.specs.Row.{words}
use Rattle.trend_row.specs.declared.kinds.Word.{Word}
use Rattle.trend_row.specs.declared.kinds.Word.TheVariants as word
use Rattle.trend_row.specs.Row.{is_change, row}
use Rattle.trend_row.proofs.Rows.{row-length}
use Rattle.trend_row.proofs.Sound.{row-sound, row-covered}
use Rattle.trend_row.proofs.Changes.{change_sizes, element-back, kept-closed, change-goes-on}
use Rattle.trend.specs.Read.{start_of, comes_to, with_change, taking, parts}
use Rattle.trend.specs.Write.{show_word, show_change, show_each, show_trend, class_change, class_trend}
use Rattle.metar_laws.proofs.Trends.{Sound, kept-change, Listed, none_beside}

abbrev word_in : Metar → Group → Coming Word TrendChange
word_in r g = comes_to r.trend g

-- ---- a change as a part

-- the word that opens it; where there is none it is not written
abbrev word_of : Tendency → Word
word_of tendency.None = word.Nosig
word_of tendency.Becoming = word.Becoming
word_of tendency.Temporary = word.Temporary

abbrev saying : TrendChange → Saying TrendChange Word
saying c = record { words = show_word c.tendency; kind = word_of c.tendency; start = start_of (word_of c.tendency); said = c }

-- a word opens a change, which begins as the word says, and the trend takes it in
record Opened (t : Tendency) : Type 0 where
  change : is_change (word_of t) ≡ true
  start : start_of (word_of t) ≡ set_tendency t blank_trend_change
  takes : (u : Trend) (c : TrendChange) → taking (word_of t) u c ≡ with_change u c
  opens : (r : Metar) (gs : List Group) → r.trend.nosig ≡ false → OpenedBy parts (has_any words) word_in r (word_of t) (start_of (word_of t)) gs (show_word t)

opened : (t : Tendency) → no_tendency t ≡ false → Opened t
unfolding words has_any has_pattern fits low high comes_to
opened tendency.None e = absurd (false≢true (sym e))
opened tendency.Becoming e =
    record { change = refl; start = refl; takes = λ u c. refl; opens = λ r gs n. one {g = bytes "BECMG"} refl (rw n) (alone parts word.Becoming gs (λ g. refl)) }
opened tendency.Temporary e =
    record { change = refl; start = refl; takes = λ u c. refl; opens = λ r gs n. one {g = bytes "TEMPO"} refl (rw n) (alone parts word.Temporary gs (λ g. refl)) }

-- the report with a list of changes
abbrev listing : Observation → List TrendChange → ℕ → Metar
listing o items n = record { observation = o; trend = record { items = items; count = n; nosig = false } }

-- A CHANGE IS SAID, wherever it stands.
change-said : (o : Observation) (c : TrendChange) → Sound false c → (items : List TrendChange) (n : ℕ) → n < 3
    → SaidOne parts (has_any words) word_in (listing o items n) (listing o (set items n (class_change c)) (n + 1)) (show_change c) (saying c)
unfolding show_change class_change
change-said o c s items n h =
    let w = word_of c.tendency in
    let its = opened c.tendency s.1.word in
    record {
      opens = λ rest. its.opens (listing o items n) _ refl;
      kept = keep-part {sizes = change_sizes} words (omega (arith, row-length (is_change w))) (row-sound (is_change w)) (row-covered (is_change w)) (rw (its.change, its.start) (kept-change false c s)) refl (rw (its.change, element-back c (start_of w), s.1.element));
      on = change-goes-on (is_change w) c;
      alike = (refl, refl);
      groups = rw its.change;
      back = rw (its.change, its.start, its.takes (record { items = items; count = n; nosig = false }) (put_all (row true) c (set_tendency c.tendency blank_trend_change)), lt-ltb n 3 h);
    }

-- ---- NOSIG

abbrev silence : Saying TrendChange Word
silence = record { words = bytes "NOSIG" ∷ []; kind = word.Nosig; start = blank_trend_change; said = blank_trend_change }

silence-said : (o : Observation)
    → SaidOne parts (has_any words) word_in (record { observation = o; trend = blank_trend })
    (record { observation = o; trend = record { items = blank_trend.items; count = 0; nosig = true } }) (bytes "NOSIG" ∷ []) silence
unfolding row words has_any has_pattern fits low high comes_to
silence-said o =
    record {
      opens = λ rest. one {g = bytes "NOSIG"} refl refl (alone parts word.Nosig rest (λ g. refl));
      kept = keep-part words (omega arith) (row-sound false) (row-covered false) (kept-closed blank_trend_change blank_trend_change) refl refl;
      on = refl;
      alike = (refl, refl);
      groups = refl;
      back = refl;
    }

-- ---- the trend

-- Parts that say a trend, after an observation: kept, read back as its classes, and written as its groups.
pub record Said (o : Observation) (t : Trend) : Type 0 where
  pub sayings : List (Saying TrendChange Word)
  pub few : length sayings ≤ 3
  pub none : t ≡ blank_trend → sayings ≡ []
  pub said : SaidBy parts (has_any words) word_in (record { observation = o; trend = blank_trend }) (record { observation = o; trend = class_trend t }) (show_trend t) sayings

module _ (o : Observation) (t : Trend) (l : Listed t) where
  abbrev changes : List TrendChange
  changes = take t.count t.items

  by-changes : t.nosig ≡ false → Said o t
  unfolding show_trend class_trend
  by-changes n =
      record {
        sayings = map saying changes;
        few = omega (arith, length-map changes saying, l.many, l.few);
        none = λ e. ap (λ (u : Trend). map saying (take u.count u.items)) e;
        said = rw n (list-said parts (has_any words) word_in saying show_change show_each refl (λ c cs. refl) class_change (listing o) (change-said o) (rw n at l));
      }

  by-nosig : t.nosig ≡ true → Said o t
  unfolding show_trend class_trend
  by-nosig n =
      let none : changes ≡ [] = none_beside changes (rw n at l.each) in
      let zero : t.count ≡ 0 = sym l.many ∙ ap length none in
      record {
        sayings = silence ∷ [];
        few = omega arith;
        none = λ e. absurd (false≢true (sym (ap (λ (u : Trend). u.nosig) e) ∙ n));
        said = rw (n, none, ← l.rest, zero) (said_more parts (has_any words) word_in silence [] (silence-said o) (said-none parts (has_any words) word_in _));
      }

  -- NOSIG, or changes
  pub trend-said : Said o t
  trend-said = go t.nosig refl
    where
      go : (b : Bool) → t.nosig ≡ b → Said o t
      go true n = by-nosig n
      go false n = by-changes n
