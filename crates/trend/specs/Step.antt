-- What the functions that read a trend answer, in terms of its parts.
-- Assumes nothing: these are definitions.
use Rattle.std.specs.Prelude.{ℕ, ◌+◌, ◌-◌, ◌≤◌, ◌<◌, ◌≡◌, Bool, true, false, cond, not, List, length, ltb, Err}
use Rattle.figures.specs.Quote.{bytes}
use Rattle.text.specs.declared.kinds.Refusal.{Refusal}
use Rattle.text.specs.declared.kinds.Refusal.TheVariants as refusal
use Rattle.text.specs.Groups.{groups_from}
use Rattle.text.specs.Text.{tail_of}
use Rattle.text.specs.Refusals.{refused_with}
use Rattle.shapes.specs.Pattern.{has_pattern}
use Rattle.places.specs.Engine.{Group, Outcome}
use Rattle.places.specs.Answer.{outcome_of}
use Rattle.places.specs.Parts.{Further, turned, unless, part_from, further}
use Rattle.record.specs.declared.aerodrome.TrendChange.{TrendChange}
use Rattle.record.specs.declared.aerodrome.Observation.{Observation}
use Rattle.record.specs.declared.aerodrome.Metar.{Metar}
use Rattle.record.specs.Trend.{blank_trend}
use Rattle.trend_row.specs.declared.kinds.Word.{Word}
use Rattle.trend_row.specs.declared.kinds.Word.TheVariants as word
use Rattle.trend_row.specs.Tests.{is_full}
use Rattle.trend_row.specs.Row.{is_change}
use Rattle.trend.specs.declared.kinds.Next.{Next}
use Rattle.trend.specs.declared.kinds.Next.TheVariants as next
use Rattle.trend.specs.declared.kinds.PartRead.{PartRead}
use Rattle.trend.specs.declared.kinds.Ahead.{Ahead}
use Rattle.trend.specs.Read.{start_of, comes_to, part_in, part_after, parts}

-- ---- the text from a position on, n parts being read before

-- so many parts may still come
abbrev pub more_after : List ℕ → ℕ → Further Metar TrendChange Word
more_after text n = further (tail_of text) (length text) parts (3 - n)

-- a part, from behind its word on
unfoldable pub part_by : List ℕ → Word → (TrendChange → Metar) → ℕ → ℕ → Outcome Metar
part_by text w takes n at = part_from (tail_of text) (length text) (part_in w takes) (more_after text n) 0 0 (start_of w) (groups_from text at)

-- ---- what follows a part, or the observation

abbrev pub refused_at : Refusal → ℕ → Next
refused_at f at = next.End (Err (refused_with f at))

abbrev pub after_part : List ℕ → ℕ → Metar → Next → Outcome Metar
after_part text n r (next.End v) = outcome_of v r
after_part text n r (next.Part w at) = part_by text w (part_after r w).takes (n + 1) at

-- NOSIG, from start up to end, after n parts
abbrev pub nosig_met : ℕ → ℕ → ℕ → Bool → Next
nosig_met start end n nosig = cond nosig (refused_at refusal.Order start) (cond (ltb 0 n) (refused_at refusal.Disagreement start) (next.Part word.Nosig end))

-- BECMG or TEMPO
abbrev pub change_met : Group → ℕ → ℕ → ℕ → Bool → Next
change_met g start end n nosig =
    cond nosig (refused_at refusal.Disagreement start)
    (cond (is_full n) (refused_at refusal.Limit start) (next.Part (cond (has_pattern g (bytes "BECMG")) word.Becoming word.Temporary) end))

-- the trend of a report into which n parts were taken: NOSIG, or n changes
pub record Holds (n : ℕ) (nosig : Bool) (r : Metar) : Type 0 where
  pub alone : r.trend.nosig ≡ nosig
  pub many : nosig ≡ false → r.trend.count ≡ n

-- a word after n parts: an absence first, then what the word comes to
pub record MetWord (g : Group) (start end n : ℕ) (nosig lacking : Bool) (x : Next) : Type 0 where
  pub reads : (text : List ℕ) (r : Metar) → Holds n nosig r
      → unless lacking start (turned (more_after text n) r (record { start = start; bytes = g }) (groups_from text end) (comes_to r.trend g)) ≡ after_part text n r x
  pub ahead : (w : Word) (to : ℕ) → x ≡ next.Part w to → (to ≡ end) × (n < 3) × (nosig ≡ false)

-- a part that was read, the n-th that the report takes in: the text is read as what follows it says, and a part lies ahead in the text
pub record PartDone (text : List ℕ) (w : Word) (n at : ℕ) (x : PartRead) : Type 0 where
  pub reads : (takes : TrendChange → Metar) → Holds n (not (is_change w)) (takes x.change)
      → part_by text w takes n at ≡ after_part text n (takes x.change) x.next
  pub ahead : (v : Word) (to : ℕ) → x.next ≡ next.Part v to → (at < to) × (to ≤ length text) × (n < 3) × (is_change w ≡ true)

-- THE TREND, from behind its first word on: whatever was observed, the verdict with the trend that is read.
abbrev pub TrendRead : List ℕ → Word → ℕ → Ahead → Type 0
TrendRead text w at a = (o : Observation)
    → part_by text w (part_after (record { observation = o; trend = blank_trend }) w).takes 1 at ≡ outcome_of a.verdict (record { observation = o; trend = a.trend })
