-- What the functions that read a METAR or SPECI answer where its observation ends.
-- Assumes nothing: these are definitions.
use Rattle.std.specs.Prelude.{ℕ, ◌≡◌, true, List, length}
use Rattle.text.specs.Groups.{part_of, groups_from}
use Rattle.text.specs.Text.{tail_of}
use Rattle.text.specs.declared.kinds.Refusal.TheVariants as refusal
use Rattle.places.specs.Engine.{Outcome, Fault}
use Rattle.places.specs.Answer.{outcome_of, end_verdict}
use Rattle.places.specs.Parts.{turned, unless, owes, further}
use Rattle.record.specs.declared.aerodrome.Observation.{Observation}
use Rattle.record.specs.declared.aerodrome.Trend.{Trend}
use Rattle.record.specs.declared.aerodrome.Metar.{Metar}
use Rattle.record.specs.Trend.{blank_trend}
use Rattle.body.specs.declared.kinds.Met.{Met}
use Rattle.body.specs.declared.kinds.Met.TheVariants as met
use Rattle.trend.specs.declared.kinds.Ahead.{Ahead}
use Rattle.trend.specs.declared.kinds.Next.{Next}
use Rattle.trend.specs.Read.{comes_to, parts}
use Rattle.trend.specs.Step.{after_part}
use Rattle.metar.specs.Read.{main_part, is_refused}

-- an observation with a trend, and without one
abbrev pub beside : Observation → Trend → Metar
beside o t = record { observation = o; trend = t }

abbrev pub alone : Observation → Metar
alone o = beside o blank_trend

-- a word stands from start up to end, where k groups stand at place c
abbrev pub word_at : List ℕ → ℕ → ℕ → ℕ → ℕ → Observation → Outcome Metar
word_at text start end c k o =
    unless (owes main_part c k o) start
    (turned (further (tail_of text) (length text) parts 3) (main_part.takes o) (record { start = start; bytes = part_of text start end }) (groups_from text end)
    (comes_to blank_trend (part_of text start end)))

-- what the text comes to where the next group is not taken: none is left, it is a word, or it is refused (a group that is taken is not asked for)
abbrev pub left_at : List ℕ → Met → ℕ → ℕ → Observation → Outcome Metar
left_at text met.Over c k o = outcome_of (end_verdict (tail_of text) (length text) (owes main_part c k o)) (alone o)
left_at text (met.Halt start end) c k o = word_at text start end c k o
left_at text (met.Refused f start) c k o = Fault f start
left_at text (met.Says x) c k o = Fault refusal.Shape x.start

-- b is a with a blank trend where the text is refused
pub record Unrefused (a b : Ahead) : Type 0 where
  pub same : (o : Observation) → outcome_of a.verdict (beside o a.trend) ≡ outcome_of b.verdict (beside o b.trend)
  pub blank : is_refused b.verdict ≡ true → b.trend ≡ blank_trend

-- what follows the observation, where no trend was read: whatever was observed, the verdict with the trend; a refused text has none
pub record ReadOn (text : List ℕ) (x : Next) (a : Ahead) : Type 0 where
  pub reads : (o : Observation) → after_part text 0 (alone o) x ≡ outcome_of a.verdict (beside o a.trend)
  pub blank : is_refused a.verdict ≡ true → a.trend ≡ blank_trend
