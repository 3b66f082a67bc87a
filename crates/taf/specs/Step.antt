-- What the functions that read a TAF answer, in terms of its parts: what a change word opens, a part, and what is read from a change on.
-- Assumes nothing: these are definitions.
use Rattle.std.specs.Prelude.{ℕ, ◌+◌, ◌-◌, ◌≤◌, ◌<◌, ◌≡◌, Bool, List, length, Err, Ok, Option, Result, Some}
use Rattle.std.proofs.lemmas.List.Edits.{sets}
use Rattle.text.specs.declared.kinds.Refusal.{Refusal}
use Rattle.text.specs.declared.kinds.Refused.{Refused}
use Rattle.text.specs.Groups.{groups_from}
use Rattle.text.specs.Text.{tail_of}
use Rattle.text.specs.Refusals.{refused_with}
use Rattle.places.specs.Engine.{Group, Outcome}
use Rattle.places.specs.Answer.{outcome_of, end_verdict}
use Rattle.places.specs.Parts.{Begun, Further, unless, part_from, begins, further}
use Rattle.record.specs.declared.aerodrome.Period.{Period}
use Rattle.record.specs.declared.aerodrome.Leg.{Leg}
use Rattle.record.specs.declared.aerodrome.Opening.{Opening}
use Rattle.record.specs.declared.aerodrome.Opening.TheVariants as opening
use Rattle.record.specs.declared.aerodrome.Change.{Change}
use Rattle.record.specs.declared.aerodrome.Edition.{Edition}
use Rattle.record.specs.declared.aerodrome.Taf.{Taf}
use Rattle.record.specs.Taf.{blank_instant, blank_leg, blank_taf, set_period}
use Rattle.taf_row.specs.declared.kinds.Part.{Part}
use Rattle.taf_row.specs.Tests.{owes_in}
use Rattle.taf.specs.declared.kinds.Opened.{Opened}
use Rattle.taf.specs.declared.kinds.Start.{Start}
use Rattle.taf.specs.declared.kinds.Next.{Next}
use Rattle.taf.specs.declared.kinds.Next.TheVariants as next
use Rattle.taf.specs.declared.kinds.PartRead.{PartRead}
use Rattle.taf.specs.declared.kinds.Ahead.{Ahead}
use Rattle.taf.specs.Read.{opened_by, part_in, change_part, changes}

-- ---- what a change word opens

abbrev pub begun_by : Result Opened Refusal → Result (Begun Opening Leg) Refusal
begun_by (Ok x) = Ok (record { kind = x.opening; start = set_period x.period blank_leg })
begun_by (Err f) = Err f

abbrev pub opened_with : Opening → Period → Opened
opened_with opening period = record { opening = opening; period = period }

-- a part that begins at the time of FMYYGGgg or FMGGgg
abbrev pub from_time : Option ℕ → ℕ → ℕ → Result Opened Refusal
from_time day h m = Ok (opened_with opening.From (record { from = record { day = day; hour = Some h; minute = Some m }; to = blank_instant }))

-- behind the word that opens a change: whatever was read before, its part is read from `s` on, which is past TEMPO where that joins PROB
pub record Begins (e : Edition) (text : List ℕ) (o : Opening) (at : ℕ) (s : Start) : Type 0 where
  pub reads : (more : Further Taf Leg Opening) (t : Taf) (p : Leg)
      → begins (tail_of text) (length text) (changes e) more t o p (groups_from text at)
      ≡ part_from (tail_of text) (length text) (change_part e t s.opening) more 0 0 p (groups_from text s.at)
  pub later : at ≤ s.at

-- in any edition
abbrev pub BeginsIn : List ℕ → Opening → ℕ → Start → Type 0
BeginsIn text o at s = (e : Edition) → Begins e text o at s

-- ---- the text from a position on, n changes being read before

-- so many changes may still come
abbrev pub more_after : Edition → List ℕ → ℕ → Further Taf Leg Opening
more_after e text n = further (tail_of text) (length text) (changes e) (16 - n)

-- any part, k groups at its first place
unfoldable pub part_by : Edition → List ℕ → Part → (Leg → Taf) → ℕ → ℕ → Leg → ℕ → Outcome Taf
part_by e text w takes n k r at = part_from (tail_of text) (length text) (part_in e w takes) (more_after e text n) 0 k r (groups_from text at)

-- a change, from behind its word on
unfoldable pub change_from : Edition → List ℕ → ℕ → Opening → Period → ℕ → Taf → Outcome Taf
change_from e text n o p at t = begins (tail_of text) (length text) (changes e) (more_after e text (n + 1)) t o (set_period p blank_leg) (groups_from text at)

-- its part
unfoldable pub body_from : Edition → List ℕ → ℕ → Opening → Period → ℕ → Taf → Outcome Taf
body_from e text n o p at t = part_from (tail_of text) (length text) (change_part e t o) (more_after e text (n + 1)) 0 0 (set_period p blank_leg) (groups_from text at)

-- ---- what follows a part

abbrev pub refused_at : Refusal → ℕ → Next
refused_at f at = next.End (Err (refused_with f at))

-- the text is over, where k groups stand at place c of the part r
abbrev pub EndedPart : List ℕ → Part → ℕ → ℕ → Leg → PartRead → Type 0
EndedPart text w c k r x = (e : Edition) → x ≡ record { next = next.End (end_verdict (tail_of text) (length text) (owes_in e w c k r)); leg = r }

abbrev pub after_part : Edition → List ℕ → ℕ → Taf → Next → Outcome Taf
after_part e text n t (next.End v) = outcome_of v t
after_part e text n t (next.Change o p at) = change_from e text n o p at t

-- a change word that ends a part, n changes in the report that takes it in: an absence first, then whether there is room, then what the word opens
pub record MetWord (e : Edition) (g : Group) (start end n : ℕ) (lacking : Bool) (x : Next) : Type 0 where
  pub reads : (text : List ℕ) (t : Taf)
      → unless lacking start (more_after e text n t (record { start = start; bytes = g }) (opened_by e g) (groups_from text end)) ≡ after_part e text n t x
  pub ahead : (o : Opening) (q : Period) (to : ℕ) → x ≡ next.Change o q to → (to ≡ end) × (n < 16)

-- a part that was read, n changes in the report that takes it in: the text is read as what follows it says, and a change lies ahead in the text
pub record PartDone (e : Edition) (text : List ℕ) (w : Part) (n k : ℕ) (r : Leg) (at : ℕ) (x : PartRead) : Type 0 where
  pub reads : (takes : Leg → Taf) → part_by e text w takes n k r at ≡ after_part e text n (takes x.leg) x.next
  pub ahead : (o : Opening) (q : Period) (to : ℕ) → x.next ≡ next.Change o q to → (at < to) × (to ≤ length text) × (n < 16)

-- ---- what is read from a change on

abbrev pub none_ahead : Result ℕ Refused → ℕ → Ahead
none_ahead v n = record { verdict = v; items = blank_taf.changes.items; count = n }

-- Read with n changes before it: the changes that are read, in their places; and for every report with n changes the verdict, with those changes added.
pub record ReadAhead (n : ℕ) (from : Taf → Outcome Taf) (a : Ahead) : Type 0 where
  pub more : List Change
  pub items : a.items ≡ sets blank_taf.changes.items n more
  pub count : a.count ≡ n + length more
  pub says : (t : Taf) → t.changes.count ≡ n
      → from t ≡ outcome_of a.verdict (record { edition = t.edition; leg = t.leg; changes = record { items = sets t.changes.items n more; count = n + length more } })
