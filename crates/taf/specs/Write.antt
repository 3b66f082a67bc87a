-- Writing a TAF: what the writer judges, the canonical text, and the record that it is read back as.
-- Assumes nothing: these are definitions.
use Rattle.std.specs.Prelude.{⊤, ℕ, Bool, true, false, cond, not, ◌&&◌, ◌||◌, List, [], ◌∷◌, ◌++◌, map, take, drop, leb, Ok, Result}
use Rattle.text.specs.declared.kinds.Refusal.{Refusal}
use Rattle.figures.specs.Quote.{bytes}
use Rattle.figures.specs.Figures.{number_text, field_text, every}
use Rattle.text.specs.Judge.{judge, and_then}
use Rattle.text.specs.Write.{answer_by, buffer_by}
use Rattle.text.specs.Groups.{join}
use Rattle.places.specs.Engine.{Group, written, put_all}
use Rattle.record.specs.declared.aerodrome.Instant.{Instant}
use Rattle.record.specs.declared.aerodrome.Period.{Period}
use Rattle.record.specs.declared.aerodrome.Opening.{Opening}
use Rattle.record.specs.declared.aerodrome.Opening.TheVariants as opening
use Rattle.record.specs.declared.aerodrome.Body.{Body}
use Rattle.record.specs.declared.aerodrome.Leg.{Leg}
use Rattle.record.specs.declared.aerodrome.Change.{Change}
use Rattle.record.specs.declared.aerodrome.Changes.{Changes}
use Rattle.record.specs.declared.aerodrome.Edition.{Edition}
use Rattle.record.specs.declared.aerodrome.Edition.TheVariants as edition
use Rattle.record.specs.declared.aerodrome.Taf.{Taf}
use Rattle.record.specs.Taf.{blank_instant, blank_leg, set_period, set_body}
use Rattle.record.specs.Missing.{is_missing, present}
use Rattle.record.specs.SilentAerodrome.{is_blank_body, no_instant, no_period, is_blank_change, no_changes, is_same_edition}
use Rattle.elements.specs.Body.{judge_body}
use Rattle.aerodrome_groups.specs.Head.{field_of, is_day, is_hour, is_minute, instant_fits, judge_station, judge_time}
use Rattle.taf_row.specs.declared.kinds.Part.{Part}
use Rattle.taf_row.specs.declared.kinds.Part.TheVariants as part
use Rattle.taf_row.specs.declared.kinds.Form.{Form}
use Rattle.taf_row.specs.declared.kinds.Form.TheVariants as form
use Rattle.taf_row.specs.Row.{element_stands, forecast_in, own_form, change_form, is_end_hour, row}
use Rattle.taf.specs.Read.{is_chance, part_of, change_of}

-- ---- a part: its body in written order; "A change body needs one element, under FM wind and visibility."

unfoldable pub judge_part : Part → Body → Result ⊤ Refusal
judge_part w b = and_then (judge_body (forecast_in w) b) (judge (element_stands w b) true)

-- ---- periods and what opens a change

abbrev pub is_hour_of : (ℕ → Bool) → Instant → Bool
is_hour_of hour t = present is_day t.day && present hour t.hour && is_missing t.minute

-- where the form has no day, one that is there is out of place
abbrev pub is_hour_alone : (ℕ → Bool) → Instant → Bool
is_hour_alone hour t = is_missing t.day && present hour t.hour && is_missing t.minute

abbrev pub period_fits : Form → Period → Bool
period_fits form.BothDays p = is_hour_of is_hour p.from && is_hour_of (is_end_hour form.BothDays) p.to
period_fits form.FirstDay p = is_hour_of is_hour p.from && is_hour_alone (is_end_hour form.FirstDay) p.to
period_fits form.NoDay p = is_hour_alone is_hour p.from && is_hour_alone (is_end_hour form.NoDay) p.to

-- the time of FM
abbrev pub from_fits : Edition → Instant → Bool
from_fits edition.Present t = instant_fits t
from_fits edition.Of2005 t = is_missing t.day && present is_hour t.hour && present is_minute t.minute

-- the opening and its period: under FM a time and no end, else a period without minutes
abbrev pub opening_fits : Edition → Opening → Period → Bool
opening_fits e opening.None p = false
opening_fits e opening.Becoming p = period_fits (change_form e) p
opening_fits e opening.Temporary p = period_fits (change_form e) p
opening_fits e (opening.Probable n) p = is_chance n && period_fits (change_form e) p
opening_fits e (opening.ProbablyTemporary n) p = is_chance n && period_fits (change_form e) p
opening_fits e opening.From p = from_fits e p.from && no_instant p.to

-- a change group's part as a leg, its head blank
abbrev pub leg_of : Change → Leg
leg_of c = set_body c.body (set_period c.period blank_leg)

unfoldable pub judge_change : Edition → Change → Result ⊤ Refusal
judge_change e c = and_then (judge (opening_fits e c.opening c.period) true) (judge_part (part_of c.opening) c.body)

abbrev pub judge_each : Edition → List Change → Result ⊤ Refusal
judge_each e [] = Ok tt
judge_each e (c ∷ cs) = and_then (judge_change e c) (judge_each e cs)

unfoldable pub judge_changes : Edition → Changes → Result ⊤ Refusal
judge_changes e cs = and_then (judge (leb cs.count 16 && every is_blank_change (drop cs.count cs.items)) true) (judge_each e (take cs.count cs.items))

-- ---- foreign fields: a NIL report has nothing after its time, a cancelled one nothing after its period

unfoldable pub foreign_blank : Taf → Bool
foreign_blank t =
    (not t.leg.nil || (no_period t.leg.period && not t.leg.cancelled))
    && (not (t.leg.nil || t.leg.cancelled) || (is_blank_body t.leg.body && no_changes t.changes))

-- ---- "The writer judges foreign fields first, then the others in written order, 11 before 7 at each"

-- a record by its own edition
unfoldable pub judge_of : Taf → Result ⊤ Refusal
judge_of t =
    and_then (judge (foreign_blank t) true)
    (and_then (judge_station t.leg.station)
    (and_then (judge_time t.leg.time)
    (cond t.leg.nil (Ok tt)
    (and_then (judge (period_fits (own_form t.edition) t.leg.period) true)
    (cond t.leg.cancelled (Ok tt) (and_then (judge_part part.Main t.leg.body) (judge_changes t.edition t.changes)))))))

-- "11 for a record that is no TAF of the edition": the writer of one edition refuses a record of the other with the foreign fields, NIL and CNL too
unfoldable pub judge_in : Edition → Taf → Result ⊤ Refusal
judge_in e t = and_then (judge (is_same_edition e t.edition) true) (judge_of t)

-- ---- the canonical text

abbrev pub show_chance : ℕ → Group
show_chance n = bytes "PROB" ++ number_text 2 n

abbrev pub show_from : Edition → Instant → Group
show_from edition.Present t = bytes "FM" ++ field_text 2 (field_of t.day) ++ field_text 2 (field_of t.hour) ++ field_text 2 (field_of t.minute)
show_from edition.Of2005 t = bytes "FM" ++ field_text 2 (field_of t.hour) ++ field_text 2 (field_of t.minute)

abbrev pub show_opening : Edition → Opening → Period → List Group
show_opening e opening.None p = []
show_opening e opening.Becoming p = bytes "BECMG" ∷ []
show_opening e opening.Temporary p = bytes "TEMPO" ∷ []
show_opening e (opening.Probable n) p = show_chance n ∷ []
show_opening e (opening.ProbablyTemporary n) p = show_chance n ∷ bytes "TEMPO" ∷ []
show_opening e opening.From p = show_from e p.from ∷ []

unfoldable pub show_change : Edition → Change → List Group
show_change e c = show_opening e c.opening c.period ++ written (row e (part_of c.opening)) (leg_of c)

abbrev pub show_each : Edition → List Change → List Group
show_each e [] = []
show_each e (c ∷ cs) = show_change e c ++ show_each e cs

-- a record in its own edition
unfoldable pub groups_of : Taf → List Group
groups_of t = written (row t.edition part.Main) t.leg ++ show_each t.edition (take t.changes.count t.changes.items)

unfoldable pub canonical_of : Taf → List ℕ
canonical_of t = join (groups_of t)

-- ---- the record that it is read back as: each rounded number the reading of its class, all else as it is

-- the leg that a change's part is read into
abbrev pub opened_leg : Opening → Period → Leg
opened_leg opening.None p = blank_leg
opened_leg opening.Becoming p = blank_leg
opened_leg opening.Temporary p = blank_leg
opened_leg (opening.Probable n) p = blank_leg
opened_leg (opening.ProbablyTemporary n) p = blank_leg
opened_leg opening.From p = set_period (record { from = p.from; to = blank_instant }) blank_leg

unfoldable pub class_change : Edition → Change → Change
class_change e c = change_of c.opening (put_all (row e (part_of c.opening)) (leg_of c) (opened_leg c.opening c.period))

unfoldable pub classed_of : Taf → Taf
classed_of t =
    record {
      edition = t.edition;
      leg = put_all (row t.edition part.Main) t.leg blank_leg;
      changes = record { items = map (class_change t.edition) (take t.changes.count t.changes.items) ++ drop t.changes.count t.changes.items; count = t.changes.count };
    }

-- ---- the writer's answer, and the lent buffer afterwards

-- in an edition
unfoldable pub written_in : Edition → Taf → ℕ → Result ℕ Refusal
written_in e t room = answer_by (judge_in e t) (canonical_of t) room

unfoldable pub buffer_in : Edition → Taf → List ℕ → List ℕ
buffer_in e t b = buffer_by (judge_in e t) (canonical_of t) b
