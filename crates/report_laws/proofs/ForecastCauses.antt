-- TAF, in either edition: THE CAUSES for which the writer refuses a record, in the order of judging, "foreign fields first, then the others in written order, 11
-- before 7 at each".
-- Assumes nothing.
use Rattle.std.specs.Prelude.{Option}
use Prim.Native.Nat.{ℕ, ◌+◌}
use mathlib.Core.Bool.{Bool, true, false, cond, ◌&&◌, ◌||◌}
use mathlib.Core.List.{List, [], ◌∷◌, ◌++◌}
use lib.ListN.{take, drop}
use lib.Dec.{leb}
use Rattle.figures.specs.Figures.{every}
use Rattle.text.specs.declared.kinds.Refusal.TheVariants as refusal
use Rattle.text.specs.Judge.{judge}
use Rattle.record.specs.declared.aerodrome.Instant.{Instant}
use Rattle.record.specs.declared.aerodrome.Period.{Period}
use Rattle.record.specs.declared.aerodrome.Opening.{Opening}
use Rattle.record.specs.declared.aerodrome.Opening.TheVariants as opening
use Rattle.record.specs.declared.aerodrome.Body.{Body}
use Rattle.record.specs.declared.aerodrome.Change.{Change}
use Rattle.record.specs.declared.aerodrome.Changes.{Changes}
use Rattle.record.specs.declared.aerodrome.Edition.{Edition}
use Rattle.record.specs.declared.aerodrome.Edition.TheVariants as edition
use Rattle.record.specs.declared.aerodrome.Taf.{Taf}
use Rattle.record.specs.Missing.{is_missing, present}
use Rattle.record.specs.SilentAerodrome.{is_blank_body, no_instant, no_period, is_blank_change, no_changes, is_same_edition}
use Rattle.aerodrome_groups.specs.Head.{is_day, is_hour, is_minute}
use Rattle.taf_row.specs.declared.kinds.Part.{Part}
use Rattle.taf_row.specs.declared.kinds.Part.TheVariants as part
use Rattle.taf_row.specs.declared.kinds.Form.{Form}
use Rattle.taf_row.specs.declared.kinds.Form.TheVariants as form
use Rattle.taf_row.specs.Row.{element_stands, forecast_in, own_form, change_form, is_end_hour}
use Rattle.taf.specs.Read.{is_chance, part_of}
use Rattle.taf.specs.Write.{judge_part, period_fits, from_fits, opening_fits, judge_change, judge_each, judge_changes, foreign_blank, judge_of, judge_in}
use Rattle.report_laws.proofs.Listed.{outside-its-range, required-missing, foreign, Asked, asked, unless, needed, Judges, Clears, value-judges, in-turn, chosen, no-cause, both-clear, clear-unless, clear-asked, clear-needed, clear-where, each_from, counted, count-clear}
use Rattle.report_laws.proofs.AerodromeCauses as shared

-- the fields of a part: its period, by its two ends, and its body, which needs an element
pub data PartField : Type 0 where
  from : shared.InstantField → PartField
  to : shared.InstantField → PartField
  end-of-period : PartField
  element : PartField
  of-body : shared.BodyField → PartField

-- the fields of a record; a change by its number, from 0
pub data Field : Type 0 where
  edition-named : Field
  station : Field
  time : shared.InstantField → Field
  period-after-nil : Field
  cancelled-after-nil : Field
  body-after-end : Field
  changes-after-end : Field
  main : PartField → Field
  changes : Field
  word : ℕ → Field
  chance : ℕ → Field
  change : ℕ → PartField → Field

abbrev Causes : Type 0
Causes = List (Asked Field)

-- ---- a part

module _ (at : PartField → Field) where
  -- a day, where the form has one; where it has none, one that is there is out of place
  abbrev day_fits : Bool → Option ℕ → Bool
  day_fits true n = present is_day n
  day_fits false n = is_missing n

  abbrev day_causes : Bool → PartField → Option ℕ → Causes
  day_causes true f n = needed (at f) is_day n
  day_causes false f n = unless (is_missing n) (foreign (at f))

  day-clear : (dated : Bool) (f : PartField) (n : Option ℕ) → Clears refusal.Value (day_fits dated n) (day_causes dated f n)
  day-clear true f n = clear-needed is_day n
  day-clear false f n = clear-unless (is_missing n)

  -- an end of a period has no minute
  abbrev end_causes : (shared.InstantField → PartField) → Bool → (ℕ → Bool) → Instant → Causes
  end_causes which dated hour t =
      (day_causes dated (which shared.day) t.day ++ needed (at (which shared.hour)) hour t.hour) ++ unless (is_missing t.minute) (foreign (at (which shared.minute)))

  end-clear : (which : shared.InstantField → PartField) (dated : Bool) (hour : ℕ → Bool) (t : Instant)
      → Clears refusal.Value (day_fits dated t.day && present hour t.hour && is_missing t.minute) (end_causes which dated hour t)
  end-clear which dated hour t =
      both-clear (both-clear (day-clear dated (which shared.day) t.day) (clear-needed hour t.hour)) (clear-unless (is_missing t.minute))

  -- a period by its form: YYGG/YYGG, Y1Y1G1G1G2G2, GGGeGe
  abbrev period_causes : Form → Period → Causes
  period_causes form.BothDays p = end_causes from true is_hour p.from ++ end_causes to true (is_end_hour form.BothDays) p.to
  period_causes form.FirstDay p = end_causes from true is_hour p.from ++ end_causes to false (is_end_hour form.FirstDay) p.to
  period_causes form.NoDay p = end_causes from false is_hour p.from ++ end_causes to false (is_end_hour form.NoDay) p.to

  period-clear : (f : Form) (p : Period) → Clears refusal.Value (period_fits f p) (period_causes f p)
  period-clear form.BothDays p = both-clear (end-clear from true is_hour p.from) (end-clear to true (is_end_hour form.BothDays) p.to)
  period-clear form.FirstDay p = both-clear (end-clear from true is_hour p.from) (end-clear to false (is_end_hour form.FirstDay) p.to)
  period-clear form.NoDay p = both-clear (end-clear from false is_hour p.from) (end-clear to false (is_end_hour form.NoDay) p.to)

  -- the time of FM
  abbrev from_causes : Edition → Instant → Causes
  from_causes edition.Present t = shared.instant_causes (λ f. at (from f)) t
  from_causes edition.Of2005 t =
      (day_causes false (from shared.day) t.day ++ needed (at (from shared.hour)) is_hour t.hour) ++ needed (at (from shared.minute)) is_minute t.minute

  from-clear : (e : Edition) (t : Instant) → Clears refusal.Value (from_fits e t) (from_causes e t)
  from-clear edition.Present t = shared.instant-clear (λ f. at (from f)) t
  from-clear edition.Of2005 t =
      both-clear (both-clear (day-clear false (from shared.day) t.day) (clear-needed is_hour t.hour)) (clear-needed is_minute t.minute)

  -- "A change body needs one element, under FM wind and visibility."
  abbrev part_causes : Part → Body → Causes
  part_causes w b = shared.body_causes (λ f. at (of-body f)) (forecast_in w) b ++ unless (element_stands w b) (required-missing (at element))

  part-judged : (w : Part) (b : Body) → Judges (judge_part w b) (part_causes w b)
  unfolding judge_part
  part-judged w b = in-turn (shared.body-judged (λ f. at (of-body f)) (forecast_in w) b) (value-judges (clear-unless (element_stands w b)))

-- ---- changes

-- under FM a time and no end, else a period without minutes
abbrev opening_causes : Edition → ℕ → Opening → Period → Causes
opening_causes e n opening.None p = asked (required-missing (word n)) true ∷ []
opening_causes e n opening.Becoming p = period_causes (change n) (change_form e) p
opening_causes e n opening.Temporary p = period_causes (change n) (change_form e) p
opening_causes e n (opening.Probable c) p = unless (is_chance c) (outside-its-range (chance n)) ++ period_causes (change n) (change_form e) p
opening_causes e n (opening.ProbablyTemporary c) p = unless (is_chance c) (outside-its-range (chance n)) ++ period_causes (change n) (change_form e) p
opening_causes e n opening.From p = from_causes (change n) e p.from ++ unless (no_instant p.to) (foreign (change n end-of-period))

opening-clear : (e : Edition) (n : ℕ) (o : Opening) (p : Period) → Clears refusal.Value (opening_fits e o p) (opening_causes e n o p)
opening-clear e n opening.None p = clear-asked true
opening-clear e n opening.Becoming p = period-clear (change n) (change_form e) p
opening-clear e n opening.Temporary p = period-clear (change n) (change_form e) p
opening-clear e n (opening.Probable c) p = both-clear (clear-unless (is_chance c)) (period-clear (change n) (change_form e) p)
opening-clear e n (opening.ProbablyTemporary c) p = both-clear (clear-unless (is_chance c)) (period-clear (change n) (change_form e) p)
opening-clear e n opening.From p = both-clear (from-clear (change n) e p.from) (clear-unless (no_instant p.to))

abbrev change_causes : Edition → ℕ → Change → Causes
change_causes e n c = opening_causes e n c.opening c.period ++ part_causes (change n) (part_of c.opening) c.body

change-judged : (e : Edition) (n : ℕ) (c : Change) → Judges (judge_change e c) (change_causes e n c)
unfolding judge_change
change-judged e n c = in-turn (value-judges (opening-clear e n c.opening c.period)) (part-judged (change n) (part_of c.opening) c.body)

each-change : (e : Edition) (n : ℕ) (cs : List Change) → Judges (judge_each e cs) (each_from (change_causes e) n cs)
each-change e n [] = no-cause
each-change e n (c ∷ cs) = in-turn (change-judged e n c) (each-change e (n + 1) cs)

abbrev changes_causes : Edition → Changes → Causes
changes_causes e cs = counted changes (leb cs.count 16) (every is_blank_change (drop cs.count cs.items)) ++ each_from (change_causes e) 0 (take cs.count cs.items)

changes-judged : (e : Edition) (cs : Changes) → Judges (judge_changes e cs) (changes_causes e cs)
unfolding judge_changes
changes-judged e cs =
    in-turn (value-judges (count-clear (leb cs.count 16) (every is_blank_change (drop cs.count cs.items)))) (each-change e 0 (take cs.count cs.items))

-- ---- the record

-- a NIL report has nothing after its time, a cancelled one nothing after its period
abbrev foreign_causes : Taf → Causes
foreign_causes t =
    cond t.leg.nil (unless (no_period t.leg.period) (foreign period-after-nil) ++ asked (foreign cancelled-after-nil) t.leg.cancelled ∷ []) []
    ++ cond (t.leg.nil || t.leg.cancelled) (unless (is_blank_body t.leg.body) (foreign body-after-end) ++ unless (no_changes t.changes) (foreign changes-after-end)) []

foreign-judged : (t : Taf) → Judges (judge (foreign_blank t) true) (foreign_causes t)
unfolding foreign_blank
foreign-judged t =
    value-judges
    (both-clear (clear-where t.leg.nil (both-clear (clear-unless (no_period t.leg.period)) (clear-asked t.leg.cancelled)))
    (clear-where (t.leg.nil || t.leg.cancelled) (both-clear (clear-unless (is_blank_body t.leg.body)) (clear-unless (no_changes t.changes)))))

-- "The writer judges foreign fields first, then the others in written order, 11 before 7 at each": a record by its own edition
abbrev pub causes_of : Taf → Causes
causes_of t =
    foreign_causes t
    ++ (shared.station_causes station t.leg.station
    ++ (shared.instant_causes time t.leg.time
    ++ cond t.leg.nil []
    (period_causes main (own_form t.edition) t.leg.period
    ++ cond t.leg.cancelled [] (part_causes main part.Main t.leg.body ++ changes_causes t.edition t.changes))))

own-judged : (t : Taf) → Judges (judge_of t) (causes_of t)
unfolding judge_of
own-judged t =
    in-turn (foreign-judged t)
    (in-turn (shared.station-judged station t.leg.station)
    (in-turn (shared.time-judged time t.leg.time)
    (chosen t.leg.nil no-cause
    (in-turn (value-judges (period-clear main (own_form t.edition) t.leg.period))
    (chosen t.leg.cancelled no-cause (in-turn (part-judged main part.Main t.leg.body) (changes-judged t.edition t.changes)))))))

-- "11 for a record that is no TAF of the edition": the edition that it names is the first of the foreign fields
abbrev pub causes_in : Edition → Taf → Causes
causes_in e t = unless (is_same_edition e t.edition) (foreign edition-named) ++ causes_of t

-- so every record is judged
pub record-judged : (e : Edition) (t : Taf) → Judges (judge_in e t) (causes_in e t)
unfolding judge_in
record-judged e t = in-turn (value-judges (clear-unless (is_same_edition e t.edition))) (own-judged t)
