-- A TAF that is read in an edition names that edition, is judged fine, and is its own class but for speeds from P on: its main part, NIL, CNL, and each change.
-- Assumes nothing.
use Rattle.std.specs.Prelude.{Ok, Option}
use Prim.Native.Nat.{ℕ, ◌+◌, ◌≤◌, ◌<◌}
use native.Mathlib.Omega.{arith}
use mathlib.Core.Path.{◌≡◌, refl, sym, ap}
use mathlib.Core.Logic.{◌⊎◌, inl, inr}
use mathlib.Core.Bool.{Bool, true, false, cond, not, ◌&&◌, false≢true}
use mathlib.Core.List.{List, [], ◌∷◌, ◌++◌, map}
use lib.ListN.{length, take, drop, set}
use lib.Dec.{ltb}
use borrow.Author.Tests.{ltb-true, not-false}
use Rattle.figures.specs.Figures.{field_at}
use Rattle.text.specs.Groups.{Piece}
use Rattle.shapes.proofs.Patterns.{both}
use Rattle.places.specs.Engine.{Group, put_all}
use Rattle.places.specs.Lift.{open_in}
use Rattle.places.specs.Parts.{Begun}
use Rattle.record.specs.declared.aerodrome.Period.{Period}
use Rattle.record.specs.declared.aerodrome.Body.{Body}
use Rattle.record.specs.declared.aerodrome.Leg.{Leg}
use Rattle.record.specs.declared.aerodrome.Opening.{Opening}
use Rattle.record.specs.declared.aerodrome.Opening.TheVariants as opening
use Rattle.record.specs.declared.aerodrome.Change.{Change}
use Rattle.record.specs.declared.aerodrome.Changes.{Changes}
use Rattle.record.specs.declared.aerodrome.Edition.{Edition}
use Rattle.record.specs.declared.aerodrome.Edition.TheVariants as edition
use Rattle.record.specs.declared.aerodrome.Taf.{Taf}
use Rattle.record.specs.Body.{set_wind, set_visibility, set_sky, blank_wind, blank_visibility, blank_sky, blank_body}
use Rattle.record.specs.Taf.{set_time, set_nil, set_period, set_cancelled, set_body, blank_instant, blank_period, blank_leg, blank_change, blank_taf}
use Rattle.record.specs.SilentAerodrome.{is_blank_body, is_blank_change}
use Rattle.record.specs.Arrays.{BodyArrays, TafArrays}
use Rattle.elements.specs.Visibility.{is_cavok}
use Rattle.elements.specs.Body.{class_body}
use Rattle.aerodrome_groups.specs.Head.{is_day, is_hour, is_minute}
use Rattle.taf_row.specs.declared.kinds.Part.{Part}
use Rattle.taf_row.specs.declared.kinds.Part.TheVariants as part
use Rattle.taf_row.specs.declared.kinds.Form.{Form}
use Rattle.taf_row.specs.declared.kinds.Form.TheVariants as form
use Rattle.taf_row.specs.Row.{is_main, is_whole, is_changing, element_stands, forecast_in, own_form, change_form, is_end_hour, read_period, period_place, word, row}
use Rattle.taf_row.specs.Tests.{joins}
use Rattle.taf.specs.Read.{is_chance, from_group, opened_by, after_probable, part_of, change_of, with_change, main_part, change_part, changes, groups_read}
use Rattle.taf.specs.Write.{judge_part, period_fits, from_fits, opening_fits, judge_change, judge_each, judge_changes, foreign_blank, judge_of, class_change, classed_of}
use Rattle.accepted_laws.specs.Opened.{open_body, open_change, open_taf}
use Rattle.accepted_laws.proofs.Gives.{Gives, good, gives_more, gives-cond, gives-provided, gives-figured}
use Rattle.accepted_laws.proofs.Stages.{Stage, Blank, Left, Serves, ServesRow, StandsAt}
use Rattle.accepted_laws.proofs.Reports.{Comes, opens, Leaves, report-leaves}
use Rattle.accepted_laws.proofs.Common.{◌&◌, gives-onto, Past, left-all, Given, given-read, once, many, ending, free, serves-once, serves-many, serves-ending, serves-free}
use Rattle.accepted_laws.proofs.Filled.{Filled, filled_none, filled_more, filled-slots, filled-fine, filled-read, filled-all, filled-length}
use Rattle.accepted_laws.proofs.Winds.{WindRead, wind-read, VisibilityRead, visibility-read}
use Rattle.accepted_laws.proofs.Skies.{SkyHeld, sky-none, sky-read}
use Rattle.accepted_laws.proofs.Bodies.{NoWeather, blank-body, WeatherHeld, no-weather, weather-sets, BodyRead, body-read}
use Rattle.accepted_laws.proofs.Groups.{StationRead, station-read, TimeRead, time-read}

-- ---- the period: the report's own, a change's, and under FM the time of that word

-- the time of FM, and no end
abbrev FromTime : Edition → Period → Type 0
FromTime e p = (from_fits e p.from ≡ true) × (p.to ≡ blank_instant)

-- where a part begins; behind the place of the report's own period, where a change's is still to come; and behind that of a change's
abbrev Starts : Edition → Part → Period → Type 0
Starts e part.Main p = p ≡ blank_period
Starts e part.Changing p = p ≡ blank_period
Starts e part.From p = FromTime e p

abbrev Owned : Edition → Part → Period → Type 0
Owned e part.Main p = period_fits (own_form e) p ≡ true
Owned e part.Changing p = Unit {0}
Owned e part.From p = FromTime e p

abbrev Fits : Edition → Part → Period → Type 0
Fits e part.Main p = period_fits (own_form e) p ≡ true
Fits e part.Changing p = period_fits (change_form e) p ≡ true
Fits e part.From p = FromTime e p

all_three : (a b c : Bool) → (a && b && c) ≡ true → (a ≡ true) × (b ≡ true) × (c ≡ true)
all_three a b c e = let x = both (a && b) c e in let y = both a b x.0 in (y.0, y.1, x.1)

-- in any form
period-read : (f : Form) (g : Group) → Gives (λ p. period_fits f p ≡ true) (read_period f g)
unfolding read_period
period-read form.BothDays g =
    gives-figured (field_at g 0 2)
    (λ d a. gives-figured (field_at g 2 2)
    (λ h b. gives-figured (field_at g 5 2)
    (λ e c. gives-figured (field_at g 7 2)
    (λ k f. gives-provided (is_day d && is_hour h && is_day e && is_end_hour form.BothDays k)
    (λ all. let x = both (is_day d && is_hour h && is_day e) (is_end_hour form.BothDays k) all in
    let y = all_three (is_day d) (is_hour h) (is_day e) x.0 in
    good (rw (y.0, y.1, y.2, x.1)))))))
period-read form.FirstDay g =
    gives-figured (field_at g 0 2)
    (λ d a. gives-figured (field_at g 2 2)
    (λ h b. gives-figured (field_at g 4 2)
    (λ k f. gives-provided (is_day d && is_hour h && is_end_hour form.FirstDay k)
    (λ all. let x = all_three (is_day d) (is_hour h) (is_end_hour form.FirstDay k) all in good (rw (x.0, x.1, x.2))))))
period-read form.NoDay g =
    gives-figured (field_at g 0 2)
    (λ h b. gives-figured (field_at g 2 2)
    (λ k f. gives-provided (is_hour h && is_end_hour form.NoDay k) (λ all. let x = both (is_hour h) (is_end_hour form.NoDay k) all in good (rw (x.0, x.1)))))

-- A place for a period: what is known before it, and what it leaves. Where it is shut that is the same, else a period of its form was read.
abbrev period : (Leg → Type 0) → (Period → Type 0) → (Period → Type 0) → Stage Leg
period blank Before After = record { blank = blank; held = λ k r. ((k ≡ 0) × Before r.period) ⊎ After r.period; past = λ r. After r.period }

room_open : (is : Bool) (k : ℕ) → k < cond is 1 0 → is ≡ true
room_open true k h = refl
room_open false k h = absurd (omega (arith, h))

module _ (Z B blank : Leg → Type 0) (stands : Bool) (f : Form) (ss : List (Stage Leg)) (Before After : Period → Type 0) (begins : (r : Leg) → B r → blank r → Before r.period)
    (shut : stands ≡ false → (p : Period) → Before p → After p) (reads : stands ≡ true → (p : Period) → period_fits f p ≡ true → After p)
    (apart : stands ≡ true → (p : Period) (r : Leg) → B r → Blank ss r → B (set_period p r) × Blank ss (set_period p r)) where
  passed : (is : Bool) → stands ≡ is → (k : ℕ) (p : Period) → ((is && true) ≡ true → 1 ≤ k) → ((k ≡ 0) × Before p) ⊎ After p → After p
  passed true o k p m (inl (z, s)) = absurd (omega (arith, m refl, z))
  passed false o k p m (inl (z, s)) = shut o p s
  passed is o k p m (inr x) = x

  serves-period : Serves Z B (open_in stands (period_place f)) (period blank Before After) ss
  serves-period =
      record {
        begins = λ r b e. inl (refl, begins r b e);
        passes = λ k r b m h. passed stands refl k r.period m h;
        takes = λ k g r room has b h e. gives-onto (λ p. set_period p r)
            (gives_more (period-read f g) (λ p x. let o = room_open stands k room in let y = apart o p r b e in (y.0, inr (reads o p x), y.1)));
      }

-- ---- what is the same in every edition

-- the head of a report that ends at NIL or CNL
pub record HeadRead (r : Leg) : Type 0 where
  pub station : StationRead r.station
  pub time : TimeRead r.time

-- what lacks nothing has an element
element-there : (w : Part) (b : Body) → not (element_stands w b) ≡ false → element_stands w b ≡ true
element-there w b e = not-false (element_stands w b) e

judged-part : (w : Part) (b : Body) → BodyRead (forecast_in w) b → element_stands w b ≡ true → judge_part w b ≡ Ok tt
unfolding judge_part
judged-part w b r e = rw (r.fine, e)

-- the word of a change that is opened
abbrev Worded : Opening → Type 0
Worded opening.None = ⊥
Worded opening.Becoming = Unit {0}
Worded opening.Temporary = Unit {0}
Worded (opening.Probable n) = is_chance n ≡ true
Worded (opening.ProbablyTemporary n) = is_chance n ≡ true
Worded opening.From = Unit {0}

-- FM, in any edition
from-read : (e : Edition) (g : Group) → Gives (λ (b : Begun Opening Leg). (b.kind ≡ opening.From) × (p : Period) × (b.start ≡ set_period p blank_leg) × FromTime e p) (from_group e g)
from-read edition.Present g =
    gives-figured (field_at g 2 2)
    (λ d x. gives-figured (field_at g 4 2)
    (λ h y. gives-figured (field_at g 6 2) (λ m z. gives-provided (is_day d && is_hour h && is_minute m) (λ all. good (refl, _, refl, (all, refl))))))
from-read edition.Of2005 g =
    gives-figured (field_at g 2 2) (λ h y. gives-figured (field_at g 4 2) (λ m z. gives-provided (is_hour h && is_minute m) (λ all. good (refl, _, refl, (all, refl)))))

blank-arrays : BodyArrays blank_body
blank-arrays = record { weathers = refl; layers = refl }

blank-change : is_blank_change blank_change ≡ true
unfolding is_blank_body
blank-change = refl

-- ==== A TAF THAT IS READ IN THE EDITION THAT IS CHOSEN

module _ (chosen : Edition) where
  -- ---- a part's stages, in its row's order

  abbrev stages : Part → List (Stage Leg)
  stages w =
      free
      ∷ free
      ∷ once StationRead blank_leg.station (is_main w && true) (λ r. r.station)
      ∷ once TimeRead blank_instant (is_main w && true) (λ r. r.time)
      ∷ ending (λ r. r.nil)
      ∷ period (λ r. Starts chosen w r.period) (Starts chosen w) (Owned chosen w)
      ∷ period (λ r. Unit {0}) (Owned chosen w) (Fits chosen w)
      ∷ ending (λ r. r.cancelled)
      ∷ once (WindRead true) blank_wind (is_whole w) (λ r. r.body.wind)
      ∷ once (VisibilityRead true) blank_visibility (is_whole w) (λ r. r.body.visibility)
      ∷ many (λ r. NoWeather r.body) (λ k r. WeatherHeld (forecast_in w) (is_cavok r.body.visibility) k r.body.nsw r.body.weathers)
      ∷ many (λ r. r.body.sky ≡ blank_sky) (λ k r. SkyHeld true (is_cavok r.body.visibility) k r.body.sky)
      ∷ []

  -- what a report that ends so holds: its head, and nothing behind it
  pub data EndedLeg (r : Leg) : Type 0 where
    at-nil : HeadRead r → r.nil ≡ true → r.period ≡ blank_period → r.cancelled ≡ false → r.body ≡ blank_body → EndedLeg r
    at-cancelled : HeadRead r → r.nil ≡ false → period_fits (own_form chosen) r.period ≡ true → r.cancelled ≡ true → r.body ≡ blank_body → EndedLeg r

  -- only the main part can end so
  abbrev Ended : Part → Leg → Type 0
  Ended part.Main r = EndedLeg r
  Ended part.Changing r = ⊥
  Ended part.From r = ⊥

  nil-ends : (w : Part) (k : ℕ) (r : Leg) → k < cond (is_main w) 1 0 → Given StationRead blank_leg.station (is_main w && true) r.station
      → Given TimeRead blank_instant (is_main w && true) r.time → Starts chosen w r.period → r.cancelled ≡ false → r.body ≡ blank_body → Ended w (set_nil true r)
  nil-ends part.Main k r room s t p c b = at-nil (record { station = given-read StationRead _ r.station s; time = given-read TimeRead _ r.time t }) refl p c b
  nil-ends part.Changing k r room s t p c b = absurd (omega arith)
  nil-ends part.From k r room s t p c b = absurd (omega arith)

  cancelled-ends : (w : Part) (k : ℕ) (r : Leg) → k < cond (is_main w) 1 0 → Given StationRead blank_leg.station (is_main w && true) r.station
      → Given TimeRead blank_instant (is_main w && true) r.time → r.nil ≡ false → Fits chosen w r.period → r.body ≡ blank_body → Ended w (set_cancelled true r)
  cancelled-ends part.Main k r room s t n p b = at-cancelled (record { station = given-read StationRead _ r.station s; time = given-read TimeRead _ r.time t }) n p refl b
  cancelled-ends part.Changing k r room s t n p b = absurd (omega arith)
  cancelled-ends part.From k r room s t n p b = absurd (omega arith)

  abbrev start : Leg → Type 0
  start r = Unit {0}

  own_shut : (w : Part) → is_main w ≡ false → (p : Period) → Starts chosen w p → Owned chosen w p
  own_shut part.Main e p s = absurd (false≢true (sym e))
  own_shut part.Changing e p s = tt
  own_shut part.From e p s = s

  own-reads : (w : Part) → is_main w ≡ true → (p : Period) → period_fits (own_form chosen) p ≡ true → Owned chosen w p
  own-reads part.Main e p f = f
  own-reads part.Changing e p f = absurd (false≢true e)
  own-reads part.From e p f = absurd (false≢true e)

  own-stays : (w : Part) → is_changing w ≡ true → (p q : Period) → Owned chosen w p → Owned chosen w q
  own-stays part.Main e p q o = absurd (false≢true e)
  own-stays part.Changing e p q o = tt
  own-stays part.From e p q o = absurd (false≢true e)

  change-shut : (w : Part) → is_changing w ≡ false → (p : Period) → Owned chosen w p → Fits chosen w p
  change-shut part.Main e p s = s
  change-shut part.Changing e p s = absurd (false≢true (sym e))
  change-shut part.From e p s = s

  change-reads : (w : Part) → is_changing w ≡ true → (p : Period) → period_fits (change_form chosen) p ≡ true → Fits chosen w p
  change-reads part.Main e p f = absurd (false≢true e)
  change-reads part.Changing e p f = f
  change-reads part.From e p f = absurd (false≢true e)

  serves : (w : Part) → ServesRow (Ended w) start (row chosen w) (stages w)
  unfolding row
  serves w =
      serves-free _ _ _ _ refl (λ k g r b e. good (b, e))
      & serves-free _ _ _ _ refl (λ k g r b e. good (b, e))
      & serves-once _ _ _ _ StationRead _ (λ r. r.station) refl (λ k g r room has b e. good (b, station-read g has, e))
      & serves-once _ _ _ _ TimeRead _ (λ r. r.time) refl (λ k g r room has b e. gives-onto (λ t. set_time t r) (gives_more (time-read g) (λ t f. (b, f, e))))
      & serves-ending _ _ _ _ (λ r. r.nil) refl (λ k g r room b h e. good (nil-ends w k r room b.0.1 b.1 e.0 e.1.1.0 (blank-body r.body e.1.1.1.0 e.1.1.1.1.0 e.1.1.1.1.1.0 e.1.1.1.1.1.1.0)))
      & serves-period _ _ _ (is_main w) (own_form chosen) _ (Starts chosen w) (Owned chosen w) (λ r b e. e) (own_shut w) (own-reads w) (λ o p r b e. (b, e))
      & serves-period _ _ _ (is_changing w) (change_form chosen) _ (Owned chosen w) (Fits chosen w) (λ r b e. b.1) (change-shut w) (change-reads w) (λ o p r b e. ((b.0, own-stays w o r.period p b.1), e))
      & serves-ending _ _ _ _ (λ r. r.cancelled) refl (λ k g r room b h e. good (cancelled-ends w k r room b.0.0.0.0.1 b.0.0.0.1 b.0.0.1 b.1 (blank-body r.body e.0 e.1.0 e.1.1.0 e.1.1.1.0)))
      & serves-once _ _ _ _ (WindRead true) _ (λ r. r.body.wind) refl
      (λ k g r room has b e. gives-onto (λ x. set_body x r) (gives-onto (λ x. set_wind x r.body) (gives_more (wind-read true g) (λ x f. (b, f, e)))))
      & serves-once _ _ _ _ (VisibilityRead true) _ (λ r. r.body.visibility) refl
      (λ k g r room has b e. gives-onto (λ x. set_body x r) (gives-onto (λ x. set_visibility x r.body) (gives_more (visibility-read true g) (λ x f. (b, f, e)))))
      & serves-many _ _ _ _ _ _ refl (λ r b e. rw (e.0, e.1) (no-weather (forecast_in w) (is_cavok r.body.visibility)))
      (λ k g r room b h e. gives-onto (λ x. set_body x r) (weather-sets (forecast_in w) k g r.body room h _ (λ n ws x. (b, x, e))))
      & serves-many _ _ _ _ _ _ refl (λ r b e. rw e (sky-none true (is_cavok r.body.visibility)))
      (λ k g r room b h e. gives-onto (λ x. set_body x r) (gives-onto (λ x. set_sky x r.body) (gives_more (sky-read true (is_cavok r.body.visibility) k r.body.sky room g h) (λ x f. (b, f, e)))))
      & tt

  -- ---- A PART THAT IS WHOLE

  record PartRead (w : Part) (r : Leg) : Type 0 where
    station : Given StationRead blank_leg.station (is_main w && true) r.station
    time : Given TimeRead blank_instant (is_main w && true) r.time
    nil : r.nil ≡ false
    period : Fits chosen w r.period
    cancelled : r.cancelled ≡ false
    body : BodyRead (forecast_in w) r.body

  part-read : (w : Part) (r : Leg) → Left start (stages w) r → PartRead w r
  part-read w r x = go (left-all start (stages w) r x).1
    where
      go : Past (stages w) r → PartRead w r
      go (_, (_, (station, (time, (nil, (own, (period, (cancelled, (wind, (visibility, (weather, (sky, _)))))))))))) =
          record {
            station = station;
            time = time;
            nil = nil;
            period = period;
            cancelled = cancelled;
            body = body-read (forecast_in w) r.body wind visibility weather.0 weather.1 sky.0 sky.1;
          }

  -- ---- A CHANGE

  record ChangeRead (c : Change) : Type 0 where
    fine : judge_change chosen c ≡ Ok tt
    own : class_change chosen c ≡ open_change c
    arrays : BodyArrays c.body

  opening-fits : (o : Opening) (p : Period) → Worded o → Fits chosen (part_of o) p → opening_fits chosen o p ≡ true
  opening-fits opening.None p o f = absurd o
  opening-fits opening.Becoming p o f = f
  opening-fits opening.Temporary p o f = f
  opening-fits (opening.Probable n) p o f = rw o f
  opening-fits (opening.ProbablyTemporary n) p o f = rw o f
  opening-fits opening.From p o f = rw (f.0, f.1)

  change-own : (o : Opening) (p : Period) (b : Body) → Worded o → Fits chosen (part_of o) p → class_body b ≡ open_body b
      → class_change chosen (record { opening = o; period = p; body = b }) ≡ record { opening = o; period = p; body = open_body b }
  unfolding class_change row
  change-own opening.None p b o f e = absurd o
  change-own opening.Becoming p b o f e = ap (λ (x : Body). record { opening = opening.Becoming; period = p; body = x }) e
  change-own opening.Temporary p b o f e = ap (λ (x : Body). record { opening = opening.Temporary; period = p; body = x }) e
  change-own (opening.Probable n) p b o f e = ap (λ (x : Body). record { opening = opening.Probable n; period = p; body = x }) e
  change-own (opening.ProbablyTemporary n) p b o f e = ap (λ (x : Body). record { opening = opening.ProbablyTemporary n; period = p; body = x }) e
  change-own opening.From p b o f e = rw f.1 (ap (λ (x : Body). record { opening = opening.From; period = record { from = p.from; to = blank_instant }; body = x }) e)

  change-read : (o : Opening) (r : Leg) → Worded o → PartRead (part_of o) r → element_stands (part_of o) r.body ≡ true → ChangeRead (change_of o r)
  unfolding judge_change
  change-read o r word p e =
      record {
        fine = rw (opening-fits o r.period word p.period) (judged-part (part_of o) r.body p.body e);
        own = change-own o r.period r.body word p.period p.body.own;
        arrays = p.body.arrays;
      }

  -- ---- THE TAF, whole so far, and at its end

  record ChangesHeld (cs : Changes) : Type 0 where
    filled : Filled ChangeRead blank_change 16 cs.count cs.items

  change-added : (cs : Changes) (c : Change) → ChangesHeld cs → ChangeRead c → ChangesHeld (with_change cs c)
  change-added cs c h r = go (ltb cs.count 16) refl
    where
      go : (b : Bool) → ltb cs.count 16 ≡ b → ChangesHeld (cond b (record { items = set cs.items cs.count c; count = cs.count + 1 }) cs)
      go true e = record { filled = filled_more h.filled c (ltb-true cs.count 16 e) r }
      go false e = h

  record Whole (t : Taf) : Type 0 where
    named : t.edition ≡ chosen
    main : PartRead part.Main t.leg
    more : ChangesHeld t.changes

  pub record TafRead (t : Taf) : Type 0 where
    pub named : t.edition ≡ chosen
    pub fine : judge_of t ≡ Ok tt
    pub own : classed_of t ≡ open_taf t
    pub arrays : TafArrays t

  leg-own : (r : Leg) → class_body r.body ≡ open_body r.body → put_all (row chosen part.Main) r blank_leg ≡ set_body (open_body r.body) r
  unfolding row
  leg-own r e = ap (λ (b : Body). set_body b r) e

  changes-own : (cs : Changes) → ChangesHeld cs → map (class_change chosen) (take cs.count cs.items) ++ drop cs.count cs.items ≡ map open_change cs.items
  changes-own cs h = filled-read h.filled (class_change chosen) open_change (λ c r. r.own) refl

  taf-own : (t : Taf) → t.edition ≡ chosen → class_body t.leg.body ≡ open_body t.leg.body → ChangesHeld t.changes → classed_of t ≡ open_taf t
  unfolding classed_of
  taf-own t is e h = rw (is, leg-own t.leg e, changes-own t.changes h)

  taf-arrays : (t : Taf) → length t.leg.station.letters ≡ 4 → BodyArrays t.leg.body → ChangesHeld t.changes → TafArrays t
  taf-arrays t s b h = record { letters = s; body = b; changes = filled-length h.filled; each = filled-all h.filled (λ c. BodyArrays c.body) (λ c r. r.arrays) blank-arrays }

  whole-read : (t : Taf) → Whole t → TafRead t
  unfolding judge_of foreign_blank judge_changes
  whole-read t w =
      let m = w.main in
      let station = given-read StationRead _ t.leg.station m.station in
      record {
        named = w.named;
        fine = rw (w.named, m.nil, m.cancelled, station.fine, (given-read TimeRead _ t.leg.time m.time).fine, m.period, judged-part part.Main t.leg.body m.body refl, filled-slots w.more.filled is_blank_change blank-change) (filled-fine w.more.filled (judge_change chosen) (judge_each chosen) refl (λ c cs. refl) (λ c r. r.fine));
        own = taf-own t w.named m.body.own w.more;
        arrays = taf-arrays t station.four m.body.arrays w.more;
      }

  no-changes : ChangesHeld blank_taf.changes
  no-changes = record { filled = filled_none ChangeRead blank_change 16 }

  ended-read : (r : Leg) → EndedLeg r → TafRead (record { edition = chosen; leg = r; changes = blank_taf.changes })
  unfolding judge_of foreign_blank is_blank_body
  ended-read r (at-nil h n p c b) =
      record {
        named = refl;
        fine = rw (n, p, c, b, h.station.fine) (rw h.time.fine);
        own = taf-own _ refl (rw b) no-changes;
        arrays = taf-arrays _ h.station.four (rw b blank-arrays) no-changes;
      }
  ended-read r (at-cancelled h n p c b) =
      record {
        named = refl;
        fine = rw (n, c, b, h.station.fine, h.time.fine, p);
        own = taf-own _ refl (rw b) no-changes;
        arrays = taf-arrays _ h.station.four (rw b blank-arrays) no-changes;
      }

  -- ---- what opens a change

  abbrev Opened : Taf → Opening → Leg → Type 0
  Opened t o r = (p : Period) × (r ≡ set_period p blank_leg) × Starts chosen (part_of o) p × Worded o

  opened-so : (t : Taf) (g : Group) → Gives (λ (b : Begun Opening Leg). Opened t b.kind b.start) (opened_by chosen g)
  unfolding opened_by
  opened-so t g =
      gives-cond (word "BECMG" g) (λ a. good (blank_period, refl, refl, tt))
      (λ a. gives-cond (word "TEMPO" g) (λ b. good (blank_period, refl, refl, tt))
      (λ b. gives-cond (word "PROB##" g)
      (λ c. gives-figured (field_at g 4 2) (λ n f. gives-provided (is_chance n) (λ e. good (blank_period, refl, refl, e))))
      (λ c. gives_more (from-read chosen g) (λ b x. rw x.0 (x.1, x.2, x.3, tt)))))

  joined-so : (t : Taf) (o : Opening) (r : Leg) (g : Group) → Opened t o r → joins o g ≡ true → Opened t (after_probable o) r
  joined-so t opening.None r g x e = absurd (false≢true e)
  joined-so t opening.Becoming r g x e = absurd (false≢true e)
  joined-so t opening.Temporary r g x e = absurd (false≢true e)
  joined-so t (opening.Probable n) r g x e = x
  joined-so t (opening.ProbablyTemporary n) r g x e = absurd (false≢true e)
  joined-so t opening.From r g x e = absurd (false≢true e)

  begins-at : (w : Part) (p : Period) → Starts chosen w p → StandsAt (Ended w) start (stages w) 0 0 (set_period p blank_leg)
  begins-at w p s = (tt, tt, tt & refl & refl & refl & s & tt & refl & refl & refl & (refl, refl) & refl & tt)

  never_ends : (o : Opening) (r : Leg) → Ended (part_of o) r → ⊥
  never_ends opening.None r e = e
  never_ends opening.Becoming r e = e
  never_ends opening.Temporary r e = e
  never_ends (opening.Probable n) r e = e
  never_ends (opening.ProbablyTemporary n) r e = e
  never_ends opening.From r e = e

  change-leaves : (t : Taf) (o : Opening) (r : Leg) → Whole t → Opened t o r → Leaves Whole TafRead Opened (change_part chosen t o) r
  change-leaves t o r w (p, is, s, word) =
      record {
        over = Ended (part_of o);
        before = start;
        stages = stages (part_of o);
        serves = serves (part_of o);
        begins = rw is (begins-at (part_of o) p s);
        whole = λ q x e. record {
          named = w.named;
          main = w.main;
          more = change-added t.changes (change_of o q) w.more (change-read o q word (part-read (part_of o) q x) (element-there (part_of o) q.body e));
        };
        ended = λ q e. absurd (never_ends o q e);
        word = λ u g f h. opens (opened-so u g);
      }

  main-leaves : Leaves Whole TafRead Opened (main_part chosen) blank_leg
  main-leaves =
      record {
        over = Ended part.Main;
        before = start;
        stages = stages part.Main;
        serves = serves part.Main;
        begins = begins-at part.Main blank_period refl;
        whole = λ r x e. record { named = refl; main = part-read part.Main r x; more = no-changes };
        ended = ended-read;
        word = λ u g f h. opens (opened-so u g);
      }

  -- WHATEVER TAF IS ACCEPTED NAMES THE EDITION, IS JUDGED FINE, AND COMES BACK WITH ITS SPEEDS OPENED.
  pub taf-read : (tail : Option ℕ) (end : ℕ) (gs : List Piece) → Comes TafRead (groups_read chosen tail end gs)
  unfolding groups_read
  taf-read tail end gs =
      report-leaves Whole TafRead Opened tail end (changes chosen) whole-read change-leaves joined-so 16 (main_part chosen) blank_leg main-leaves gs
