-- A part of a TAF: its row keeps what is written of a part that is judged fine, the main part, with its body, as NIL or cancelled, and a change's part.
-- Assumes nothing.
use Rattle.std.specs.Prelude.{⊤, Ok, Result}
use Rattle.text.specs.declared.kinds.Refusal.{Refusal}
use Prim.Native.Nat.{ℕ}
use mathlib.Core.Path.{◌≡◌, refl, sym}
use mathlib.Core.Bool.{Bool, true, false, not, cond, ◌&&◌, ◌||◌, or-true, false≢true}
use mathlib.Core.List.{List, [], ◌∷◌}
use lib.ListN.{take, drop}
use borrow.Author.Tests.{not-true}
use Rattle.text.specs.Judge.{judge, and_then}
use Rattle.text.proofs.Judging.{fine, and-then}
use Rattle.shapes.proofs.Patterns.{both}
use Rattle.places.specs.Engine.{written, put_all}
use Rattle.places.proofs.ReadBack.{stops_any}
use Rattle.places.proofs.Kept.{KeptRow, more, last, keep-none}
use Rattle.places.proofs.Lift.{kept-lifted, kept-row-lifted}
use Rattle.record.specs.declared.aerodrome.Opening.{Opening}
use Rattle.record.specs.declared.aerodrome.Opening.TheVariants as opening
use Rattle.record.specs.declared.aerodrome.Body.{Body}
use Rattle.record.specs.declared.aerodrome.Leg.{Leg}
use Rattle.record.specs.declared.aerodrome.Change.{Change}
use Rattle.record.specs.declared.aerodrome.Edition.{Edition}
use Rattle.record.specs.declared.aerodrome.Taf.{Taf}
use Rattle.record.specs.Taf.{blank_leg}
use Rattle.record.specs.Body.{blank_body}
use Rattle.record.specs.SilentAerodrome.{no_period, is_blank_body, no_changes}
use Rattle.record.proofs.AerodromeBlanks.{period-blank, body-blank}
use Rattle.record.specs.Arrays.{BodyArrays, TafArrays}
use Rattle.elements.specs.Weather.{show_weathers}
use Rattle.elements.specs.Sky.{show_sky}
use Rattle.elements.specs.Body.{body_row, judge_body, has_element}
use Rattle.aerodrome_groups.proofs.HeadKept.{kept-station, kept-time}
use Rattle.body.proofs.Bodies.{FairBody, fair-body, body_sizes, kept-body, element-classed}
use Rattle.aerodrome_groups.specs.Head.{judge_station, judge_time}
use Rattle.taf_row.specs.declared.kinds.Part.{Part}
use Rattle.taf_row.specs.declared.kinds.Part.TheVariants as part
use Rattle.taf_row.specs.Row.{is_main, element_stands, forecast_in, own_form, change_form, row}
use Rattle.taf.specs.Read.{part_of, is_chance}
use Rattle.taf.specs.Write.{judge_part, period_fits, opening_fits, leg_of, judge_change, judge_changes, foreign_blank, judge_of, opened_leg}
use Rattle.taf_laws.proofs.Places.{station-lens, time-lens, body-lens, live, kept-name, kept-correction, kept-nil, kept-period, kept-cancelled}

-- ---- what is judged fine

pub record FairPart (w : Part) (b : Body) : Type 0 where
  pub body : FairBody (forecast_in w) b
  pub element : element_stands w b ≡ true

pub fair-part : (w : Part) (b : Body) → judge_part w b ≡ Ok tt → FairPart w b
unfolding judge_part
fair-part w b e =
    let t = and-then (judge_body (forecast_in w) b) (judge (element_stands w b) true) e in
    record { body = fair-body (forecast_in w) b t.0; element = (fine (element_stands w b) true t.1).0 }

pub record FairChange (e : Edition) (c : Change) : Type 0 where
  pub opens : opening_fits e c.opening c.period ≡ true
  pub part : FairPart (part_of c.opening) c.body

pub fair-change : (e : Edition) (c : Change) → judge_change e c ≡ Ok tt → FairChange e c
unfolding judge_change
fair-change e c is =
    let t = and-then (judge (opening_fits e c.opening c.period) true) _ is in
    record { opens = (fine (opening_fits e c.opening c.period) true t.0).0; part = fair-part (part_of c.opening) c.body t.1 }

-- a change that is judged fine, with its arrays
abbrev pub Sound : Edition → Change → Type 0
Sound e c = BodyArrays c.body × FairChange e c

-- a report: what is judged of its head, and what stands after it
pub record Fair (t : Taf) : Type 0 where
  pub blank : foreign_blank t ≡ true
  pub station : judge_station t.leg.station ≡ Ok tt
  pub time : judge_time t.leg.time ≡ Ok tt
  pub period : t.leg.nil ≡ false → period_fits (own_form t.edition) t.leg.period ≡ true
  pub part : t.leg.nil ≡ false → t.leg.cancelled ≡ false → judge_part part.Main t.leg.body ≡ Ok tt
  pub changes : t.leg.nil ≡ false → t.leg.cancelled ≡ false → judge_changes t.edition t.changes ≡ Ok tt

-- what is judged unless the report is over
unless-over : (over : Bool) (j : Result ⊤ Refusal) → over ≡ false → cond over (Ok tt) j ≡ Ok tt → j ≡ Ok tt
unless-over over j e h = rw e at h

pub fair : (t : Taf) → judge_of t ≡ Ok tt → Fair t
unfolding judge_of
fair t e =
    let b = and-then (judge (foreign_blank t) true) _ e in
    let s = and-then (judge_station t.leg.station) _ b.1 in
    let h = and-then (judge_time t.leg.time) _ s.1 in
    let full : t.leg.nil ≡ false → (judge (period_fits (own_form t.edition) t.leg.period) true ≡ Ok tt)
    × (cond t.leg.cancelled (Ok tt) (and_then (judge_part part.Main t.leg.body) (judge_changes t.edition t.changes)) ≡ Ok tt) =
    λ n. and-then (judge (period_fits (own_form t.edition) t.leg.period) true) _ (unless-over t.leg.nil _ n h.1) in
    let live : t.leg.nil ≡ false → t.leg.cancelled ≡ false → (judge_part part.Main t.leg.body ≡ Ok tt) × (judge_changes t.edition t.changes ≡ Ok tt) =
    λ n c. and-then (judge_part part.Main t.leg.body) (judge_changes t.edition t.changes) (unless-over t.leg.cancelled _ c (full n).1) in
    record {
      blank = (fine (foreign_blank t) true b.0).0;
      station = s.0;
      time = h.0;
      period = λ n. (fine (period_fits (own_form t.edition) t.leg.period) true (full n).0).0;
      part = λ n c. (live n c).0;
      changes = λ n c. (live n c).1;
    }

-- the fields that are foreign to NIL and to a cancelled report
module _ (t : Taf) (e : foreign_blank t ≡ true) where
  foreign-parts : ((not t.leg.nil || (no_period t.leg.period && not t.leg.cancelled)) ≡ true)
      × ((not (t.leg.nil || t.leg.cancelled) || (is_blank_body t.leg.body && no_changes t.changes)) ≡ true)
  unfolding foreign_blank
  foreign-parts = both (not t.leg.nil || (no_period t.leg.period && not t.leg.cancelled)) _ e

  pub foreign-nil : t.leg.nil ≡ true → (t.leg.period ≡ blank_leg.period) × (t.leg.cancelled ≡ false)
  foreign-nil n =
      let s = both (no_period t.leg.period) (not t.leg.cancelled) (rw n at foreign-parts.0) in
      (period-blank t.leg.period s.0, not-true t.leg.cancelled s.1)

  pub foreign-over : (t.leg.nil || t.leg.cancelled) ≡ true → (is_blank_body t.leg.body ≡ true) × (no_changes t.changes ≡ true)
  foreign-over o = both (is_blank_body t.leg.body) (no_changes t.changes) (rw o at foreign-parts.1)

-- ---- the body, in any part

-- the bytes that a group may have at each place
abbrev pub sizes : List ℕ
sizes = 3 ∷ 3 ∷ 4 ∷ 7 ∷ 3 ∷ 9 ∷ 9 ∷ 3 ∷ body_sizes

kept-elements : (e : Edition) (w : Part) (r acc : Leg) → BodyArrays r.body → FairPart w r.body → acc.body ≡ blank_body → KeptRow (drop 8 sizes) (drop 8 (row e w)) r acc
unfolding row
kept-elements e w r acc arrays f bare =
    kept-row-lifted body-lens {ps = body_row (forecast_in w)} r acc (rw bare (kept-body (forecast_in w) (live w) r.body arrays f.body))

-- ---- the main part

-- the record as the head leaves it
abbrev headed : Edition → ℕ → Leg → Leg
headed e n r = put_all (take n (row e part.Main)) r blank_leg

-- where nothing is said nothing is written, and nothing is put
module _ (e : Edition) (r : Leg) (bare : r.body ≡ blank_body) where
  body-written : written (drop 8 (row e part.Main)) r ≡ []
  unfolding row show_weathers show_sky
  body-written = rw bare

  nil-written : r.nil ≡ true → r.cancelled ≡ false → written (drop 5 (row e part.Main)) r ≡ []
  unfolding row
  nil-written n c = rw (n, c) body-written

  nil-put : r.period ≡ blank_leg.period → r.cancelled ≡ false → put_all (drop 5 (row e part.Main)) r (headed e 5 r) ≡ headed e 5 r
  unfolding row
  nil-put p c = rw (p, c, bare)

  cancelled-put : put_all (drop 8 (row e part.Main)) r (headed e 8 r) ≡ headed e 8 r
  unfolding row
  cancelled-put = rw bare

pub over-bare : (t : Taf) → TafArrays t → Fair t → (t.leg.nil || t.leg.cancelled) ≡ true → t.leg.body ≡ blank_body
over-bare t arrays f o = body-blank t.leg.body arrays.body (foreign-over t f.blank o).0

-- after NIL
kept-rest : (t : Taf) → TafArrays t → Fair t → t.leg.nil ≡ false → KeptRow (drop 7 sizes) (drop 7 (row t.edition part.Main)) t.leg (headed t.edition 7 t.leg)
unfolding row
kept-rest t arrays f n = go t.leg.cancelled refl
  where
    go : (c : Bool) → t.leg.cancelled ≡ c → KeptRow (drop 7 sizes) (drop 7 (row t.edition part.Main)) t.leg (headed t.edition 7 t.leg)
    go true c =
        let b = over-bare t arrays f (rw c (or-true t.leg.nil)) in
        last (kept-cancelled t.edition t.leg _ refl) (rw c) refl (body-written t.edition t.leg b) (cancelled-put t.edition t.leg b)
    go false c =
        more (kept-cancelled t.edition t.leg _ refl) (rw c)
        (kept-elements t.edition part.Main t.leg _ arrays.body (fair-part part.Main t.leg.body (f.part n c)) refl)

-- THE ROW KEEPS WHAT IS WRITTEN OF THE MAIN PART.
pub kept-main : (t : Taf) → TafArrays t → Fair t → KeptRow sizes (row t.edition part.Main) t.leg blank_leg
unfolding row
kept-main t arrays f =
    more (kept-name t.edition t.leg blank_leg) refl
    (more (kept-correction t.edition t.leg _ refl) refl
    (more (kept-lifted station-lens (kept-station t.leg.station _ f.station)) refl
    (more (kept-lifted time-lens (kept-time t.leg.time _ f.time)) refl
    (go t.leg.nil refl))))
  where
    go : (b : Bool) → t.leg.nil ≡ b → KeptRow (drop 4 sizes) (drop 4 (row t.edition part.Main)) t.leg (headed t.edition 4 t.leg)
    go true n =
        let b = over-bare t arrays f (rw n) in
        let p = foreign-nil t f.blank n in
        last (kept-nil t.edition t.leg _ refl) (rw n) refl (nil-written t.edition t.leg b n p.1) (nil-put t.edition t.leg b p.0 p.1)
    go false n =
        more (kept-nil t.edition t.leg _ refl) (rw n)
        (more (kept-period (own_form t.edition) t.leg _ n (f.period n)) refl (more (keep-none refl refl refl) refl (kept-rest t arrays f n)))

-- it ends in none of its places where the report is neither NIL nor cancelled
pub main-goes-on : (e : Edition) (r : Leg) → r.nil ≡ false → r.cancelled ≡ false → stops_any (row e part.Main) r ≡ false
unfolding row
main-goes-on e r n c = rw (n, c)

-- ---- a change's part

-- with a period
kept-changing : (e : Edition) (r : Leg) → BodyArrays r.body → FairPart part.Changing r.body → r.nil ≡ false → period_fits (change_form e) r.period ≡ true
    → KeptRow sizes (row e part.Changing) r blank_leg
unfolding row
kept-changing e r arrays f n p =
    more (keep-none refl refl refl) refl
    (more (keep-none refl refl refl) refl
    (more (keep-none refl refl refl) refl
    (more (keep-none refl refl refl) refl
    (more (keep-none refl refl refl) refl
    (more (keep-none refl refl refl) refl
    (more (kept-period (change_form e) r _ n p) refl
    (more (keep-none refl refl refl) refl
    (kept-elements e part.Changing r _ arrays f refl))))))))

-- under FM
kept_from : (e : Edition) (r acc : Leg) → BodyArrays r.body → FairPart part.From r.body → acc.body ≡ blank_body → KeptRow sizes (row e part.From) r acc
unfolding row
kept_from e r acc arrays f b =
    more (keep-none refl refl refl) refl
    (more (keep-none refl refl refl) refl
    (more (keep-none refl refl refl) refl
    (more (keep-none refl refl refl) refl
    (more (keep-none refl refl refl) refl
    (more (keep-none refl refl refl) refl
    (more (keep-none refl refl refl) refl
    (more (keep-none refl refl refl) refl
    (kept-elements e part.From r acc arrays f b))))))))

-- THE ROW KEEPS WHAT IS WRITTEN OF A CHANGE.
pub kept-change : (e : Edition) (c : Change) → BodyArrays c.body → FairChange e c → KeptRow sizes (row e (part_of c.opening)) (leg_of c) (opened_leg c.opening c.period)
kept-change e c arrays f = go c.opening f.opens f.part
  where
    go : (o : Opening) → opening_fits e o c.period ≡ true → FairPart (part_of o) c.body → KeptRow sizes (row e (part_of o)) (leg_of c) (opened_leg o c.period)
    go opening.None is p = absurd (false≢true is)
    go opening.Becoming is p = kept-changing e (leg_of c) arrays p refl is
    go opening.Temporary is p = kept-changing e (leg_of c) arrays p refl is
    go (opening.Probable n) is p = kept-changing e (leg_of c) arrays p refl (both (is_chance n) (period_fits (change_form e) c.period) is).1
    go (opening.ProbablyTemporary n) is p = kept-changing e (leg_of c) arrays p refl (both (is_chance n) (period_fits (change_form e) c.period) is).1
    go opening.From is p = kept_from e (leg_of c) _ arrays p refl

pub change-goes-on : (e : Edition) (w : Part) (r : Leg) → is_main w ≡ false → stops_any (row e w) r ≡ false
unfolding row
change-goes-on e part.Main r is = absurd (false≢true (sym is))
change-goes-on e part.Changing r is = refl
change-goes-on e part.From r is = refl

-- ---- what is read back has an element where what was written has one

pub element-back : (e : Edition) (w : Part) (r acc : Leg) → has_element (put_all (row e w) r acc).body ≡ has_element r.body
unfolding row
element-back e w r acc = element-classed r.body
