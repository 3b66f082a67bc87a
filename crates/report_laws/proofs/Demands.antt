-- THE THREE DEMANDS on the library, for every kind of report and in either edition of TAF, `chosen` by the caller and one throughout. What the calls do is
-- `read_in`, `rest_in`, `written_in` and `buffer_in`: the contracts of `report::read_in` and `write_in` are equations with them, and the part that `rest_in` hands
-- back has the bytes `rest_in`; `read`, `rest` and `write`, which name no edition, are the instance of the present one (`read_of`, ..). Demand 3 is of records whose arrays have
-- their lengths (`Arrays`), as those of every record of the code have by its type: `round_trip::read_back`, which writes and reads, ensures it of any record.
-- Assumes nothing.
use Rattle.std.specs.Prelude.{⊤, Err, None, Ok, Result}
use Prim.Native.Nat.{ℕ, ◌≤◌, ◌<◌, ◌+◌, ◌-◌, ◌%◌}
use native.Mathlib.Omega.{arith}
use mathlib.Core.Path.{◌≡◌, refl, sym, ap, subst, ◌∙◌}
use mathlib.Core.Bool.{Bool, true, false, cond, ◌||◌}
use mathlib.Core.List.{List, [], map, ◌++◌}
use lib.ListN.{length, take, drop}
use lib.Seq.{take_at, drop_at}
use lib.IntN.{ℤ}
use lib.Dec.{leb, eqb}
use borrow.Author.Tests.{leb-true, leb-false, le-leb, lt-leb}
use Rattle.figures.proofs.Impossible.{impossible}
use Rattle.figures.specs.Put.{splice}
use Rattle.figures.proofs.Puts.{length-splice, splice-eq}
use Rattle.scales.specs.declared.kinds.Rain.TheVariants as rain
use Rattle.scales.specs.Rounded.{rounded_rain, rounded_pressure, rain_rank, rounded_direction}
use Rattle.scales.specs.Degrees.{rounded_degrees}
use Rattle.scales.proofs.DegreesLaws.{DegreesNear, degrees-near}
use Rattle.scales.proofs.PressureLaws.{PressureNear, pressure-near}
use Rattle.scales.proofs.DirectionLaws.{direction-near}
use Rattle.scales.proofs.RainLaws.{rain-order, trace-exact, rain-near, rain-most}
use Rattle.text.specs.declared.kinds.Refusal.{Refusal}
use Rattle.text.specs.declared.kinds.Refusal.TheVariants as refusal
use Rattle.text.specs.Refusals.{number_of, refused_with}
use Rattle.text.specs.Numbers.{AnswerNumbers, verdict_numbers, written_numbers}
use Rattle.text.specs.Groups.{groups_from}
use Rattle.text.specs.Text.{tail_of}
use Rattle.text.specs.Write.{answer_by, buffer_by}
use Rattle.text.proofs.Groups.{part-nothing}
use Rattle.text.proofs.Numbers.{verdict-told}
use Rattle.places.specs.Engine.{Outcome, Done, Fault}
use Rattle.record.specs.declared.values.Speed.TheVariants as speed
use Rattle.record.specs.Classes.{class_direction}
use Rattle.record.proofs.Near.{DirectionNear}
use Rattle.record.proofs.Counted.{EachRead}
use Rattle.record.specs.declared.surface.Synop.{Synop}
use Rattle.record.specs.declared.aerodrome.Unit.{Unit}
use Rattle.record.specs.declared.aerodrome.Metar.{Metar}
use Rattle.record.specs.declared.aerodrome.Edition.{Edition}
use Rattle.record.specs.declared.aerodrome.Taf.{Taf}
use Rattle.elements.specs.Wind.{last_exact, class_speed}
use Rattle.wind.proofs.SpeedLaws as speeds
use Rattle.aerodrome_groups.specs.Temperatures.{class_tenths, class_pressure}
use Rattle.report_record.specs.declared.kinds.Name.TheVariants as name
use Rattle.report_record.specs.declared.kinds.Report.{Report}
use Rattle.report_record.specs.declared.kinds.Reading.{Reading}
use Rattle.report_record.specs.Record.{blank_report, surface_report, observed_report, forecast_report, accepted, refused}
use Rattle.report.specs.Read.{answered, read_in, rest_place_in, rest_in}
use Rattle.report.specs.Write.{judge_in, canonical_of, classed_of, written_in, buffer_in}
use Rattle.report_laws.proofs.ByName.{surface_word, observed_word, forecast_word, Named, SurfaceText, ObservedText, ForecastText, read-surface, read-observed, read-forecast, Which, by-surface, by-observed, by-forecast, by-none, which, AcceptedAs, accepted-as, as-surface, as-observed, as-forecast, RefusedAs, refused_as, as-refused, same-fault}
use Rattle.report_laws.proofs.Listed.{ListedCause, refused_by, seven-or-eleven, First, Holds, some_first, refused-for, first-refuses}
use Rattle.report_laws.proofs.ReportCauses.{Field, causes_in, report-judged}
use Rattle.report_laws.proofs.Placed.{one-or-more, Placed, At, at_place, Within, groups-within, tail_within}
use Rattle.report_laws.proofs.Faults.{surface-placed, observed-placed, forecast-placed, NamePlaced, name-placed}
use Rattle.report_laws.proofs.Numbers.{Table, foot_on, class_on, numbers_of, temperatures_of, pressures_of, class_unit_speed, no_unit_speed, speeds_of, directions_of, rains_of, DownOn, down-on, NumberOrder, TenthsOrder, SpeedOrder, RainOrder, InOrder, in_order, class-order, temperature-order, qnh-order, class-speed-order}
use Rattle.report_laws.proofs.RoundTrip.{Arrays, fair, comes_back, fine-again, text-again, Kept, kept, numbers-back, temperatures-back, pressures-back, speeds-back, directions-back, directions-near as near-back, rains-back}

-- ==== DEMAND 1. Every text and every record gets an answer.

-- A text is accepted, with its record and where the unread rest begins, or refused by number and place, with a blank record.
pub data Answered : Reading → Type 0 where
  yes : (rest : ℕ) (r : Report) → Answered (accepted rest r)
  no : (f : Refusal) (at : ℕ) → Answered (refused f at)

one-kind : {R : Type 0} (within : R → Report) (o : Outcome R) → Answered (answered within o)
one-kind within (Done rest r) = yes rest (within r)
one-kind within (Fault f at) = no f at

pub every-text : (chosen : Edition) (t : List ℕ) → Answered (read_in chosen t)
every-text chosen t = go (read_in chosen t) (which chosen t)
  where
    go : (a : Reading) → Which chosen t a → Answered a
    go _ (by-surface o x) = one-kind surface_report o
    go _ (by-observed o x) = one-kind observed_report o
    go _ (by-forecast o x) = one-kind forecast_report o
    go _ (by-none f at is) = no f at

-- Of a refused text the record is blank, with no kind, station or hour under which it could be filed, and the unread rest is empty.
pub refused-blank : (chosen : Edition) (t : List ℕ) (f : Refusal) (at : ℕ) → (read_in chosen t).verdict ≡ Err (refused_with f at) → ((read_in chosen t).report ≡ blank_report) × (rest_in chosen t ≡ [])
unfolding rest_in rest_place_in
refused-blank chosen t f at e = (go (read_in chosen t) (every-text chosen t) e, rw (e, part-nothing t (length t)))
  where
    go : (a : Reading) → Answered a → a.verdict ≡ Err (refused_with f at) → a.report ≡ blank_report
    go _ (yes rest r) e = impossible (cc)
    go _ (no g p) e = refl

-- A record that is judged fine is written where it has room, "The count of bytes written is the canonical text's length", and the bytes past the text are as they were; or it is refused, and
-- the lent buffer stays as it came.
pub data Settled (chosen : Edition) (r : Report) (b : List ℕ) : Result ℕ Refusal → List ℕ → Type 0 where
  done : judge_in chosen r ≡ Ok tt → length (canonical_of r) ≤ length b → Settled chosen r b (Ok (length (canonical_of r))) (splice b 0 (canonical_of r))
  unchanged : (f : Refusal) → Settled chosen r b (Err f) b

pub every-record : (chosen : Edition) (r : Report) (b : List ℕ) → Settled chosen r b (written_in chosen r (length b)) (buffer_in chosen r b)
unfolding written_in buffer_in judge_in canonical_of
every-record chosen r b = go (judge_in chosen r) refl
  where
    room : judge_in chosen r ≡ Ok tt → (c : Bool) → leb (length (canonical_of r)) (length b) ≡ c
        → Settled chosen r b (cond c (Ok (length (canonical_of r))) (Err refusal.Room)) (cond c (splice b 0 (canonical_of r)) b)
    room j true e = done j (leb-true (length (canonical_of r)) (length b) e)
    room j false e = unchanged refusal.Room

    go : (j : Result ⊤ Refusal) → judge_in chosen r ≡ j → Settled chosen r b (answer_by j (canonical_of r) (length b)) (buffer_by j (canonical_of r) b)
    go (Ok tt) is = room is (leb (length (canonical_of r)) (length b)) refl
    go (Err f) is = unchanged f

-- ==== DEMAND 2. A text is accepted exactly when WMO-306 with document 01's rulings allows it, and the record, station and hour included, is the meaning
-- given there; the writer refuses only for the causes listed there and writes the one canonical text. A text is of the kind that its first group names
-- (`Named`); what a kind allows, and means, is what its groups come to (`groups_read` of the kind, in `SurfaceText`, `ObservedText` and `ForecastText`).

pub record Exactly (A B : Type 0) : Type 0 where
  pub only : A → B
  pub all : B → A

-- A text is accepted, with that record, exactly when its bytes are sound, its first group is one of the kind's names and the kind's groups come to the record.
pub surface-exactly : (chosen : Edition) (t : List ℕ) (rest : ℕ) (r : Synop) → Exactly (read_in chosen t ≡ accepted rest (surface_report r)) (SurfaceText t (Done rest r))
surface-exactly chosen t rest r = record { only = λ e. as-surface r (accepted-as chosen t rest (surface_report r) e); all = read-surface chosen }

pub observed-exactly : (chosen : Edition) (t : List ℕ) (rest : ℕ) (r : Metar) → Exactly (read_in chosen t ≡ accepted rest (observed_report r)) (ObservedText t (Done rest r))
observed-exactly chosen t rest r = record { only = λ e. as-observed r (accepted-as chosen t rest (observed_report r) e); all = read-observed chosen }

pub forecast-exactly : (chosen : Edition) (t : List ℕ) (rest : ℕ) (r : Taf) → Exactly (read_in chosen t ≡ accepted rest (forecast_report r)) (ForecastText chosen t (Done rest r))
forecast-exactly chosen t rest r = record { only = λ e. as-forecast r (accepted-as chosen t rest (forecast_report r) e); all = read-forecast chosen }

-- What is accepted is accepted as one kind, and its first group is one of that kind's names.
pub accepted-only : (chosen : Edition) (t : List ℕ) (rest : ℕ) (w : Report) → read_in chosen t ≡ accepted rest w → AcceptedAs chosen t rest w
accepted-only = accepted-as

pub surface-first : (chosen : Edition) (t : List ℕ) (rest : ℕ) (r : Synop) → read_in chosen t ≡ accepted rest (surface_report r) → (ship : Bool) × Named t (surface_word ship)
surface-first chosen t rest r e = let x = (surface-exactly chosen t rest r).only e in (x.ship, x.named)

pub observed-first : (chosen : Edition) (t : List ℕ) (rest : ℕ) (r : Metar) → read_in chosen t ≡ accepted rest (observed_report r) → (special : Bool) × Named t (observed_word special)
observed-first chosen t rest r e = let x = (observed-exactly chosen t rest r).only e in (x.special, x.named)

pub forecast-first : (chosen : Edition) (t : List ℕ) (rest : ℕ) (r : Taf) → read_in chosen t ≡ accepted rest (forecast_report r) → Named t forecast_word
forecast-first chosen t rest r e = ((forecast-exactly chosen t rest r).only e).named

-- A refused text has the number and the place that the groups of its kind come to, or 1, 2 or 3 where its first group names none (`name_of`); and so it is
-- refused wherever they come to that.
pub refused-exactly : (chosen : Edition) (t : List ℕ) (f : Refusal) (at : ℕ) → Exactly (read_in chosen t ≡ refused f at) (RefusedAs chosen t f at)
refused-exactly chosen t f at = record { only = refused_as; all = as-refused }

-- In the paper's numbers: a text is accepted (0) or refused by one of 1 to 9, and the unread rest begins, or the fault stands, within the text or at its end.
pub record InText (n : ℕ) (x : AnswerNumbers) : Type 0 where
  pub number : x.refusal ≤ 9
  pub place : x.value ≤ n

pub text-numbers : (chosen : Edition) (t : List ℕ) → InText (length t) (verdict_numbers (read_in chosen t).verdict)
text-numbers chosen t = go (read_in chosen t) (which chosen t)
  where
    all : Within (length t) (groups_from t 0)
    all = groups-within t 0

    one : {R : Type 0} (within : R → Report) (o : Outcome R) → At (length t) o → InText (length t) (verdict_numbers (answered within o).verdict)
    one within (Done rest r) u = record { number = omega arith; place = u }
    one within (Fault f at) (a, u) = record { number = leb-true (number_of f) 9 a; place = u }

    none : (f : Refusal) (at : ℕ) → NamePlaced (length t) (name.Refused f at) → InText (length t) (verdict_numbers (Err (refused_with f at)))
    none f at (a, u) = record { number = leb-true (number_of f) 9 a; place = u }

    go : (a : Reading) → Which chosen t a → InText (length t) (verdict_numbers a.verdict)
    go _ (by-surface o x) =
        let placed = surface-placed (length t) (tail_of t) (length t) (tail_within t) (omega arith) x.ship x.named.others (subst (Within (length t)) x.named.groups all).1 in
        one surface_report o (at_place o (subst (Placed (length t)) x.comes placed))
    go _ (by-observed o x) =
        one observed_report o (at_place o (subst (Placed (length t)) x.comes (observed-placed (length t) (tail_of t) (length t) (tail_within t) (omega arith) (groups_from t 0) all)))
    go _ (by-forecast o x) =
        one forecast_report o (at_place o (subst (Placed (length t)) x.comes (forecast-placed (length t) (tail_of t) (length t) (tail_within t) (omega arith) (groups_from t 0) all chosen)))
    go _ (by-none f at is) = none f at (subst (NamePlaced (length t)) is (name-placed t))

-- So the number of a refused text is one of 1 to 9, and its place at most the text's length.
pub refused-within : (chosen : Edition) (t : List ℕ) (f : Refusal) (at : ℕ) → (read_in chosen t).verdict ≡ Err (refused_with f at) → (1 ≤ number_of f) × (number_of f ≤ 9) × (at ≤ length t)
refused-within chosen t f at e = (one-or-more f, rw e at (text-numbers chosen t).number, rw e at (text-numbers chosen t).place)

-- The numbers say all that the verdict says: a text has the number and the place of a refusal exactly when it is refused so.
pub refused-numbers : (chosen : Edition) (t : List ℕ) (f : Refusal) (at : ℕ) → Exactly (verdict_numbers (read_in chosen t).verdict ≡ record { refusal = number_of f; value = at }) (RefusedAs chosen t f at)
refused-numbers chosen t f at = record { only = λ e. refused_as (go (read_in chosen t) (every-text chosen t) (verdict-told (read_in chosen t).verdict (Err (refused_with f at)) e)); all = λ x. rw (as-refused x) }
  where
    go : (a : Reading) → Answered a → a.verdict ≡ Err (refused_with f at) → a ≡ refused f at
    go _ (yes rest r) e = impossible (cc)
    go _ (no g p) e =
        let (is, there) = same-fault e in
        rw (is, there)

-- THE CAUSES for which the writer refuses: the first that holds of those that the paper lists for a record, each with the field or the group that it is about, in
-- the order of judging (`causes_in`); "and 10 last", where "the buffer is shorter than the canonical text, and not otherwise".
pub data Cause (chosen : Edition) (r : Report) (b : List ℕ) : Refusal → Type 0 where
  listed : (c : ListedCause Field) → First (causes_in chosen r) c → Cause chosen r b (refused_by c)
  short-buffer : judge_in chosen r ≡ Ok tt → length b < length (canonical_of r) → Cause chosen r b refusal.Room

pub only-causes : (chosen : Edition) (r : Report) (b : List ℕ) (f : Refusal) → written_in chosen r (length b) ≡ Err f → Cause chosen r b f
unfolding written_in judge_in canonical_of
only-causes chosen r b f e = go (judge_in chosen r) refl e
  where
    short : (c : Bool) → leb (length (canonical_of r)) (length b) ≡ c → judge_in chosen r ≡ Ok tt
        → cond c (Ok (length (canonical_of r))) (Err refusal.Room) ≡ Err f → Cause chosen r b f
    short true t j e = impossible (cc)
    short false t j e =
        let g : refusal.Room ≡ f = cc in
        rw (← g) (short-buffer j (leb-false (length (canonical_of r)) (length b) t))

    go : (j : Result ⊤ Refusal) → judge_in chosen r ≡ j → answer_by j (canonical_of r) (length b) ≡ Err f → Cause chosen r b f
    go (Ok tt) j e = short (leb (length (canonical_of r)) (length b)) refl j e
    go (Err g) j e =
        let (c, x, is) = refused-for (report-judged chosen r) g j in
        let same : refused_by c ≡ f = cc in
        rw (← same) (listed c x)

-- and where there is a cause, it refuses
pub each-cause : (chosen : Edition) (r : Report) (b : List ℕ) (f : Refusal) → Cause chosen r b f → written_in chosen r (length b) ≡ Err f
unfolding written_in judge_in canonical_of
each-cause chosen r b _ (listed c x) = rw (first-refuses (report-judged chosen r) x)
each-cause chosen r b _ (short-buffer j h) = rw (j, lt-leb (length (canonical_of r)) (length b) h)

-- so for these causes and for nothing else
pub listed-exactly : (chosen : Edition) (r : Report) (b : List ℕ) (f : Refusal) → Exactly (written_in chosen r (length b) ≡ Err f) (Cause chosen r b f)
listed-exactly chosen r b f = record { only = only-causes chosen r b f; all = each-cause chosen r b f }

-- and where any of those listed holds, or the buffer is too short, it refuses
pub any-listed : (chosen : Edition) (r : Report) (b : List ℕ) (c : ListedCause Field) → Holds (causes_in chosen r) c
    → (f : Refusal) × (written_in chosen r (length b) ≡ Err f)
any-listed chosen r b c x = let (d, y) = some_first x in (refused_by d, each-cause chosen r b (refused_by d) (listed d y))

pub any-short : (chosen : Edition) (r : Report) (b : List ℕ) → length b < length (canonical_of r) → (f : Refusal) × (written_in chosen r (length b) ≡ Err f)
unfolding written_in judge_in canonical_of
any-short chosen r b h = go (judge_in chosen r) refl
  where
    go : (j : Result ⊤ Refusal) → judge_in chosen r ≡ j → (f : Refusal) × (written_in chosen r (length b) ≡ Err f)
    go (Ok tt) j = (refusal.Room, each-cause chosen r b refusal.Room (short-buffer j h))
    go (Err f) j = (f, rw j)

-- In the paper's numbers: a record is written (0), with no more bytes than the buffer has, or refused by 7, 10 or 11.
pub record InBuffer (n : ℕ) (x : AnswerNumbers) : Type 0 where
  pub number : (eqb x.refusal 0 || eqb x.refusal 7 || eqb x.refusal 10 || eqb x.refusal 11) ≡ true
  pub count : x.value ≤ n

pub record-numbers : (chosen : Edition) (r : Report) (b : List ℕ) → InBuffer (length b) (written_numbers (written_in chosen r (length b)))
record-numbers chosen r b = go (written_in chosen r (length b)) refl (buffer_in chosen r b) (every-record chosen r b)
  where
    cause : {f : Refusal} → Cause chosen r b f → InBuffer (length b) (written_numbers (Err f))
    cause (listed c x) =
        seven-or-eleven (λ (f : Refusal). InBuffer (length b) (written_numbers (Err f)))
        (record { number = refl; count = omega arith }) (record { number = refl; count = omega arith }) c
    cause (short-buffer j h) = record { number = refl; count = omega arith }

    go : (w : Result ℕ Refusal) → written_in chosen r (length b) ≡ w → (l : List ℕ) → Settled chosen r b w l → InBuffer (length b) (written_numbers w)
    go _ e _ (done j h) = record { number = refl; count = h }
    go _ e _ (unchanged f) = cause (only-causes chosen r b f e)

-- the one canonical text is written wherever it has room
pub one-text : (chosen : Edition) (r : Report) (b : List ℕ) → judge_in chosen r ≡ Ok tt → length (canonical_of r) ≤ length b
    → (written_in chosen r (length b) ≡ Ok (length (canonical_of r))) × (buffer_in chosen r b ≡ splice b 0 (canonical_of r))
unfolding written_in buffer_in judge_in canonical_of
one-text chosen r b e h = (rw (e, le-leb (length (canonical_of r)) (length b) h), rw (e, le-leb (length (canonical_of r)) (length b) h))

-- so that the bytes counted are that text, and those past it are as they were
left : (chosen : Edition) (r : Report) (b : List ℕ) → judge_in chosen r ≡ Ok tt → length (canonical_of r) ≤ length b → buffer_in chosen r b ≡ canonical_of r ++ drop (length (canonical_of r)) b
left chosen r b e h =
    let none : 0 + length (canonical_of r) ≡ length (canonical_of r) = omega arith in
    (one-text chosen r b e h).1 ∙ rw none at (splice-eq b 0 (canonical_of r) (omega arith))

pub text-left : (chosen : Edition) (r : Report) (b : List ℕ) → judge_in chosen r ≡ Ok tt → length (canonical_of r) ≤ length b → take (length (canonical_of r)) (buffer_in chosen r b) ≡ canonical_of r
text-left chosen r b e h = ap (take (length (canonical_of r))) (left chosen r b e h) ∙ take_at (canonical_of r) (drop (length (canonical_of r)) b) (length (canonical_of r)) refl

-- The same of what `write` answered: where it is a count, the record is judged fine, its text has room, and the count is the text's length.
pub record Counted (chosen : Edition) (r : Report) (b : List ℕ) (n : ℕ) : Type 0 where
  pub fine : judge_in chosen r ≡ Ok tt
  pub room : length (canonical_of r) ≤ length b
  pub count : n ≡ length (canonical_of r)

pub counted : (chosen : Edition) (r : Report) (b : List ℕ) (n : ℕ) → written_in chosen r (length b) ≡ Ok n → Counted chosen r b n
counted chosen r b n e = go (written_in chosen r (length b)) e (buffer_in chosen r b) (every-record chosen r b)
  where
    go : (w : Result ℕ Refusal) → w ≡ Ok n → (l : List ℕ) → Settled chosen r b w l → Counted chosen r b n
    go _ e _ (done j h) = record { fine = j; room = h; count = cc }
    go _ e _ (unchanged f) = impossible (cc)

pub counted-text : (chosen : Edition) (r : Report) (b : List ℕ) (n : ℕ) → written_in chosen r (length b) ≡ Ok n → take n (buffer_in chosen r b) ≡ canonical_of r
counted-text chosen r b n e = let k = counted chosen r b n e in rw k.count (text-left chosen r b k.fine k.room)

-- "success leaves the bytes past the text as they were"
pub past-text : (chosen : Edition) (r : Report) (b : List ℕ) (n : ℕ) → written_in chosen r (length b) ≡ Ok n → drop n (buffer_in chosen r b) ≡ drop n b
past-text chosen r b n e =
    let k = counted chosen r b n e in
    let text = canonical_of r in
    rw k.count (ap (drop (length text)) (left chosen r b k.fine k.room) ∙ drop_at text (drop (length text) b) (length text) refl)

-- "A refusal writes nothing"
pub refused-unchanged : (chosen : Edition) (r : Report) (b : List ℕ) (f : Refusal) → written_in chosen r (length b) ≡ Err f → buffer_in chosen r b ≡ b
refused-unchanged chosen r b f e = go (written_in chosen r (length b)) e (buffer_in chosen r b) (every-record chosen r b)
  where
    go : (w : Result ℕ Refusal) → w ≡ Err f → (l : List ℕ) → Settled chosen r b w l → l ≡ b
    go _ e _ (done j h) = impossible (cc)
    go _ e _ (unchanged g) = refl

-- whatever is answered, the buffer is as long as it was
pub same_length : (chosen : Edition) (r : Report) (b : List ℕ) → length (buffer_in chosen r b) ≡ length b
same_length chosen r b = go (written_in chosen r (length b)) (buffer_in chosen r b) (every-record chosen r b)
  where
    go : (w : Result ℕ Refusal) (l : List ℕ) → Settled chosen r b w l → length l ≡ length b
    go _ _ (done j h) = length-splice b 0 (canonical_of r)
    go _ _ (unchanged f) = refl

-- ==== DEMAND 3. What the writer writes, the reader accepts whole; exact fields come back equal, each rounded number as the reading of its class, within the
-- stated distance, never greater where a scale rounds down, order kept; written again, the same bytes.

-- the record that the canonical text is read as
abbrev pub back : Edition → Report → Report
back chosen r = (read_in chosen (canonical_of r)).report

-- All that the demand says of a record q that comes back of a record r. (How far off a number is follows from its class: `how-far` and those after it; the
-- order of two, from two records that come back: `order-kept`.)
pub record ComesBack (chosen : Edition) (r q : Report) : Type 0 where
  -- field by field: all that the code carries exactly is equal, what is rounded is the reading of its class, and near (`RecordRead` of each kind)
  pub fields : Kept r q
  -- each rounded number is the reading of its own class
  pub numbers : (t : Table) → numbers_of t q ≡ map (class_on t) (numbers_of t r)
  pub temperatures : temperatures_of q ≡ map class_tenths (temperatures_of r)
  pub pressures : pressures_of q ≡ map class_pressure (pressures_of r)
  pub speeds : speeds_of q ≡ map class_unit_speed (speeds_of r)
  pub rains : rains_of q ≡ map rounded_rain (rains_of r)
  pub directions : directions_of q ≡ map class_direction (directions_of r)
  pub directions-near : EachRead DirectionNear (directions_of r) (directions_of q)
  -- written once more into any buffer that has room for those bytes, the same bytes; and read once more, the same record
  pub bytes : (b : List ℕ) → length (canonical_of r) ≤ length b
      → (written_in chosen q (length b) ≡ Ok (length (canonical_of r))) × (buffer_in chosen q b ≡ splice b 0 (canonical_of r))
  pub again : back chosen q ≡ q

module _ (chosen : Edition) (r : Report) (arrays : Arrays r) (fine : judge_in chosen r ≡ Ok tt) where
  whole : read_in chosen (canonical_of r) ≡ accepted (length (canonical_of r)) (classed_of r)
  whole = comes_back (fair chosen r arrays fine)

  back_is : back chosen r ≡ classed_of r
  back_is = ap (λ (a : Reading). a.report) whole

  -- accepted, with no unread rest
  pub accepted-whole : ((read_in chosen (canonical_of r)).verdict ≡ Ok (length (canonical_of r))) × (rest_in chosen (canonical_of r) ≡ [])
  unfolding rest_in rest_place_in
  accepted-whole = (rw whole, rw (whole, part-nothing (canonical_of r) (length (canonical_of r))))

  -- field by field: all that the code carries exactly is equal, what is rounded is the reading of its class, of an open one too, and near, and an aerodrome's
  -- wind speed over its unit's figure is "above" it (`RecordRead` of each kind)
  pub fields-kept : Kept r (back chosen r)
  fields-kept = subst (Kept r) (sym back_is) (kept (fair chosen r arrays fine))

  -- each rounded number is the reading of its own class
  pub classes-read : (t : Table) → numbers_of t (back chosen r) ≡ map (class_on t) (numbers_of t r)
  classes-read t = ap (numbers_of t) back_is ∙ numbers-back t (fair chosen r arrays fine)

  pub temperatures-read : temperatures_of (back chosen r) ≡ map class_tenths (temperatures_of r)
  temperatures-read = ap temperatures_of back_is ∙ temperatures-back (fair chosen r arrays fine)

  pub pressures-read : pressures_of (back chosen r) ≡ map class_pressure (pressures_of r)
  pressures-read = ap pressures_of back_is ∙ pressures-back (fair chosen r arrays fine)

  pub speeds-read : speeds_of (back chosen r) ≡ map class_unit_speed (speeds_of r)
  speeds-read = ap speeds_of back_is ∙ speeds-back (fair chosen r arrays fine)

  pub rains-read : rains_of (back chosen r) ≡ map rounded_rain (rains_of r)
  rains-read = ap rains_of back_is ∙ rains-back (fair chosen r arrays fine)

  -- On a circle no direction is greater than another: of directions no order is claimed.
  pub directions-read : directions_of (back chosen r) ≡ map class_direction (directions_of r)
  directions-read = ap directions_of back_is ∙ directions-back (fair chosen r arrays fine)

  -- missing, calm and variable are carried exactly, and degrees are "on the circle, -5 to 4 degrees" off (`Near`)
  pub directions-near : EachRead DirectionNear (directions_of r) (directions_of (back chosen r))
  directions-near = subst (λ (q : Report). EachRead DirectionNear (directions_of r) (directions_of q)) (sym back_is) (near-back (fair chosen r arrays fine))

  -- written once more into any buffer that has room for those bytes, the same bytes
  pub same_bytes : (b : List ℕ) → length (canonical_of r) ≤ length b
      → (written_in chosen (back chosen r) (length b) ≡ Ok (length (canonical_of r))) × (buffer_in chosen (back chosen r) b ≡ splice b 0 (canonical_of r))
  same_bytes b h =
      let g = fair chosen r arrays fine in
      let again = text-again g in
      let (count, bytes) = one-text chosen (classed_of r) b (fine-again g) (rw again h) in (
        ap (λ (q : Report). written_in chosen q (length b)) back_is ∙ count ∙ ap (λ (t : List ℕ). Ok (length t)) again,
        ap (λ (q : Report). buffer_in chosen q b) back_is ∙ bytes ∙ ap (splice b 0) again,
      )

  -- and read once more, the same record
  pub same-record : back chosen (back chosen r) ≡ back chosen r
  same-record =
      ap (λ (q : Report). (read_in chosen (canonical_of q)).report) back_is ∙ ap (λ (t : List ℕ). (read_in chosen t).report) (text-again (fair chosen r arrays fine))

  -- so all of it
  pub all_back : ComesBack chosen r (back chosen r)
  all_back =
      record {
        fields = fields-kept;
        numbers = classes-read;
        temperatures = temperatures-read;
        pressures = pressures-read;
        speeds = speeds-read;
        rains = rains-read;
        directions = directions-read;
        directions-near = directions-near;
        bytes = same_bytes;
        again = same-record;
      }

-- The reader accepts a text t of n bytes, which was written of a record r, whole and with no unread rest, as the classed record; and all of that is said of the
-- record that it gives.
pub record ReadWhole (chosen : Edition) (r : Report) (n : ℕ) (t : List ℕ) : Type 0 where
  pub reading : read_in chosen t ≡ accepted n (classed_of r)
  pub rest : rest_in chosen t ≡ []
  pub comes_back : ComesBack chosen r (read_in chosen t).report

-- Where `write` answered the count n, the first n bytes of the buffer are such a text.
module _ (chosen : Edition) (r : Report) (b : List ℕ) (n : ℕ) (arrays : Arrays r) (wrote : written_in chosen r (length b) ≡ Ok n) where
  pub written_read : read_in chosen (take n (buffer_in chosen r b)) ≡ accepted n (classed_of r)
  written_read =
      let k = counted chosen r b n wrote in
      ap (read_in chosen) (counted-text chosen r b n wrote) ∙ rw k.count (whole chosen r arrays k.fine)

  pub written-whole : ReadWhole chosen r n (take n (buffer_in chosen r b))
  written-whole =
      let fine = (counted chosen r b n wrote).fine in
      let text = counted-text chosen r b n wrote in
      record { reading = written_read; rest = ap (rest_in chosen) text ∙ (accepted-whole chosen r arrays fine).1; comes_back = rw text (all_back chosen r arrays fine) }

-- no further off than document 01 states for the class, never greater, the last class open above; on every scale that rounds down
pub how-far : (t : Table) (v : ℕ) → DownOn t v (foot_on t v)
how-far = down-on

-- Aerodrome temperature and rain: "Value less reading, in tenths: -5 to 4", but for M00 "-2 to 2 tenths" and for 00, which "holds 0.0 to 0.4", 0 to 4; Q: 0 to 9;
-- "989 (from 988.5 mm) is open and is read 989.0"
pub temperature-far : (t : ℤ) → DegreesNear t (rounded_degrees t)
temperature-far = degrees-near

pub pressure-far : (p : ℕ) → PressureNear p (rounded_pressure p)
pressure-far = pressure-near

pub rain-far : (t : ℕ) → t < 9885 → (rain_rank (rounded_rain (rain.Tenths t)) ≤ t + 5) × (t ≤ rain_rank (rounded_rain (rain.Tenths t)) + 4)
rain-far = rain-near

pub rain-above : (t : ℕ) → 9885 ≤ t → rounded_rain (rain.Tenths t) ≡ rain.Tenths 9890
rain-above = rain-most

-- a direction: "on the circle, -5 to 4 degrees", so that five more is 0 to 9 round the circle
pub direction-far : (d : ℕ) → d ≤ 359 → (d + 365 - rounded_direction d) % 360 ≤ 9
direction-far = direction-near

-- A wind speed of METAR, SPECI or TAF comes back (`speeds-read`) as itself up to 99 knots, 49 m/s or 199 km/h, and over it as "above" that number, of
-- which no distance can be stated; an "above" comes back as itself.
pub speed-exact : (u : Unit) (n : ℕ) → n ≤ last_exact u → class_speed u (speed.Is n) ≡ speed.Is n
speed-exact = speeds.speed-exact

pub speed-over : (u : Unit) (n : ℕ) → last_exact u < n → class_speed u (speed.Is n) ≡ speed.Above (last_exact u)
speed-over = speeds.speed-over

pub speed-above : (u : Unit) → class_speed u (speed.Above (last_exact u)) ≡ speed.Above (last_exact u)
speed-above = speeds.speed-above

-- Of any two values in one scale, from one accepted record or from two, the greater never comes back smaller: of records r and q, and r' and q' that come
-- back of them.
pub record OrderKept (r q r' q' : Report) : Type 0 where
  pub numbers : (t : Table) → InOrder NumberOrder None (numbers_of t r) (numbers_of t q) (numbers_of t r') (numbers_of t q')
  pub temperatures : InOrder TenthsOrder None (temperatures_of r) (temperatures_of q) (temperatures_of r') (temperatures_of q')
  pub pressures : InOrder NumberOrder None (pressures_of r) (pressures_of q) (pressures_of r') (pressures_of q')
  pub speeds : InOrder SpeedOrder no_unit_speed (speeds_of r) (speeds_of q) (speeds_of r') (speeds_of q')
  pub rains : InOrder RainOrder rain.Trace (rains_of r) (rains_of q) (rains_of r') (rains_of q')

pub order-kept : {chosen : Edition} {r q r' q' : Report} → ComesBack chosen r r' → ComesBack chosen q q' → OrderKept r q r' q'
order-kept {r = r} {q} a b =
    record {
      numbers = λ t. rw (a.numbers t, b.numbers t) (in_order NumberOrder None (class_on t) refl (class-order t) (numbers_of t r) (numbers_of t q));
      temperatures = rw (a.temperatures, b.temperatures) (in_order TenthsOrder None class_tenths refl temperature-order (temperatures_of r) (temperatures_of q));
      pressures = rw (a.pressures, b.pressures) (in_order NumberOrder None class_pressure refl qnh-order (pressures_of r) (pressures_of q));
      speeds = rw (a.speeds, b.speeds) (in_order SpeedOrder no_unit_speed class_unit_speed refl class-speed-order (speeds_of r) (speeds_of q));
      rains = rw (a.rains, b.rains) (in_order RainOrder rain.Trace rounded_rain trace-exact rain-order (rains_of r) (rains_of q));
    }

module _ (chosen : Edition) (r q : Report) (arrays : Arrays r) (arrays' : Arrays q) (fine : judge_in chosen r ≡ Ok tt) (fine' : judge_in chosen q ≡ Ok tt) where
  orders : OrderKept r q (back chosen r) (back chosen q)
  orders = order-kept (all_back chosen r arrays fine) (all_back chosen q arrays' fine')

  pub order : (t : Table) → InOrder NumberOrder None (numbers_of t r) (numbers_of t q) (numbers_of t (back chosen r)) (numbers_of t (back chosen q))
  order = orders.numbers

  pub temperatures-order : InOrder TenthsOrder None (temperatures_of r) (temperatures_of q) (temperatures_of (back chosen r)) (temperatures_of (back chosen q))
  temperatures-order = orders.temperatures

  pub pressures-order : InOrder NumberOrder None (pressures_of r) (pressures_of q) (pressures_of (back chosen r)) (pressures_of (back chosen q))
  pressures-order = orders.pressures

  pub speeds-order : InOrder SpeedOrder no_unit_speed (speeds_of r) (speeds_of q) (speeds_of (back chosen r)) (speeds_of (back chosen q))
  speeds-order = orders.speeds

  pub rains-order : InOrder RainOrder rain.Trace (rains_of r) (rains_of q) (rains_of (back chosen r)) (rains_of (back chosen q))
  rains-order = orders.rains
