-- A TAF that the writer takes names moments, and the TAF that comes of a move is taken by the writer of its edition.
-- Assumes nothing.
use Rattle.std.specs.Prelude.{Ok}
use Prim.Native.Nat.{ℕ, ◌≤◌}
use native.Mathlib.Omega.{arith}
use mathlib.Core.Path.{◌≡◌, refl, sym, ◌∙◌}
use mathlib.Core.Bool.{true, false, cond, not, ◌&&◌, false≢true}
use mathlib.Core.List.{List, [], ◌∷◌, ◌++◌, map}
use lib.ListN.{length, take, drop}
use lib.Seq.{length-take-le}
use lib.Dec.{leb, eqb}
use borrow.Author.Tests.{leb-true, eqb-true}
use Rattle.figures.specs.Figures.{every}
use Rattle.shapes.proofs.Patterns.{both}
use Rattle.text.specs.Judge.{judge, and_then}
use Rattle.text.proofs.Judging.{fine, and-then}
use Rattle.record.specs.declared.aerodrome.Edition.{Edition}
use Rattle.record.specs.declared.aerodrome.Change.{Change}
use Rattle.record.specs.declared.aerodrome.Changes.{Changes}
use Rattle.record.specs.declared.aerodrome.Taf.{Taf}
use Rattle.record.specs.Taf.{set_period}
use Rattle.record.specs.Arrays.{Each}
use Rattle.record.specs.Missing.{between}
use Rattle.record.specs.SilentAerodrome.{is_blank_body, no_period, is_blank_change, no_changes}
use Rattle.record.proofs.AerodromeBlanks.{period-blank}
use Rattle.record.proofs.Counted.{taken, dropped}
use Rattle.aerodrome_groups.specs.Head.{judge_station, judge_time}
use Rattle.taf_row.specs.declared.kinds.Part.TheVariants as part
use Rattle.taf_row.specs.Row.{own_form}
use Rattle.taf.specs.Read.{part_of}
use Rattle.taf.specs.Write.{judge_part, period_fits, opening_fits, judge_change, judge_each, judge_changes, foreign_blank, judge_of}
use Rattle.taf_times.specs.Times.{is_from, period_in}
use Rattle.taf_times.specs.Move.{counted, days_in, month_fits, judge_times, whole_of, moved_leg, moved_change, moved_changes, times_in}
use Rattle.taf_times.proofs.Kept.{Timed, TimedChange}
use Rattle.taf_times.proofs.Moves.{Timely, month-days, judged-fine, moved_back}
use Rattle.taf_times.proofs.Moves as moves
use Rattle.taf_move.proofs.Fits.{fits-timed, fits-change, timed-fits, change-fits}

-- ---- what is judged fine

-- of the whole
pub record Taken (t : Taf) : Type 0 where
  pub foreign : foreign_blank t ≡ true
  pub station : judge_station t.leg.station ≡ Ok tt
  pub time : judge_time t.leg.time ≡ Ok tt
  pub rest : cond t.leg.nil (Ok tt)
      (and_then (judge (period_fits (own_form t.edition) t.leg.period) true)
      (cond t.leg.cancelled (Ok tt) (and_then (judge_part part.Main t.leg.body) (judge_changes t.edition t.changes)))) ≡ Ok tt

pub is-taken : (t : Taf) → judge_of t ≡ Ok tt → Taken t
unfolding judge_of
is-taken t e =
    let a = and-then (judge (foreign_blank t) true) _ e in
    let b = and-then (judge_station t.leg.station) _ a.1 in
    let c = and-then (judge_time t.leg.time) _ b.1 in
    record { foreign = (fine (foreign_blank t) true a.0).0; station = b.0; time = c.0; rest = c.1 }

pub taken-judged : (t : Taf) → Taken t → judge_of t ≡ Ok tt
unfolding judge_of
taken-judged t k = rw (k.foreign, k.station, k.time) k.rest

-- of the changes
pub change-opens : (e : Edition) (c : Change) → judge_change e c ≡ Ok tt → (opening_fits e c.opening c.period ≡ true) × (judge_part (part_of c.opening) c.body ≡ Ok tt)
unfolding judge_change
change-opens e c j = let a = and-then (judge (opening_fits e c.opening c.period) true) _ j in ((fine (opening_fits e c.opening c.period) true a.0).0, a.1)

change-judged : (e : Edition) (c : Change) → opening_fits e c.opening c.period ≡ true → judge_part (part_of c.opening) c.body ≡ Ok tt → judge_change e c ≡ Ok tt
unfolding judge_change
change-judged e c o b = rw (o, b)

-- count, slots past it, and each
pub changes-fine : (e : Edition) (cs : Changes) → judge_changes e cs ≡ Ok tt → (leb cs.count 16 ≡ true) × (every is_blank_change (drop cs.count cs.items) ≡ true) × (judge_each e (take cs.count cs.items) ≡ Ok tt)
unfolding judge_changes
changes-fine e cs j =
    let a = and-then (judge (leb cs.count 16 && every is_blank_change (drop cs.count cs.items)) true) (judge_each e (take cs.count cs.items)) j in
    let b = both (leb cs.count 16) (every is_blank_change (drop cs.count cs.items)) (fine _ true a.0).0 in
    (b.0, b.1, a.1)

changes-judged : (e : Edition) (cs : Changes) → leb cs.count 16 ≡ true → every is_blank_change (drop cs.count cs.items) ≡ true → judge_each e (take cs.count cs.items) ≡ Ok tt → judge_changes e cs ≡ Ok tt
unfolding judge_changes
changes-judged e cs a b c = rw (a, b, c)

-- ---- what is taken names moments

-- of a forecast that is not cancelled
forecast-fine : (t : Taf) → Taken t → t.leg.nil ≡ false → t.leg.cancelled ≡ false → (judge_part part.Main t.leg.body ≡ Ok tt) × (judge_changes t.edition t.changes ≡ Ok tt)
forecast-fine t k plain going =
    let a = and-then (judge (period_fits (own_form t.edition) t.leg.period) true) _ (rw plain at k.rest) in
    and-then (judge_part part.Main t.leg.body) (judge_changes t.edition t.changes) (rw going at a.1)

each-timed : (days : ℕ) (e : Edition) (cs : List Change) → judge_each e cs ≡ Ok tt → every (λ (c : Change). days_in days c.period) cs ≡ true
    → Each (λ (c : Change). TimedChange days e (is_from c.opening) c.period) cs
each-timed days e [] j m = tt
each-timed days e (c ∷ cs) j m =
    let a = and-then (judge_change e c) (judge_each e cs) j in
    let b = both (days_in days c.period) _ m in
    (fits-change days e c.opening c.period (change-opens e c a.0).0 b.0, each-timed days e cs a.1 b.1)

module _ (days : ℕ) (t : Taf) (all : length t.changes.items ≡ 16) (k : Taken t) (m : month_fits days t ≡ true) where
  month-parts : (days_in days t.leg.period ≡ true) × (every (λ (c : Change). days_in days c.period) (counted t.changes) ≡ true)
  unfolding month_fits
  month-parts =
      let a = both (between 28 31 days && days_in days t.leg.period) (every (λ (c : Change). days_in days c.period) (counted t.changes)) m in
      ((both (between 28 31 days) (days_in days t.leg.period) a.0).1, a.1)

  timely-nil : t.leg.nil ≡ true → Timely days t
  unfolding foreign_blank
  timely-nil nil =
      let f : ((no_period t.leg.period && not t.leg.cancelled) && (is_blank_body t.leg.body && no_changes t.changes)) ≡ true = rw nil at k.foreign in
      let a = both (no_period t.leg.period && not t.leg.cancelled) (is_blank_body t.leg.body && no_changes t.changes) f in
      let b = both (no_period t.leg.period) (not t.leg.cancelled) a.0 in
      let c = both (is_blank_body t.leg.body) (no_changes t.changes) a.1 in
      let d = both (eqb t.changes.count 0) _ c.1 in
      moves.silent nil (period-blank t.leg.period b.0) (eqb-true t.changes.count 0 d.0)

  module _ (plain : t.leg.nil ≡ false) where
    own : period_fits (own_form t.edition) t.leg.period ≡ true
    own = (fine (period_fits (own_form t.edition) t.leg.period) true (and-then (judge (period_fits (own_form t.edition) t.leg.period) true) _ (rw plain at k.rest)).0).0

    timely-none : t.changes.count ≡ 0 → Timely days t
    timely-none none =
        moves.timed plain (fits-timed days t.edition t.leg.period own month-parts.0) (rw none) (rw none (tt))

    timely-each : t.leg.cancelled ≡ false → Timely days t
    timely-each going =
        let c = changes-fine t.edition t.changes (forecast-fine t k plain going).1 in
        let few = leb-true t.changes.count 16 c.0 in
        moves.timed plain (fits-timed days t.edition t.leg.period own month-parts.0) (length-take-le t.changes.count t.changes.items (omega arith))
        (each-timed days t.edition (counted t.changes) c.2 month-parts.1)

    no-changes : t.leg.cancelled ≡ true → t.changes.count ≡ 0
    unfolding foreign_blank
    no-changes off =
        let f : (is_blank_body t.leg.body && no_changes t.changes) ≡ true = rw (plain, off) at k.foreign in
        let c = both (is_blank_body t.leg.body) (no_changes t.changes) f in
        eqb-true t.changes.count 0 (both (eqb t.changes.count 0) _ c.1).0

  -- A TAF THAT THE WRITER TAKES, of days in the month, names moments.
  pub taken-timely : Timely days t
  taken-timely =
      elim t.leg.nil as (λ b. t.leg.nil ≡ b → Timely days t) [
        | true ↦ timely-nil
        | false ↦ λ plain. elim t.leg.cancelled as (λ b. t.leg.cancelled ≡ b → Timely days t) [ true ↦ λ off. timely-none plain (no-changes plain off) | false ↦ λ going. timely-each plain going ] refl
      ] refl

-- ---- what comes is taken

-- what is judged of the changes does not hang on their times, but that they can be written
each_again : (days : ℕ) → days ≤ 31 → (e f : Edition) (moving : Change → Change) → ((c : Change) → (moving c).opening ≡ c.opening) → ((c : Change) → (moving c).body ≡ c.body) → (cs : List Change)
    → judge_each e cs ≡ Ok tt → Each (λ (c : Change). TimedChange days f (is_from c.opening) c.period) (map moving cs) → judge_each f (map moving cs) ≡ Ok tt
each_again days few e f moving o b [] j x = refl
each_again days few e f moving o b (c ∷ cs) j x =
    let a = and-then (judge_change e c) (judge_each e cs) j in
    let g = change-opens e c a.0 in
    let opens : opening_fits f c.opening (moving c).period ≡ true = change-fits days few e c.period c.opening g.0 (rw (o c) at x.0) in
    let one : judge_change f (moving c) ≡ Ok tt = change-judged f (moving c) (rw (o c) opens) (rw (o c, b c) g.1) in
    rw one (each_again days few e f moving o b cs a.1 x.1)

module _ (days : ℕ) (few : days ≤ 31) (t : Taf) (k : Taken t) (to : Edition) where
  -- a NIL report
  came-nil : t.leg.nil ≡ true → Taken (record { edition = to; leg = t.leg; changes = t.changes })
  unfolding foreign_blank
  came-nil nil = record { foreign = k.foreign; station = k.station; time = k.time; rest = rw nil }

  -- one with a period
  abbrev moving : Change → Change
  moving c = moved_change t.edition to days (whole_of days t) c

  abbrev came : Taf
  came =
      record {
        edition = to;
        leg = set_period (period_in to days (whole_of days t)) t.leg;
        changes = record { items = map moving (counted t.changes) ++ drop t.changes.count t.changes.items; count = t.changes.count };
      }

  module _ (plain : t.leg.nil ≡ false) (timed : Timed days to (period_in to days (whole_of days t))) where
    came-none : t.leg.cancelled ≡ true → t.changes.count ≡ 0 → Taken came
    unfolding foreign_blank
    came-none off none =
        record { foreign = rw (plain, off, none) (rw (plain, off, none) at k.foreign); station = k.station; time = k.time; rest = rw (plain, timed-fits days few timed, off) }

    came-each : t.leg.cancelled ≡ false → length (counted t.changes) ≡ t.changes.count
        → Each (λ (c : Change). TimedChange days to (is_from c.opening) c.period) (map moving (counted t.changes)) → Taken came
    unfolding foreign_blank
    came-each going many x =
        let f = forecast-fine t k plain going in
        let c = changes-fine t.edition t.changes f.1 in
        let n = t.changes.count in
        let xs = t.changes.items in
        let each : judge_each to (map moving (counted t.changes)) ≡ Ok tt = each_again days few t.edition to moving (λ d. refl) (λ d. refl) (counted t.changes) c.2 x in
        let changes : judge_changes to came.changes ≡ Ok tt = changes-judged to came.changes c.0 (rw (dropped moving n xs many) c.1) (rw (taken moving n xs many) each) in
        record { foreign = rw (plain, going); station = k.station; time = k.time; rest = rw (plain, timed-fits days few timed, going, f.0) changes }

-- ---- THE TAF THAT COMES OF A MOVE IS TAKEN by the writer of its edition

module _ (days : ℕ) (t : Taf) (all : length t.changes.items ≡ 16) (k : Taken t) (j : judge_times days t ≡ Ok tt) (to : Edition) where
  abbrev few : days ≤ 31
  few = (month-days days t (judged-fine days t j).0).1

  timely : Timely days t
  timely = taken-timely days t all k (judged-fine days t j).0

  plain-comes : t.leg.nil ≡ false → times_in to days t ≡ came days few t k to
  unfolding times_in moved_leg moved_changes
  plain-comes plain = rw plain

  nil-comes : t.leg.nil ≡ true → t.changes.count ≡ 0 → times_in to days t ≡ record { edition = to; leg = t.leg; changes = t.changes }
  unfolding times_in moved_leg moved_changes
  nil-comes nil none = rw (nil, none)

  -- by what the TAF that comes names
  from-timely : t.leg.nil ≡ false → length (counted t.changes) ≡ t.changes.count → Timely days (came days few t k to) → Taken (came days few t k to)
  from-timely plain many (moves.silent nil p none) = absurd (false≢true (sym plain ∙ nil))
  from-timely plain many (moves.timed x p m each) =
      elim t.leg.cancelled as (λ b. t.leg.cancelled ≡ b → Taken (came days few t k to)) [
        | true ↦ λ off. came-none days few t k to plain p off (no-changes days t all k (judged-fine days t j).0 plain off)
        | false ↦ λ going. came-each days few t k to plain p going many (rw (taken (moving days few t k to) t.changes.count t.changes.items many) at each)
      ] refl

  came-taken : Timely days t → Taken (times_in to days t)
  came-taken (moves.silent nil p none) = rw (nil-comes nil none) (came-nil days few t k to nil)
  came-taken (moves.timed plain p many each) =
      rw (plain-comes plain) (from-timely plain many (rw (plain-comes plain) at (moved_back days t to timely j).timely))

  pub comes-taken : Taken (times_in to days t)
  comes-taken = came-taken timely
