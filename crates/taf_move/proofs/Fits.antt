-- What the writer of an edition takes for a period or a change's times, and what can be moved: of days in the month the same.
-- Assumes nothing.
use Rattle.std.specs.Prelude.{None, Option, Some}
use Prim.Native.Nat.{ℕ, ◌≤◌}
use native.Mathlib.Omega.{arith}
use mathlib.Core.Path.{◌≡◌, refl}
use mathlib.Core.Bool.{Bool, true, false, ◌&&◌, ◌||◌, false≢true}
use mathlib.Core.Logic.{◌⊎◌, ⊎_elim, inl, inr}
use lib.Dec.{leb}
use borrow.Author.Tests.{leb-true, le-leb, lt-leb}
use Rattle.shapes.proofs.Patterns.{both}
use Rattle.record.specs.declared.aerodrome.Instant.{Instant}
use Rattle.record.specs.declared.aerodrome.Period.{Period}
use Rattle.record.specs.declared.aerodrome.Opening.{Opening}
use Rattle.record.specs.declared.aerodrome.Opening.TheVariants as opening
use Rattle.record.specs.declared.aerodrome.Edition.{Edition}
use Rattle.record.specs.declared.aerodrome.Edition.TheVariants as edition
use Rattle.record.specs.Taf.{blank_instant}
use Rattle.record.specs.Missing.{is_missing, between, present, optional}
use Rattle.record.specs.SilentAerodrome.{no_instant}
use Rattle.record.proofs.AerodromeBlanks.{instant-blank}
use Rattle.aerodrome_groups.specs.Head.{is_day, is_hour, is_minute}
use Rattle.taf_row.specs.declared.kinds.Form.TheVariants as form
use Rattle.taf_row.specs.Row.{own_form, change_form, is_end_hour}
use Rattle.taf.specs.Read.{is_chance}
use Rattle.taf.specs.Write.{period_fits, from_fits, opening_fits}
use Rattle.taf_times.specs.Times.{is_from}
use Rattle.taf_times.specs.Move.{days_in}
use Rattle.taf_times.proofs.Arithmetic.{InMonth}
use Rattle.taf_times.proofs.Kept.{hours, Timed, TimedChange}
use Rattle.taf_times.proofs.Kept as kept

-- ---- numbers that are there

pub data There (ok : ℕ → Bool) : Option ℕ → Type 0 where
  there : (n : ℕ) → ok n ≡ true → There ok (Some n)

is-there : (ok : ℕ → Bool) (n : Option ℕ) → present ok n ≡ true → There ok n
is-there ok None e = absurd (false≢true e)
is-there ok (Some n) e = there n e

pub data Absent : Option ℕ → Type 0 where
  absent : Absent None

is-absent : (n : Option ℕ) → is_missing n ≡ true → Absent n
is-absent None e = absent
is-absent (Some n) e = absurd (false≢true e)

in-month : (days d : ℕ) → optional (between 1 days) (Some d) ≡ true → InMonth days d
in-month days d e = let b = both (leb 1 d) (leb d days) e in record { first = leb-true 1 d b.0; last = leb-true d days b.1 }

either : (a b : Bool) → (a || b) ≡ true → (a ≡ true) ⊎ (b ≡ true)
either true b e = inl refl
either false b e = inr e

-- ---- the report's period

abbrev period : Option ℕ → Option ℕ → Option ℕ → Option ℕ → Option ℕ → Option ℕ → Period
period a b c d e f = record { from = record { day = a; hour = b; minute = c }; to = record { day = d; hour = e; minute = f } }

module _ (days : ℕ) where
  -- YYGG/YYGG
  data Dated : Period → Type 0 where
    dated : (d h e k : ℕ) → InMonth days d → h ≤ 23 → InMonth days e → k ≤ 24 → Dated (hours (Some d) h (Some e) k)

  known-dated : {a b c d e f : Option ℕ} → There is_day a → There is_hour b → Absent c → There is_day d → There (is_end_hour form.BothDays) e → Absent f
      → days_in days (period a b c d e f) ≡ true → Dated (period a b c d e f)
  known-dated (there d x) (there h y) absent (there e z) (there k w) absent m =
      let b = both _ _ m in
      dated d h e k (in-month days d b.0) (leb-true h 23 y) (in-month days e b.1) (leb-true k 24 w)

  fits-dated : (p : Period) → period_fits form.BothDays p ≡ true → days_in days p ≡ true → Dated p
  fits-dated p f m =
      let b = both _ _ f in
      let x = both _ _ b.0 in
      let y = both _ _ x.0 in
      let z = both _ _ b.1 in
      let w = both _ _ z.0 in
      known-dated (is-there is_day p.from.day y.0) (is-there is_hour p.from.hour y.1) (is-absent p.from.minute x.1)
      (is-there is_day p.to.day w.0) (is-there (is_end_hour form.BothDays) p.to.hour w.1) (is-absent p.to.minute z.1) m

  timed-old : {a b c d e f : Option ℕ} → There is_day a → There is_hour b → Absent c → Absent d → There (is_end_hour form.FirstDay) e → Absent f
      → days_in days (period a b c d e f) ≡ true → Timed days edition.Of2005 (period a b c d e f)
  timed-old (there d x) (there h y) absent absent (there g w) absent m =
      let i = in-month days d (both _ _ m).0 in
      ⊎_elim
      (λ s. let r = both _ _ s in kept.one_day d h g i (leb-true h 23 y) (leb-true 1 g r.0) (leb-true g 24 r.1))
      (λ s. let r = both _ _ s in kept.two_days d h g i (leb-true h 23 y) (leb-true 51 g r.0) (leb-true g 74 r.1))
      (either (between 1 24 g) (between 51 74 g) w)

  timed-dated : {p : Period} → Dated p → Timed days edition.Present p
  timed-dated (dated d h e k m u n v) = kept.present d h e k m u n v

  -- WHAT THE WRITER TAKES NAMES MOMENTS: the report's period,
  pub fits-timed : (e : Edition) (p : Period) → period_fits (own_form e) p ≡ true → days_in days p ≡ true → Timed days e p
  fits-timed edition.Present p f m = timed-dated (fits-dated p f m)
  fits-timed edition.Of2005 p f m =
      let b = both _ _ f in
      let x = both _ _ b.0 in
      let y = both _ _ x.0 in
      let z = both _ _ b.1 in
      let w = both _ _ z.0 in
      timed-old (is-there is_day p.from.day y.0) (is-there is_hour p.from.hour y.1) (is-absent p.from.minute x.1)
      (is-absent p.to.day w.0) (is-there (is_end_hour form.FirstDay) p.to.hour w.1) (is-absent p.to.minute z.1) m

  -- ---- a change's times

  change-dated : {p : Period} → Dated p → TimedChange days edition.Present false p
  change-dated (dated d h e k m u n v) = kept.present d h e k m u n v

  change-old : {a b c d e f : Option ℕ} → Absent a → There is_hour b → Absent c → Absent d → There (is_end_hour form.NoDay) e → Absent f → TimedChange days edition.Of2005 false (period a b c d e f)
  change-old absent (there h y) absent absent (there k w) absent =
      let r = both (leb 1 k) (leb k 24) w in
      kept.old h k (leb-true h 23 y) (leb-true 1 k r.0) (leb-true k 24 r.1)

  fits-span : (e : Edition) (p : Period) → period_fits (change_form e) p ≡ true → days_in days p ≡ true → TimedChange days e false p
  fits-span edition.Present p f m = change-dated (fits-dated p f m)
  fits-span edition.Of2005 p f m =
      let b = both _ _ f in
      let x = both _ _ b.0 in
      let y = both _ _ x.0 in
      let z = both _ _ b.1 in
      let w = both _ _ z.0 in
      change-old (is-absent p.from.day y.0) (is-there is_hour p.from.hour y.1) (is-absent p.from.minute x.1)
      (is-absent p.to.day w.0) (is-there (is_end_hour form.NoDay) p.to.hour w.1) (is-absent p.to.minute z.1)

  from-present : {a b c : Option ℕ} {t : Instant} → There is_day a → There is_hour b → There is_minute c → t ≡ blank_instant → optional (between 1 days) a ≡ true
      → TimedChange days edition.Present true (record { from = record { day = a; hour = b; minute = c }; to = t })
  from-present (there d x) (there h y) (there g z) e m = rw e (kept.present_from d h g (in-month days d m) (leb-true h 23 y) (leb-true g 59 z))

  from_old : {a b c : Option ℕ} {t : Instant} → Absent a → There is_hour b → There is_minute c → t ≡ blank_instant
      → TimedChange days edition.Of2005 true (record { from = record { day = a; hour = b; minute = c }; to = t })
  from_old absent (there h y) (there g z) e = rw e (kept.old_from h g (leb-true h 23 y) (leb-true g 59 z))

  fits-from : (e : Edition) (p : Period) → (from_fits e p.from && no_instant p.to) ≡ true → days_in days p ≡ true → TimedChange days e true p
  fits-from edition.Present p f m =
      let b = both _ _ f in
      let x = both _ _ b.0 in
      let y = both _ _ x.0 in
      from-present (is-there is_day p.from.day y.0) (is-there is_hour p.from.hour y.1) (is-there is_minute p.from.minute x.1) (instant-blank p.to b.1) (both _ _ m).0
  fits-from edition.Of2005 p f m =
      let b = both _ _ f in
      let x = both _ _ b.0 in
      let y = both _ _ x.0 in
      from_old (is-absent p.from.day y.0) (is-there is_hour p.from.hour y.1) (is-there is_minute p.from.minute x.1) (instant-blank p.to b.1)

  -- AND EACH CHANGE'S.
  pub fits-change : (e : Edition) (o : Opening) (p : Period) → opening_fits e o p ≡ true → days_in days p ≡ true → TimedChange days e (is_from o) p
  fits-change e opening.None p f m = absurd (false≢true f)
  fits-change e opening.Becoming p f m = fits-span e p f m
  fits-change e opening.Temporary p f m = fits-span e p f m
  fits-change e (opening.Probable n) p f m = fits-span e p (both (is_chance n) (period_fits (change_form e) p) f).1 m
  fits-change e (opening.ProbablyTemporary n) p f m = fits-span e p (both (is_chance n) (period_fits (change_form e) p) f).1 m
  fits-change e opening.From p f m = fits-from e p f m

  -- ---- the other way: what names moments is taken by the writer, in any month

  module _ (few : days ≤ 31) where
    -- a day
    day-first : {d : ℕ} → InMonth days d → leb 1 d ≡ true
    day-first {d} m = le-leb 1 d m.first

    day-last : {d : ℕ} → InMonth days d → leb d 31 ≡ true
    day-last {d} m = le-leb d 31 (omega (arith, m.last))

    pub timed-fits : {e : Edition} {p : Period} → Timed days e p → period_fits (own_form e) p ≡ true
    timed-fits (kept.present d h e k m u n v) = rw (day-first m, day-last m, le-leb h 23 u, day-first n, day-last n, le-leb k 24 v)
    timed-fits (kept.one_day d h g m u a b) = rw (day-first m, day-last m, le-leb h 23 u, le-leb 1 g a, le-leb g 24 b)
    timed-fits (kept.two_days d h g m u a b) =
        rw (day-first m, day-last m, le-leb h 23 u, le-leb 1 g (omega arith), lt-leb g 24 (omega arith), le-leb 51 g a, le-leb g 74 b)

    span_fits : {e : Edition} {p : Period} → TimedChange days e false p → period_fits (change_form e) p ≡ true
    span_fits (kept.present d h e k m u n v) = rw (day-first m, day-last m, le-leb h 23 u, day-first n, day-last n, le-leb k 24 v)
    span_fits (kept.old h k u a b) = rw (le-leb h 23 u, le-leb 1 k a, le-leb k 24 b)

    from-fits : {e : Edition} {p : Period} → TimedChange days e true p → (from_fits e p.from && no_instant p.to) ≡ true
    from-fits (kept.present_from d h g m u v) = rw (day-first m, day-last m, le-leb h 23 u, le-leb g 59 v)
    from-fits (kept.old_from h g u v) = rw (le-leb h 23 u, le-leb g 59 v)

    -- a change that keeps its opening
    pub change-fits : (e : Edition) (p : Period) {f : Edition} {q : Period} (o : Opening) → opening_fits e o p ≡ true → TimedChange days f (is_from o) q → opening_fits f o q ≡ true
    change-fits e p opening.None x t = absurd (false≢true x)
    change-fits e p opening.Becoming x t = span_fits t
    change-fits e p opening.Temporary x t = span_fits t
    change-fits e p (opening.Probable n) x t = rw (both (is_chance n) (period_fits (change_form e) p) x).0 (span_fits t)
    change-fits e p (opening.ProbablyTemporary n) x t = rw (both (is_chance n) (period_fits (change_form e) p) x).0 (span_fits t)
    change-fits e p opening.From x t = from-fits t
