-- Moments named in an edition are the moments that were named, and a period read as moments is named again as it was, but that hour 00 at an end becomes 24 of
-- the day before. Each once for the report's period and once for a change, in either edition.
-- Assumes nothing.
use Rattle.std.specs.Prelude.{None, Option, Some}
use Prim.Native.Nat.{ℕ, ◌+◌, ◌*◌, ◌≤◌, ◌<◌}
use native.Mathlib.Omega.{arith}
use mathlib.Core.Path.{◌≡◌, refl, sym, ◌∙◌}
use mathlib.Core.Bool.{Bool, true, false, cond}
use lib.Dec.{leb, eqb}
use borrow.Author.Tests.{le-leb, ne_eqb}
use Rattle.record.specs.declared.aerodrome.Instant.{Instant}
use Rattle.record.specs.declared.aerodrome.Period.{Period}
use Rattle.record.specs.declared.aerodrome.Edition.{Edition}
use Rattle.record.specs.declared.aerodrome.Edition.TheVariants as edition
use Rattle.record.specs.Taf.{blank_instant}
use Rattle.taf_times.specs.declared.kinds.Span.{Span}
use Rattle.taf_times.specs.Moments.{moment, day_at, hour_at, minute_at, day_long, day_from, day_in, day_before, first_from, first_after, period_end, end_hour, end_day, lengthened}
use Rattle.taf_times.specs.Times.{two_figures, dated, period_ends, period_span, change_span, time_at, begin_at, end_at, end_after, end_in, period_in, change_in}
use Rattle.taf_times.specs.Midnight.{end_before, period_before}
use Rattle.taf_times.proofs.Arithmetic.{InMonth}
use Rattle.taf_times.proofs.Arithmetic as moments

-- ---- what the writer takes, of days that are in the month

abbrev pub hour : Option ℕ → Option ℕ → Instant
hour d h = record { day = d; hour = h; minute = None }

abbrev pub hours : Option ℕ → ℕ → Option ℕ → ℕ → Period
hours d h e k = record { from = hour d (Some h); to = hour e (Some k) }

abbrev pub time : Option ℕ → ℕ → ℕ → Period
time d h m = record { from = record { day = d; hour = Some h; minute = Some m }; to = blank_instant }

-- the report's period: G2 is 1 to 24, or 51 to 74
pub data Timed (days : ℕ) : Edition → Period → Type 0 where
  present : (d h e k : ℕ) → InMonth days d → h ≤ 23 → InMonth days e → k ≤ 24 → Timed days edition.Present (hours (Some d) h (Some e) k)
  one_day : (d h g : ℕ) → InMonth days d → h ≤ 23 → 1 ≤ g → g ≤ 24 → Timed days edition.Of2005 (hours (Some d) h None g)
  two_days : (d h g : ℕ) → InMonth days d → h ≤ 23 → 51 ≤ g → g ≤ 74 → Timed days edition.Of2005 (hours (Some d) h None g)

-- a change's: a time under FM, else a period
pub data TimedChange (days : ℕ) : Edition → Bool → Period → Type 0 where
  present : (d h e k : ℕ) → InMonth days d → h ≤ 23 → InMonth days e → k ≤ 24 → TimedChange days edition.Present false (hours (Some d) h (Some e) k)
  present_from : (d h m : ℕ) → InMonth days d → h ≤ 23 → m ≤ 59 → TimedChange days edition.Present true (time (Some d) h m)
  old : (h k : ℕ) → h ≤ 23 → 1 ≤ k → k ≤ 24 → TimedChange days edition.Of2005 false (hours None h None k)
  old_from : (h m : ℕ) → h ≤ 23 → m ≤ 59 → TimedChange days edition.Of2005 true (time None h m)

-- ---- moments that can be named in either edition

-- a report's: it begins in the month, on the hour, and lasts up to 48 hours
pub record Whole (days : ℕ) (w : Span) : Type 0 where
  pub day : InMonth days (day_at w.from)
  pub begins : minute_at w.from ≡ 0
  pub ends : minute_at w.to ≡ 0
  pub lasts : w.from < w.to
  pub most : w.to ≤ w.from + 2 * day_long

-- a change's within it, of a report of up to 24 hours: under FM to its end, else from hour to hour
pub record Within (w : Span) (f : Bool) (s : Span) : Type 0 where
  pub short : w.to ≤ w.from + day_long
  pub least : w.from ≤ s.from
  pub before : s.from < w.to
  pub lasts : s.from < s.to
  pub most : s.to ≤ w.to
  pub begins : cond f 0 (minute_at s.from) ≡ 0
  pub ends : minute_at s.to ≡ 0
  pub whole : cond f s.to w.to ≡ w.to

figures : (n : ℕ) → n ≤ 99 → two_figures (Some n) ≡ n
figures n h = rw (le-leb n 99 h)

-- ---- the report's period

module _ (days : ℕ) (long : 28 ≤ days) (few : days ≤ 31) where
  dated-hour : (start d h : ℕ) → InMonth days d → h ≤ 24 → dated days start (hour (Some d) (Some h)) ≡ moment (day_from days start d) h 0
  unfolding dated
  dated-hour start d h m u = rw (figures d (omega (arith, m.last)), figures h (omega arith))

  dated-time : (start d h m : ℕ) → InMonth days d → h ≤ 23 → m ≤ 59 → dated days start (time (Some d) h m).from ≡ moment (day_from days start d) h m
  unfolding dated
  dated-time start d h m i u v = rw (figures d (omega (arith, i.last)), figures h (omega arith), figures m (omega arith))

  -- moments near the start of a report
  module _ (w : Span) (v : Whole days w) (t : ℕ) (near : t ≤ w.from + 2 * day_long) where
    some : InMonth days (day_at w.from)
    some = v.day

    pub near-day : w.from ≤ t → InMonth days (day_in days (day_at t))
    near-day a = moments.in-month days (day_at t) (omega (arith, v.day.first)) (omega (arith, v.day.last))

    pub near-end : w.from ≤ t → InMonth days (end_day days t)
    near-end a = moments.end-in-month days t (omega (arith, v.day.first)) (omega (arith, v.day.last))

    begin-dated : w.from ≤ t → minute_at t ≡ 0 → dated days (day_at w.from) (begin_at days t) ≡ t
    begin-dated a z =
        dated-hour (day_at w.from) (day_in days (day_at t)) (hour_at t) (near-day a) (omega arith)
        ∙ moments.begin-kept days w.from t long v.day.first v.day.last near a z

    time-dated : w.from ≤ t → dated days (day_at w.from) (time_at days t) ≡ t
    time-dated a =
        dated-time (day_at w.from) (day_in days (day_at t)) (hour_at t) (minute_at t) (near-day a) (omega arith) (omega arith)
        ∙ moments.time-kept days w.from t long v.day.first v.day.last near a

    end-dated : w.from < t → minute_at t ≡ 0 → dated days (day_at w.from) (end_at days t) ≡ t
    end-dated a z =
        dated-hour (day_at w.from) (end_day days t) (end_hour t) (near-end (omega arith)) (moments.end-hour-range t).1
        ∙ moments.end_kept days w.from t long v.day.first v.day.last near a z

  module _ (w : Span) (v : Whole days w) where
    start_is : two_figures (Some (day_in days (day_at w.from))) ≡ day_at w.from
    start_is = rw (moments.day-stays days (day_at w.from) v.day.last) (figures (day_at w.from) (omega (arith, v.day.last)))

    begins-kept : dated days (two_figures (Some (day_in days (day_at w.from)))) (begin_at days w.from) ≡ w.from
    begins-kept = rw start_is (begin-dated w v w.from (omega arith) (omega arith) v.begins)

    ends-kept : (e : Edition) → period_ends e days (record { from = begin_at days w.from; to = end_in e days w }) ≡ w.to
    ends-kept edition.Present = rw start_is (end-dated w v w.to v.most v.lasts v.ends)
    ends-kept edition.Of2005 =
        let g = lengthened w.from w.to (end_hour w.to) in
        rw (begins-kept, figures g (moments.lengthened-small w.from w.to (end_hour w.to) (moments.end-hour-range w.to).1))
        (moments.period-kept w.from w.to v.lasts v.most v.ends)

    -- A REPORT'S MOMENTS, NAMED IN AN EDITION, ARE THE MOMENTS THAT ARE NAMED.
    pub period-kept : (e : Edition) → period_span e days (period_in e days w) ≡ w
    unfolding period_span period_in
    period-kept e = λ i. record { from = begins-kept i; to = ends-kept e i }

    -- it is one that the writer of that edition takes
    pub period-timed : (e : Edition) → Timed days e (period_in e days w)
    unfolding period_in lengthened
    period-timed edition.Present =
        present (day_in days (day_at w.from)) (hour_at w.from) (end_day days w.to) (end_hour w.to) (near-day w v w.from (omega arith) (omega arith)) (omega arith)
        (near-end w v w.to v.most (omega (arith, v.lasts))) (moments.end-hour-range w.to).1
    period-timed edition.Of2005 =
        let d = day_in days (day_at w.from) in
        let m = near-day w v w.from (omega arith) (omega arith) in
        let k = end_hour w.to in
        let r = moments.end-hour-range w.to in
        elim (leb w.to (w.from + day_long)) as (λ b. Timed days edition.Of2005 (hours (Some d) (hour_at w.from) None (cond b k (k + 50))))
        [ true ↦ one_day d (hour_at w.from) k m (omega arith) r.0 r.1 | false ↦ two_days d (hour_at w.from) (k + 50) m (omega arith) (omega (arith, r.0)) (omega (arith, r.1)) ]

  -- the other way: named again as it was
  begin-again : (start d h : ℕ) → InMonth days d → h ≤ 23 → begin_at days (dated days start (hour (Some d) (Some h))) ≡ hour (Some d) (Some h)
  begin-again start d h m u =
      let n = day_from days start d in
      let a : day_at (moment n h 0) ≡ n = omega arith in
      let b : hour_at (moment n h 0) ≡ h = omega arith in
      rw (dated-hour start d h m (omega arith), a, b, moments.day-again days start d m.first m.last)

  time-again : (start d h g : ℕ) → InMonth days d → h ≤ 23 → g ≤ 59 → time_at days (dated days start (time (Some d) h g).from) ≡ (time (Some d) h g).from
  time-again start d h g m u v =
      let n = day_from days start d in
      let a : day_at (moment n h g) ≡ n = omega arith in
      let b : hour_at (moment n h g) ≡ h = omega arith in
      let c : minute_at (moment n h g) ≡ g = omega arith in
      rw (dated-time start d h g m u v, a, b, c, moments.day-again days start d m.first m.last)

  end-again : (start e k : ℕ) → InMonth days e → k ≤ 24 → end_at days (dated days start (hour (Some e) (Some k))) ≡ end_before days (hour (Some e) (Some k))
  end-again start e k m u =
      rw (dated-hour start e k m u, moments.end-day-again days start e m.first m.last k u, moments.end-hour-again (day_from days start e) k u)
      (elim (eqb k 0) as (λ b. ◌≡◌ {A = Instant} (hour (Some (cond b (day_before days e) e)) (Some (cond b 24 k))) (cond b (hour (Some (day_before days e)) (Some 24)) (hour (Some e) (Some k)))) [ true ↦ refl | false ↦ refl ])

  -- an end without a day is not at hour 00
  end_stays : (k : ℕ) → 1 ≤ k → hour None (Some k) ≡ end_before days (hour None (Some k))
  end_stays k a = rw (ne_eqb k 0 (λ z. omega arith))

  after-again : (s g : ℕ) → 1 ≤ g → g ≤ 99 → moments.Ending s g (period_end s g)
      → end_after (record { from = s; to = period_end s (two_figures (Some g)) }) ≡ end_before days (hour None (Some g))
  after-again s g a b r = rw (figures g b, r.hour) (end_stays g a)

  -- A PERIOD IS NAMED AGAIN AS IT WAS, but for hour 00 at its end.
  pub period-again : {e : Edition} {p : Period} → Timed days e p → period_in e days (period_span e days p) ≡ period_before days p
  unfolding period_in period_span
  period-again (present d h e k m u n v) = let start = two_figures (Some d) in λ i. record { from = begin-again start d h m u i; to = end-again start e k n v i }
  period-again (one_day d h g m u a b) =
      let start = two_figures (Some d) in
      let s = dated days start (hour (Some d) (Some h)) in
      λ i. record { from = begin-again start d h m u i; to = after-again s g a (omega arith) (moments.ending-short s g a b) i }
  period-again (two_days d h g m u a b) =
      let start = two_figures (Some d) in
      let s = dated days start (hour (Some d) (Some h)) in
      λ i. record { from = begin-again start d h m u i; to = after-again s g (omega arith) (omega arith) (moments.ending-long s g a b) i }

  -- and it names moments of a report
  begins-is : (d h : ℕ) → InMonth days d → h ≤ 23 → dated days (two_figures (Some d)) (hour (Some d) (Some h)) ≡ moment d h 0
  begins-is d h m u = rw (figures d (omega (arith, m.last)), dated-hour d d h m (omega arith), moments.start-stays days d)

  whole_of : (d h : ℕ) (w : Span) → InMonth days d → h ≤ 23 → w.from ≡ moment d h 0 → minute_at w.to ≡ 0 → w.from < w.to → w.to ≤ w.from + 2 * day_long → Whole days w
  whole_of d h w m u f z a b =
      let day : day_at w.from ≡ d = omega arith in
      record { day = rw day m; begins = omega arith; ends = z; lasts = a; most = b }

  pub period-whole : {e : Edition} {p : Period} → Timed days e p → let w = period_span e days p in w.from < w.to → w.to ≤ w.from + 2 * day_long → Whole days w
  unfolding period_span
  period-whole (present d h e k m u n v) a b =
      let start = two_figures (Some d) in
      let z : minute_at (moment (day_from days start e) k 0) ≡ 0 = omega arith in
      whole_of d h _ m u (begins-is d h m u) (rw (dated-hour start e k n v) z) a b
  period-whole (one_day d h g m u x y) a b =
      whole_of d h _ m u (begins-is d h m u) (rw (figures g (omega arith)) (moments.ending-short (dated days (two_figures (Some d)) (hour (Some d) (Some h))) g x y).minute) a b
  period-whole (two_days d h g m u x y) a b =
      whole_of d h _ m u (begins-is d h m u) (rw (figures g (omega arith)) (moments.ending-long (dated days (two_figures (Some d)) (hour (Some d) (Some h))) g x y).minute) a b

  -- ---- a change

  module _ (w : Span) (v : Whole days w) where
    module _ (s : Span) where
      near : {f : Bool} → Within w f s → s.to ≤ w.from + 2 * day_long
      near r = omega (arith, r.short, r.most)

      from_named : {f : Bool} → Within w f s → first_from w.from (two_figures (Some (hour_at s.from))) (two_figures (Some (minute_at s.from))) ≡ s.from
      from_named r =
          rw (figures (hour_at s.from) (omega arith), figures (minute_at s.from) (omega arith))
          (moments.from-kept w.from s.from r.least (omega (arith, r.short, r.before)))

      -- A CHANGE'S MOMENTS, NAMED IN AN EDITION, ARE THE MOMENTS THAT ARE NAMED.
      pub change-kept : (e : Edition) (f : Bool) → Within w f s → change_span e days w f (change_in e days f s) ≡ s
      unfolding change_span change_in
      change-kept edition.Present true r =
          λ i. record { from = time-dated w v s.from (omega (arith, near r, r.lasts)) r.least i; to = sym r.whole i }
      change-kept edition.Present false r =
          λ i. record {
            from = begin-dated w v s.from (omega (arith, near r, r.lasts)) r.least r.begins i;
            to = end-dated w v s.to (near r) (omega (arith, r.least, r.lasts)) r.ends i;
          }
      change-kept edition.Of2005 true r = λ i. record { from = from_named r i; to = sym r.whole i }
      change-kept edition.Of2005 false r =
          let from : first_from w.from (two_figures (Some (hour_at s.from))) 0 ≡ s.from = rw r.begins at (from_named r) in
          let k : two_figures (Some (end_hour s.to)) ≡ end_hour s.to = figures (end_hour s.to) (omega (arith, (moments.end-hour-range s.to).1)) in
          let to : first_after s.from (end_hour s.to) ≡ s.to = moments.after_kept s.from s.to r.lasts (omega (arith, r.least, r.most, r.short)) r.ends in
          let to_named : first_after (first_from w.from (two_figures (Some (hour_at s.from))) 0) (two_figures (Some (end_hour s.to))) ≡ s.to = rw (from, k) to in
          λ i. record { from = from i; to = to_named i }

      pub change-timed : (e : Edition) (f : Bool) → Within w f s → TimedChange days e f (change_in e days f s)
      unfolding change_in
      change-timed edition.Present true r =
          present_from (day_in days (day_at s.from)) (hour_at s.from) (minute_at s.from) (near-day w v s.from (omega (arith, near r, r.lasts)) r.least) (omega arith) (omega arith)
      change-timed edition.Present false r =
          present (day_in days (day_at s.from)) (hour_at s.from) (end_day days s.to) (end_hour s.to) (near-day w v s.from (omega (arith, near r, r.lasts)) r.least) (omega arith)
          (near-end w v s.to (near r) (omega (arith, r.least, r.lasts))) (moments.end-hour-range s.to).1
      change-timed edition.Of2005 true r = old_from (hour_at s.from) (minute_at s.from) (omega arith) (omega arith)
      change-timed edition.Of2005 false r = old (hour_at s.from) (end_hour s.to) (omega arith) (moments.end-hour-range s.to).0 (moments.end-hour-range s.to).1

  -- A CHANGE IS NAMED AGAIN AS IT WAS, but for hour 00 at its end.
  pub change-again : {e : Edition} {f : Bool} {p : Period} (w : Span) → TimedChange days e f p → change_in e days f (change_span e days w f p) ≡ period_before days p
  unfolding change_span change_in
  change-again w (present d h e k m u n v) = let start = day_at w.from in λ i. record { from = begin-again start d h m u i; to = end-again start e k n v i }
  change-again w (present_from d h g m u v) = λ i. record { from = time-again (day_at w.from) d h g m u v i; to = blank_instant }
  change-again w (old h k u a b) =
      let f = moments.from-read w.from h 0 u (omega arith) in
      let t = moments.after_read (first_from w.from h 0) k a b in
      rw (figures h (omega arith), figures k (omega arith), f.hour, t.hour) (λ i. record { from = hour None (Some h); to = end_stays k a i })
  change-again w (old_from h m u v) =
      let f = moments.from-read w.from h m u v in
      rw (figures h (omega arith), figures m (omega arith), f.hour, f.minute)

  -- and it names moments of a change
  pub change-within : {e : Edition} {f : Bool} {p : Period} (w : Span) → Whole days w → TimedChange days e f p → let s = change_span e days w f p in
      w.to ≤ w.from + day_long → w.from ≤ s.from → s.from < w.to → s.from < s.to → s.to ≤ w.to → Within w f s
  unfolding change_span
  change-within w v (present d h e k m u n y) x a b c g =
      let start = day_at w.from in
      let i : minute_at (moment (day_from days start d) h 0) ≡ 0 = omega arith in
      let j : minute_at (moment (day_from days start e) k 0) ≡ 0 = omega arith in
      record { short = x; least = a; before = b; lasts = c; most = g; begins = rw (dated-hour start d h m (omega arith)) i; ends = rw (dated-hour start e k n y) j; whole = refl }
  change-within w v (present_from d h q m u y) x a b c g = record { short = x; least = a; before = b; lasts = c; most = g; begins = refl; ends = v.ends; whole = refl }
  change-within w v (old h k u y z) x a b c g =
      let f : minute_at (first_from w.from (two_figures (Some h)) 0) ≡ 0 = rw (figures h (omega arith)) (moments.from-read w.from h 0 u (omega arith)).minute in
      let t : minute_at (first_after (first_from w.from (two_figures (Some h)) 0) (two_figures (Some k))) ≡ 0 = rw (figures k (omega arith)) (moments.after_read (first_from w.from (two_figures (Some h)) 0) k y z).minute in
      record { short = x; least = a; before = b; lasts = c; most = g; begins = f; ends = t; whole = refl }
  change-within w v (old_from h m u y) x a b c g = record { short = x; least = a; before = b; lasts = c; most = g; begins = refl; ends = v.ends; whole = refl }
