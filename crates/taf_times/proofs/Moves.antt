-- A TAF whose times are moved: its moments stay, what comes is a TAF that can be moved, and moved back it is what it was, but that hour 00 at an end is 24 of
-- the day before.
-- Assumes nothing.
use Rattle.std.specs.Prelude.{Err, Ok, Result, ⊤}
use Prim.Native.Nat.{ℕ, ◌+◌, ◌*◌, ◌≤◌}
use native.Mathlib.Omega.{arith}
use mathlib.Core.Path.{◌≡◌, refl, sym, ◌∙◌}
use mathlib.Core.Bool.{Bool, true, false, cond, ◌||◌}
use mathlib.Core.List.{List, [], ◌∷◌, ◌++◌, map}
use lib.ListN.{length, drop, length-map, take-append-drop}
use lib.Dec.{leb, eqb}
use borrow.Author.Tests.{leb-true, ltb-true, le-leb, lt-ltb, ne_eqb}
use Rattle.figures.specs.Figures.{every}
use Rattle.shapes.proofs.Patterns.{both}
use Rattle.figures.proofs.Impossible.{impossible}
use Rattle.text.specs.declared.kinds.Refusal.{Refusal}
use Rattle.text.specs.declared.kinds.Refusal.TheVariants as refusal
use Rattle.text.specs.Judge.{judge}
use Rattle.text.proofs.Judging.{fine, and-then}
use Rattle.record.specs.declared.aerodrome.Period.{Period}
use Rattle.record.specs.declared.aerodrome.Edition.{Edition}
use Rattle.record.specs.declared.aerodrome.Edition.TheVariants as edition
use Rattle.record.specs.declared.aerodrome.Change.{Change}
use Rattle.record.specs.declared.aerodrome.Taf.{Taf}
use Rattle.record.specs.Taf.{set_period, blank_period}
use Rattle.record.specs.Arrays.{Each}
use Rattle.record.proofs.Counted.{taken, dropped}
use Rattle.taf_times.specs.declared.kinds.Span.{Span}
use Rattle.taf_times.specs.Moments.{day_long}
use Rattle.taf_times.specs.Times.{is_from, period_in, change_in}
use Rattle.taf_times.specs.Move.{counted, moments_of, days_in, month_fits, whole_fits, span_fits, whole_of, change_of, times_fit, judge_times, moved_leg, moved_change, moved_changes, times_in}
use Rattle.taf_times.specs.Midnight.{period_before, change_before, midnights_before}
use Rattle.taf_times.proofs.Kept.{Timed, TimedChange, Whole, Within, period-kept, period-timed, period-again, period-whole, change-kept, change-timed, change-again, change-within}
use Rattle.taf_times.proofs.Kept as kept

-- ---- lists

each_map : {A B : Type 0} {P : A → Type 0} (Q : B → Type 0) (f : A → B) → ((x : A) → P x → Q (f x)) → (xs : List A) → Each P xs → Each Q (map f xs)
each_map Q f k [] a = tt
each_map Q f k (x ∷ xs) a = (k x a.0, each_map Q f k xs a.1)

each-true : {A : Type 0} {P : A → Type 0} (test : A → Bool) → ((x : A) → P x → test x ≡ true) → (xs : List A) → Each P xs → every test xs ≡ true
each-true test k [] a = refl
each-true test k (x ∷ xs) a = rw (k x a.0, each-true test k xs a.1)

each_twice : {A B C : Type 0} {P : A → Type 0} (f : A → B) (g : B → C) (h : A → C) → ((x : A) → P x → g (f x) ≡ h x) → (xs : List A) → Each P xs → map g (map f xs) ≡ map h xs
each_twice f g h k [] a = refl
each_twice f g h k (x ∷ xs) a = rw (k x a.0, each_twice f g h k xs a.1)

-- ---- a TAF that the writer takes, of days in the month, whose times fit one another

pub record Fit (days : ℕ) (t : Taf) : Type 0 where
  pub plain : t.leg.nil ≡ false
  pub period : Timed days t.edition t.leg.period
  pub whole : Whole days (whole_of days t)
  pub lasts : whole_fits (whole_of days t) t.changes.count ≡ true
  pub many : length (counted t.changes) ≡ t.changes.count
  pub each : Each (λ (c : Change). TimedChange days t.edition (is_from c.opening) c.period × Within (whole_of days t) (is_from c.opening) (change_of t.edition days (whole_of days t) c)) (counted t.changes)

-- the test of the month
days-timed : {days : ℕ} {e : Edition} {p : Period} → Timed days e p → days_in days p ≡ true
days-timed {days} (kept.present d h e k m u n v) = rw (le-leb 1 d m.first, le-leb d days m.last, le-leb 1 e n.first, le-leb e days n.last)
days-timed {days} (kept.one_day d h g m u a b) = rw (le-leb 1 d m.first, le-leb d days m.last)
days-timed {days} (kept.two_days d h g m u a b) = rw (le-leb 1 d m.first, le-leb d days m.last)

days-change : {days : ℕ} {e : Edition} {f : Bool} {p : Period} → TimedChange days e f p → days_in days p ≡ true
days-change {days} (kept.present d h e k m u n v) = rw (le-leb 1 d m.first, le-leb d days m.last, le-leb 1 e n.first, le-leb e days n.last)
days-change {days} (kept.present_from d h g m u v) = rw (le-leb 1 d m.first, le-leb d days m.last)
days-change (kept.old h k u a b) = refl
days-change (kept.old_from h m u v) = refl

span-test : {w : Span} {f : Bool} {s : Span} → Within w f s → span_fits w s ≡ true
span-test {w} {s = s} r = rw (lt-ltb s.from s.to r.lasts, le-leb w.from s.from r.least, lt-ltb s.from w.to r.before, le-leb s.to w.to r.most)

module _ (days : ℕ) (long : 28 ≤ days) (few : days ≤ 31) where
  -- IT IS JUDGED FINE.
  pub fit-judged : (t : Taf) → Fit days t → judge_times days t ≡ Ok tt
  unfolding judge_times month_fits times_fit
  fit-judged t f =
      rw (
        le-leb 28 days long,
        le-leb days 31 few,
        days-timed f.period,
        each-true (λ (c : Change). days_in days c.period) (λ c x. days-change x.0) (counted t.changes) f.each,
        f.plain,
        f.lasts,
        each-true (λ (c : Change). span_fits (whole_of days t) (change_of t.edition days (whole_of days t) c)) (λ c x. span-test x.1) (counted t.changes) f.each,
      )

  -- ---- the TAF that comes

  module _ (t : Taf) (f : Fit days t) (to : Edition) where
    abbrev w : Span
    w = whole_of days t

    abbrev moving : Change → Change
    moving c = moved_change t.edition to days w c

    abbrev came : Taf
    came =
        record {
          edition = to;
          leg = set_period (period_in to days w) t.leg;
          changes = record { items = map moving (counted t.changes) ++ drop t.changes.count t.changes.items; count = t.changes.count };
        }

    pub comes : times_in to days t ≡ came
    unfolding times_in moved_leg moved_changes
    comes = rw f.plain

    came-changes : counted came.changes ≡ map moving (counted t.changes)
    came-changes = taken moving t.changes.count t.changes.items f.many

    -- EVERY MOMENT STAYS: of the report,
    pub whole-stays : whole_of days came ≡ w
    whole-stays = period-kept days long few w f.whole to

    -- and of each change
    change-stays : (c : Change) → Within w (is_from c.opening) (change_of t.edition days w c) → change_of to days w (moving c) ≡ change_of t.edition days w c
    change-stays c r = change-kept days long few w f.whole (change_of t.edition days w c) to (is_from c.opening) r

    -- IT CAN BE MOVED.
    pub came-fit : Fit days came
    came-fit =
        record {
          plain = f.plain;
          period = period-timed days long few w f.whole to;
          whole = rw whole-stays f.whole;
          lasts = rw whole-stays f.lasts;
          many = rw came-changes (length-map (counted t.changes) moving ∙ f.many);
          each = rw (came-changes, whole-stays) (each_map (λ (c : Change). TimedChange days to (is_from c.opening) c.period × Within w (is_from c.opening) (change_of to days w c)) moving
              (λ c x. (change-timed days long few w f.whole (change_of t.edition days w c) to (is_from c.opening) x.1, rw (change-stays c x.1) x.1)) (counted t.changes) f.each);
        }

    -- MOVED BACK IT IS WHAT IT WAS, but for ends at hour 00.
    back-change : (c : Change) → TimedChange days t.edition (is_from c.opening) c.period → Within w (is_from c.opening) (change_of t.edition days w c)
        → moved_change to t.edition days w (moving c) ≡ change_before days c
    back-change c x r =
        let p : change_in t.edition days (is_from c.opening) (change_of to days w (moving c)) ≡ period_before days c.period = rw (change-stays c r) (change-again days long few w x) in
        λ i. record { opening = c.opening; period = p i; body = c.body }

    pub back : times_in t.edition days came ≡ midnights_before days t
    unfolding times_in moved_leg moved_changes midnights_before
    back =
        let n = t.changes.count in
        let xs = t.changes.items in
        let p : period_in t.edition days (whole_of days came) ≡ period_before days t.leg.period = rw whole-stays (period-again days long few f.period) in
        let l : map (moved_change to t.edition days (whole_of days came)) (counted came.changes) ≡ map (change_before days) (counted t.changes) = rw (came-changes, whole-stays) (each_twice moving (moved_change to t.edition days w) (change_before days) (λ c x. back-change c x.0 x.1) (counted t.changes) f.each) in
        rw (f.plain, p, l, dropped moving n xs f.many)

    pub came-moments : moments_of days came ≡ moments_of days t
    unfolding moments_of
    came-moments =
        let l : map (change_of to days (whole_of days came)) (counted came.changes) ≡ map (change_of t.edition days w) (counted t.changes) = rw (came-changes, whole-stays) (each_twice moving (change_of to days w) (change_of t.edition days w) (λ c x. change-stays c x.1) (counted t.changes) f.each) in
        rw (f.plain, l, whole-stays)

-- ---- a TAF that the writer takes, of days in the month

-- a NIL report, which has no times, or one with its period and its changes
pub data Timely (days : ℕ) (t : Taf) : Type 0 where
  silent : t.leg.nil ≡ true → t.leg.period ≡ blank_period → t.changes.count ≡ 0 → Timely days t
  timed : t.leg.nil ≡ false → Timed days t.edition t.leg.period → length (counted t.changes) ≡ t.changes.count
      → Each (λ (c : Change). TimedChange days t.edition (is_from c.opening) c.period) (counted t.changes) → Timely days t

-- what the test of a change says
module _ (days : ℕ) (long : 28 ≤ days) (few : days ≤ 31) (e : Edition) (w : Span) (v : Whole days w) where
  abbrev TimedIn : Change → Type 0
  TimedIn c = TimedChange days e (is_from c.opening) c.period

  abbrev FitIn : Change → Type 0
  FitIn c = TimedIn c × Within w (is_from c.opening) (change_of e days w c)

  abbrev fits : Change → Bool
  fits c = span_fits w (change_of e days w c)

  within-one : (c : Change) → w.to ≤ w.from + day_long → TimedIn c → fits c ≡ true → FitIn c
  within-one c short x b =
      let s = change_of e days w c in
      let a = both _ _ b in
      let d = both _ _ a.0 in
      let g = both _ _ d.0 in
      (x, change-within days long few w v x short (leb-true w.from s.from g.1) (ltb-true s.from w.to d.1) (ltb-true s.from s.to g.0) (leb-true s.to w.to a.1))

  within-each : w.to ≤ w.from + day_long → (cs : List Change) → Each TimedIn cs → every fits cs ≡ true → Each FitIn cs
  within-each short [] x b = tt
  within-each short (c ∷ cs) x b = let a = both (fits c) (every fits cs) b in (within-one c short x.0 a.0, within-each short cs x.1 a.1)

  -- a report with changes lasts up to 24 hours
  within_all : (n : ℕ) → (eqb n 0 || leb w.to (w.from + day_long)) ≡ true → (cs : List Change) → length cs ≡ n → Each TimedIn cs → every fits cs ≡ true → Each FitIn cs
  within_all n l [] m x b = tt
  within_all n l (c ∷ cs) m x b = within-each (leb-true w.to (w.from + day_long) (rw (ne_eqb n 0 (λ z. omega arith)) at l)) (c ∷ cs) x b

pub fit_of : (days : ℕ) → 28 ≤ days → days ≤ 31 → (t : Taf) → t.leg.nil ≡ false → Timed days t.edition t.leg.period → length (counted t.changes) ≡ t.changes.count
    → Each (λ (c : Change). TimedChange days t.edition (is_from c.opening) c.period) (counted t.changes) → times_fit days t ≡ true → Fit days t
unfolding times_fit
fit_of days long few t plain p many x b =
    let w = whole_of days t in
    let a = both _ _ (rw plain at b) in
    let l = both _ _ a.0 in
    let k = both _ _ l.0 in
    let v = period-whole days long few p (ltb-true w.from w.to k.0) (leb-true w.to (w.from + 2 * day_long) k.1) in
    record { plain = plain; period = p; whole = v; lasts = a.0; many = many; each = within_all days long few t.edition w v t.changes.count l.1 (counted t.changes) many x a.1 }

-- ---- moved, and moved back

-- a NIL report changes its edition and nothing else
module _ (days : ℕ) (t : Taf) (nil : t.leg.nil ≡ true) (none : t.changes.count ≡ 0) (to : Edition) where
  silent-comes : times_in to days t ≡ record { edition = to; leg = t.leg; changes = t.changes }
  unfolding times_in moved_leg moved_changes
  silent-comes = rw (nil, none)

  silent-judged : judge_times days t ≡ Ok tt → judge_times days (record { edition = to; leg = t.leg; changes = t.changes }) ≡ Ok tt
  unfolding judge_times month_fits times_fit
  silent-judged e = rw nil (rw nil at e)

  silent-moments : moments_of days (record { edition = to; leg = t.leg; changes = t.changes }) ≡ moments_of days t
  unfolding moments_of
  silent-moments = rw nil

  silent-stays : t.leg.period ≡ blank_period → midnights_before days t ≡ t
  unfolding midnights_before
  silent-stays p = rw (p, none)

-- what is judged fine: the month's length, and the times
pub month-days : (days : ℕ) (t : Taf) → month_fits days t ≡ true → (28 ≤ days) × (days ≤ 31)
unfolding month_fits
month-days days t m = let b = both _ _ (both _ _ (both _ _ m).0).0 in (leb-true 28 days b.0, leb-true days 31 b.1)

times-fit : (b : Bool) → ◌≡◌ {A = Result ⊤ Refusal} (cond b (Ok tt) (Err refusal.Times)) (Ok tt) → b ≡ true
times-fit true e = refl
times-fit false e = impossible (cc)

pub judged-fine : (days : ℕ) (t : Taf) → judge_times days t ≡ Ok tt → (month_fits days t ≡ true) × (times_fit days t ≡ true)
unfolding judge_times
judged-fine days t e =
    let a = and-then (judge (month_fits days t) true) (cond (times_fit days t) (Ok tt) (Err refusal.Times)) e in
    ((fine (month_fits days t) true a.0).0, times-fit (times_fit days t) a.1)

-- A TAF THAT IS MOVED: it can be moved back, and what comes back; and every moment of it stays.
pub record MovedBack (days : ℕ) (t came : Taf) : Type 0 where
  pub timely : Timely days came
  pub judged : judge_times days came ≡ Ok tt
  pub back : times_in t.edition days came ≡ midnights_before days t
  pub moments : moments_of days came ≡ moments_of days t

each_first : {A : Type 0} (P Q : A → Type 0) (xs : List A) → Each (λ x. P x × Q x) xs → Each P xs
each_first P Q [] a = tt
each_first P Q (x ∷ xs) a = (a.0.0, each_first P Q xs a.1)

pub moved_back : (days : ℕ) (t : Taf) (to : Edition) → Timely days t → judge_times days t ≡ Ok tt → MovedBack days t (times_in to days t)
moved_back days t to (silent nil p none) e =
    rw (silent-comes days t nil none to)
    (record {
      timely = silent nil p none;
      judged = silent-judged days t nil none to e;
      back = silent-comes days (record { edition = to; leg = t.leg; changes = t.changes }) nil none t.edition ∙ sym (silent-stays days t nil none to p);
      moments = silent-moments days t nil none to;
    })
moved_back days t to (timed plain p many x) e =
    let k = judged-fine days t e in
    let j = month-days days t k.0 in
    let f = fit_of days j.0 j.1 t plain p many x k.1 in
    let c = came days j.0 j.1 t f to in
    let g = came-fit days j.0 j.1 t f to in
    rw (comes days j.0 j.1 t f to)
    (record {
      timely = timed g.plain g.period g.many (each_first (λ (d : Change). TimedChange days to (is_from d.opening) d.period) (λ (d : Change). Within (whole_of days c) (is_from d.opening) (change_of to days (whole_of days c) d)) (counted c.changes) g.each);
      judged = fit-judged days j.0 j.1 c g;
      back = back days j.0 j.1 t f to;
      moments = came-moments days j.0 j.1 t f to;
    })

-- ---- in the 2005 edition no end is at hour 00

period-old : {days : ℕ} {p : Period} → Timed days edition.Of2005 p → period_before days p ≡ p
period-old (kept.one_day d h g m u a b) = rw (ne_eqb g 0 (λ z. omega arith))
period-old (kept.two_days d h g m u a b) = rw (ne_eqb g 0 (λ z. omega arith))

change-old : {days : ℕ} {f : Bool} {p : Period} → TimedChange days edition.Of2005 f p → period_before days p ≡ p
change-old (kept.old h k u a b) = rw (ne_eqb k 0 (λ z. omega arith))
change-old (kept.old_from h m u v) = refl

each_same : {A : Type 0} {P : A → Type 0} (f : A → A) → ((x : A) → P x → f x ≡ x) → (xs : List A) → Each P xs → map f xs ≡ xs
each_same f k [] a = refl
each_same f k (x ∷ xs) a = rw (k x a.0, each_same f k xs a.1)

-- SO THAT A RECORD OF 2005 COMES BACK WHOLE.
pub old-stays : (days : ℕ) (t : Taf) → t.edition ≡ edition.Of2005 → Timely days t → midnights_before days t ≡ t
old-stays days t e (silent nil p none) = silent-stays days t nil none t.edition p
old-stays days t e (timed plain p many x) = stays
  where
    q : period_before days t.leg.period ≡ t.leg.period
    q = period-old (rw e at p)

    l : map (change_before days) (counted t.changes) ≡ counted t.changes
    l = each_same (change_before days) (λ c y. λ i. record { opening = c.opening; period = change-old (rw e at y) i; body = c.body }) (counted t.changes) x

    stays : midnights_before days t ≡ t
    stays = unfold midnights_before in rw (q, l, take-append-drop t.changes.count t.changes.items)
