-- Moments read from days, hours and minutes and written as them again, both ways, in both editions.
-- Assumes nothing.
use Prim.Native.Nat.{ℕ, ◌+◌, ◌-◌, ◌*◌, ◌≤◌, ◌<◌}
use native.Mathlib.Omega.{arith}
use mathlib.Core.Path.{◌≡◌, refl, ◌∙◌}
use mathlib.Core.Bool.{true, false, cond}
use mathlib.Core.Logic.{◌⊎◌, ⊎_elim, inl, inr}
use lib.Dec.{leb, ltb, eqb}
use borrow.Author.Tests.{leb-true, leb-false, ltb-true, ltb-false, eqb-true, eqb-false, le-leb, lt-leb}
use Rattle.scales.proofs.Laws.{reached}
use Rattle.taf_times.specs.Moments.{moment, day_at, hour_at, minute_at, day_long, day_from, day_in, day_before, first_from, first_after, period_end, is_midnight, end_hour, end_day, lengthened}

-- ---- what a choice by a test comes to

-- both branches at once
by-leb : (a b x y : ℕ) → ((a ≤ b) × (cond (leb a b) x y ≡ x)) ⊎ ((b < a) × (cond (leb a b) x y ≡ y))
by-leb a b x y =
    elim (leb a b) as (λ t. leb a b ≡ t → ((a ≤ b) × (cond t x y ≡ x)) ⊎ ((b < a) × (cond t x y ≡ y)))
    [ true ↦ λ e. inl (leb-true a b e, refl) | false ↦ λ e. inr (leb-false a b e, refl) ] refl

by-ltb : (a b x y : ℕ) → ((a < b) × (cond (ltb a b) x y ≡ x)) ⊎ ((b ≤ a) × (cond (ltb a b) x y ≡ y))
by-ltb a b x y =
    elim (ltb a b) as (λ t. ltb a b ≡ t → ((a < b) × (cond t x y ≡ x)) ⊎ ((b ≤ a) × (cond t x y ≡ y)))
    [ true ↦ λ e. inl (ltb-true a b e, refl) | false ↦ λ e. inr (ltb-false a b e, refl) ] refl

by_eqb : (a b x y : ℕ) → ((a ≡ b) × (cond (eqb a b) x y ≡ x)) ⊎ ((a ≡ b → ⊥) × (cond (eqb a b) x y ≡ y))
by_eqb a b x y =
    elim (eqb a b) as (λ t. eqb a b ≡ t → ((a ≡ b) × (cond t x y ≡ x)) ⊎ ((a ≡ b → ⊥) × (cond t x y ≡ y)))
    [ true ↦ λ e. inl (eqb-true a b e, refl) | false ↦ λ e. inr (eqb-false a b e, refl) ] refl

day-from : (days start d : ℕ) → ((d < start) × (day_from days start d ≡ d + days)) ⊎ ((start ≤ d) × (day_from days start d ≡ d))
unfolding day_from
day-from days start d = by-ltb d start (d + days) d

day-in : (days d : ℕ) → ((d ≤ days) × (day_in days d ≡ d)) ⊎ ((days < d) × (day_in days d ≡ d - days))
unfolding day_in
day-in days d = by-leb d days d (d - days)

day-before : (days d : ℕ) → ((d ≤ 1) × (day_before days d ≡ days)) ⊎ ((1 < d) × (day_before days d ≡ d - 1))
unfolding day_before
day-before days d = by-leb d 1 days (d - 1)

first-from : (s h m : ℕ) → let t = moment (day_at s) h m in ((s ≤ t) × (first_from s h m ≡ t)) ⊎ ((t < s) × (first_from s h m ≡ t + day_long))
unfolding first_from
first-from s h m = let t = moment (day_at s) h m in by-leb s t t (t + day_long)

first-after : (s h : ℕ) → let t = moment (day_at s) h 0 in ((s < t) × (first_after s h ≡ t)) ⊎ ((t ≤ s) × (first_after s h ≡ t + day_long))
unfolding first_after
first-after s h = let t = moment (day_at s) h 0 in by-ltb s t t (t + day_long)

end-hour : (t : ℕ) → ((hour_at t ≡ 0) × (end_hour t ≡ 24)) ⊎ ((hour_at t ≡ 0 → ⊥) × (end_hour t ≡ hour_at t))
unfolding end_hour is_midnight
end-hour t = by_eqb (hour_at t) 0 24 (hour_at t)

end-day : (days t : ℕ) → ((hour_at t ≡ 0) × (end_day days t ≡ day_before days (day_in days (day_at t)))) ⊎ ((hour_at t ≡ 0 → ⊥) × (end_day days t ≡ day_in days (day_at t)))
unfolding end_day is_midnight
end-day days t = by_eqb (hour_at t) 0 (day_before days (day_in days (day_at t))) (day_in days (day_at t))

-- ---- a moment and its day, hour and minute

pub day-of : (d h m : ℕ) → h ≤ 23 → m ≤ 59 → day_at (moment d h m) ≡ d
day-of d h m a b = omega arith

pub hour-of : (d h m : ℕ) → h ≤ 23 → m ≤ 59 → hour_at (moment d h m) ≡ h
hour-of d h m a b = omega arith

pub minute-of : (d h m : ℕ) → m ≤ 59 → minute_at (moment d h m) ≡ m
minute-of d h m a = omega arith

-- ---- times without a day: what is written of a moment is read as it

pub from-kept : (s t : ℕ) → s ≤ t → t < s + day_long → first_from s (hour_at t) (minute_at t) ≡ t
from-kept s t a b = ⊎_elim (λ c. omega (arith, c.0, c.1)) (λ c. omega (arith, c.0, c.1)) (first-from s (hour_at t) (minute_at t))

pub after_kept : (s t : ℕ) → s < t → t ≤ s + day_long → minute_at t ≡ 0 → first_after s (end_hour t) ≡ t
after_kept s t a b z =
    ⊎_elim
    (λ e. ⊎_elim (λ c. omega (arith, c.0, c.1, e.0, e.1)) (λ c. omega (arith, c.0, c.1, e.0, e.1)) (first-after s (end_hour t)))
    (λ e. ⊎_elim (λ c. omega (arith, c.0, c.1, e.0, e.1)) (λ c. omega (arith, c.0, c.1, e.0, e.1)) (first-after s (end_hour t)))
    (end-hour t)

pub end-hour-range : (t : ℕ) → (1 ≤ end_hour t) × (end_hour t ≤ 24)
end-hour-range t = ⊎_elim (λ e. (omega (arith, e.1), omega (arith, e.1))) (λ e. (omega (arith, e.0, e.1), omega (arith, e.0, e.1))) (end-hour t)

pub lengthened-small : (s t h : ℕ) → h ≤ 24 → lengthened s t h ≤ 99
unfolding lengthened
lengthened-small s t h a = ⊎_elim (λ c. omega (arith, c.1)) (λ c. omega (arith, c.1)) (by-leb t (s + day_long) h (h + 50))

pub period-kept : (s t : ℕ) → s < t → t ≤ s + 2 * day_long → minute_at t ≡ 0 → period_end s (lengthened s t (end_hour t)) ≡ t
unfolding period_end lengthened
period-kept s t a b z =
    let h = end-hour-range t in
    let back : end_hour t + 50 - 50 ≡ end_hour t = omega arith in
    let near : t ≤ s + day_long + day_long = omega arith in
    ⊎_elim
    (λ c. rw (le-leb t (s + day_long) c, le-leb (end_hour t) 50 (omega (arith, h.1))) (after_kept s t a c z))
    (λ c. rw (lt-leb t (s + day_long) c, lt-leb (end_hour t + 50) 50 (omega (arith, h.0)), back) (after_kept (s + day_long) t c near z))
    (reached t (s + day_long))

-- ---- times without a day: what is read is written again

-- a beginning
pub record From (s h m t : ℕ) : Type 0 where
  pub least : s ≤ t
  pub most : t < s + day_long
  pub hour : hour_at t ≡ h
  pub minute : minute_at t ≡ m

pub from-read : (s h m : ℕ) → h ≤ 23 → m ≤ 59 → From s h m (first_from s h m)
from-read s h m a b =
    ⊎_elim
    (λ c. rw c.1 (record { least = c.0; most = omega (arith, c.0); hour = omega arith; minute = omega arith }))
    (λ c. rw c.1 (record { least = omega (arith, c.0); most = omega (arith, c.0); hour = omega arith; minute = omega arith }))
    (first-from s h m)

-- it is the first of its time
pub from-least : (s h m t : ℕ) → s ≤ t → hour_at t ≡ h → minute_at t ≡ m → first_from s h m ≤ t
from-least s h m t a b c = ⊎_elim (λ x. omega (arith, x.0, x.1)) (λ x. omega (arith, x.0, x.1)) (first-from s h m)

-- an end
pub record After (s h t : ℕ) : Type 0 where
  pub least : s < t
  pub most : t ≤ s + day_long
  pub hour : end_hour t ≡ h
  pub minute : minute_at t ≡ 0

-- hour 24 is midnight
end-hour-of : (d h t : ℕ) → 1 ≤ h → h ≤ 24 → t ≡ moment d h 0 → end_hour t ≡ h
end-hour-of d h t a b e =
    ⊎_elim
    (λ u. let k : hour_at t ≡ h = omega arith in ⊎_elim (λ c. absurd (omega (arith, c.0))) (λ c. c.1 ∙ k) (end-hour t))
    (λ u. let k : hour_at t ≡ 0 = omega arith in ⊎_elim (λ c. c.1 ∙ omega arith) (λ c. absurd (c.0 k)) (end-hour t))
    (reached h 23)

pub after_read : (s h : ℕ) → 1 ≤ h → h ≤ 24 → After s h (first_after s h)
after_read s h a b =
    ⊎_elim
    (λ c. record { least = omega (arith, c.0, c.1); most = omega (arith, c.0, c.1); hour = end-hour-of (day_at s) h (first_after s h) a b c.1; minute = omega (arith, c.1) })
    (λ c. record { least = omega (arith, c.0, c.1); most = omega (arith, c.0, c.1); hour = end-hour-of (day_at s + 1) h (first_after s h) a b (omega (arith, c.1)); minute = omega (arith, c.1) })
    (first-after s h)

-- it is the first of its hour
pub after-least : (s h t : ℕ) → s < t → end_hour t ≡ h → minute_at t ≡ 0 → first_after s h ≤ t
after-least s h t a b c =
    ⊎_elim
    (λ e. ⊎_elim (λ x. omega (arith, x.0, x.1, e.0, e.1)) (λ x. omega (arith, x.0, x.1, e.0, e.1)) (first-after s h))
    (λ e. ⊎_elim (λ x. omega (arith, x.0, x.1, e.0, e.1)) (λ x. omega (arith, x.0, x.1, e.0, e.1)) (first-after s h))
    (end-hour t)

-- the end of a period, G2 as written: 1 to 24, or 51 to 74
pub record Ending (s g t : ℕ) : Type 0 where
  pub least : s < t
  pub most : t ≤ s + 2 * day_long
  pub hour : lengthened s t (end_hour t) ≡ g
  pub minute : minute_at t ≡ 0

pub ending-short : (s g : ℕ) → 1 ≤ g → g ≤ 24 → Ending s g (period_end s g)
unfolding period_end lengthened
ending-short s g a b =
    let r = after_read s g a b in
    rw (le-leb g 50 (omega arith)) (record { least = r.least; most = omega (arith, r.most); hour = rw (le-leb (first_after s g) (s + day_long) r.most) r.hour; minute = r.minute })

pub ending-long : (s g : ℕ) → 51 ≤ g → g ≤ 74 → Ending s g (period_end s g)
unfolding period_end lengthened
ending-long s g a b =
    let r = after_read (s + day_long) (g - 50) (omega arith) (omega arith) in
    let e = first_after (s + day_long) (g - 50) in
    let back : end_hour e + 50 ≡ g = omega (arith, r.hour) in
    rw (lt-leb g 50 (omega arith)) (record { least = omega (arith, r.least); most = omega (arith, r.most); hour = rw (lt-leb e (s + day_long) r.least) back; minute = r.minute })

-- ---- days of the month

pub record InMonth (days d : ℕ) : Type 0 where
  pub first : 1 ≤ d
  pub last : d ≤ days

pub day-stays : (days d : ℕ) → d ≤ days → day_in days d ≡ d
day-stays days d a = ⊎_elim (λ c. c.1) (λ c. absurd (omega (arith, c.0))) (day-in days d)

pub start-stays : (days d : ℕ) → day_from days d d ≡ d
start-stays days d = ⊎_elim (λ c. absurd (omega (arith, c.0))) (λ c. c.1) (day-from days d d)

pub in-month : (days d : ℕ) → 1 ≤ d → d ≤ days + days → InMonth days (day_in days d)
in-month days d a b =
    ⊎_elim
    (λ c. rw c.1 (record { first = a; last = c.0 }))
    (λ c. rw c.1 (record { first = omega (arith, c.0); last = omega arith }))
    (day-in days d)

pub end-in-month : (days t : ℕ) → 1 ≤ day_at t → day_at t ≤ days + days → InMonth days (end_day days t)
end-in-month days t a b =
    let m = in-month days (day_at t) a b in
    let before : InMonth days (day_before days (day_in days (day_at t))) = ⊎_elim
    (λ c. rw c.1 (record { first = omega (arith, m.first, m.last); last = omega arith }))
    (λ c. rw c.1 (record { first = omega (arith, c.0); last = omega (arith, m.last) }))
    (day-before days (day_in days (day_at t))) in
    ⊎_elim (λ c. rw c.1 before) (λ c. rw c.1 m) (end-day days t)

-- ---- days: within two days of the start, in a month of 28 days or more, the day of the month tells which day it is

module _ (days s t : ℕ) (long : 28 ≤ days) (some : 1 ≤ day_at s) (begins : day_at s ≤ days) (near : t ≤ s + 2 * day_long) where
  back-day : s ≤ t → day_from days (day_at s) (day_in days (day_at t)) ≡ day_at t
  back-day a =
      ⊎_elim
      (λ c. ⊎_elim (λ f. absurd (omega (arith, c.0, c.1, f.0))) (λ f. omega (arith, c.1, f.1)) (day-from days (day_at s) (day_in days (day_at t))))
      (λ c. ⊎_elim (λ f. omega (arith, c.0, c.1, f.1)) (λ f. absurd (omega (arith, c.0, c.1, f.0))) (day-from days (day_at s) (day_in days (day_at t))))
      (day-in days (day_at t))

  pub time-kept : s ≤ t → moment (day_from days (day_at s) (day_in days (day_at t))) (hour_at t) (minute_at t) ≡ t
  time-kept a = rw (back-day a) (omega arith)

  pub begin-kept : s ≤ t → minute_at t ≡ 0 → moment (day_from days (day_at s) (day_in days (day_at t))) (hour_at t) 0 ≡ t
  begin-kept a z = rw z at (time-kept a)

  -- 24 of the day before
  back-midnight : s < t → hour_at t ≡ 0 → minute_at t ≡ 0 → day_from days (day_at s) (day_before days (day_in days (day_at t))) + 1 ≡ day_at t
  back-midnight a h z =
      let e = day_in days (day_at t) in
      let b = day_before days e in
      ⊎_elim
      (λ c. ⊎_elim (λ f. absurd (omega (arith, c.0, c.1, f.0)))
      (λ f. ⊎_elim (λ g. absurd (omega (arith, c.0, c.1, f.0, f.1, g.0))) (λ g. omega (arith, c.0, c.1, f.0, f.1, g.1)) (day-from days (day_at s) b)) (day-before days e))
      (λ c. ⊎_elim
      (λ f. ⊎_elim (λ g. absurd (omega (arith, c.0, c.1, f.0, f.1, g.0))) (λ g. omega (arith, c.0, c.1, f.0, f.1, g.1)) (day-from days (day_at s) b))
      (λ f. ⊎_elim (λ g. omega (arith, c.0, c.1, f.0, f.1, g.1)) (λ g. absurd (omega (arith, c.0, c.1, f.0, f.1, g.0))) (day-from days (day_at s) b)) (day-before days e))
      (day-in days (day_at t))

  pub end_kept : s < t → minute_at t ≡ 0 → moment (day_from days (day_at s) (end_day days t)) (end_hour t) 0 ≡ t
  unfolding end_day end_hour is_midnight
  end_kept a z =
      elim (eqb (hour_at t) 0) as (λ b. eqb (hour_at t) 0 ≡ b → moment (day_from days (day_at s) (cond b (day_before days (day_in days (day_at t))) (day_in days (day_at t)))) (cond b 24 (hour_at t)) 0 ≡ t)
      [ true ↦ λ e. let h : hour_at t ≡ 0 = eqb-true (hour_at t) 0 e in omega (arith, back-midnight a h z) | false ↦ λ e. begin-kept (omega arith) z ] refl

-- ---- days: a day of the month, 1 to its last, written again

module _ (days start d : ℕ) (first : 1 ≤ d) (last : d ≤ days) where
  pub day-again : day_in days (day_from days start d) ≡ d
  day-again =
      ⊎_elim
      (λ f. ⊎_elim (λ c. absurd (omega (arith, c.0, f.1))) (λ c. omega (arith, c.1, f.1)) (day-in days (day_from days start d)))
      (λ f. ⊎_elim (λ c. omega (arith, c.1, f.1)) (λ c. absurd (omega (arith, c.0, f.1))) (day-in days (day_from days start d)))
      (day-from days start d)

  -- the day before the next one
  before-next : day_before days (day_in days (day_from days start d + 1)) ≡ d
  before-next =
      let n = day_from days start d + 1 in
      let e = day_in days n in
      ⊎_elim
      (λ f. ⊎_elim (λ c. absurd (omega (arith, c.0, f.1))) (λ c. ⊎_elim (λ b. absurd (omega (arith, b.0, c.1, f.1))) (λ b. omega (arith, b.1, c.1, f.1)) (day-before days e)) (day-in days n))
      (λ f. ⊎_elim (λ c. ⊎_elim (λ b. absurd (omega (arith, b.0, c.1, f.1))) (λ b. omega (arith, b.1, c.1, f.1)) (day-before days e))
      (λ c. ⊎_elim (λ b. omega (arith, b.1, c.0, f.1)) (λ b. absurd (omega (arith, b.0, c.0, c.1, f.1))) (day-before days e)) (day-in days n))
      (day-from days start d)

  -- an end that is written at hour 00 becomes 24 of the day before, every other stays
  pub end-day-again : (h : ℕ) → h ≤ 24 → end_day days (moment (day_from days start d) h 0) ≡ cond (eqb h 0) (day_before days d) d
  unfolding end_day is_midnight
  end-day-again h a =
      let n = day_from days start d in
      ⊎_elim
      (λ u. let k : hour_at (moment n h 0) ≡ h = omega arith in let l : day_at (moment n h 0) ≡ n = omega arith in rw (k, l, day-again))
      (λ u. let k : hour_at (moment n h 0) ≡ 0 = omega arith in let l : day_at (moment n h 0) ≡ n + 1 = omega arith in let z : h ≡ 24 = omega arith in rw (k, l, z) before-next)
      (reached h 23)

pub end-hour-again : (d h : ℕ) → h ≤ 24 → end_hour (moment d h 0) ≡ cond (eqb h 0) 24 h
unfolding end_hour is_midnight
end-hour-again d h a =
    ⊎_elim
    (λ u. let k : hour_at (moment d h 0) ≡ h = omega arith in rw k)
    (λ u. let k : hour_at (moment d h 0) ≡ 0 = omega arith in let z : h ≡ 24 = omega arith in rw (k, z))
    (reached h 23)
