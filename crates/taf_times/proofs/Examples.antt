-- Worked examples of the move, those of the rulings on No. 9: what a period and a change's times become, and whether they fit.
-- Assumes nothing.
use Rattle.std.specs.Prelude.{None, Some}
use Prim.Native.Nat.{ℕ}
use mathlib.Core.Path.{◌≡◌, refl}
use mathlib.Core.Bool.{Bool, true, false}
use mathlib.Core.List.{List, [], ◌∷◌, map}
use Rattle.record.specs.declared.aerodrome.Period.{Period}
use Rattle.record.specs.declared.aerodrome.Edition.{Edition}
use Rattle.record.specs.declared.aerodrome.Edition.TheVariants as edition
use Rattle.taf_times.specs.Moments.{day_from, day_in, day_before, first_from, first_after, period_end, is_midnight, end_hour, end_day, lengthened}
use Rattle.taf_times.specs.Times.{dated, period_span, change_span, period_in, change_in}
use Rattle.taf_times.specs.Move.{whole_fits, span_fits}
use Rattle.taf_times.proofs.Kept.{hours, time}

-- YYGG/YYGG, Y1Y1G1G1G2G2 and GGGeGe
abbrev present : ℕ → ℕ → ℕ → ℕ → Period
present d h e k = hours (Some d) h (Some e) k

abbrev old : ℕ → ℕ → ℕ → Period
old d h g = hours (Some d) h None g

abbrev undated : ℕ → ℕ → Period
undated h k = hours None h None k

-- ---- the report's period

pub record PeriodMove : Type 0 where
  pub from : Edition
  pub to : Edition
  pub days : ℕ
  pub period : Period
  pub answer : Period

abbrev to_present : ℕ → Period → Period → PeriodMove
to_present n p a = record { from = edition.Of2005; to = edition.Present; days = n; period = p; answer = a }

abbrev to2005 : ℕ → Period → Period → PeriodMove
to2005 n p a = record { from = edition.Present; to = edition.Of2005; days = n; period = p; answer = a }

-- 9.8, 9.9, 9.10, 9.12, 9.13
abbrev periods : List PeriodMove
periods =
    to_present 31 (old 1 12 62) (present 1 12 3 12)
    ∷ to_present 31 (old 1 12 63) (present 1 12 2 13)
    ∷ to_present 31 (old 1 23 74) (present 1 23 2 24)
    ∷ to_present 31 (old 1 0 74) (present 1 0 2 24)
    ∷ to_present 31 (old 1 0 24) (present 1 0 1 24)
    ∷ to_present 31 (old 31 12 12) (present 31 12 1 12)
    ∷ to2005 31 (present 1 0 2 0) (old 1 0 24)
    ∷ to2005 30 (present 30 12 1 0) (old 30 12 24)
    ∷ to2005 28 (present 28 12 1 12) (old 28 12 12)
    ∷ to2005 29 (present 28 12 1 12) (old 28 12 62)
    ∷ to2005 31 (present 1 12 3 12) (old 1 12 62)
    ∷ to2005 31 (present 1 12 2 13) (old 1 12 63)
    ∷ []

pub worked-periods : map (λ (x : PeriodMove). period_in x.to x.days (period_span x.from x.days x.period)) periods ≡ map (λ (x : PeriodMove). x.answer) periods
unfolding day_from day_in day_before first_from first_after period_end is_midnight end_hour end_day lengthened dated period_span period_in
worked-periods = refl

-- ---- a change's times, in a report with this period

pub record ChangeMove : Type 0 where
  pub of : PeriodMove
  pub under_from : Bool
  pub times : Period
  pub answer : Period

abbrev changing : PeriodMove → Bool → Period → Period → ChangeMove
changing w f p a = record { of = w; under_from = f; times = p; answer = a }

-- 9.9, 9.10, 9.11, 9.12
abbrev changes : List ChangeMove
changes =
    changing (to_present 31 (old 31 12 12) (present 31 12 1 12)) false (undated 12 12) (present 31 12 1 12)
    ∷ changing (to_present 31 (old 1 0 24) (present 1 0 1 24)) false (undated 22 24) (present 1 22 1 24)
    ∷ changing (to_present 31 (old 1 23 6) (present 1 23 2 6)) true (time None 0 0) (time (Some 2) 0 0)
    ∷ changing (to_present 31 (old 1 12 12) (present 1 12 2 12)) true (time None 11 59) (time (Some 2) 11 59)
    ∷ changing (to2005 28 (present 28 12 1 12) (old 28 12 12)) false (present 28 22 1 2) (undated 22 2)
    ∷ changing (to2005 31 (present 1 12 2 6) (old 1 12 6)) false (present 1 22 2 0) (undated 22 24)
    ∷ []

abbrev move_of : ChangeMove → Period
move_of x =
    change_in x.of.to x.of.days x.under_from
    (change_span x.of.from x.of.days (period_span x.of.from x.of.days x.of.period) x.under_from x.times)

pub worked-changes : map move_of changes ≡ map (λ (x : ChangeMove). x.answer) changes
unfolding day_from day_in day_before first_from first_after period_end is_midnight end_hour end_day lengthened dated period_span change_span change_in
worked-changes = refl

-- ---- 15: a period by its length and the number of changes, and a change in a report with this period

pub record Fitting : Type 0 where
  pub in-edition : Edition
  pub days : ℕ
  pub period : Period
  pub count : ℕ
  pub fits : Bool

abbrev lasts : Edition → ℕ → Period → ℕ → Bool → Fitting
lasts e n p c b = record { in-edition = e; days = n; period = p; count = c; fits = b }

-- 9.12, 9.13
abbrev lengths : List Fitting
lengths =
    lasts edition.Present 31 (present 15 12 15 12) 0 false
    ∷ lasts edition.Present 31 (present 1 12 3 12) 0 true
    ∷ lasts edition.Present 31 (present 1 12 3 13) 0 false
    ∷ lasts edition.Present 31 (present 1 12 2 12) 1 true
    ∷ lasts edition.Present 31 (present 1 12 2 13) 1 false
    ∷ lasts edition.Of2005 31 (old 1 12 63) 1 false
    ∷ []

pub worked-lengths : map (λ (x : Fitting). whole_fits (period_span x.in-edition x.days x.period) x.count) lengths ≡ map (λ (x : Fitting). x.fits) lengths
unfolding day_from first_after period_end dated period_span
worked-lengths = refl

pub record Held : Type 0 where
  pub in-edition : Edition
  pub period : Period
  pub under_from : Bool
  pub times : Period
  pub fits : Bool

abbrev holds : Edition → Period → Bool → Period → Bool → Held
holds e p f c b = record { in-edition = e; period = p; under_from = f; times = c; fits = b }

-- 9.9, 9.11, 9.12, 9.13, with 31 days
abbrev within : List Held
within =
    holds edition.Present (present 15 12 16 12) true (time (Some 14) 13 0) false
    ∷ holds edition.Present (present 15 12 16 12) true (time (Some 15) 11 0) false
    ∷ holds edition.Present (present 1 12 2 12) true (time (Some 2) 12 0) false
    ∷ holds edition.Present (present 1 12 2 12) false (present 1 13 1 13) false
    ∷ holds edition.Present (present 1 12 2 12) false (present 1 12 2 12) true
    ∷ holds edition.Of2005 (old 1 12 18) false (undated 12 12) false
    ∷ holds edition.Of2005 (old 1 12 12) false (undated 12 12) true
    ∷ holds edition.Of2005 (old 1 12 18) true (time None 11 59) false
    ∷ []

abbrev held_by : Held → Bool
held_by x = let w = period_span x.in-edition 31 x.period in span_fits w (change_span x.in-edition 31 w x.under_from x.times)

pub worked-fits : map held_by within ≡ map (λ (x : Held). x.fits) within
unfolding day_from first_from first_after period_end dated period_span change_span
worked-fits = refl
