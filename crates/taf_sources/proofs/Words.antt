-- What a change word opens: a change of which nothing more is known than, under FM, when it begins.
-- Assumes nothing.
use Rattle.std.specs.Prelude.{Ok, Option, Some}
use Prim.Native.Nat.{ℕ}
use mathlib.Core.Path.{◌≡◌, refl}
use mathlib.Core.Bool.{Bool, true, false, cond, ◌&&◌, false≢true}
use Rattle.figures.specs.Figures.{field_at}
use Rattle.places.specs.Engine.{Group}
use Rattle.places.specs.Parts.{Begun}
use Rattle.record.specs.declared.aerodrome.Opening.{Opening}
use Rattle.record.specs.declared.aerodrome.Opening.TheVariants as opening
use Rattle.record.specs.declared.aerodrome.Leg.{Leg}
use Rattle.record.specs.declared.aerodrome.Change.{Change}
use Rattle.record.specs.declared.aerodrome.Edition.{Edition}
use Rattle.record.specs.declared.aerodrome.Edition.TheVariants as edition
use Rattle.record.specs.Taf.{blank_instant, blank_period, blank_leg, set_period}
use Rattle.taf_row.specs.Row.{word}
use Rattle.taf_row.specs.Tests.{joins}
use Rattle.aerodrome_groups.specs.Head.{is_day, is_hour, is_minute}
use Rattle.taf.specs.Read.{is_chance, opened_by, from_group, after_probable}
use Rattle.taf_sources.specs.Changes.{is_from, period_of, beginning_of, first_word, is_joined}
use Rattle.taf_sources.proofs.Known.{Reads, value, reads-figured, reads-cond, reads-provided, reads_so}

pub data OpenedSo : Opening → Leg → Type 0 where
  becoming : OpenedSo opening.Becoming blank_leg
  temporary : OpenedSo opening.Temporary blank_leg
  probable : {n : ℕ} → OpenedSo (opening.Probable n) blank_leg
  from : {d : Option ℕ} {h m : ℕ} → OpenedSo opening.From (set_period (record { from = record { day = d; hour = Some h; minute = Some m }; to = blank_instant }) blank_leg)

opens-so : (e : Edition) (g : Group) → Reads (λ (b : Begun Opening Leg). OpenedSo b.kind b.start) (opened_by e g)
unfolding opened_by
opens-so e g =
    reads-cond (word "BECMG" g) (value becoming)
    (reads-cond (word "TEMPO" g) (value temporary) (reads-cond (word "PROB##" g) (reads-figured (field_at g 4 2) (λ n. reads-provided (is_chance n) (value probable))) (timed e)))
  where
    timed : (e : Edition) → Reads (λ (b : Begun Opening Leg). OpenedSo b.kind b.start) (from_group e g)
    timed edition.Present =
        reads-figured (field_at g 2 2) (λ d. reads-figured (field_at g 4 2) (λ h. reads-figured (field_at g 6 2) (λ m. reads-provided (is_day d && is_hour h && is_minute m) (value from))))
    timed edition.Of2005 = reads-figured (field_at g 2 2) (λ h. reads-figured (field_at g 4 2) (λ m. reads-provided (is_hour h && is_minute m) (value from)))

-- WHAT A WORD OPENS
pub opened-so : (e : Edition) (g : Group) (w : Opening) (p : Leg) → opened_by e g ≡ Ok (record { kind = w; start = p }) → OpenedSo w p
opened-so e g w p is = reads_so (opens-so e g) is

-- TEMPO belongs to PROB alone, and to it once
pub data JoinedSo : Opening → Type 0 where
  probably : {n : ℕ} → JoinedSo (opening.Probable n)

pub joined-so : (o : Opening) (g : Group) → joins o g ≡ true → JoinedSo o × (word "TEMPO" g ≡ true)
joined-so opening.None g e = absurd (false≢true e)
joined-so opening.Becoming g e = absurd (false≢true e)
joined-so opening.Temporary g e = absurd (false≢true e)
joined-so (opening.Probable n) g e = (probably, e)
joined-so (opening.ProbablyTemporary n) g e = absurd (false≢true e)
joined-so opening.From g e = absurd (false≢true e)

pub joins-once : (o : Opening) (g : Group) → joins (after_probable o) g ≡ false
joins-once opening.None g = refl
joins-once opening.Becoming g = refl
joins-once opening.Temporary g = refl
joins-once (opening.Probable n) g = refl
joins-once (opening.ProbablyTemporary n) g = refl
joins-once opening.From g = refl

-- ---- nothing is left out: the word and TEMPO say what opened a change, the word and the period's own group say its period

pub opening-whole : (o : Opening) → cond (is_joined o) (after_probable (first_word o)) (first_word o) ≡ o
opening-whole opening.None = refl
opening-whole opening.Becoming = refl
opening-whole opening.Temporary = refl
opening-whole (opening.Probable n) = refl
opening-whole (opening.ProbablyTemporary n) = refl
opening-whole opening.From = refl

pub period-whole : (c : Change) → cond (is_from c.opening) (beginning_of c) (period_of c) ≡ c.period
period-whole c = go (is_from c.opening)
  where
    go : (b : Bool) → cond b (cond b c.period blank_period) (cond b blank_period c.period) ≡ c.period
    go true = refl
    go false = refl
