-- The two round trips of a record of any kind: "With one month length, old to new to old gives the same text, and new to old to new the same moments, hour 00
-- at an end becoming 24 of the day before."
-- Assumes nothing.
use Rattle.std.specs.Prelude.{⊤, Err, Ok, Result}
use Rattle.text.specs.declared.kinds.Refusal.{Refusal}
use Prim.Native.Nat.{ℕ}
use mathlib.Core.Path.{◌≡◌, refl, sym, ap, ◌∙◌}
use mathlib.Core.Bool.{true}
use lib.ListN.{length}
use Rattle.figures.proofs.Impossible.{impossible}
use Rattle.record.specs.declared.aerodrome.Edition.{Edition}
use Rattle.record.specs.declared.aerodrome.Edition.TheVariants as edition
use Rattle.record.specs.declared.aerodrome.Taf.{Taf}
use Rattle.report_record.specs.declared.kinds.Kind.TheVariants as kind
use Rattle.report_record.specs.declared.kinds.Report.{Report}
use Rattle.taf_times.specs.declared.kinds.MovedTaf.{MovedTaf}
use Rattle.taf_times.specs.Move.{times_in}
use Rattle.taf_times.specs.Move as times
use Rattle.taf_times.specs.Midnight.{midnights_before}
use Rattle.taf_move.specs.Move.{other, taf_moved}
use Rattle.taf_move.specs.Move as forecast
use Rattle.taf_move.proofs.RoundTrip.{moved-there-and-back, old-whole}
use Rattle.report_move.specs.declared.kinds.Moved.{Moved}
use Rattle.report_move.specs.Move.{judge_move, with_forecast, moved_by, moved_of}
use Rattle.report_move.proofs.Moving.{others_blank, fine-kind, taf-judged}

-- a report that is moved, and what comes
abbrev pub moved : Report → Moved
moved s = record { judged = Ok tt; report = s }

moved-fine : (j : Result ⊤ Refusal) (x s : Report) → moved_by j x ≡ moved s → (j ≡ Ok tt) × (x ≡ s)
moved-fine (Ok tt) x s e = (refl, ap (λ (m : Moved). m.report) e)
moved-fine (Err f) x s e = let b : Err f ≡ Ok tt = ap (λ (m : Moved). m.judged) e in impossible (cc)

module _ (to : Edition) (days : ℕ) (r s : Report) (m : moved_of to days r ≡ moved s) where
  comes : (judge_move to days r ≡ Ok tt) × (with_forecast (times_in to days r.forecast) r ≡ s)
  unfolding moved_of
  comes = moved-fine (judge_move to days r) (with_forecast (times_in to days r.forecast) r) s m

  is-taf : (r.kind ≡ kind.Forecast) × (others_blank r ≡ true)
  is-taf = fine-kind to days r comes.0

  own-moved : taf_moved to days r.forecast ≡ record { judged = Ok tt; forecast = times_in to days r.forecast }
  unfolding taf_moved
  own-moved = rw (sym (taf-judged to days r is-taf.0 is-taf.1) ∙ comes.0)

  -- WHAT IS MOVED IS A TAF, AND ITS OWN RECORD IS MOVED,
  pub forecast-moved : taf_moved to days r.forecast ≡ record { judged = Ok tt; forecast = s.forecast }
  forecast-moved = own-moved ∙ ap (λ (q : Report). record { judged = Ok tt; forecast = q.forecast }) comes.1

  taf-parts : (j : Result ⊤ Refusal) (x y : Taf) → times.moved_by j x ≡ record { judged = Ok tt; forecast = y } → (j ≡ Ok tt) × (x ≡ y)
  taf-parts (Ok tt) x y e = (refl, ap (λ (q : MovedTaf). q.forecast) e)
  taf-parts (Err f) x y e = let b : Err f ≡ Ok tt = ap (λ (q : MovedTaf). q.judged) e in impossible (cc)

  module _ (all : length r.forecast.changes.items ≡ 16) where
    abbrev came : Taf
    came = times_in to days r.forecast

    back-parts : (forecast.judge_move (other to) days came ≡ Ok tt) × (times_in (other to) days came ≡ midnights_before days r.forecast)
    unfolding taf_moved
    back-parts = taf-parts (forecast.judge_move (other to) days came) (times_in (other to) days came) (midnights_before days r.forecast) (moved-there-and-back to days r.forecast came all own-moved)

    back : moved_of (other to) days (with_forecast came r) ≡ moved (with_forecast (midnights_before days r.forecast) r)
    unfolding moved_of
    back = rw (taf-judged (other to) days (with_forecast came r) is-taf.0 is-taf.1 ∙ back-parts.0, back-parts.1)

    -- AND MOVED BACK THE REPORT IS WHAT IT WAS, but that every end at hour 00 is 24 of the day before.
    pub report-there-and-back : moved_of (other to) days s ≡ moved (with_forecast (midnights_before days r.forecast) r)
    report-there-and-back = rw comes.1 at back

-- OLD TO NEW TO OLD: the same report, and so the same text.
pub report-old-new-old : (days : ℕ) (r s : Report) → length r.forecast.changes.items ≡ 16 → moved_of edition.Present days r ≡ moved s → moved_of edition.Of2005 days s ≡ moved r
report-old-new-old days r s all m =
    let stays : midnights_before days r.forecast ≡ r.forecast = old-whole days r.forecast s.forecast all (forecast-moved edition.Present days r s m) in
    report-there-and-back edition.Present days r s m all ∙ ap (λ (t : Taf). moved (with_forecast t r)) stays
