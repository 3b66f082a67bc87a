-- The move of a report is the move of its TAF.
-- Assumes nothing.
use Rattle.std.specs.Prelude.{⊤, Err, Ok, Result}
use Prim.Native.Nat.{ℕ}
use mathlib.Core.Path.{◌≡◌, refl, sym, ap, ◌∙◌}
use mathlib.Core.Bool.{Bool, true, false, ◌&&◌, false≢true}
use Rattle.figures.proofs.Impossible.{impossible}
use Rattle.shapes.proofs.Patterns.{both}
use Rattle.text.specs.declared.kinds.Refusal.{Refusal}
use Rattle.text.specs.declared.kinds.Refusal.TheVariants as refusal
use Rattle.text.specs.Judge.{judge, and_then}
use Rattle.record.specs.declared.aerodrome.Edition.{Edition}
use Rattle.record.specs.declared.aerodrome.Taf.{Taf}
use Rattle.record.specs.SilentSurface.{is_blank_synop}
use Rattle.record.specs.SilentAerodrome.{is_same_edition, is_blank_metar}
use Rattle.report_record.specs.declared.kinds.Kind.{Kind}
use Rattle.report_record.specs.declared.kinds.Kind.TheVariants as kind
use Rattle.report_record.specs.declared.kinds.Report.{Report}
use Rattle.report_record.specs.Record.{blank_report}
use Rattle.report.specs.Write.{judge_in}
use Rattle.taf.specs.Write as taf
use Rattle.taf_times.specs.declared.kinds.MovedTaf.{MovedTaf}
use Rattle.taf_times.specs.Move.{judge_times, times_in}
use Rattle.taf_times.specs.Move as times
use Rattle.taf_move.specs.Move.{other, taf_moved}
use Rattle.taf_move.specs.Move as forecast
use Rattle.report_move.specs.declared.kinds.Moved.{Moved}
use Rattle.report_move.specs.Move.{is_taf, judge_move, with_forecast, moved_by, moved_of}

-- the parts of the other kinds are blank
abbrev pub others_blank : Report → Bool
others_blank r = is_blank_synop r.surface && is_blank_metar r.observed

is-forecast : (k : Kind) → is_taf k ≡ true → k ≡ kind.Forecast
is-forecast kind.Missing e = absurd (false≢true e)
is-forecast kind.Surface e = absurd (false≢true e)
is-forecast kind.Observed e = absurd (false≢true e)
is-forecast kind.Forecast e = refl

-- the edition is judged with the kind, and again by the writer
once : (same : Bool) (own times : Result ⊤ Refusal) → and_then (judge (true && same) true) (and_then (and_then (judge true true) (and_then (judge same true) own)) times) ≡ and_then (and_then (judge same true) own) times
once true own times = refl
once false own times = refl

-- where another part is not blank
refused-other : (same : Bool) (own times : Result ⊤ Refusal) → and_then (judge (true && same) true) (and_then (and_then (judge false true) own) times) ≡ Err refusal.Value
refused-other true own times = refl
refused-other false own times = refl

module _ (to : Edition) (days : ℕ) (r : Report) where
  pub taf-judged : r.kind ≡ kind.Forecast → others_blank r ≡ true → judge_move to days r ≡ forecast.judge_move to days r.forecast
  unfolding judge_move judge_in forecast.judge_move taf.judge_in
  taf-judged k b = rw (k, b) (once (is_same_edition (other to) r.forecast.edition) (taf.judge_of r.forecast) (judge_times days r.forecast))

  other-judged : r.kind ≡ kind.Forecast → others_blank r ≡ false → judge_move to days r ≡ Err refusal.Value
  unfolding judge_move judge_in
  other-judged k b = rw (k, b) (refused-other (is_same_edition (other to) r.forecast.edition) (taf.judge_in (other to) r.forecast) (judge_times days r.forecast))

  kind-judged : is_taf r.kind ≡ false → judge_move to days r ≡ Err refusal.Value
  unfolding judge_move
  kind-judged k = rw k

  -- no TAF, or one with other parts
  none-judged : (a b : Bool) → is_taf r.kind ≡ a → others_blank r ≡ b → (a && b) ≡ false → judge_move to days r ≡ Err refusal.Value
  none-judged false b k o e = kind-judged k
  none-judged true false k o e = other-judged (is-forecast r.kind k) o
  none-judged true true k o e = absurd (false≢true (sym e))

  -- ---- as the code goes

  assoc : (a b c : Bool) → (a && b && c) ≡ (a && (b && c))
  assoc true b c = refl
  assoc false b c = refl

  abbrev tests : Bool
  tests = is_taf r.kind && is_blank_synop r.surface && is_blank_metar r.observed

  pub none-moved : tests ≡ false → (m : Moved) → m ≡ moved_by (Err refusal.Value) blank_report → m ≡ moved_of to days r
  unfolding moved_of
  none-moved e m x = rw (none-judged (is_taf r.kind) (others_blank r) refl refl (sym (assoc (is_taf r.kind) (is_blank_synop r.surface) (is_blank_metar r.observed)) ∙ e)) x

  split : tests ≡ true → (r.kind ≡ kind.Forecast) × (others_blank r ≡ true)
  split e = let a = both (is_taf r.kind) (others_blank r) (sym (assoc (is_taf r.kind) (is_blank_synop r.surface) (is_blank_metar r.observed)) ∙ e) in (is-forecast r.kind a.0, a.1)

  judged-of : (j : Result ⊤ Refusal) (t : Taf) → (times.moved_by j t).judged ≡ j
  judged-of (Ok tt) t = refl
  judged-of (Err f) t = refl

  moved-judged : (m : MovedTaf) → tests ≡ true → m ≡ taf_moved to days r.forecast → judge_move to days r ≡ m.judged
  unfolding taf_moved
  moved-judged m e x =
      let s = split e in
      taf-judged s.0 s.1 ∙ sym (ap (λ (n : MovedTaf). n.judged) x ∙ judged-of (forecast.judge_move to days r.forecast) (times_in to days r.forecast))

  pub refused-moved : (m : MovedTaf) (f : Refusal) → tests ≡ true → m ≡ taf_moved to days r.forecast → m.judged ≡ Err f → (n : Moved) → n ≡ moved_by (Err f) blank_report → n ≡ moved_of to days r
  unfolding moved_of
  refused-moved m f e x j n y = rw (moved-judged m e x ∙ j) y

  pub fine_moved : (m : MovedTaf) → tests ≡ true → m ≡ taf_moved to days r.forecast → m.judged ≡ Ok tt → record { judged = Ok tt; report = with_forecast m.forecast r } ≡ moved_of to days r
  unfolding moved_of taf_moved
  fine_moved m e x j =
      let w : forecast.judge_move to days r.forecast ≡ Ok tt = sym (taf-judged (split e).0 (split e).1) ∙ moved-judged m e x ∙ j in
      let t : m.forecast ≡ times_in to days r.forecast = ap (λ (n : MovedTaf). n.forecast) (rw w at x) in
      rw (moved-judged m e x ∙ j, t)

  -- ---- what is judged fine is a TAF, with nothing said in the other parts

  by_tests : (a b : Bool) → is_taf r.kind ≡ a → others_blank r ≡ b → judge_move to days r ≡ Ok tt → (r.kind ≡ kind.Forecast) × (others_blank r ≡ true)
  by_tests true true k o e = (is-forecast r.kind k, o)
  by_tests true false k o e = let f : Err refusal.Value ≡ Ok tt = sym (none-judged true false k o refl) ∙ e in impossible (cc)
  by_tests false b k o e = let f : Err refusal.Value ≡ Ok tt = sym (none-judged false b k o refl) ∙ e in impossible (cc)

  pub fine-kind : judge_move to days r ≡ Ok tt → (r.kind ≡ kind.Forecast) × (others_blank r ≡ true)
  fine-kind e = by_tests (is_taf r.kind) (others_blank r) refl refl e
