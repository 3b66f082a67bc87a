-- `metar::read::read_from` meets its contract: the reading from a position on stays what the text is read as.
-- Assumes nothing.
use borrow.Author.Rules.{rules}
use mathlib.Core.Path.{◌≡◌, refl, sym, ap, ◌∙◌}
use mathlib.Core.List.{List}
use Prim.Native.Nat.{ℕ, ◌-◌, ◌≤◌, ◌<◌}
use native.Mathlib.Omega.{arith}
use lib.ListN.{length}
use Rattle.text.specs.Groups.{part_of}
use Rattle.shapes.specs.Pattern.{has_any}
use Rattle.places.proofs.Turns.{comes, within}
use Rattle.record.specs.declared.aerodrome.Observation.{Observation}
use Rattle.record.specs.Observation.{blank_observation, set_special}
use Rattle.elements.specs.declared.kinds.Said.{Said}
use Rattle.body.specs.declared.kinds.Saying.{Saying}
use Rattle.body.proofs.Parts.{Reached, starts, group-ahead, reads_on}
use Rattle.trend.specs.Read.{parts}
use Rattle.trend.specs.Step.{after_part}
use Rattle.metar_row.specs.Row.{row, words}
use Rattle.metar.specs.Said.{report_said}
use Rattle.places.specs.Answer.{outcome_of}
use Rattle.metar.specs.Read.{behind_name, reading, answer}
use Rattle.metar.specs.Step.{alone, beside}
use Rattle.metar.proofs.Steps.{others, one_part, leaves, blanked, unblanked}
use Rattle.metar.proofs.read.read_from.Statement.{statement}
use Rattle.metar.proofs.read.read_from.Lts.{then-is_refused_ahead, else-is_refused_ahead, then-is_refused, else-is_refused}
use Rattle.metar.proofs.read.read_from.Tie as tie

abbrev Inv : tie.invariant-loop-next
Inv text at special report₀ here₀ report here =
    Reached parts text one_part row (has_any words) 3 1 (set_special special blank_observation) at here.place here.count report here.from

abbrev μ : tie.decreases-loop-next
μ text at special report₀ here₀ report here = length text - here.from

-- a group is taken: it lies ahead
module _ (c : tie.After-struct_known-1 Inv μ) where
  abbrev text : List ℕ
  text = c.args.text.now

  abbrev next : Saying
  next = c.in-Says.next

  ahead : (c.loop-next.here.from < next.end) × (next.end ≤ length text) × (next.count < 4)
  ahead = group-ahead c.loop-next.invariant report_said _ c.meet-met.ensures (refl, refl, refl) c.in-Says.is

-- and reading stands behind it, before what it says is stored
module _ (c : tie.After-stand_at-here-in-loop-next Inv μ) where
  less : length (text c.before) - c.stand_at-here-in-loop-next.result.from < length (text c.before) - c.loop-next.here.from
  less = rw c.stand_at-here-in-loop-next.ensures (omega (arith, ahead c.before))

  -- reading goes on with the record that has what the group says
  again : {y : Said} {a : Observation} → (next c.before).said ≡ y
      → a ≡ report_said (next c.before).count (part_of (text c.before) (next c.before).start (next c.before).end) y c.loop-next.report
      → Reached parts (text c.before) one_part row (has_any words) 3 1 (set_special c.args.special blank_observation) c.args.at c.stand_at-here-in-loop-next.result.place c.stand_at-here-in-loop-next.result.count a c.stand_at-here-in-loop-next.result.from
  again tells put = rw c.stand_at-here-in-loop-next.ensures (reads_on c.loop-next.invariant report_said _ c.meet-met.ensures (refl, refl, refl) c.in-Says.is c.go_past.ensures tells put)

pub read_from_spec : {M : Type 1} → statement M
read_from_spec =
    tie.close
    (tie.spec Inv μ
    (λ c κs. search rules) (λ c κs. search rules)
    (λ c. let a = c.args in rw (c.stand_at-here.ensures, c.begin-report.ensures) (starts parts a.text.now one_part 3 1 _ a.at (λ u. (refl, refl))))
    (λ c κs. search rules) (λ c. search rules) (λ c κs. search rules) (λ c. search rules) (λ c. search rules) (λ c κs. search rules) (λ c κs. search rules) (λ c κs. search rules) (λ c κs. search rules)
    (λ c.
    unfold behind_name within comes in
    let e = c in
    let m = e in
    let o = m.loop-next.report in
    let v = e.read_on-ahead.result.verdict in
    let t = e.read_on-ahead.result.trend in
    let said = sym c.is_refused_ahead.ensures in
    let answers : reading v (beside c.if-is_refused_ahead.report t) ≡ answer (outcome_of v (beside o t)) =
    elim c.if-is_refused_ahead.branch [
      | then-is_refused_ahead w ↦ blanked v o (said ∙ w.if-is_refused_ahead.true) (w.report-is ∙ w.blank_observation-report.ensures) (e.read_on-ahead.ensures.blank (said ∙ w.if-is_refused_ahead.true))
      | else-is_refused_ahead w ↦ unblanked v o (said ∙ w.if-is_refused_ahead.false) w.report-is
    ] in
    c.reading_with.ensures
    ∙ answers
    ∙ ap answer (sym (leaves m.loop-next.invariant m.meet-met.result m.meet-met.ensures m.in_default.in_default-own.keys2 ∙ e.follow-after.ensures o ∙ e.read_on-ahead.ensures.reads o)))
    (λ c κs. search rules) (λ c κs. search rules) (λ c κs. search rules) (λ c κs. search rules)
    (λ c.
    unfold behind_name within comes in
    let e = c in
    let m = e in
    let o = m.loop-next.report in
    let v = e.in-End.verdict in
    let t = c.blank_trend.result in
    let said = sym c.is_refused.ensures in
    let answers : reading v (beside c.if-is_refused.report t) ≡ answer (outcome_of v (beside o t)) =
    elim c.if-is_refused.branch [
      | then-is_refused w ↦ blanked v o (said ∙ w.if-is_refused.true) (w.report-is ∙ w.blank_observation-report-then-is_refused.ensures) c.blank_trend.ensures
      | else-is_refused w ↦ unblanked v o (said ∙ w.if-is_refused.false) w.report-is
    ] in
    let ends : after_part m.args.text.now 0 (alone o) e.follow-after.result ≡ outcome_of v (beside o t) =
    rw (e.in-End.is, c.blank_trend.ensures) in
    c.reading_of.ensures
    ∙ answers
    ∙ ap answer (sym (leaves m.loop-next.invariant m.meet-met.result m.meet-met.ensures m.in_default.in_default-own.keys2 ∙ e.follow-after.ensures o ∙ ends)))
    (λ c κs. search rules)
    (λ c. omega (arith, ahead c)) (λ c κs. search rules)
    (λ c. search rules) (λ c. less c.before) (λ c. again c.before c.in-Special.is (unfold report_said in refl))
    (λ c. search rules) (λ c. less c.before) (λ c. again c.before c.in-Corrected.is (unfold report_said in refl))
    (λ c. search rules) (λ c κs. search rules) (λ c κs. search rules) (λ c. less c.before.before.before) (λ c. again c.before.before.before c.in-Station.is (unfold report_said in rw (c.station_of-report.ensures, c.part.ensures)))
    (λ c. search rules) (λ c. less c.before) (λ c. again c.before c.in-Time.is (unfold report_said in refl))
    (λ c. search rules) (λ c. less c.before) (λ c. again c.before c.in-Nil.is (unfold report_said in refl))
    (λ c. search rules) (λ c. less c.before) (λ c. again c.before c.in-Automatic.is (unfold report_said in refl))
    (λ c. search rules) (λ c. less c.before) (λ c. again c.before c.in-Variation.is (unfold report_said in refl))
    (λ c. search rules) (λ c κs. search rules) (λ c. less c.before.before.before) (λ c. again c.before.before.before c.in-Runway.is (unfold report_said in rw c.add_runway-report.ensures))
    (λ c. search rules) (λ c. less c.before) (λ c. again c.before c.in-Temperatures.is (unfold report_said in refl))
    (λ c. search rules) (λ c. less c.before) (λ c. again c.before c.in-Qnh.is (unfold report_said in refl))
    (λ c. search rules) (λ c κs. search rules) (λ c. less c.before.before.before) (λ c. again c.before.before.before c.in-Recent.is (unfold report_said in rw c.add_weather-report.ensures))
    (λ c. search rules) (λ c κs. search rules) (λ c. less c.before.before.before) (λ c. again c.before.before.before c.in-State.is (unfold report_said in rw c.add_state-report.ensures))
    (λ c. search rules) (λ c κs. search rules) (λ c. less c.before.before.before) (λ c. again c.before.before.before c.in-Snoclo.is (unfold report_said in rw c.close-report.ensures))
    (λ c κs. search rules) (λ c. less c.before.before.before) (λ c. again c.before.before.before refl (rw c.put-report.ensures (others _ _ _ _ c.in_default-said.in_default-said-own.keys14))))
