-- `taf::part::read_part` meets its contract: the reading from a position on stays what the text is read as, and each group's saying goes into the part.
-- Assumes nothing.
use borrow.Author.Rules.{rules}
use mathlib.Core.Path.{◌≡◌, refl}
use Prim.Native.Nat.{◌+◌, ◌-◌, ◌<◌}
use native.Mathlib.Omega.{arith}
use lib.ListN.{length}
use Rattle.record.specs.declared.aerodrome.Leg.{Leg}
use Rattle.record.specs.Taf.{set_body}
use Rattle.elements.specs.declared.kinds.Said.{Said}
use Rattle.body.specs.declared.kinds.Saying.{Saying}
use Rattle.body.specs.Said.{put_said}
use Rattle.taf.specs.Said.{part_said}
use Rattle.taf.specs.Read.{part_in, changes}
use Rattle.taf.proofs.Steps.{others}
use Rattle.body.proofs.Parts.{starts, group-ahead, reads_on}
use Rattle.taf.proofs.Turns.{Reached, part-over, part-word, part-fault}
use Rattle.taf.proofs.part.read_part.Statement.{statement}
use Rattle.taf.proofs.part.read_part.Tie as tie

abbrev Inv : tie.invariant-loop-start
Inv edition text at n part leg₀ body₀ here₀ standing₀ from₀ leg body here standing from = Reached edition text part n standing₀ leg₀ at here standing (set_body body leg) from

abbrev μ : tie.decreases-loop-start
μ edition text at n part leg₀ body₀ here₀ standing₀ from₀ leg body here standing from = length text - from

-- the group that is taken; it lies ahead, and the part with it is read on from there
abbrev group : tie.In-Says Inv μ → Saying
group c = c.in-Says.group

less : (c : tie.After-part-g Inv μ) → length c.args.text.now - (group c.before.before.before).end < length c.args.text.now - c.loop-start.from
less c = omega (arith, group-ahead c.loop-start.invariant part_said _ c.meet-met.ensures refl c.in-Says.is)

on : (c : tie.After-part-g Inv μ) {x : Said} {leg : Leg} → (group c.before.before.before).said ≡ x → leg ≡ part_said (group c.before.before.before).count c.part-g.result.now x (set_body c.loop-start.body c.loop-start.leg)
    → Reached c.args.edition c.args.text.now c.args.outset.part c.args.n c.args.outset.stood c.begin_leg-leg.result c.args.at c.go_past-here.result ((group c.before.before.before).count + 1) leg (group c.before.before.before).end
on c is put = reads_on c.loop-start.invariant part_said _ c.meet-met.ensures refl c.in-Says.is (c.go_past-here.ensures _ _) is (rw c.part-g.ensures at put)

pub read_part_spec : {M : Type 1} → statement M
read_part_spec =
    tie.close
    (tie.spec
    Inv μ
    (λ c κs. search rules) (λ c. let a = c.args in starts (changes a.edition) a.text.now (part_in a.edition a.outset.part) (16 - a.n) a.outset.stood _ a.at (λ x. (refl, refl))) (λ c κs. search rules)
    (λ c. search rules) (λ c κs. search rules)
    (λ c. part-over (rw c.begin_leg-leg.ensures at c.loop-start.invariant) c.meet-met.ensures c.in-Over.is c.end_part.ensures)
    (λ c. search rules) (λ c κs. search rules)
    (λ c. part-word (rw c.begin_leg-leg.ensures at c.loop-start.invariant) c.meet-met.ensures c.in-Halt.is c.meet_word.ensures)
    (λ c. search rules) (λ c κs. search rules)
    (λ c. part-fault (rw c.begin_leg-leg.ensures at c.loop-start.invariant) c.meet-met.ensures c.in-Refused.is (rw c.refuse_part.ensures))
    (λ c. search rules) (λ c κs. search rules)
    (λ c. omega (arith, group-ahead c.loop-start.invariant part_said _ c.meet-met.ensures refl c.in-Says.is))
    (λ c κs. search rules)
    (λ c. search rules) (λ c. less c.before) (λ c. on c.before c.in-Correction.is (unfold part_said in refl))
    (λ c. search rules) (λ c κs. search rules) (λ c. less c.before.before) (λ c. on c.before.before c.in-Station.is (rw c.station_of-leg.ensures (unfold part_said in refl)))
    (λ c. search rules) (λ c. less c.before) (λ c. on c.before c.in-Time.is (unfold part_said in refl))
    (λ c. search rules) (λ c. less c.before) (λ c. on c.before c.in-Nil.is (unfold part_said in refl))
    (λ c. search rules) (λ c. less c.before) (λ c. on c.before c.in-Period.is (unfold part_said in refl))
    (λ c. search rules) (λ c. less c.before) (λ c. on c.before c.in-Cancelled.is (unfold part_said in refl))
    (λ c. search rules) (λ c. less c.before) (λ c. on c.before c.in-Wind.is (unfold part_said in unfold put_said in refl))
    (λ c. search rules) (λ c. less c.before) (λ c. on c.before c.in-Visibility.is (unfold part_said in unfold put_said in refl))
    (λ c. search rules) (λ c κs. search rules) (λ c. less c.before.before.before) (λ c. on c.before.before.before c.in-Weather.is (rw c.add_weather-body.ensures (unfold part_said in unfold put_said in refl)))
    (λ c. search rules) (λ c κs. search rules) (λ c. less c.before.before.before) (λ c. on c.before.before.before c.in-Layer.is (rw c.add_layer-body.ensures (unfold part_said in unfold put_said in refl)))
    (λ c κs. search rules) (λ c. less c.before.before) (λ c. on c.before.before refl (rw c.put-body.ensures (others _ _ _ _ c.in_default.in_default-own.keys11))))
