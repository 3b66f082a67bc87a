-- `taf::group::say_at` meets its contract, place by place.
-- Assumes nothing.
use borrow.Author.Rules.{rules}
use Prim.Native.Nat.{zero-le}
use mathlib.Core.Path.{refl}
use Rattle.places.proofs.Rows.{beyond}
use Rattle.body.specs.Said.{put_said}
use Rattle.taf_row.specs.Row.{row}
use Rattle.taf.specs.Said.{part_said}
use Rattle.taf.proofs.Steps.{nsw-asked, says-body, says-time, says-own, says-change, says_nothing}
use Rattle.taf.proofs.group.say_at.Statement.{statement}
use Rattle.taf.proofs.group.say_at.Tie as tie

pub say_at_spec : {M : Type 1} → statement M
say_at_spec =
    tie.close
    (tie.spec
    (λ c κs. search rules) (λ c κs. search rules) (λ c κs. search rules) (λ c κs. search rules) (λ c κs. search rules) (λ c κs. search rules)
    (λ c κs. search rules) (λ c κs. search rules) (λ c κs. search rules) (λ c κs. search rules) (λ c κs. search rules)
    (λ c. rw c.in-0.is (unfold row part_said put_said in λ r is. refl))
    (λ c. rw (c.in-1.is, c.correction_of.ensures) (unfold row part_said in λ r is. refl))
    (λ c. rw c.in-2.is (unfold row part_said in λ r is. refl))
    (λ c. rw (c.in-3.is, c.read_time.ensures) (says-time _ _ _ _ _))
    (λ c. rw c.in-4.is (unfold row part_said in λ r is. refl))
    (λ c. rw (c.in-5.is, c.read_period.ensures, c.own_form.ensures) (says-own _ _ _ _ _))
    (λ c. rw (c.in-6.is, c.read_period-in-6.ensures, c.change_form.ensures) (says-change _ _ _ _ _))
    (λ c. rw c.in-7.is (unfold row part_said in λ r is. refl))
    (λ c. rw c.in-8.is (says-body _ _ _ _ _ 8 0 (nsw-asked c.args.part c.is_main-change.ensures c.say.ensures) (unfold row in λ r. refl)))
    (λ c. rw c.in-9.is (says-body _ _ _ _ _ 9 1 (nsw-asked c.args.part c.is_main-change.ensures c.say-in-9.ensures) (unfold row in λ r. refl)))
    (λ c. rw c.in-10.is (says-body _ _ _ _ _ 10 2 (nsw-asked c.args.part c.is_main-change.ensures c.say-in-10.ensures) (unfold row in λ r. refl)))
    (λ c. rw c.in-11.is (says-body _ _ _ _ _ 11 3 (nsw-asked c.args.part c.is_main-change.ensures c.say-in-11.ensures) (unfold row in λ r. refl)))
    (λ c. let a = c.args in says_nothing a.edition a.part a.count a.g.now a.b a.place (beyond 0 12 a.place zero-le c.in_default.in_default-own.rest)))
