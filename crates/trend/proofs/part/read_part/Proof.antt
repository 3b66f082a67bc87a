-- `trend::part::read_part` meets its contract: the reading from a position on stays what the text is read as, and each group's saying goes into the change.
-- Assumes nothing.
use borrow.Author.Rules.{rules}
use mathlib.Core.Path.{◌≡◌, refl, sym, ap}
use mathlib.Core.List.{List}
use Prim.Native.Nat.{ℕ, ◌+◌, ◌-◌, ◌≤◌, ◌<◌}
use native.Mathlib.Omega.{arith}
use lib.ListN.{length}
use Rattle.text.specs.Groups.{part_of}
use Rattle.record.specs.declared.aerodrome.TrendChange.{TrendChange}
use Rattle.elements.specs.declared.kinds.Said.{Said}
use Rattle.body.specs.declared.kinds.Saying.{Saying}
use Rattle.trend.specs.Said.{change_said}
use Rattle.body.proofs.Parts.{starts, group-ahead, reads_on}
use Rattle.trend_row.specs.Row.{row}
use Rattle.trend.specs.Read.{part_in, parts}
use Rattle.trend.proofs.Steps.{row-endless, others}
use Rattle.trend.proofs.Turns.{Reached, part-over, part-word, part-fault}
use Rattle.trend.proofs.part.read_part.Statement.{statement}
use Rattle.trend.proofs.part.read_part.Tie as tie

abbrev Inv : tie.invariant-loop-start
Inv text at word n free change₀ here₀ standing₀ from₀ change here standing from = Reached text free word n at here standing change from

abbrev μ : tie.decreases-loop-start
μ text at word n free change₀ here₀ standing₀ from₀ change here standing from = length text - from

-- where a group is taken, before what it says is stored
module _ (c : tie.After-struct_known-1 Inv μ) where
  abbrev text : List ℕ
  text = c.args.text.now

  abbrev group : Saying
  group = c.in-Says.group

  ahead : (c.loop-start.from < group.end) × (group.end ≤ length text) × (group.count < 4)
  ahead = group-ahead c.loop-start.invariant change_said _ c.meet-met.ensures (refl, refl) c.in-Says.is

  less : length text - group.end < length text - c.loop-start.from
  less = omega (arith, ahead)

  -- the change with it is read on from behind it
  on : {x : Said} {change : TrendChange} → group.said ≡ x → change ≡ change_said group.count (part_of text group.start group.end) x c.loop-start.change
      → Reached text c.is_change-free.result c.args.word c.args.n c.args.at group.place (group.count + 1) change group.end
  on tells put = reads_on c.loop-start.invariant change_said _ c.meet-met.ensures (refl, refl) c.in-Says.is (row-endless c.is_change-free.result group.place) tells put

pub read_part_spec : {M : Type 1} → statement M
read_part_spec =
    tie.close
    (tie.spec Inv μ
    (λ c κs. search rules) (λ c κs. search rules)
    (λ c. let a = c.args in rw c.start_of-change.ensures (starts parts a.text.now (part_in a.word) (3 - a.n) 0 _ a.at (λ x. (ap row (sym c.is_change-free.ensures), refl))))
    (λ c κs. search rules) (λ c. search rules) (λ c κs. search rules)
    (λ c. part-over _ c.loop-start.invariant c.meet-met.ensures c.in-Over.is c.end_part.ensures)
    (λ c. search rules) (λ c κs. search rules) (λ c κs. search rules)
    (λ c. part-word _ c.loop-start.invariant c.meet-met.ensures c.in-Halt.is (rw c.part.ensures at c.leave_part.ensures))
    (λ c. search rules) (λ c κs. search rules)
    (λ c. part-fault _ c.loop-start.invariant c.meet-met.ensures c.in-Refused.is (rw c.refuse_part.ensures))
    (λ c. search rules)
    (λ c. omega (arith, ahead c))
    (λ c. search rules) (λ c. less c.before) (λ c. on c.before c.in-Times.is (unfold change_said in refl))
    (λ c κs. search rules) (λ c. less c.before.before.before) (λ c. on c.before.before.before refl (rw c.put-change.ensures (others _ _ _ _ c.in_default.in_default-own.keys2))))
