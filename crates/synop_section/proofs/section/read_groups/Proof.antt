-- `section::read_groups` meets its contract: the reading from a position on stays what the groups are read as.
-- Assumes nothing.
use Rattle.std.specs.Prelude.{Ok}
use borrow.Author.Rules.{rules}
use Prim.Native.Nat.{ℕ, ◌+◌, ◌-◌, ◌<◌}
use native.Mathlib.Omega.{arith}
use mathlib.Core.Path.{◌≡◌, refl, sym, ◌∙◌}
use mathlib.Core.List.{List, [], ◌∷◌}
use lib.ListN.{length}
use types.Run.{miss}
use Rattle.text.proofs.Groups.{Follows, when-group, when-end, from_end}
use Rattle.shapes.specs.Pattern.{has_any}
use Rattle.places.proofs.Loop.{turn-room}
use Rattle.record.specs.declared.surface.Surface.{Surface}
use Rattle.record.specs.declared.surface.Synop.{Synop}
use Rattle.synop_groups.specs.declared.kinds.Said.{Said}
use Rattle.synop_row.specs.Row.{row, stop_words, with_said}
use Rattle.section3.proofs.Going.{reading}
use Rattle.synop_section.specs.Answer.{first_part}
use Rattle.synop_section.specs.Section.{later}
use Rattle.synop_section.proofs.SectionSteps.{done-over, done-halt, done-fault, done-bad, goes_on, row-few, row-endless, said-reads, added-among}
use Rattle.synop_section.proofs.section.read_groups.Statement.{statement}
use Rattle.synop_section.proofs.section.read_groups.Tie as tie

abbrev Inv : tie.invariant-loop-at
Inv text from rules surface₀ here₀ standing₀ at₀ surface here standing at = (takes : Surface → Synop)
    → reading (first_part rules takes) (later text 1) text 0 0 surface₀ from ≡ reading (first_part rules takes) (later text 1) text here standing surface at

abbrev μ : tie.decreases-loop-at
μ text from rules surface₀ here₀ standing₀ at₀ surface here standing at = length text - at

-- what the loop hands on: 00fff, and what no group of the row says
abbrev handed : List ℕ
handed = 1 ∷ 2 ∷ 3 ∷ 4 ∷ 5 ∷ 6 ∷ 16 ∷ []

-- past the next group's cut
follows : (c : tie.In-Group Inv μ) → Follows c.args.text.now c.loop-at.at c.in-Group.start c.in-Group.end
follows c = when-group _ _ _ _ (sym c.in-Group.is ∙ c.next_group.ensures)

-- a group is taken: reading goes on behind it, with the surface that has what it says
module _ (c : tie.After-said_at-said Inv μ) where
  less : length c.args.text.now - c.in-Group.end < length c.args.text.now - c.loop-at.at
  less = omega (arith, follows c.before.before.before.before)

  again : {y : Said} {s : Surface} → c.said_at-said.result ≡ y → with_said y c.loop-at.surface ≡ Ok s
      → Inv c.args.text.now c.args.from c.args.needs c.args.earlier 0 0 c.args.from s c.in-At.place (c.in-At.count + 1) c.in-Group.end
  again tells put = goes_on _ _ _ _ _ _ _ _ c.loop-at.invariant (follows c.before.before.before.before) c.part-g.ensures c.decide-turn.ensures c.in-At.is (said-reads _ _ _ _ _ c.said_at-said.ensures tells put) (row-endless _ _)

pub read_groups_spec : {M : Type 1} → statement M
read_groups_spec =
    tie.close
    (tie.spec Inv μ
    (λ c takes. refl)
    (λ c κs. search rules) (λ c. search rules) (λ c. search rules) (λ c κs. search rules) (λ c κs. search rules)
    (λ c. done-over _ _ _ _ _ _ _ _ c.loop-at.invariant c.end_section.ensures c.finish.ensures (when-end _ _ _ (sym c.in_default.is ∙ c.next_group.ensures)))
    (λ c κs. search rules) (λ c κs. search rules) (λ c. search rules) (λ c κs. search rules) (λ c κs. search rules)
    (λ c. done-halt _ _ _ _ _ _ _ _ c.loop-at.invariant (follows c.before.before.before.before.before) c.part-g.ensures c.decide-turn.ensures c.end_section-in-Halt.ensures c.in-Halt.is c.leave.ensures)
    (λ c. search rules) (λ c κs. search rules)
    (λ c. done-fault _ _ _ _ _ _ _ _ c.loop-at.invariant (follows c.before.before.before.before) c.part-g.ensures c.decide-turn.ensures c.refuse_section.ensures c.in-Refused.is)
    (λ c. search rules) (λ c κs. search rules)
    (λ c. omega (arith, turn-room (row _) (has_any stop_words) _ _ _ 1 (row-few _) c.decide-turn.ensures c.in-At.is))
    (λ c. search rules) (λ c κs. search rules)
    (λ c. done-bad _ _ _ _ _ _ _ _ c.loop-at.invariant (follows c.before.before.before.before.before.before) c.part-g.ensures c.decide-turn.ensures c.in-At.is c.refuse_section-in-Refused-said.ensures (said-reads _ _ _ _ _ c.said_at-said.ensures c.in-Refused-said.is (unfold with_said in refl)))
    (λ c. search rules) (λ c. less c.before) (λ c. again c.before c.in-Air.is (unfold with_said in refl))
    (λ c. search rules) (λ c. less c.before) (λ c. again c.before c.in-Moisture.is (unfold with_said in refl))
    (λ c. search rules) (λ c. less c.before) (λ c. again c.before c.in-Pressure.is (unfold with_said in refl))
    (λ c. search rules) (λ c. less c.before) (λ c. again c.before c.in-Level.is (unfold with_said in refl))
    (λ c. search rules) (λ c. less c.before) (λ c. again c.before c.in-Tendency.is (unfold with_said in refl))
    (λ c. search rules) (λ c. less c.before) (λ c. again c.before c.in-Rainfall.is (unfold with_said in refl))
    (λ c. search rules) (λ c. less c.before) (λ c. again c.before c.in-Weather.is (unfold with_said in refl))
    (λ c. search rules) (λ c. less c.before) (λ c. again c.before c.in-Clouds.is (unfold with_said in refl))
    (λ c. search rules) (λ c. less c.before) (λ c. again c.before c.in-Clock.is (unfold with_said in refl))
    (λ c κs. search rules) (λ c. less c.before.before) (λ c. again c.before.before refl (rw c.with_said-surface.ensures (added-among handed (miss handed 0 tt) _ c.in_default-said.in_default-said-own.keys11 _)))
    (λ c κs. search rules) (λ c κs. search rules)
    (λ c. done-over _ _ _ _ _ _ _ _ c.loop-at.invariant c.end_section-2.ensures c.finish-2.ensures (from_end _ _ c.loop-at-test.false)))
