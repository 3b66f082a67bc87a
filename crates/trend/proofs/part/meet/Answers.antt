-- The group that was cut, by its turn and by what it says, in a change that is as the loop sees it.
use Rattle.std.proofs.Common.{◌≡◌, sym, ◌∙◌}
use Rattle.text.proofs.Groups.{when-group, when-end}
use Rattle.shapes.specs.Pattern.{has_any}
use Rattle.record.specs.declared.aerodrome.TrendChange.{TrendChange}
use Rattle.metar_row.specs.Row.{words}
use Rattle.trend_row.specs.Row.{row}
use Rattle.trend.specs.Said.{change_said}
use Rattle.body.proofs.Meets.{meets-halt, meets-fault, meets-said}
use Rattle.trend.proofs.Steps.{row-few}
use Rattle.trend.proofs.part.meet.Goals as goal

pub returns-in_default : goal.returns-in_default
returns-in_default c = when-end _ _ _ (sym c.in_default.is ∙ c.next_group.ensures)

pub returns-in-Halt : goal.returns-in-Halt
returns-in-Halt c =
    let follows = when-group _ _ _ _ (sym c.in-Group.is ∙ c.next_group.ensures) in
    meets-halt (row _) (has_any words) change_said _ _ (λ (r : TrendChange). (r.times ≡ c.args.times) × (r.body ≡ c.args.body)) follows c.part-g.ensures c.decide.ensures c.in-Halt.is

pub returns-in-Refused : goal.returns-in-Refused
returns-in-Refused c =
    let follows = when-group _ _ _ _ (sym c.in-Group.is ∙ c.next_group.ensures) in
    meets-fault (row _) (has_any words) change_said _ _ (λ (r : TrendChange). (r.times ≡ c.args.times) × (r.body ≡ c.args.body)) follows c.part-g.ensures c.decide.ensures c.in-Refused.is

pub returns-in-At : goal.returns-in-At
returns-in-At c =
    let follows = when-group _ _ _ _ (sym c.in-Group.is ∙ c.next_group.ensures) in
    meets-said (row _) (has_any words) change_said _ _ (λ (r : TrendChange). (r.times ≡ c.args.times) × (r.body ≡ c.args.body)) follows c.part-g.ensures c.decide.ensures c.in-At.is (row-few _) c.say_at-said.result (c.say_at-said.ensures _) c.meet_said.ensures
