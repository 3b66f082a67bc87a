-- `metar_sources::meet` meets its contract: the group that was cut, by its turn.
-- Assumes nothing.
use borrow.Author.Rules.{rules}
use mathlib.Core.Path.{refl}
use Rattle.metar_sources.proofs.Steps.{met-end, met-turn}
use Rattle.metar_sources.proofs.meet.Statement.{statement}
use Rattle.metar_sources.proofs.meet.Tie as tie

pub meet_spec : {M : Type 1} → statement M
meet_spec =
    tie.close
    (tie.spec
    (λ c κs. search rules) (λ c. search rules) (λ c. search rules)
    (λ c. met-end _ _ _ _ _ _ c.next_group.ensures c.in_default.is)
    (λ c κs. search rules) (λ c κs. search rules) (λ c. search rules) (λ c κs. search rules) (λ c. search rules) (λ c. search rules) (λ c κs. search rules)
    (λ c. met-turn _ _ _ _ _ _ c.next_group.ensures c.in-Group.is c.part-g.ensures c.turn_in-turn.ensures c.in-Halt.is c.meet_word.ensures)
    (λ c. met-turn _ _ _ _ _ _ c.next_group.ensures c.in-Group.is c.part-g.ensures c.turn_in-turn.ensures c.in-Refused.is refl)
    (λ c. met-turn _ _ _ _ _ _ c.next_group.ensures c.in-Group.is c.part-g.ensures c.turn_in-turn.ensures c.in-At.is (rw (c.past_in.ensures c.args.word))))
