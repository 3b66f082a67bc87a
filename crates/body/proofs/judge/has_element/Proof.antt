-- `body::judge::has_element` meets its contract, test by test.
-- Assumes nothing.
use Rattle.body.proofs.judge.has_element.Statement.{statement}
use Rattle.body.proofs.judge.has_element.Tie as tie

pub has_element_spec : {M : Type 1} → statement M
has_element_spec =
    tie.close
    (tie.spec
    (λ c κs. tt) (λ c κs. tt) (λ c κs. tt)
    (λ c. rw (c.is_missing-blown.ensures, c.is_missing-unseen.ensures, c.is_layers-layers.ensures)))
