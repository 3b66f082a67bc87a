-- `synop_groups_write::write::put_signed` meets its contract: a group of a figure and three.
-- Assumes nothing.
use borrow.Author.Rules.{rules}
use mir.Syntax.{w32}
use mir.ValLaws.{to_z-of_z}
use Rattle.figures.specs.Figures.{number_text}
use Rattle.synop_groups_write.proofs.Writings.{sign-figure}
use Rattle.synop_groups_write.proofs.write.put_signed.Statement.{statement}
use Rattle.synop_groups_write.proofs.write.put_signed.Tie as tie

pub put_signed_spec : {M : Type 1} → statement M
put_signed_spec =
    tie.close
    (tie.spec
    (λ c κs. tt) (λ c κs. tt) (λ c κs. tt) (λ c. search rules)
    (λ c.
    let d1 = c in
    let d2 = d1 in
    let d3 = d2 in
    let back = to_z-of_z w32 d3.args.t (search rules) in
    unfold number_text in
    rw (d2.sign_figure.ensures, d1.magnitude.ensures, back, sign-figure) at c.put_two.ensures))
