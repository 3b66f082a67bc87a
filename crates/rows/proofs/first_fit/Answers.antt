-- At a place that answers, one place on, and past the row.
use Rattle.std.proofs.Common.{◌≡◌, length, refl, sym, ap, ◌∙◌, arith}
use Rattle.std.proofs.lemmas.List.{length-map}
use Rattle.text.proofs.Groups.{whole_part}
use Rattle.places.proofs.Fits.{fit-open, fit-shut, fit_next}
use Rattle.rows.proofs.First.{first-here, first-none}
use Rattle.rows.proofs.first_fit.Goals.{else-may_answer-via-then-may_answer+else-has_at, else-may_answer-via-else-may_answer}
use Rattle.rows.proofs.first_fit.Goals as goal

pub loop-i-init : goal.loop-i-init
loop-i-init g c =
    let most = c.mosts-most in
    let many : length most.result ≡ g.row.N = most.type_inv.1.1.0.1 in
    record {
      size = sym (ap length most.ensures ∙ length-map (g.R.Row.places c.args.row) (λ p. p.most)) ∙ many;
      same = refl;
    }

pub returns-then-has_at : goal.returns-then-has_at
returns-then-has_at g c =
    let l = c.loop-i in
    let a = c.args in
    let row = g.R.Row.places a.row in
    let same : c.anew-group.result.now ≡ a.g.now = c.anew-group.ensures.bytes ∙ whole_part _ _ refl in
    let fits = fit-open row a.g.now a.all l.i l.k c.mosts-most.ensures c.most_at.ensures (sym c.may_answer.ensures ∙ c.if-may_answer.true) (rw same at c.has_at.ensures) in
    first-here row a.g.now a.all l.i l.k l.invariant.same (omega arith) (sym fits ∙ c.if-has_at.true)

pub loop-i-preserved : goal.loop-i-preserved
loop-i-preserved g c =
    let l = c.loop-i in
    let a = c.args in
    let row = g.R.Row.places a.row in
    let same : c.anew-group.result.now ≡ a.g.now = c.anew-group.ensures.bytes ∙ whole_part _ _ refl in
    record {
      size = l.invariant.size;
      same =
          l.invariant.same
          ∙ fit_next row a.g.now a.all l.i l.k (omega arith)
          (elim c.else-may_answer.branch [
            | else-may_answer-via-then-may_answer+else-has_at w ↦
                sym (fit-open row a.g.now a.all l.i l.k c.mosts-most.ensures c.most_at.ensures (sym c.may_answer.ensures ∙ w.if-may_answer.true) (rw same at w.has_at.ensures)) ∙ w.if-has_at.false
            | else-may_answer-via-else-may_answer w ↦
                sym (fit-shut row a.g.now a.all l.i l.k c.mosts-most.ensures c.most_at.ensures (sym c.may_answer.ensures ∙ w.if-may_answer.false))
          ]);
    }

pub returns : goal.returns
returns g c =
    let l = c.loop-i in
    let a = c.args in
    first-none (g.R.Row.places a.row) a.g.now a.all l.i l.k l.invariant.same (omega arith)
