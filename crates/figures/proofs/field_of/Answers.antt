-- What the bytes left hold, one byte on and at the end.
use Rattle.std.proofs.Common.{◌≤◌, get_or, sym, add-one, arith, rules}
use Rattle.std.proofs.lemmas.List.{at_drop_more, at_drop_all}
use Rattle.figures.specs.Figures.{scan}
use Rattle.figures.proofs.field_of.Goals as goal
use Rattle.figures.proofs.field_of.Goals.{then-is_figure, else-is_figure+then-is_slash}

pub returns-else-is_slash : goal.returns-else-is_slash
unfolding scan
returns-else-is_slash c =
    let l = c.loop-b in
    let turn = at_drop_more (scan l.n l.fig l.slash) c.args.s.now l.b-index 0 c.loop-b-test.true in
    sym (rw (l.invariant.1, ← c.if-is_figure.ensures, ← c.if-is_slash.ensures) at turn)

pub loop-b-preserved : goal.loop-b-preserved
unfolding scan
loop-b-preserved c =
    let l = c.loop-b in
    let turn = at_drop_more (scan l.n l.fig l.slash) c.args.s.now l.b-index 0 c.loop-b-test.true in
    elim c.if-is_figure.branch [
      | then-is_figure w ↦
          (let most : get_or c.args.s.now l.b-index 0 ≤ 57 = search rules in
          (rw (w.n-is, add-one) (omega arith), rw (w.n-is, w.fig-is, w.slash-is) (sym (rw (l.invariant.1, ← w.if-is_figure.ensures) at turn))))
      | else-is_figure+then-is_slash w ↦ (
        rw (w.n-is, add-one) (omega arith),
        rw (w.n-is, w.fig-is, w.slash-is) (sym (rw (l.invariant.1, ← w.if-is_figure.ensures, ← w.if-is_slash.ensures) at turn)),
      )
    ]

pub returns-in-true-true : goal.returns-in-true-true
unfolding scan
returns-in-true-true c =
    let l = c.loop-b in
    let done = at_drop_all (scan l.n l.fig l.slash) c.args.s.now l.b-index (omega arith) in
    sym (rw (l.invariant.1, c.in-true-true.is-0, c.in-true-true.is-1) at done)

pub returns-in-true-false : goal.returns-in-true-false
unfolding scan
returns-in-true-false c =
    let l = c.loop-b in
    let done = at_drop_all (scan l.n l.fig l.slash) c.args.s.now l.b-index (omega arith) in
    sym (rw (l.invariant.1, c.in-true-false.is-0, c.in-true-false.is-1) at done)

pub returns-in-false-default : goal.returns-in-false-default
unfolding scan
returns-in-false-default c =
    let l = c.loop-b in
    let done = at_drop_all (scan l.n l.fig l.slash) c.args.s.now l.b-index (omega arith) in
    sym (rw (l.invariant.1, c.in-false-default.is-0) at done)
