-- No room for one change more, what the word opens, and the word's refusal.
use Rattle.std.proofs.Common.{sym, ◌∙◌, arith}
use borrow.Author.Tests.{leb-true, leb-false}
use Rattle.taf.proofs.Turns.{meets-full, meets-good, meets-bad}
use Rattle.taf.proofs.part.after_word.Goals as goal

pub returns-then-is_full : goal.returns-then-is_full
returns-then-is_full c =
    let a = c.args in
    rw (c.refuse-then-is_full.ensures, c.if-lacking.false) (meets-full a.edition a.g.now a.start a.end a.n (leb-true 16 a.n (sym c.is_full.ensures ∙ c.if-is_full.true)))

pub returns-in-Ok : goal.returns-in-Ok
returns-in-Ok c =
    let a = c.args in
    rw c.if-lacking.false (meets-good a.edition a.g.now a.start a.end a.n (omega (arith, leb-false 16 a.n (sym c.is_full.ensures ∙ c.if-is_full.false))) _ c.open_change.ensures _ _ c.in-Ok.is)

pub returns-in-Err : goal.returns-in-Err
returns-in-Err c =
    let a = c.args in
    rw (c.refuse-in-Err.ensures, c.if-lacking.false) (meets-bad a.edition a.g.now a.start a.end a.n (omega (arith, leb-false 16 a.n (sym c.is_full.ensures ∙ c.if-is_full.false))) _ c.open_change.ensures c.in-Err.is)
