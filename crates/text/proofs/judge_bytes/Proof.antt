-- `text::judge_bytes` meets its contract: each return is one of the cases of `bytes_of`.
-- Assumes nothing.
use mathlib.Core.Path.{sym, refl, ◌∙◌}
use native.Mathlib.Omega.{arith}
use native.Mathlib.Nat.{zero-add}
use borrow.Author.Rules.{rules}
use Rattle.text.specs.Bytes.{allowed, lead}
use Rattle.text.proofs.Leads.{lead-all, lead-some}
use Rattle.text.proofs.Texts.{bytes-none, bytes-long, bytes-bad, bytes-sound}
use Rattle.text.proofs.judge_bytes.Statement.{statement}
use Rattle.text.proofs.judge_bytes.Tie as tie

pub judge_bytes_spec : {M : Type 1} → statement M
judge_bytes_spec =
    tie.close
    (tie.spec
    (λ c. sym (bytes-none c.args.text.now c.if-text-eq0.true))
    (λ c. sym (bytes-long c.args.text.now c.if-text-gt2048.true))
    (λ c κs. search rules) (λ c κs. search rules)
    (λ c.
    let d = c in
    let t = d.args.text.now in
    sym (bytes-sound t d.if-text-eq0.false d.if-text-gt2048.false (lead allowed t) refl (omega (arith, lead-all allowed t (sym c.are_all.ensures ∙ c.if-are_all.true)))))
    (λ c.
    let d = c in
    let t = d.args.text.now in
    let bad = c.reach.ensures ∙ zero-add _ in
    sym (bytes-bad t d.if-text-eq0.false d.if-text-gt2048.false _ bad (rw bad (lead-some allowed t (sym c.are_all.ensures ∙ c.if-are_all.false))))))
