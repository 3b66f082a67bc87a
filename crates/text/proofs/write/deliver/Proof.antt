-- `text::write::deliver` meets its contract: the text's length decides, and with room the text is put whole.
-- Assumes nothing.
use borrow.Author.Rules.{rules}
use Rattle.text.proofs.Writes.{no_room, with-room}
use Rattle.text.proofs.write.deliver.Statement.{statement}
use Rattle.text.proofs.write.deliver.Tie as tie

pub deliver_spec : {M : Type 1} → statement M
deliver_spec =
    tie.close
    (tie.spec
    (λ c. let d = c in no_room d.args.text.now d.args.out.now c.if-out-text.true)
    (λ c κs. search rules) (λ c. search rules)
    (λ c. with-room c.if-out-text.false c.put_text-count.ensures))
