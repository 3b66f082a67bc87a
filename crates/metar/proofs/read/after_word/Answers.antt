-- What the word comes to.
use Rattle.metar.proofs.Steps.{word-leads}
use Rattle.metar.proofs.read.after_word.Goals as goal

pub returns : goal.returns
returns c o =
    let a = c.args in
    word-leads a.text.now a.start a.end a.here.place a.here.count o c.part-g.ensures (c.owes.ensures o) c.meet_word.ensures
