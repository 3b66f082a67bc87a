-- What std's `rposition` and `map_or` say, in words of the text.
use Rattle.std.proofs.Common.{rules, tests}
use Rattle.text.proofs.Leads.{last-found}
use Rattle.text.proofs.find_last_end.Goals as goal

pub returns : goal.returns
returns c =
    let t = c.args.text.now in
    last-found t c.rposition.result c.map_or.result (search (rules, tests)) (search (rules, tests))
