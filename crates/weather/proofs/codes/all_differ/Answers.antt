-- One code more differs from those after it, or stands there again, or none is left.
use Rattle.std.proofs.Common.{◌-◌, length, refl, sym, ◌∙◌}
use Rattle.weather.proofs.Letters.{differ-next, differ-stop, differ-end}
use Rattle.weather.proofs.codes.all_differ.Goals as goal

pub returns-then-is_one : goal.returns-then-is_one
returns-then-is_one c =
    let s = c.loop-left.left.now in
    differ-stop s (length s - 2) c.in-len2-up.len_at_least refl (sym c.is_one.ensures ∙ c.if-is_one.true) ∙ c.loop-left.invariant

pub loop-left-preserved : goal.loop-left-preserved
loop-left-preserved c =
    let s = c.loop-left.left.now in
    differ-next s (length s - 2) c.in-len2-up.len_at_least refl (sym c.is_one.ensures ∙ c.if-is_one.false) ∙ c.loop-left.invariant

pub returns : goal.returns
returns c = differ-end c.loop-left.left.now c.in_default.len_below ∙ c.loop-left.invariant
