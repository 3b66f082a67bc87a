-- A figure is at most 36.
use Rattle.std.proofs.Common.{sym, ◌∙◌, arith}
use Rattle.scales.proofs.DirectionLaws.{ddd-most}
use Rattle.wind.proofs.directions.degrees_text.Goals as goal

pub overflow_mul-result : goal.overflow_mul-result
overflow_mul-result c = omega (arith, rw (sym c.direction_figure.ensures ∙ c.in-Some.is) at (ddd-most c.args.d))
