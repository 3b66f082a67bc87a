-- All bytes pass just where those seen did and those left do.
use Rattle.std.proofs.Common.{◌≡◌, ◌&&◌, drop}
use Rattle.figures.specs.Figures.{every}
use Rattle.text.specs.Bytes.{passes}
use Rattle.text.proofs.are_all.Given as goal

abbrev pub invariant-loop-b : goal.invariant-loop-b
invariant-loop-b l = every (passes l.run) l.text ≡ (l.fine && every (passes l.run) (drop l.b-index l.text))
