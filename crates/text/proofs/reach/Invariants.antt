-- How far the bytes of the run reach is the same from `at` as from `i`, which goes up to the text's end.
use Rattle.std.proofs.Common.{◌≡◌, ◌+◌, ◌≤◌, max, length, drop}
use Rattle.text.specs.Bytes.{passes, lead}
use Rattle.text.proofs.reach.Given as goal

abbrev pub invariant-loop-i : goal.invariant-loop-i
invariant-loop-i l = (l.i ≤ max l.at (length l.text)) × (l.at + lead (passes l.run) (drop l.at l.text) ≡ l.i + lead (passes l.run) (drop l.i l.text))
