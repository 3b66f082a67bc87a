-- Each call stands further on in the text: a part ends at a change word past it, and a change's part begins behind its word.
use Rattle.std.proofs.Common.{length, ◌+◌, ◌-◌, ◌*◌}
use Rattle.taf.proofs.read.+read_body_read_change.Given as goal

abbrev pub decreases-read_body : goal.decreases-read_body
decreases-read_body l = 2 * (length l.text.now - l.at)

abbrev pub decreases-read_change : goal.decreases-read_change
decreases-read_change l = 2 * (length l.text.now - l.at) + 1
