-- The head, and the body by the part's terms.
use Rattle.std.proofs.Common.{false, not}
use Rattle.taf_row.specs.Row.{is_main, is_whole}
use Rattle.taf_write.proofs.Writing.{put-parts}
use Rattle.taf_write.proofs.write.put_part.Goals as goal

pub returns : goal.returns
returns c = let a = c.args in put-parts a.edition a.w a.r c.put_head-headed.ensures (c.put_body.ensures (is_whole a.w) (not (is_main a.w)) false false)
