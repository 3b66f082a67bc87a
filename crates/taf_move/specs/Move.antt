-- Document 02, No. 9: a TAF moved to the other edition, "the caller naming the days in the starting month".
-- Assumes nothing: these are definitions.
use Rattle.std.specs.Prelude.{⊤, ℕ, Result}
use Rattle.text.specs.declared.kinds.Refusal.{Refusal}
use Rattle.text.specs.Judge.{and_then}
use Rattle.record.specs.declared.aerodrome.Edition.{Edition}
use Rattle.record.specs.declared.aerodrome.Edition.TheVariants as edition
use Rattle.record.specs.declared.aerodrome.Taf.{Taf}
use Rattle.taf.specs.Write.{judge_in}
use Rattle.taf_times.specs.declared.kinds.MovedTaf.{MovedTaf}
use Rattle.taf_times.specs.Move.{judge_times, times_in, moved_by}

-- the edition that is left
abbrev pub other : Edition → Edition
other edition.Present = edition.Of2005
other edition.Of2005 = edition.Present

-- "11 for a record that is no TAF of the edition left, the writer's 11 or 7, then 11 for a month length outside 28 to 31 or a period or change day past it",
-- and then 15. The writer of an edition judges first that the record is of it.
unfoldable pub judge_move : Edition → ℕ → Taf → Result ⊤ Refusal
judge_move to days t = and_then (judge_in (other to) t) (judge_times days t)

-- A TAF IN THE OTHER EDITION; a blank one where it is refused.
unfoldable pub taf_moved : Edition → ℕ → Taf → MovedTaf
taf_moved to days t = moved_by (judge_move to days t) (times_in to days t)
