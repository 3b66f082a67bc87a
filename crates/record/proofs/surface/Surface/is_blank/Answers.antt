-- `record::surface::Surface::is_blank` meets its contract: each part of it is blank.
-- Assumes nothing.
use Rattle.std.proofs.Common.{refl}
use Rattle.record.specs.SilentSurface.{no_surface}
use Rattle.record.proofs.Blanks.{missing-by}
use Rattle.record.proofs.surface.Surface.is_blank.Goals as goal

pub returns : goal.returns
unfolding no_surface
returns c =
    let s = c.args.self in
    rw (c.is_blank.ensures, c.is_blank-2.ensures, missing-by s.air.temperature c.is_none.ensures, c.is_missing.ensures, missing-by s.pressure.station c.is_none-2.ensures)
    (rw (c.is_missing-2.ensures, missing-by s.tendency.is c.is_none-3.ensures, missing-by s.rainfall.is c.is_none-4.ensures, c.is_blank-3.ensures, c.is_blank-4.ensures, missing-by s.clock.is c.is_none-5.ensures)
    refl)
