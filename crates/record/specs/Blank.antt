-- The blank record: "A refused reading returns a blank record (all fields missing)."
-- Assumes nothing: these are definitions.
use Rattle.std.specs.Prelude.{List, replicate, Bool, true, false, None}
use Rattle.record.specs.declared.values.Direction.TheVariants as direction
use Rattle.record.specs.declared.values.Speed.TheVariants as speed
use Rattle.record.specs.declared.surface.CallSign.{CallSign}
use Rattle.record.specs.declared.surface.Position.{Position}
use Rattle.record.specs.declared.surface.Time.{Time}
use Rattle.record.specs.declared.surface.Sight.TheVariants as sight
use Rattle.record.specs.declared.surface.Moist.TheVariants as moist
use Rattle.record.specs.declared.surface.AtLevel.TheVariants as at_level
use Rattle.record.specs.declared.surface.BaseHeight.TheVariants as height
use Rattle.record.specs.declared.surface.CloudLayer.{CloudLayer}
use Rattle.record.specs.declared.surface.CloudLayers.{CloudLayers}
use Rattle.record.specs.declared.surface.Section3.{Section3}
use Rattle.record.specs.declared.surface.Surface.{Surface}
use Rattle.record.specs.declared.surface.Site.{Site}
use Rattle.record.specs.declared.surface.Synop.{Synop}

abbrev pub blank_sign : CallSign
blank_sign = record { letters = replicate 9 0; length = 0 }

abbrev pub blank_position : Position
blank_position = record { latitude = None; longitude = None }

abbrev pub blank_time : Time
blank_time = record { day = None; hour = None; unit = None }

abbrev pub blank_surface : Surface
blank_surface =
    record {
      indicators = record { rain = None; weather = None; base = None; sight = sight.Missing };
      wind = record { cover = None; direction = direction.Missing; speed = speed.Missing };
      air = record { temperature = None };
      moisture = record { is = moist.Missing };
      pressure = record { station = None };
      level = record { is = at_level.Missing };
      tendency = record { is = None };
      rainfall = record { is = None };
      weather = record { present = None; past = None; past2 = None };
      clouds = record { amount = None; low = None; middle = None; high = None };
      clock = record { is = None };
    }

abbrev pub blank_layer : CloudLayer
blank_layer = record { amount = None; cloud = None; height = height.Missing }

abbrev pub blank_layers : CloudLayers
blank_layers = record { items = replicate 4 blank_layer; count = 0 }

abbrev pub blank_section3 : Section3
blank_section3 = record { maximum = record { temperature = None }; minimum = record { temperature = None }; layers = blank_layers }

abbrev pub blank_site : Site
blank_site = record { station = None; sign = blank_sign; position = blank_position; time = blank_time; nil = false }

abbrev pub blank_synop : Synop
blank_synop = record { ship = false; site = blank_site; surface = blank_surface; section3 = blank_section3 }
