-- Writing a SYNOP or SHIP: what the writer judges, the canonical text, and the record that it is read back as.
-- Assumes nothing: these are definitions.
use Rattle.std.specs.Prelude.{⊤, ℕ, Bool, cond, not, ◌&&◌, ◌||◌, List, [], ◌∷◌, ◌++◌, Err, Ok, Result}
use Rattle.text.specs.declared.kinds.Refusal.{Refusal}
use Rattle.figures.specs.Quote.{bytes}
use Rattle.text.specs.declared.kinds.Refusal.TheVariants as refusal
use Rattle.text.specs.Judge.{and_then}
use Rattle.text.specs.Write.{answer_by, buffer_by}
use Rattle.text.specs.Groups.{join}
use Rattle.places.specs.Engine.{Group, written}
use Rattle.record.specs.declared.surface.Surface.{Surface}
use Rattle.record.specs.declared.surface.Synop.{Synop}
use Rattle.synop_groups.specs.Shows.{show_time, show_station, show_sign, show_latitude, show_longitude, show_indicators, show_wind}
use Rattle.record.specs.Missing.{is_missing}
use Rattle.record.specs.SilentSurface.{no_sign, no_position, no_surface, no_section3}
use Rattle.synop_groups.specs.Judge.{judge_time, judge_station, judge_sign, judge_position, judge_indicators, judge_wind, judge_air, judge_moisture, judge_pressure, judge_level, judge_tendency, judge_rainfall, judge_weather, judge_clouds, judge_clock}
use Rattle.synop_groups.specs.Classes.{class_indicators, class_wind, class_rainfall}
use Rattle.section3.specs.Write.{judge_section3, show_section3, class_section3}
use Rattle.synop_row.specs.declared.kinds.Needs.{Needs}
use Rattle.synop_row.specs.Row.{needs_of, row}

-- ---- foreign fields: "a field foreign to the kind (or to NIL, CNL) that is not blank"

-- a land report has no call sign and no position, a ship no station number and no NIL; a NIL report has nothing after its station, so no section 3 either
unfoldable pub foreign_blank : Synop → Bool
foreign_blank r =
    cond r.ship (is_missing r.site.station && not r.site.nil) (no_sign r.site.sign && no_position r.site.position)
    && (not r.site.nil || (no_surface r.surface && no_section3 r.section3))

-- ---- "The writer judges foreign fields first, then the others in written order, 11 before 7 at each"

abbrev pub foreign : Synop → Result ⊤ Refusal
foreign r = cond (foreign_blank r) (Ok tt) (Err refusal.Value)

unfoldable pub judge_site : Synop → Result ⊤ Refusal
judge_site r =
    cond r.ship (and_then (judge_sign r.site.sign) (and_then (judge_time r.site.time) (judge_position r.site.position)))
    (and_then (judge_time r.site.time) (judge_station r.site.station))

unfoldable pub judge_section : Needs → Surface → Result ⊤ Refusal
judge_section n s =
    and_then (judge_air s.air)
    (and_then (judge_moisture s.moisture)
    (and_then (judge_pressure s.pressure)
    (and_then (judge_level s.level)
    (and_then (judge_tendency s.tendency)
    (and_then (judge_rainfall (not n.rain) s.rainfall)
    (and_then (judge_weather (not n.weather) s.weather) (and_then (judge_clouds s.clouds) (judge_clock s.clock))))))))

unfoldable pub judge_surface : Surface → Result ⊤ Refusal
judge_surface s = and_then (judge_indicators s.indicators) (and_then (judge_wind s.wind) (judge_section (needs_of s) s))

unfoldable pub judge_of : Synop → Result ⊤ Refusal
judge_of r =
    and_then (foreign r)
    (and_then (judge_site r) (cond r.site.nil (Ok tt) (and_then (judge_surface r.surface) (judge_section3 r.section3))))

-- ---- THE CANONICAL TEXT OF A RECORD

unfoldable pub site_groups : Synop → List Group
site_groups r =
    cond r.ship
    (bytes "BBXX" ∷ show_sign r.site.sign ∷ show_time r.site.time ∷ show_latitude r.site.position ∷ show_longitude r.site.position ∷ [])
    (bytes "AAXX" ∷ show_time r.site.time ∷ show_station r.site.station ∷ [])

unfoldable pub surface_groups : Surface → List Group
surface_groups s = show_indicators s.indicators ∷ show_wind s.wind ∷ written (row (needs_of s)) s

unfoldable pub groups_of : Synop → List Group
groups_of r = site_groups r ++ cond r.site.nil (bytes "NIL" ∷ []) (surface_groups r.surface ++ show_section3 r.section3)

unfoldable pub canonical_of : Synop → List ℕ
canonical_of r = join (groups_of r)

-- ---- the record that it is read back as: each rounded number the reading of its class, all else as it is

unfoldable pub classed_of : Synop → Synop
classed_of r =
    record {
      ship = r.ship;
      site = r.site;
      surface =
          record {
            indicators = class_indicators r.surface.indicators;
            wind = class_wind r.surface.wind;
            air = r.surface.air;
            moisture = r.surface.moisture;
            pressure = r.surface.pressure;
            level = r.surface.level;
            tendency = r.surface.tendency;
            rainfall = class_rainfall r.surface.rainfall;
            weather = r.surface.weather;
            clouds = r.surface.clouds;
            clock = r.surface.clock;
          };
      section3 = class_section3 r.section3;
    }

-- ---- the writer's answer, and the lent buffer afterwards

unfoldable pub written_of : Synop → ℕ → Result ℕ Refusal
written_of r room = answer_by (judge_of r) (canonical_of r) room

unfoldable pub buffer_of : Synop → List ℕ → List ℕ
buffer_of r b = buffer_by (judge_of r) (canonical_of r) b
