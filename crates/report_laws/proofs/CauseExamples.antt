-- Worked examples of the causes: which of them hold of some records.
-- Assumes nothing.
use Rattle.std.specs.Prelude.{None, Some}
use mathlib.Core.Path.{◌≡◌, refl}
use mathlib.Core.Bool.{true, false, cond}
use mathlib.Core.List.{List, [], ◌∷◌, map}
use lib.IntN.{pos}
use Rattle.scales.specs.Scale.{run, class_in}
use Rattle.scales.specs.Layers.{layer_steps}
use Rattle.record.specs.declared.values.Direction.TheVariants as direction
use Rattle.record.specs.declared.values.Speed.TheVariants as speed
use Rattle.record.specs.declared.surface.BaseHeight.TheVariants as height
use Rattle.record.specs.declared.surface.Section3.{Section3}
use Rattle.record.specs.declared.aerodrome.Unit.TheVariants as unit
use Rattle.record.specs.declared.aerodrome.Wind.{Wind}
use Rattle.record.specs.declared.aerodrome.Leg.{Leg}
use Rattle.record.specs.declared.aerodrome.Edition.{Edition}
use Rattle.record.specs.declared.aerodrome.Edition.TheVariants as edition
use Rattle.record.specs.declared.aerodrome.Taf.{Taf}
use Rattle.record.specs.Blank.{blank_layer, blank_synop}
use Rattle.record.specs.Trend.{blank_metar}
use Rattle.record.specs.Taf.{blank_taf, set_nil, set_period, set_cancelled}
use Rattle.record.specs.SilentAerodrome.{is_blank_body}
use Rattle.synop_row.specs.Row.{needs_of}
use Rattle.report_record.specs.Record.{blank_report}
use Rattle.report_laws.proofs.Listed.{ListedCause, outside-its-range, required-missing, slot-past-its-count, foreign, disagreeing, Asked, asked}
use Rattle.report_laws.proofs.SurfaceCauses as surface
use Rattle.report_laws.proofs.AerodromeCauses as shared
use Rattle.report_laws.proofs.ObservedCauses as observed
use Rattle.report_laws.proofs.ForecastCauses as forecast
use Rattle.report_laws.proofs.ReportCauses as report
use Rattle.report_laws.proofs.EditionExamples.{headed, until, changing}
use Rattle.report_laws.proofs.Section3Examples.{at}

-- those of a list that hold, in its order
abbrev pub holding : {F : Type 0} → List (Asked F) → List (ListedCause F)
holding [] = []
holding (asked c h ∷ qs) = cond h (c ∷ holding qs) (holding qs)

-- a record without a kind, in either edition; a SYNOP, a METAR and a TAF of which nothing is said
pub blank-causes : (e : Edition) → holding (report.causes_in e blank_report) ≡ required-missing report.kind-of-report ∷ []
blank-causes e = refl

pub blank-surface : holding (surface.causes_of blank_synop)
    ≡ required-missing surface.day ∷ required-missing surface.hour ∷ required-missing surface.speed-unit ∷ required-missing surface.station
    ∷ required-missing surface.rain-indicator ∷ required-missing surface.weather-indicator ∷ []
unfolding needs_of
blank-surface = refl

pub blank-observed : holding (observed.causes_of blank_metar)
    ≡ required-missing observed.station ∷ required-missing (observed.time shared.day) ∷ required-missing (observed.time shared.hour) ∷ required-missing (observed.time shared.minute)
    ∷ required-missing (observed.observed-body shared.wind-unit) ∷ []
unfolding is_blank_body
blank-observed = refl

pub blank-forecast : holding (forecast.causes_in edition.Present blank_taf)
    ≡ required-missing forecast.station ∷ required-missing (forecast.time shared.day) ∷ required-missing (forecast.time shared.hour) ∷ required-missing (forecast.time shared.minute)
    ∷ required-missing (forecast.main (forecast.from shared.day)) ∷ required-missing (forecast.main (forecast.from shared.hour))
    ∷ required-missing (forecast.main (forecast.to shared.day)) ∷ required-missing (forecast.main (forecast.to shared.hour))
    ∷ required-missing (forecast.main (forecast.of-body shared.wind-unit)) ∷ required-missing (forecast.main (forecast.of-body shared.wind))
    ∷ required-missing (forecast.main (forecast.of-body shared.visibility)) ∷ []
unfolding is_blank_body
blank-forecast = refl

-- a wind of METAR, calm with 200 knots: out of range, and calm with a speed
abbrev blowing : Wind
blowing = record { direction = direction.Calm; speed = speed.Is 200; gust = speed.Missing; unit = unit.Knots }

pub wind-causes : holding (shared.wind_causes {F = shared.BodyField} (λ f. f) false blowing) ≡ outside-its-range shared.wind-speed ∷ disagreeing shared.wind ∷ []
wind-causes = refl

-- a TAF of 2005: in the present edition, its own fields being right; in its own one, a day at its end, G2 50, and a change's day, behind the calm with a speed
abbrev of2005 : Leg → Taf
of2005 r = record { edition = edition.Of2005; leg = r; changes = blank_taf.changes }

pub edition-causes : map (λ (x : Edition × Taf). holding (forecast.causes_in x.0 x.1))
    ((edition.Present, of2005 (set_nil true headed))
    ∷ (edition.Of2005, of2005 (set_nil true headed))
    ∷ (edition.Of2005, of2005 (set_cancelled true (set_period (until (Some 1) 5) headed)))
    ∷ (edition.Of2005, of2005 (set_cancelled true (set_period (until None 50) headed)))
    ∷ (edition.Of2005, changing)
    ∷ [])
    ≡ (foreign forecast.edition-named ∷ [])
    ∷ []
    ∷ (foreign (forecast.main (forecast.to shared.day)) ∷ [])
    ∷ (outside-its-range (forecast.main (forecast.to shared.hour)) ∷ [])
    ∷ (disagreeing (forecast.main (forecast.of-body shared.wind)) ∷ foreign (forecast.change 0 (forecast.from shared.day)) ∷ [])
    ∷ []
unfolding is_blank_body
edition-causes = refl

-- section 3: a maximum of 100 degrees, a layer at 300 m after one at 3,000 m, one all missing, one past the count
abbrev third : Section3
third =
    record {
      maximum = record { temperature = Some (pos 1000) };
      minimum = record { temperature = None };
      layers = record { items = at (Some 4) (height.Steps 3000) ∷ at (Some 4) (height.Steps 300) ∷ blank_layer ∷ at (Some 4) height.Missing ∷ []; count = 3 };
    }

pub section3-causes : holding (surface.section3_causes third)
    ≡ outside-its-range surface.maximum ∷ slot-past-its-count surface.layers ∷ disagreeing (surface.layer 1) ∷ required-missing (surface.layer 2) ∷ []
unfolding layer_steps run class_in
section3-causes = refl
