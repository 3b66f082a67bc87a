-- TAFs of records that no text is read as: the rulings' examples of what the writer of an edition judges (9.1, 9.5, 9.6).
-- Assumes nothing.
use Rattle.std.specs.Prelude.{Err, None, Ok, Option, Some}
use Prim.Native.Nat.{ℕ}
use mathlib.Core.Path.{◌≡◌, refl}
use mathlib.Core.Bool.{true, false}
use mathlib.Core.List.{[], ◌∷◌, map}
use lib.ListN.{replicate}
use Rattle.figures.specs.Quote.{bytes}
use Rattle.text.specs.declared.kinds.Refusal.TheVariants as refusal
use Rattle.record.specs.declared.values.Direction.TheVariants as direction
use Rattle.record.specs.declared.values.Speed.TheVariants as speed
use Rattle.record.specs.declared.aerodrome.Edition.{Edition}
use Rattle.record.specs.declared.aerodrome.Edition.TheVariants as edition
use Rattle.record.specs.declared.aerodrome.Instant.{Instant}
use Rattle.record.specs.declared.aerodrome.Period.{Period}
use Rattle.record.specs.declared.aerodrome.Unit.TheVariants as unit
use Rattle.record.specs.declared.aerodrome.View.TheVariants as view
use Rattle.record.specs.declared.aerodrome.Body.{Body}
use Rattle.record.specs.declared.aerodrome.Opening.TheVariants as opening
use Rattle.record.specs.declared.aerodrome.Change.{Change}
use Rattle.record.specs.declared.aerodrome.Leg.{Leg}
use Rattle.record.specs.declared.aerodrome.Taf.{Taf}
use Rattle.record.specs.Body.{blank_body}
use Rattle.record.specs.Observation as observation
use Rattle.record.specs.Trend.{blank_trend}
use Rattle.record.specs.Taf.{blank_leg, blank_change, blank_taf, set_station, set_time, set_nil, set_period, set_cancelled, set_body}
use Rattle.record.specs.SilentSurface as silent-surface
use Rattle.record.specs.SilentAerodrome as silent-aerodrome
use Rattle.elements.specs.Wind as wind
use Rattle.elements.specs.Visibility as visibility
use Rattle.elements.specs.Weather as weather
use Rattle.elements.specs.Sky as sky
use Rattle.elements.specs.Body as body
use Rattle.aerodrome_groups.specs.Head as head
use Rattle.taf.specs.Write as taf
use Rattle.report_record.specs.declared.kinds.Report.{Report}
use Rattle.report_record.specs.declared.kinds.Kind.TheVariants as kind
use Rattle.report_record.specs.Record.{blank_report, forecast_report}
use Rattle.report.specs.Write.{judge_in}

abbrev instant : Option ℕ → ℕ → Option ℕ → Instant
instant d h m = record { day = d; hour = Some h; minute = m }

-- LEMD 010101Z
abbrev pub headed : Leg
headed = set_time (instant (Some 1) 1 (Some 1)) (set_station (record { letters = bytes "LEMD" }) blank_leg)

abbrev of : Edition → Leg → Report
of e r = forecast_report (record { edition = e; leg = r; changes = blank_taf.changes })

-- from the 1st at 01 to an hour, with a day or without
abbrev pub until : Option ℕ → ℕ → Period
until d h = record { from = instant (Some 1) 1 None; to = instant d h None }

-- a calm of 5 knots, which disagrees, and BECMG with a day, which its form does not have
abbrev calm : Body
calm =
    record {
      wind = record { direction = direction.Calm; speed = speed.Is 5; gust = speed.Missing; unit = unit.Knots };
      visibility = record { is = view.Metres 5000 };
      weathers = blank_body.weathers;
      nsw = false;
      sky = blank_body.sky;
    }

abbrev becoming : Change
becoming = record { opening = opening.Becoming; period = until None 2; body = record { wind = blank_body.wind; visibility = blank_body.visibility; weathers = blank_body.weathers; nsw = true; sky = blank_body.sky } }

abbrev pub changing : Taf
changing = record { edition = edition.Of2005; leg = set_body calm (set_period (until None 2) headed); changes = record { items = becoming ∷ replicate 15 blank_change; count = 1 } }

-- METAR LEMD 010101Z NIL whose part for TAF names 2005
abbrev observed : Report
observed =
    record {
      kind = kind.Observed;
      surface = blank_report.surface;
      observed =
          record {
            observation =
                observation.set_nil true
                (observation.set_time (instant (Some 1) 1 (Some 1)) (observation.set_station (record { letters = bytes "LEMD" }) observation.blank_observation));
            trend = blank_trend;
          };
      forecast = record { edition = edition.Of2005; leg = blank_leg; changes = blank_taf.changes };
    }

pub editions-judged : map (λ (x : Edition × Report). judge_in x.0 x.1)
    ((edition.Present, of edition.Of2005 (set_nil true headed))
    ∷ (edition.Of2005, of edition.Present (set_nil true headed))
    ∷ (edition.Of2005, of edition.Of2005 (set_nil true headed))
    ∷ (edition.Present, observed)
    ∷ (edition.Of2005, of edition.Of2005 (set_cancelled true (set_period (until (Some 1) 5) headed)))
    ∷ (edition.Of2005, of edition.Of2005 (set_cancelled true (set_period (until None 50) headed)))
    ∷ (edition.Of2005, of edition.Of2005 (set_cancelled true (set_period (until None 62) headed)))
    ∷ (edition.Of2005, forecast_report changing)
    ∷ [])
    ≡ Err refusal.Value ∷ Err refusal.Value ∷ Ok tt ∷ Err refusal.Value ∷ Err refusal.Value ∷ Err refusal.Value ∷ Ok tt
    ∷ Err refusal.Disagreement ∷ []
unfolding judge_in
    silent-surface.no_surface silent-surface.is_blank_synop
    silent-aerodrome.is_blank_body silent-aerodrome.no_observation silent-aerodrome.is_blank_observation silent-aerodrome.is_blank_metar silent-aerodrome.is_blank_taf
    head.judge_station head.judge_time
    wind.judge_wind visibility.judge_visibility weather.judge_weathers sky.judge_sky body.judge_body
    taf.judge_part taf.judge_change taf.judge_changes taf.foreign_blank taf.judge_of taf.judge_in
editions-judged = refl
