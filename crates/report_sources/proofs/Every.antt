-- PROVENANCE LEAVES NO GROUP OUT: every group of an accepted METAR, SPECI or TAF up to the unread rest is the source of some item, so that `observed`, `changed`
-- or `opened`, or of a TAF `forecast::item`, `changed`, `opened` or `joined`, hands it back. A group that reads as absent is no exception: it is taken at its place, and its item is what the definition says of it.
-- Assumes nothing.
use Prim.Native.Nat.{ℕ}
use mathlib.Core.Path.{◌≡◌}
use mathlib.Core.List.{List}
use Rattle.text.specs.Groups.{groups_from}
use Rattle.record.specs.declared.aerodrome.Edition.{Edition}
use Rattle.record.specs.declared.aerodrome.Edition.TheVariants as edition
use Rattle.record.specs.declared.aerodrome.Metar.{Metar}
use Rattle.record.specs.declared.aerodrome.Taf.{Taf}
use Rattle.report_record.specs.Record.{observed_report, forecast_report, accepted}
use Rattle.report.specs.Read.{read_of, read_in}
use Rattle.report_laws.proofs.Demands.{observed-exactly, forecast-exactly}
use Rattle.sources.proofs.Every.{EachBefore, ItemSource, all-sources}
use Rattle.metar_sources.specs.Trail.{trail_of}
use Rattle.metar_sources.proofs.Every.{IsItem, trail-items}
use Rattle.taf_sources.specs.Trail as taf-trail
use Rattle.taf_sources.proofs.Every as taf
use Rattle.report_sources.specs.Source.{observed_at}
use Rattle.report_sources.specs.Forecasts.{forecast_at}
use Rattle.report_sources.proofs.Provenance.{every-group, own-source}
use Rattle.report_sources.proofs.Forecasts as forecasts

-- EVERY GROUP THAT BEGINS BEFORE THE UNREAD REST IS THE SOURCE OF AN ITEM: of the observation, of a part of the trend, or of the word that opened it.
pub every-source : (t : List ℕ) (rest : ℕ) (r : Metar) → read_of t ≡ accepted rest (observed_report r)
    → EachBefore rest (ItemSource IsItem (observed_at t)) (groups_from t 0)
every-source t rest r reads =
    all-sources IsItem (observed_at t) t (trail_of t) (every-group t rest r reads)
    (trail-items t rest r ((observed-exactly edition.Present t rest r).only reads).comes) (own-source t rest r reads)

-- THE SAME OF A TAF, in either edition: of its main part, of a change group, of the word that opened it, or of the TEMPO that belongs to that word.
pub every-forecast : (e : Edition) (t : List ℕ) (rest : ℕ) (r : Taf) → read_in e t ≡ accepted rest (forecast_report r)
    → EachBefore rest (ItemSource taf.IsItem (forecast_at e t)) (groups_from t 0)
every-forecast e t rest r reads =
    all-sources taf.IsItem (forecast_at e t) t (taf-trail.trail_of e t) (forecasts.every-group e t rest r reads)
    (taf.trail-items e t rest r ((forecast-exactly e t rest r).only reads).comes) (forecasts.own-source e t rest r reads)
