-- `round_trip::read_back_in` meets its contract: the record's arrays have their lengths by its type, and so demand 3 holds of what was written.
-- Assumes nothing.
use borrow.Author.Rules.{rules}
use mathlib.Core.Path.{sym}
use lib.Seq.{length-take-le}
use Rattle.record.specs.declared.aerodrome.TrendChange.{TrendChange}
use Rattle.record.specs.declared.aerodrome.Change.{Change}
use Rattle.record.specs.contracts.aerodrome.TrendChange as trend-change
use Rattle.record.specs.contracts.aerodrome.Change as change
use Rattle.record.specs.Arrays.{BodyArrays}
use Rattle.body.proofs.Arrays.{body-arrays, each-owned}
use Rattle.report_laws.proofs.RoundTrip.{Arrays}
use Rattle.round_trip.proofs.Backs.{within, count-back, refused-back}
use Rattle.round_trip.proofs.read_back_in.Statement.{statement}
use Rattle.round_trip.proofs.read_back_in.Tie as tie

-- an array's length is part of its type
arrays : (c : tie.Start) → Arrays c.args.report
arrays c =
    let r = c.args.report in
    let parts = c.well_formed.1.0.1.1 in
    let sign = parts.1.0.1.1.1.0.1.1.1.0 in
    let section3 = parts.1.0.1.1.1.1.1.0 in
    let observation = parts.1.1.0.1.1.0.1.1 in
    let runways = observation.1.1.1.1.1.1.1.1 in
    let trend = parts.1.1.0.1.1.1.0.1.1.0 in
    let leg = parts.1.1.1.0.1.1.1.0.1.1 in
    let changes = parts.1.1.1.0.1.1.1.1.0.1.1.0 in
    record {
      surface = record { letters = sign.1.1.0.1.0.1; layers = section3.1.1.1.1.0.1.1.0.1.0.1 };
      observed =
          record {
            observation =
                record {
                  letters = observation.1.1.0.1.1.0.1.0.1;
                  body = body-arrays r.observed.observation.body _ observation.1.1.1.1.1.1.0;
                  runways = runways.0.1.1.0.1.0.1;
                  recents = runways.1.1.1.0.1.1.0.1.0.1;
                  states = runways.1.1.1.1.0.1.1.0.1.0.1;
                };
            trend = trend.1.0.1;
            each = each-owned trend-change.the_row (λ (x : TrendChange). BodyArrays x.body) (λ x us s. body-arrays x.body _ s.1.1.1.1.0) r.observed.trend.items _ trend.1.1;
          };
      forecast =
          record {
            letters = leg.1.0.1.1.0.1.0.1;
            body = body-arrays r.forecast.leg.body _ leg.1.1.1.1.1.1.0;
            changes = changes.1.0.1;
            each = each-owned change.the_row (λ (x : Change). BodyArrays x.body) (λ x us s. body-arrays x.body _ s.1.1.1.1.0) r.forecast.changes.items _ changes.1.1;
          };
    }

pub read_back_in_spec : {M : Type 1} → statement M
read_back_in_spec =
    tie.close
    (tie.spec
    (λ c κs. tt) (λ c. search rules)
    (λ c.
    within c.args.edition c.args.report c.args.out.now c.write_in-written.ensures _ c.in-Ok.is)
    (λ c.
    sym (length-take-le _ _ (within c.args.edition c.args.report c.args.out.now c.write_in-written.ensures _ c.in-Ok.is)))
    (λ c κs. tt) (λ c. search rules) (λ c κs. tt) (λ c. search rules)
    (λ c.
    count-back c.args.edition c.args.report c.args.out.now c.write_in-written.ensures _ c.in-Ok.is (arrays c.before.before.before.before.before.before.before) c.read_in-reading.ensures)
    (λ c. search rules)
    (λ c.
    refused-back c.args.edition c.args.report c.args.out.now c.write_in-written.ensures _ c.in-Err.is c.refuse-reading.ensures))
