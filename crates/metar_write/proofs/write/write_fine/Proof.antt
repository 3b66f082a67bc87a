-- `metar_write::write::write_fine` meets its contract: the text made first is the canonical text, so that its length decides.
-- Assumes nothing.
use borrow.Author.Rules.{rules}
use Prim.Native.Nat.{ℕ, ◌≤◌}
use native.Mathlib.Omega.{arith}
use mathlib.Core.Path.{◌≡◌, sym}
use mathlib.Core.List.{List, [], ◌∷◌, ◌++◌}
use lib.ListN.{length, take, replicate}
use lib.Seq.{length-take-le}
use Rattle.figures.specs.Put.{Put}
use Rattle.text.specs.Groups.{join, written}
use Rattle.places.proofs.Delivered.{made, delivered}
use Rattle.record.specs.declared.aerodrome.TrendChange.{TrendChange}
use Rattle.record.specs.contracts.aerodrome.TrendChange.{the_row}
use Rattle.record.specs.Arrays.{BodyArrays, MetarArrays}
use Rattle.body.proofs.Arrays.{body-arrays, each-owned}
use Rattle.metar.specs.Write.{groups_of, canonical_of, written_of, buffer_of}
use Rattle.metar_laws.proofs.Canonical.{trend-listed, groups-sizes, length-canonical}
use Rattle.metar_write.proofs.write.write_fine.Statement.{statement}
use Rattle.metar_write.proofs.write.write_fine.Tie as tie

-- an array's length is part of its type
arrays : (c : tie.Start) → MetarArrays c.args.r
arrays c =
    let r = c.args.r in
    let observation = c.well_formed.0.1.1.0.1.1 in
    let runways = observation.1.1.1.1.1.1.1.1 in
    let items = c.well_formed.0.1.1.1.0.1.1.0 in
    record {
      observation =
          record {
            letters = observation.1.1.0.1.1.0.1.0.1;
            body = body-arrays r.observation.body _ observation.1.1.1.1.1.1.0;
            runways = runways.0.1.1.0.1.0.1;
            recents = runways.1.1.1.0.1.1.0.1.0.1;
            states = runways.1.1.1.1.0.1.1.0.1.0.1;
          };
      trend = items.1.0.1;
      each = each-owned the_row (λ (x : TrendChange). BodyArrays x.body) (λ x us s. body-arrays x.body _ s.1.1.1.1.0) r.trend.items _ items.1.1;
    }

-- the report as it is made over the array, which has room for the longest
report : (c : tie.Start) {end : ℕ} {e : List ℕ} → Put (replicate 704 0) 0 (written 0 (groups_of c.args.r) ++ (61 ∷ [])) end e
    → (end ≤ length e) × (take end e ≡ join (groups_of c.args.r))
unfolding canonical_of
report c = made {n = 704} (groups_of c.args.r) (groups-sizes c.args.r (arrays c) c.requires) (omega (arith, length-canonical c.args.r (arrays c) c.requires))

pub write_fine_spec : {M : Type 1} → statement M
write_fine_spec =
    tie.close
    (tie.spec
    (λ c. search rules)
    (λ c κs. let d = c.before.before in (trend-listed c.args.r (arrays d) c.requires).few)
    (λ c. (report c.before.before.before.before c.put_report-end.ensures).0)
    (λ c. sym (length-take-le _ _ (report c.before.before.before.before.before c.put_report-end.ensures).0))
    (λ c κs. tt) (λ c. search rules)
    (λ c.
    let d = c.before.before.before.before.before.before.before.before.before in
    unfold written_of buffer_of canonical_of in delivered c.args.out.now c.requires (report d c.put_report-end.ensures).1 c.deliver.ensures))
