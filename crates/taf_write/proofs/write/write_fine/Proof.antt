-- `taf_write::write::write_fine` meets its contract: the text made first is the canonical text, so that its length decides.
-- Assumes nothing.
use borrow.Author.Rules.{rules}
use Prim.Native.Nat.{ℕ, ◌≤◌}
use native.Mathlib.Omega.{arith}
use mathlib.Core.Path.{◌≡◌, refl, sym}
use mathlib.Core.List.{List, [], ◌∷◌, ◌++◌}
use lib.ListN.{length, take, replicate}
use lib.Seq.{length-take-le}
use Rattle.figures.specs.Put.{Put}
use Rattle.text.specs.Groups.{join, written}
use Rattle.places.proofs.Delivered.{made, delivered}
use Rattle.record.specs.declared.aerodrome.Change.{Change}
use Rattle.record.specs.contracts.aerodrome.Change.{the_row}
use Rattle.record.specs.Arrays.{BodyArrays, TafArrays}
use Rattle.body.proofs.Arrays.{body-arrays, each-owned}
use Rattle.taf.specs.Write.{groups_of, canonical_of}
use Rattle.taf_laws.proofs.Canonical.{groups-sizes, length-canonical}
use Rattle.taf_write.proofs.write.write_fine.Statement.{statement}
use Rattle.taf_write.proofs.write.write_fine.Tie as tie

-- an array's length is part of its type
arrays : (c : tie.Start) → TafArrays c.args.t
arrays c =
    let leg = c.well_formed.0.1.1.1.0.1.1 in
    let changes = c.well_formed.0.1.1.1.1.0.1.1.0 in
    record {
      letters = leg.1.0.1.1.0.1.0.1;
      body = body-arrays c.args.t.leg.body _ leg.1.1.1.1.1.1.0;
      changes = changes.1.0.1;
      each = each-owned the_row (λ (x : Change). BodyArrays x.body) (λ x us s. body-arrays x.body _ s.1.1.1.1.0) c.args.t.changes.items _ changes.1.1;
    }

-- the report as it is made over the array, which has room for the longest
report : (c : tie.Start) {end : ℕ} {e : List ℕ} → Put (replicate 2048 0) 0 (written 0 (groups_of c.args.t) ++ (61 ∷ [])) end e
    → (end ≤ length e) × (take end e ≡ join (groups_of c.args.t))
unfolding canonical_of
report c = made {n = 2048} (groups_of c.args.t) (groups-sizes c.args.t (arrays c) c.requires) (omega (arith, length-canonical c.args.t (arrays c) c.requires))

pub write_fine_spec : {M : Type 1} → statement M
write_fine_spec =
    tie.close
    (tie.spec
    (λ c. search rules) (λ c κs. tt)
    (λ c. (report c.before.before.before.before c.put_report-end.ensures).0)
    (λ c. sym (length-take-le _ _ (report c.before.before.before.before.before c.put_report-end.ensures).0))
    (λ c κs. tt) (λ c. search rules)
    (λ c.
    let d = c.before.before.before.before.before.before.before.before.before in
    unfold canonical_of in delivered c.args.out.now refl (report d c.put_report-end.ensures).1 c.deliver.ensures))
