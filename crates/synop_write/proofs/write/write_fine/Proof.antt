-- `synop_write::write::write_fine` meets its contract: the text made first is the canonical text, and is delivered.
-- Assumes nothing.
use borrow.Author.Rules.{rules}
use Prim.Native.Nat.{ℕ, ◌≤◌}
use native.Mathlib.Omega.{arith}
use mathlib.Core.Path.{◌≡◌, sym}
use mathlib.Core.List.{List, [], ◌∷◌, ◌++◌}
use lib.ListN.{length, take, replicate}
use lib.Seq.{length-take-le}
use Rattle.figures.specs.Put.{Put}
use Rattle.text.specs.Groups.{join, written}
use Rattle.places.proofs.Delivered.{made, delivered}
use Rattle.record.specs.Arrays.{SynopArrays}
use Rattle.synop.specs.Write.{groups_of, canonical_of, written_of, buffer_of}
use Rattle.synop_laws.proofs.Canonical.{groups-sizes, length-canonical}
use Rattle.synop_write.proofs.write.write_fine.Statement.{statement}
use Rattle.synop_write.proofs.write.write_fine.Tie as tie

-- the arrays' lengths are part of their types
arrays : (c : tie.Start) → SynopArrays c.args.r
arrays c =
    let parts = c.well_formed.0.1.1 in
    let sign = parts.1.0.1.1.1.0 in
    let layers = parts.1.1.1.0.1.1.1.1.0 in
    record { letters = sign.1.1.0.1.0.1; layers = layers.1.1.0.1.0.1 }

-- the report as it is made over the array, which has room for the longest
report : (c : tie.Start) {end : ℕ} {e : List ℕ} → Put (replicate 160 0) 0 (written 0 (groups_of c.args.r) ++ (61 ∷ [])) end e
    → (end ≤ length e) × (take end e ≡ join (groups_of c.args.r))
unfolding canonical_of
report c = made {n = 160} (groups_of c.args.r) (groups-sizes c.args.r (arrays c) c.requires) (omega (arith, length-canonical c.args.r (arrays c) c.requires))

pub write_fine_spec : {M : Type 1} → statement M
write_fine_spec =
    tie.close
    (tie.spec
    (λ c. search rules) (λ c κs. tt)
    (λ c. (report c.before.before.before.before c.put_report-end.ensures).0)
    (λ c. sym (length-take-le _ _ (report c.before.before.before.before.before c.put_report-end.ensures).0))
    (λ c κs. tt) (λ c. search rules)
    (λ c.
    let d = c.before.before.before.before.before.before.before.before.before in
    unfold written_of buffer_of canonical_of in delivered c.args.out.now c.requires (report d c.put_report-end.ensures).1 c.deliver.ensures))
