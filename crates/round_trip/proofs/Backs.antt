-- What comes back of a record that `report::write` wrote, or refused.
-- Assumes nothing.
use Rattle.std.specs.Prelude.{Err, Ok, Result}
use Prim.Native.Nat.{ℕ, ◌≤◌}
use native.Mathlib.Omega.{arith}
use mathlib.Core.Path.{◌≡◌, sym, ap, ◌∙◌}
use mathlib.Core.List.{List}
use lib.ListN.{length, take}
use Rattle.figures.proofs.Impossible.{impossible}
use Rattle.text.specs.declared.kinds.Refusal.{Refusal}
use Rattle.record.specs.declared.aerodrome.Edition.{Edition}
use Rattle.report_record.specs.declared.kinds.Report.{Report}
use Rattle.report_record.specs.declared.kinds.Reading.{Reading}
use Rattle.report_record.specs.Record.{refused}
use Rattle.report.specs.Read.{read_in}
use Rattle.report.specs.Write.{written_in, buffer_in}
use Rattle.report_laws.proofs.RoundTrip.{Arrays}
use Rattle.report_laws.proofs.Demands.{counted, same_length, ReadWhole, written_read, written-whole}
use Rattle.round_trip.specs.declared.Back.{Back}
use Rattle.round_trip.specs.Back.{back_in}

-- what the writer answered, w, and the buffer afterwards, e
module _ (chosen : Edition) (r : Report) (b : List ℕ) {w : Result ℕ Refusal} {e : List ℕ} (wrote : (w ≡ written_in chosen r (length b)) × (e ≡ buffer_in chosen r b)) where
  -- what is promised of the answer x
  abbrev Promised : Back → Type 0
  Promised x = (x ≡ back_in chosen r (length b)) × (e ≡ buffer_in chosen r b) × ((n : ℕ) → x.written ≡ Ok n → ReadWhole chosen r n (take n e))

  module _ (n : ℕ) (is : w ≡ Ok n) where
    count : written_in chosen r (length b) ≡ Ok n
    count = sym wrote.0 ∙ is

    pub within : n ≤ length e
    within = let k = counted chosen r b n count in omega (arith, k.count, k.room, same_length chosen r b, ap length wrote.1)

    pub count-back : Arrays r → {a : Reading} → a ≡ read_in chosen (take n e) → Promised (record { written = Ok n; reading = a })
    unfolding back_in
    count-back arrays is_read =
        (rw (count, is_read, wrote.1, written_read chosen r b n arrays count), wrote.1, λ m f. rw wrote.1 (written-whole chosen r b m arrays (count ∙ f)))

  pub refused-back : (f : Refusal) → w ≡ Err f → {a : Reading} → a ≡ refused f 0 → Promised (record { written = Err f; reading = a })
  unfolding back_in
  refused-back f is is_read =
      let refusal : written_in chosen r (length b) ≡ Err f = sym wrote.0 ∙ is in
      (rw (refusal, is_read), wrote.1, λ n g. impossible (cc))
