-- THE WRITER TAKES WHAT THE READER GIVES, in any edition of TAF that is chosen. Of every accepted text the record is judged fine; written, it is read back whole as the same record, each
-- aerodrome wind speed that is over its unit's last figure said more openly, as "above" it (`speeds_opened`); and written again it has the same bytes. So the
-- writer never refuses a record that was read, but for want of room, and never where it has 2,048 bytes.
-- Assumes nothing.
use Rattle.std.specs.Prelude.{Err, Ok}
use Prim.Native.Nat.{ℕ, zero, suc, ◌≤◌, ◌<◌}
use native.Mathlib.Omega.{arith}
use mathlib.Core.Path.{◌≡◌, refl, sym, ap, ◌∙◌}
use mathlib.Core.List.{List, []}
use lib.ListN.{length, replicate}
use Rattle.figures.specs.Put.{splice}
use Rattle.figures.proofs.Impossible.{impossible}
use Rattle.text.specs.declared.kinds.Refusal.{Refusal}
use Rattle.text.specs.declared.kinds.Refusal.TheVariants as refusal
use Rattle.text.specs.Text.{tail_of}
use Rattle.text.specs.Groups.{groups_from}
use Rattle.record.specs.declared.surface.Synop.{Synop}
use Rattle.record.specs.declared.aerodrome.Metar.{Metar}
use Rattle.record.specs.declared.aerodrome.Edition.{Edition}
use Rattle.record.specs.declared.aerodrome.Taf.{Taf}
use Rattle.record.specs.declared.aerodrome.TrendChange.{TrendChange}
use Rattle.record.specs.declared.aerodrome.Change.{Change}
use Rattle.record.specs.Blank.{blank_synop}
use Rattle.record.specs.Body.{blank_body}
use Rattle.record.specs.Trend.{blank_trend_change, blank_metar}
use Rattle.record.specs.Taf.{blank_change, blank_taf}
use Rattle.record.specs.Arrays.{BodyArrays, Each, SynopArrays, MetarArrays, TafArrays}
use Rattle.synop_laws.proofs.Canonical as synop-text
use Rattle.metar_laws.proofs.Canonical as metar-text
use Rattle.taf_laws.proofs.Canonical as taf-text
use Rattle.accepted_laws.specs.Opened.{speeds_opened}
use Rattle.accepted_laws.proofs.Reports.{comes-done}
use Rattle.accepted_laws.proofs.Synops.{SynopRead, synop-read}
use Rattle.accepted_laws.proofs.Metars.{MetarRead, metar-read}
use Rattle.accepted_laws.proofs.Tafs.{TafRead, taf-read}
use Rattle.report_record.specs.declared.kinds.Report.{Report}
use Rattle.report_record.specs.declared.kinds.Reading.{Reading}
use Rattle.report_record.specs.Record.{surface_report, observed_report, forecast_report, accepted}
use Rattle.report.specs.Read.{read_in, rest_in}
use Rattle.report.specs.Write.{judge_in, canonical_of, classed_of, written_in, buffer_in}
use Rattle.report_laws.proofs.ByName.{AcceptedAs, a-surface, an-observed, a-forecast, accepted-as}
use Rattle.report_laws.proofs.Listed.{first-refuses}
use Rattle.report_laws.proofs.ReportCauses.{report-judged}
use Rattle.report_laws.proofs.RoundTrip.{Arrays, Fair, surface, observed, forecast, fair-fine, comes_back, text-again}
use Rattle.report_laws.proofs.Demands.{Cause, listed, short-buffer, only-causes, one-text, accepted-whole, ComesBack, all_back}

-- ---- kind by kind

-- what a record is that was accepted in the chosen edition: judged fine, the arrays of its part as long as the code's, and its class the record with its speeds opened
record Acceptable (chosen : Edition) (r : Report) : Type 0 where
  fair : Fair chosen r
  arrays : Arrays r
  classed : classed_of r ≡ speeds_opened r

-- the parts of the other kinds are blank
blank-body : BodyArrays blank_body
blank-body = record { weathers = refl; layers = refl }

each-blank : {A : Type 0} (P : A → Type 0) (x : A) → P x → (n : ℕ) → Each P (replicate n x)
each-blank P x p zero = tt
each-blank P x p (suc n) = (p, each-blank P x p n)

blank-synop : SynopArrays blank_synop
blank-synop = record { letters = refl; layers = refl }

blank-metar : MetarArrays blank_metar
blank-metar =
    record {
      observation = record { letters = refl; body = blank-body; runways = refl; recents = refl; states = refl };
      trend = refl;
      each = each-blank (λ (c : TrendChange). BodyArrays c.body) blank_trend_change blank-body 3;
    }

blank-taf : TafArrays blank_taf
blank-taf = record { letters = refl; body = blank-body; changes = refl; each = each-blank (λ (c : Change). BodyArrays c.body) blank_change blank-body 16 }

given-surface : {chosen : Edition} (s : Synop) → SynopRead s → Acceptable chosen (surface_report s)
unfolding classed_of
given-surface s r =
    record { fair = surface s r.arrays r.fine; arrays = record { surface = r.arrays; observed = blank-metar; forecast = blank-taf }; classed = rw r.own }

given-observed : {chosen : Edition} (m : Metar) → MetarRead m → Acceptable chosen (observed_report m)
unfolding classed_of
given-observed m r =
    record { fair = observed m r.arrays r.fine; arrays = record { surface = blank-synop; observed = r.arrays; forecast = blank-taf }; classed = rw r.own }

given-forecast : {chosen : Edition} (t : Taf) → TafRead chosen t → Acceptable chosen (forecast_report t)
unfolding classed_of
given-forecast t r =
    record {
      fair = forecast t r.arrays (sym r.named) r.fine;
      arrays = record { surface = blank-synop; observed = blank-metar; forecast = r.arrays };
      classed = rw r.own;
    }

given : (chosen : Edition) (t : List ℕ) (rest : ℕ) (r : Report) → read_in chosen t ≡ accepted rest r → Acceptable chosen r
given chosen t rest r e = go (accepted-as chosen t rest r e)
  where
    go : {w : Report} → AcceptedAs chosen t rest w → Acceptable chosen w
    go (a-surface s x) = given-surface s (comes-done (synop-read x.ship (tail_of t) (length t) x.named.others) x.comes)
    go (an-observed m x) = given-observed m (comes-done (metar-read (tail_of t) (length t) (groups_from t 0)) x.comes)
    go (a-forecast f x) = given-forecast f (comes-done (taf-read chosen (tail_of t) (length t) (groups_from t 0)) x.comes)

-- a canonical text has at most 2,048 bytes
canonical-short : {chosen : Edition} {r : Report} → Fair chosen r → length (canonical_of r) ≤ 2048
unfolding canonical_of
canonical-short (surface s arrays e) = omega (arith, synop-text.length-canonical s arrays e)
canonical-short (observed m arrays e) = omega (arith, metar-text.length-canonical m arrays e)
canonical-short (forecast t arrays own e) = omega (arith, taf-text.length-canonical t arrays e)

-- ---- FOR EVERY ACCEPTED TEXT, in whatever edition is chosen

module _ (chosen : Edition) (t : List ℕ) (rest : ℕ) (r : Report) (e : read_in chosen t ≡ accepted rest r) where
  -- its record is judged fine, and its arrays have the code's lengths
  pub given-fine : judge_in chosen r ≡ Ok tt
  given-fine = fair-fine (given chosen t rest r e).fair

  pub given-arrays : Arrays r
  given-arrays = (given chosen t rest r e).arrays

  -- its class is itself, each aerodrome wind speed over its unit's last figure being "above" it
  pub given-classed : classed_of r ≡ speeds_opened r
  given-classed = (given chosen t rest r e).classed

  -- written, it is read back whole as that record
  pub given_back : read_in chosen (canonical_of r) ≡ accepted (length (canonical_of r)) (speeds_opened r)
  given_back = comes_back (given chosen t rest r e).fair ∙ ap (accepted (length (canonical_of r))) given-classed

  pub given-rest : rest_in chosen (canonical_of r) ≡ []
  given-rest = (accepted-whole chosen r given-arrays given-fine).1

  -- and that record, written again, has the same bytes, so that it is read back as itself
  pub given-again : canonical_of (speeds_opened r) ≡ canonical_of r
  given-again = ap canonical_of (sym given-classed) ∙ text-again (given chosen t rest r e).fair

  pub given-same : read_in chosen (canonical_of (speeds_opened r)) ≡ accepted (length (canonical_of (speeds_opened r))) (speeds_opened r)
  given-same = rw given-again given_back

  -- all of demand 3 holds of it
  pub given-all : ComesBack chosen r (speeds_opened r)
  given-all = rw (ap (λ (a : Reading). a.report) given_back) at (all_back chosen r given-arrays given-fine)

  -- the writer takes it wherever its text has room, and that is in 2,048 bytes
  pub given-short : length (canonical_of r) ≤ 2048
  given-short = canonical-short (given chosen t rest r e).fair

  pub given-written : (b : List ℕ) → length (canonical_of r) ≤ length b
      → (written_in chosen r (length b) ≡ Ok (length (canonical_of r))) × (buffer_in chosen r b ≡ splice b 0 (canonical_of r))
  given-written b h = one-text chosen r b given-fine h

  -- so 10 is the one refusal that it can get, for want of room
  pub given-refused : (b : List ℕ) (f : Refusal) → written_in chosen r (length b) ≡ Err f → (f ≡ refusal.Room) × (length b < length (canonical_of r))
  given-refused b f w = go (only-causes chosen r b f w)
    where
      go : {g : Refusal} → Cause chosen r b g → (g ≡ refusal.Room) × (length b < length (canonical_of r))
      go (listed c x) =
          let no = first-refuses (report-judged chosen r) x in
          let fine = given-fine in
          impossible (cc)
      go (short-buffer j h) = (refl, h)
