-- THE POOR LIBRARIES are shut out by demand 2, in each of the five kinds by itself and in either edition of TAF: no function that meets a contract refuses all
-- that is of a kind, answers it with one record or one text, writes nothing of it and says done, or goes by the first group alone. And no such function refuses
-- more than it may, whatever the text or the record.
-- Assumes nothing.
use Rattle.std.specs.Prelude.{Err, Ok, Result}
use Prim.Native.Nat.{ℕ, ◌≤◌}
use Prim.Native.String.{String}
use native.Mathlib.Omega.{arith}
use mathlib.Core.Path.{◌≡◌, refl, sym, ap, ◌∙◌}
use mathlib.Core.Bool.{Bool, true, false, cond, false≢true}
use mathlib.Core.List.{List, ◌++◌}
use mathlib.Core.Option.{Option, none, some}
use lib.ListN.{length, get_or, take, drop, length-append}
use lib.Seq.{drop_at}
use Rattle.figures.specs.Quote.{bytes}
use Rattle.figures.specs.Put.{splice}
use Rattle.text.specs.declared.kinds.Refusal.{Refusal}
use Rattle.text.specs.declared.kinds.Refused.{Refused}
use Rattle.text.specs.Groups.{Piece, groups_from}
use Rattle.record.specs.declared.aerodrome.Edition.{Edition}
use Rattle.record.specs.declared.aerodrome.Edition.TheVariants as edition
use Rattle.report_record.specs.declared.kinds.Kind.{Kind}
use Rattle.report_record.specs.declared.kinds.Kind.TheVariants as kind
use Rattle.report_record.specs.declared.kinds.Name.{Name}
use Rattle.report_record.specs.declared.kinds.Name.TheVariants as name
use Rattle.report_record.specs.declared.kinds.Report.{Report}
use Rattle.report_record.specs.declared.kinds.Reading.{Reading}
use Rattle.report_record.specs.Record.{reading, accepted}
use Rattle.report.specs.Read.{name_of, read_in}
use Rattle.report.specs.Write.{judge_in, canonical_of, written_in, buffer_in}
use Rattle.report_laws.proofs.ByName.{read-surface, read-observed, read-forecast, AcceptedAs, a-surface, an-observed, a-forecast}
use Rattle.report_laws.proofs.Listed.{ListedCause, Holds, first_holds}
use Rattle.report_laws.proofs.ReportCauses.{Field, causes_in}
use Rattle.report_laws.proofs.Demands.{Cause, listed, short-buffer, only-causes, one-text, text-left}
use Rattle.report_laws.proofs.Taken.{given-fine}
use Rattle.report_laws.proofs.Examples.{answer_in}

-- ---- the five kinds: that of a text, which its name says, and that of a record

pub data ReportKind : Type 0 where
  synop : ReportKind
  ship : ReportKind
  metar : ReportKind
  speci : ReportKind
  taf : ReportKind

abbrev pub kind_named : Name → Option ReportKind
kind_named (name.Surface at-sea at) = some (cond at-sea ship synop)
kind_named (name.Observed special at) = some (cond special speci metar)
kind_named (name.Forecast at) = some taf
kind_named (name.Refused f at) = none

abbrev pub kind_kept : Kind → Report → Option ReportKind
kind_kept kind.Missing r = none
kind_kept kind.Surface r = some (cond r.surface.ship ship synop)
kind_kept kind.Observed r = some (cond r.observed.observation.special speci metar)
kind_kept kind.Forecast r = some taf

abbrev pub TextOf : ReportKind → List ℕ → Type 0
TextOf k t = kind_named (name_of t) ≡ some k

abbrev pub RecordOf : ReportKind → Report → Type 0
RecordOf k r = kind_kept r.kind r ≡ some k

-- ---- two texts of each kind, which differ in the last figure alone: 5.3 or 5.4 degrees, a Q of 1013 or 1014, clouds from 390 or from 420 m

abbrev pub stem : ReportKind → Edition → String
stem synop e = "AAXX 24124 99901 43/66 80412 1005"
stem ship e = "BBXX D5LT 24124 99001 11800 43/97 80412 1005"
stem metar e = "METAR LEMD 011200Z 27010KT 9999 15/10 Q101"
stem speci e = "SPECI LEMD 011200Z 27010KT 9999 15/10 Q101"
stem taf edition.Present = "TAF LEMD 011100Z 0112/0212 27010KT 9999 SCT01"
stem taf edition.Of2005 = "TAF LEMD 011100Z 011206 27010KT 9999 SCT01"

abbrev pub figure : Bool → List ℕ
figure other = cond other (bytes "4=") (bytes "3=")

abbrev pub text : ReportKind → Edition → Bool → List ℕ
text k e other = bytes (stem k e) ++ figure other

-- What is computed of such a text: it is of its kind, has the first group of the other one, and is accepted as a record of that kind, whose canonical text it
-- is. SYNOP to SPECI are computed in each edition too, since a computation with a variable in it takes too many steps.
pub record Shown (k : ReportKind) (e : Edition) (t : List ℕ) : Type 0 where
  pub named : TextOf k t
  pub first : take 1 (groups_from t 0) ≡ take 1 (groups_from (text k e false) 0)
  pub accepts : (read_in e t).verdict ≡ Ok (length t)
  pub kept : RecordOf k (read_in e t).report
  pub canonical : canonical_of (read_in e t).report ≡ t

pub shown : (k : ReportKind) (e : Edition) (other : Bool) → Shown k e (text k e other)
unfolding answer_in
shown synop edition.Present false = record { named = refl; first = refl; accepts = refl; kept = refl; canonical = refl }
shown synop edition.Present true = record { named = refl; first = refl; accepts = refl; kept = refl; canonical = refl }
shown synop edition.Of2005 false = record { named = refl; first = refl; accepts = refl; kept = refl; canonical = refl }
shown synop edition.Of2005 true = record { named = refl; first = refl; accepts = refl; kept = refl; canonical = refl }
shown ship edition.Present false = record { named = refl; first = refl; accepts = refl; kept = refl; canonical = refl }
shown ship edition.Present true = record { named = refl; first = refl; accepts = refl; kept = refl; canonical = refl }
shown ship edition.Of2005 false = record { named = refl; first = refl; accepts = refl; kept = refl; canonical = refl }
shown ship edition.Of2005 true = record { named = refl; first = refl; accepts = refl; kept = refl; canonical = refl }
shown metar edition.Present false = record { named = refl; first = refl; accepts = refl; kept = refl; canonical = refl }
shown metar edition.Present true = record { named = refl; first = refl; accepts = refl; kept = refl; canonical = refl }
shown metar edition.Of2005 false = record { named = refl; first = refl; accepts = refl; kept = refl; canonical = refl }
shown metar edition.Of2005 true = record { named = refl; first = refl; accepts = refl; kept = refl; canonical = refl }
shown speci edition.Present false = record { named = refl; first = refl; accepts = refl; kept = refl; canonical = refl }
shown speci edition.Present true = record { named = refl; first = refl; accepts = refl; kept = refl; canonical = refl }
shown speci edition.Of2005 false = record { named = refl; first = refl; accepts = refl; kept = refl; canonical = refl }
shown speci edition.Of2005 true = record { named = refl; first = refl; accepts = refl; kept = refl; canonical = refl }
shown taf edition.Present false = record { named = refl; first = refl; accepts = refl; kept = refl; canonical = refl }
shown taf edition.Present true = record { named = refl; first = refl; accepts = refl; kept = refl; canonical = refl }
shown taf edition.Of2005 false = record { named = refl; first = refl; accepts = refl; kept = refl; canonical = refl }
shown taf edition.Of2005 true = record { named = refl; first = refl; accepts = refl; kept = refl; canonical = refl }

-- the two have one length, and are not the same
same_length : (k : ReportKind) (e : Edition) (other : Bool) → length (text k e other) ≡ length (text k e false)
same_length k e true = length-append (bytes (stem k e)) (figure true) ∙ sym (length-append (bytes (stem k e)) (figure false))
same_length k e false = refl

apart : (k : ReportKind) (e : Edition) → text k e false ≡ text k e true → ⊥
apart k e is =
    let s = bytes (stem k e) in
    let f : figure false ≡ figure true = sym (drop_at s (figure false) (length s) refl) ∙ ap (drop (length s)) is ∙ drop_at s (figure true) (length s) refl in
    let d : ◌≡◌ {A = ℕ} 51 52 = ap (λ (l : List ℕ). get_or l 0 0) f in
    omega arith

-- ---- the reader

abbrev is_accepted : Result ℕ Refused → Bool
is_accepted (Ok rest) = true
is_accepted (Err x) = false

module _ (chosen : Edition) (read : List ℕ → Reading) (meets : (t : List ℕ) → read t ≡ read_in chosen t) where
  -- one refusing a text that the definitions accept
  pub no-stricter-reader : (t : List ℕ) (rest : ℕ) (w : Report) → AcceptedAs chosen t rest w → is_accepted (read t).verdict ≡ false → ⊥
  no-stricter-reader t rest w x refuses = false≢true (sym (rw (meets t, go x) at refuses))
    where
      go : {v : Report} → AcceptedAs chosen t rest v → read_in chosen t ≡ accepted rest v
      go (a-surface r y) = read-surface chosen y
      go (an-observed r y) = read-observed chosen y
      go (a-forecast r y) = read-forecast chosen y

  module _ (k : ReportKind) where
    accepts : (other : Bool) → is_accepted (read (text k chosen other)).verdict ≡ true
    accepts other = rw (meets (text k chosen other), (shown k chosen other).accepts)

    -- one refusing every text of the kind
    pub no-refusing-reader : ((t : List ℕ) → TextOf k t → is_accepted (read t).verdict ≡ false) → ⊥
    no-refusing-reader all = false≢true (sym (all (text k chosen false) (shown k chosen false).named) ∙ accepts false)

    -- the two texts have two records
    records-apart : (x : Report) → ((other : Bool) → (read (text k chosen other)).report ≡ x) → ⊥
    records-apart x is = apart k chosen (sym (written false) ∙ written true)
      where
        written : (other : Bool) → canonical_of x ≡ text k chosen other
        written other = rw (← is other, meets (text k chosen other)) (shown k chosen other).canonical

    -- one returning a fixed record
    pub no-fixed-record : (x : Report) → ((t : List ℕ) → TextOf k t → is_accepted (read t).verdict ≡ true → (read t).report ≡ x) → ⊥
    no-fixed-record x fixed = records-apart x (λ other. fixed (text k chosen other) (shown k chosen other).named (accepts other))

    -- one that reads the first group, and copies blanks, or anything, for the others
    pub no-first-group-reader : (copy : List Piece → Report)
        → ((t : List ℕ) → TextOf k t → is_accepted (read t).verdict ≡ true → (read t).report ≡ copy (take 1 (groups_from t 0))) → ⊥
    no-first-group-reader copy by_first =
        records-apart (copy (take 1 (groups_from (text k chosen false) 0)))
        (λ other. by_first (text k chosen other) (shown k chosen other).named (accepts other) ∙ ap copy (shown k chosen other).first)

-- ---- the writer

abbrev is_done : Result ℕ Refusal → Bool
is_done (Ok n) = true
is_done (Err f) = false

module _ (chosen : Edition) (write : Report → List ℕ → Result ℕ Refusal) (after : Report → List ℕ → List ℕ)
    (answers : (r : Report) (b : List ℕ) → write r b ≡ written_in chosen r (length b)) (leaves : (r : Report) (b : List ℕ) → after r b ≡ buffer_in chosen r b) where
  -- one refusing a record of which none of the listed causes holds, and for which there is room
  pub no-stricter-writer : (r : Report) (b : List ℕ) → ((c : ListedCause Field) → Holds (causes_in chosen r) c → ⊥) → length (canonical_of r) ≤ length b
      → is_done (write r b) ≡ false → ⊥
  no-stricter-writer r b no-cause has_room refuses = go (written_in chosen r (length b)) refl (rw (answers r b) at refuses)
    where
      caused : {f : Refusal} → Cause chosen r b f → ⊥
      caused (listed c x) = no-cause c (first_holds x)
      caused (short-buffer j h) = omega (arith, has_room, h)

      go : (w : Result ℕ Refusal) → written_in chosen r (length b) ≡ w → is_done w ≡ false → ⊥
      go (Ok n) is e = false≢true (sym e)
      go (Err f) is e = caused (only-causes chosen r b f is)

  module _ (k : ReportKind) where
    -- the records of the two texts, written over the first of these
    abbrev given : Bool → Report
    given other = (read_in chosen (text k chosen other)).report

    abbrev lent : List ℕ
    lent = text k chosen false

    fine : (other : Bool) → judge_in chosen (given other) ≡ Ok tt
    fine other =
        let t = text k chosen other in
        given-fine chosen t (length t) (given other) (ap (λ (v : Result ℕ Refused). reading v (given other)) (shown k chosen other).accepts)

    room : (other : Bool) → length (canonical_of (given other)) ≤ length lent
    room other = rw ((shown k chosen other).canonical, same_length k chosen other) (omega arith)

    writes : (other : Bool) → is_done (write (given other) lent) ≡ true
    writes other = rw (answers (given other) lent, (one-text chosen (given other) lent (fine other) (room other)).0)

    -- one refusing every record of the kind
    pub no-refusing-writer : ((r : Report) (b : List ℕ) → RecordOf k r → is_done (write r b) ≡ false) → ⊥
    no-refusing-writer all = false≢true (sym (all (given false) lent (shown k chosen false).kept) ∙ writes false)

    -- they leave two texts
    texts-apart : (l : List ℕ) → ((other : Bool) → after (given other) lent ≡ l) → ⊥
    texts-apart l is = apart k chosen (sym (left false) ∙ left true)
      where
        left : (other : Bool) → take (length lent) l ≡ text k chosen other
        left other =
            ap (take (length lent)) (sym (is other) ∙ leaves (given other) lent)
            ∙ rw ((shown k chosen other).canonical, same_length k chosen other) at (text-left chosen (given other) lent (fine other) (room other))

    -- one writing a fixed text
    pub no-fixed-text : (x : List ℕ) → ((r : Report) (b : List ℕ) → RecordOf k r → is_done (write r b) ≡ true → after r b ≡ splice b 0 x) → ⊥
    no-fixed-text x fixed = texts-apart (splice lent 0 x) (λ other. fixed (given other) lent (shown k chosen other).kept (writes other))

    -- one that writes nothing and says done
    pub no-idle-writer : ((r : Report) (b : List ℕ) → RecordOf k r → is_done (write r b) ≡ true → after r b ≡ b) → ⊥
    no-idle-writer idle = texts-apart lent (λ other. idle (given other) lent (shown k chosen other).kept (writes other))
