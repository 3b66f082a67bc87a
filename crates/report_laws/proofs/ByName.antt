-- A text is read as the kind that its first group names: it is accepted, or refused, as the groups of that kind come to.
-- Assumes nothing.
use Rattle.std.specs.Prelude.{Err, Ok, Result}
use Prim.Native.Nat.{ℕ}
use native.Mathlib.Omega.{arith}
use mathlib.Core.Path.{◌≡◌, refl, sym, ap, subst}
use mathlib.Core.Bool.{Bool}
use mathlib.Core.List.{List}
use lib.ListN.{length}
use Rattle.text.specs.declared.kinds.Refusal.{Refusal}
use Rattle.text.specs.declared.kinds.Refused.{Refused}
use Rattle.text.specs.Groups.{groups_from}
use Rattle.text.specs.Text.{tail_of}
use Rattle.text.specs.Refusals.{refused_with}
use Rattle.places.specs.Engine.{Outcome, Done, Fault}
use Rattle.record.specs.declared.surface.Synop.{Synop}
use Rattle.record.specs.declared.aerodrome.Metar.{Metar}
use Rattle.record.specs.declared.aerodrome.Edition.{Edition}
use Rattle.record.specs.declared.aerodrome.Taf.{Taf}
use Rattle.synop.specs.Read as synop
use Rattle.metar.specs.Read as metar
use Rattle.taf.specs.Read as taf
use Rattle.report_record.specs.Record.{surface_report, observed_report, forecast_report, accepted, refused}
use Rattle.report_record.specs.declared.kinds.Kind.TheVariants as kind
use Rattle.report_record.specs.declared.kinds.Name.{Name}
use Rattle.report_record.specs.declared.kinds.Name.TheVariants as name
use Rattle.report_record.specs.declared.kinds.Report.{Report}
use Rattle.report_record.specs.declared.kinds.Reading.{Reading}
use Rattle.report.specs.Read.{answered, read_as, name_of, read_in}
use Rattle.report.proofs.Names.{Says, name-says, others-behind, surface-name, observed-name, forecast-name}
pub use Rattle.report.proofs.Names.{surface_word, observed_word, forecast_word, Named}

-- ---- what the groups of a text come to, by the word that its first group is

-- AAXX or BBXX, and the groups behind it
pub record SurfaceText (t : List ℕ) (o : Outcome Synop) : Type 0 where
  pub ship : Bool
  pub named : Named t (surface_word ship)
  pub comes : synop.groups_read ship (tail_of t) (length t) named.others ≡ o

-- METAR or SPECI, the first of the groups
pub record ObservedText (t : List ℕ) (o : Outcome Metar) : Type 0 where
  pub special : Bool
  pub named : Named t (observed_word special)
  pub comes : metar.groups_read (tail_of t) (length t) (groups_from t 0) ≡ o

-- TAF, the first of the groups
pub record ForecastText (chosen : Edition) (t : List ℕ) (o : Outcome Taf) : Type 0 where
  pub named : Named t forecast_word
  pub comes : taf.groups_read chosen (tail_of t) (length t) (groups_from t 0) ≡ o

-- ---- the text is read as that

module _ (chosen : Edition) {t : List ℕ} where
  pub read-surface : {o : Outcome Synop} → SurfaceText t o → read_in chosen t ≡ answered surface_report o
  unfolding read_in
  read-surface x = rw (surface-name x.ship x.named, others-behind x.named, x.comes)

  pub read-observed : {o : Outcome Metar} → ObservedText t o → read_in chosen t ≡ answered observed_report o
  unfolding read_in
  read-observed x = rw (observed-name x.special x.named, x.comes)

  pub read-forecast : {o : Outcome Taf} → ForecastText chosen t o → read_in chosen t ≡ answered forecast_report o
  unfolding read_in
  read-forecast x = rw (forecast-name x.named, x.comes)

-- ---- and every text is read as one of these, or has no name

pub data Which (chosen : Edition) (t : List ℕ) : Reading → Type 0 where
  by-surface : (o : Outcome Synop) → SurfaceText t o → Which chosen t (answered surface_report o)
  by-observed : (o : Outcome Metar) → ObservedText t o → Which chosen t (answered observed_report o)
  by-forecast : (o : Outcome Taf) → ForecastText chosen t o → Which chosen t (answered forecast_report o)
  by-none : (f : Refusal) (at : ℕ) → name_of t ≡ name.Refused f at → Which chosen t (refused f at)

pub which : (chosen : Edition) (t : List ℕ) → Which chosen t (read_in chosen t)
unfolding read_in
which chosen t = go (name_of t) refl (name-says t)
  where
    go : (n : Name) → name_of t ≡ n → Says t n → Which chosen t (read_as chosen t n)
    go (name.Surface ship at) is (n, behind) =
        by-surface (synop.groups_read ship (tail_of t) (length t) (groups_from t at)) (record { ship = ship; named = n; comes = rw behind })
    go (name.Observed special at) is (n, behind) =
        by-observed (metar.groups_read (tail_of t) (length t) (groups_from t 0)) (record { special = special; named = n; comes = refl })
    go (name.Forecast at) is (n, behind) = by-forecast (taf.groups_read chosen (tail_of t) (length t) (groups_from t 0)) (record { named = n; comes = refl })
    go (name.Refused f at) is says = by-none f at is

-- ---- accepted: the one kind whose groups come to the record

pub data AcceptedAs (chosen : Edition) (t : List ℕ) (rest : ℕ) : Report → Type 0 where
  a-surface : (r : Synop) → SurfaceText t (Done rest r) → AcceptedAs chosen t rest (surface_report r)
  an-observed : (r : Metar) → ObservedText t (Done rest r) → AcceptedAs chosen t rest (observed_report r)
  a-forecast : (r : Taf) → ForecastText chosen t (Done rest r) → AcceptedAs chosen t rest (forecast_report r)

not-refused : (f : Refusal) (at rest : ℕ) (w : Report) → refused f at ≡ accepted rest w → ⊥
not-refused f at rest w e =
    let v : Err (refused_with f at) ≡ Ok rest = ap (λ (a : Reading). a.verdict) e in
    let z : ◌≡◌ {A = ℕ} 0 1 = cc in
    omega arith

-- two refusals that are one have one number and one place
pub same-fault : {f g : Refusal} {at p : ℕ} → ◌≡◌ {A = Result ℕ Refused} (Err (refused_with f at)) (Err (refused_with g p)) → (f ≡ g) × (at ≡ p)
same-fault {f} {g} {at} {p} e =
    let is : refused_with f at ≡ refused_with g p = cc in
    (ap (λ (x : Refused). x.refusal) is, ap (λ (x : Refused). x.place) is)

-- what is accepted is what the groups come to, and what is refused too
module _ {R : Type 0} (within : R → Report) where
  picked : (P : Outcome R → Type 0) (Q : Report → Type 0) (rest : ℕ) (w : Report) → ((r : R) → P (Done rest r) → Q (within r))
      → (o : Outcome R) → P o → answered within o ≡ accepted rest w → Q w
  picked P Q rest w f (Done k r) p e =
      let v : Ok k ≡ Ok rest = ap (λ (a : Reading). a.verdict) e in
      let is : k ≡ rest = cc in
      subst Q (ap (λ (a : Reading). a.report) e) (f r (subst (λ (n : ℕ). P (Done n r)) is p))
  picked P Q rest w f (Fault g at) p e = absurd (not-refused g at rest w e)

  blamed : (P : Outcome R → Type 0) (f : Refusal) (at : ℕ) (o : Outcome R) → P o → answered within o ≡ refused f at → P (Fault f at)
  blamed P f at (Done k r) p e = absurd (not-refused f at k (within r) (sym e))
  blamed P f at (Fault g place) p e =
      let (is, there) = same-fault (ap (λ (a : Reading). a.verdict) e) in
      rw (← is, ← there) p

pub accepted-as : (chosen : Edition) (t : List ℕ) (rest : ℕ) (w : Report) → read_in chosen t ≡ accepted rest w → AcceptedAs chosen t rest w
accepted-as chosen t rest w e = go (read_in chosen t) (which chosen t) e
  where
    go : (a : Reading) → Which chosen t a → a ≡ accepted rest w → AcceptedAs chosen t rest w
    go _ (by-surface o x) e = picked surface_report (SurfaceText t) (AcceptedAs chosen t rest) rest w a-surface o x e
    go _ (by-observed o x) e = picked observed_report (ObservedText t) (AcceptedAs chosen t rest) rest w an-observed o x e
    go _ (by-forecast o x) e = picked forecast_report (ForecastText chosen t) (AcceptedAs chosen t rest) rest w a-forecast o x e
    go _ (by-none f at is) e = absurd (not-refused f at rest w e)

-- of the kind that the record has
module _ {chosen : Edition} {t : List ℕ} {rest : ℕ} where
  pub as-surface : (r : Synop) → AcceptedAs chosen t rest (surface_report r) → SurfaceText t (Done rest r)
  as-surface r x = go (surface_report r) x refl
    where
      go : (w : Report) → AcceptedAs chosen t rest w → w ≡ surface_report r → SurfaceText t (Done rest r)
      go _ (a-surface q y) is = subst (λ (v : Synop). SurfaceText t (Done rest v)) (ap (λ (a : Report). a.surface) is) y
      go _ (an-observed q y) is = let k : kind.Observed ≡ kind.Surface = ap (λ (a : Report). a.kind) is in let z : ◌≡◌ {A = ℕ} 0 1 = cc in absurd (omega arith)
      go _ (a-forecast q y) is = let k : kind.Forecast ≡ kind.Surface = ap (λ (a : Report). a.kind) is in let z : ◌≡◌ {A = ℕ} 0 1 = cc in absurd (omega arith)

  pub as-observed : (r : Metar) → AcceptedAs chosen t rest (observed_report r) → ObservedText t (Done rest r)
  as-observed r x = go (observed_report r) x refl
    where
      go : (w : Report) → AcceptedAs chosen t rest w → w ≡ observed_report r → ObservedText t (Done rest r)
      go _ (a-surface q y) is = let k : kind.Surface ≡ kind.Observed = ap (λ (a : Report). a.kind) is in let z : ◌≡◌ {A = ℕ} 0 1 = cc in absurd (omega arith)
      go _ (an-observed q y) is = subst (λ (v : Metar). ObservedText t (Done rest v)) (ap (λ (a : Report). a.observed) is) y
      go _ (a-forecast q y) is = let k : kind.Forecast ≡ kind.Observed = ap (λ (a : Report). a.kind) is in let z : ◌≡◌ {A = ℕ} 0 1 = cc in absurd (omega arith)

  pub as-forecast : (r : Taf) → AcceptedAs chosen t rest (forecast_report r) → ForecastText chosen t (Done rest r)
  as-forecast r x = go (forecast_report r) x refl
    where
      go : (w : Report) → AcceptedAs chosen t rest w → w ≡ forecast_report r → ForecastText chosen t (Done rest r)
      go _ (a-surface q y) is = let k : kind.Surface ≡ kind.Forecast = ap (λ (a : Report). a.kind) is in let z : ◌≡◌ {A = ℕ} 0 1 = cc in absurd (omega arith)
      go _ (an-observed q y) is = let k : kind.Observed ≡ kind.Forecast = ap (λ (a : Report). a.kind) is in let z : ◌≡◌ {A = ℕ} 0 1 = cc in absurd (omega arith)
      go _ (a-forecast q y) is = subst (λ (v : Taf). ForecastText chosen t (Done rest v)) (ap (λ (a : Report). a.forecast) is) y

-- ---- refused: the number and the place that the groups of the kind come to; 1, 2 and 3 where the text has no name

pub data RefusedAs (chosen : Edition) (t : List ℕ) (f : Refusal) (at : ℕ) : Type 0 where
  no-surface : SurfaceText t (Fault f at) → RefusedAs chosen t f at
  no-observed : ObservedText t (Fault f at) → RefusedAs chosen t f at
  no-forecast : ForecastText chosen t (Fault f at) → RefusedAs chosen t f at
  no_name : name_of t ≡ name.Refused f at → RefusedAs chosen t f at

module _ {chosen : Edition} {t : List ℕ} {f : Refusal} {at : ℕ} where
  pub refused_as : read_in chosen t ≡ refused f at → RefusedAs chosen t f at
  refused_as e = go (read_in chosen t) (which chosen t) e
    where
      go : (a : Reading) → Which chosen t a → a ≡ refused f at → RefusedAs chosen t f at
      go _ (by-surface o x) e = no-surface (blamed surface_report (SurfaceText t) f at o x e)
      go _ (by-observed o x) e = no-observed (blamed observed_report (ObservedText t) f at o x e)
      go _ (by-forecast o x) e = no-forecast (blamed forecast_report (ForecastText chosen t) f at o x e)
      go _ (by-none g p is) e =
          let (same, there) = same-fault (ap (λ (a : Reading). a.verdict) e) in
          no_name (rw (← same, ← there) is)

  pub as-refused : RefusedAs chosen t f at → read_in chosen t ≡ refused f at
  unfolding read_in
  as-refused (no-surface x) = read-surface chosen x
  as-refused (no-observed x) = read-observed chosen x
  as-refused (no-forecast x) = read-forecast chosen x
  as-refused (no_name is) = rw is
