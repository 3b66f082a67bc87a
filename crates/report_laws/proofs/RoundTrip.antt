-- The round trip of a record of any kind: what is judged fine is one kind's part with the others blank, and what is written of it is read back.
-- Assumes nothing.
use Rattle.std.specs.Prelude.{Ok, Option}
use Prim.Native.Nat.{ℕ, zero, suc, ◌+◌, ◌≤◌}
use native.Mathlib.Omega.{arith}
use mathlib.Core.Path.{◌≡◌, refl, sym, ap, ◌∙◌}
use mathlib.Core.Bool.{Bool, true, false, ◌&&◌}
use mathlib.Core.List.{List, [], ◌∷◌, ◌++◌, map}
use lib.ListN.{length, take, drop}
use borrow.Author.Tests.{le-leb}
use Rattle.figures.proofs.Impossible.{impossible}
use Rattle.text.specs.Judge.{judge}
use Rattle.text.specs.Groups.{join, placed}
use Rattle.text.proofs.Joins.{round_trip, join-sound}
use Rattle.text.proofs.Judging.{fine, and-then}
use Rattle.shapes.specs.Pattern.{low, high, fits, has_pattern}
use Rattle.shapes.proofs.Patterns.{both}
use Rattle.places.specs.Engine.{Group, Done}
use Rattle.places.proofs.Sizes.{Sizes}
use Rattle.scales.specs.Rounded.{rounded_rain, rounded_direction}
use Rattle.scales.proofs.DirectionLaws.{rounded-below}
use Rattle.record.specs.declared.values.Direction.{Direction}
use Rattle.record.specs.declared.values.Direction.TheVariants as direction
use Rattle.record.specs.declared.surface.Synop.{Synop}
use Rattle.record.specs.declared.aerodrome.Extremes.{Extremes}
use Rattle.record.specs.declared.aerodrome.Metar.{Metar}
use Rattle.record.specs.declared.aerodrome.Edition.{Edition}
use Rattle.record.specs.declared.aerodrome.Taf.{Taf}
use Rattle.record.specs.Blank.{blank_synop}
use Rattle.record.specs.Trend.{blank_metar}
use Rattle.record.specs.Taf.{blank_taf}
use Rattle.aerodrome_groups.specs.Temperatures.{class_tenths, class_pressure}
use Rattle.wind.proofs.Promises.{ExtremesNear, no-extremes, between}
use Rattle.trend.specs.Write as trend
use Rattle.metar_row.specs.Row as observed-row
use Rattle.taf_row.specs.Row as forecast-row
use Rattle.synop.specs.Write as synop
use Rattle.metar.specs.Write as metar
use Rattle.taf.specs.Write as taf
use Rattle.synop_laws.proofs.Canonical as synop-text
use Rattle.synop_laws.proofs.Promises as synop-promise
use Rattle.metar_laws.proofs.Canonical as metar-text
use Rattle.metar_laws.proofs.Promises as metar-promise
use Rattle.taf_laws.proofs.Canonical as taf-text
use Rattle.taf_laws.proofs.Promises as taf-promise
use Rattle.report_record.specs.declared.kinds.Kind.{Kind}
use Rattle.report_record.specs.declared.kinds.Kind.TheVariants as kind
use Rattle.report_record.specs.declared.kinds.Report.{Report}
use Rattle.report_record.specs.Record.{surface_report, observed_report, forecast_report, accepted}
use Rattle.record.specs.Arrays.{SynopArrays, MetarArrays, TafArrays}
use Rattle.record.specs.Classes.{class_direction}
use Rattle.record.specs.SilentSurface.{no_surface, is_blank_synop}
use Rattle.record.specs.SilentAerodrome.{is_blank_body, no_observation, is_blank_observation, is_blank_metar, is_same_edition, is_blank_taf}
use Rattle.record.proofs.Near.{DirectionNear, degrees, direction_fits, direction-near}
use Rattle.record.proofs.Counted.{EachRead, none, more}
use Rattle.record.proofs.SurfaceBlanks.{synop-blank}
use Rattle.record.proofs.AerodromeBlanks.{edition-same, same-edition, metar-blank, taf-blank}
use Rattle.report.specs.Read.{read_in}
use Rattle.report.specs.Write.{judge_by, judge_in, canonical_of, classed_of}
use Rattle.report_laws.proofs.ByName.{surface_word, observed_word, forecast_word, Named, SurfaceText, ObservedText, ForecastText, read-surface, read-observed, read-forecast}
use Rattle.report_laws.proofs.Numbers.{Table, class_on, numbers_of, temperatures_of, pressures_of, observed_bodies, forecast_bodies, class_unit_speed, speeds_of, extreme_directions, trend_direction, change_direction, directions_of, rains_of, synop-numbers, observed-bodies, forecast-bodies, observed-numbers, forecast-numbers, bodies-speeds, trend-direction, change-direction, observed-directions, forecast-directions, amount-is}

-- The record's arrays have the lengths of the code's arrays.
pub record Arrays (r : Report) : Type 0 where
  pub surface : SynopArrays r.surface
  pub observed : MetarArrays r.observed
  pub forecast : TafArrays r.forecast

-- ---- what is judged fine

-- in the edition that is chosen, which a TAF's record then names
pub data Fair (chosen : Edition) : Report → Type 0 where
  surface : (s : Synop) → SynopArrays s → synop.judge_of s ≡ Ok tt → Fair chosen (surface_report s)
  observed : (m : Metar) → MetarArrays m → metar.judge_of m ≡ Ok tt → Fair chosen (observed_report m)
  forecast : (t : Taf) → TafArrays t → chosen ≡ t.edition → taf.judge_of t ≡ Ok tt → Fair chosen (forecast_report t)

same : {chosen : Edition} {k k' : Kind} {s s' : Synop} {m m' : Metar} {t t' : Taf} → k ≡ k' → s ≡ s' → m ≡ m' → t ≡ t'
    → Fair chosen (record { kind = k'; surface = s'; observed = m'; forecast = t' }) → Fair chosen (record { kind = k; surface = s; observed = m; forecast = t })
same a b c d x = rw (a, b, c, d) x

-- the writer of an edition takes a TAF of that edition alone
of-edition : (chosen : Edition) (t : Taf) → taf.judge_in chosen t ≡ Ok tt → (chosen ≡ t.edition) × (taf.judge_of t ≡ Ok tt)
unfolding taf.judge_in
of-edition chosen t e =
    let j = and-then (judge (is_same_edition chosen t.edition) true) (taf.judge_of t) e in
    (edition-same chosen t.edition (fine (is_same_edition chosen t.edition) true j.0).0, j.1)

pub fair : (chosen : Edition) (r : Report) → Arrays r → judge_in chosen r ≡ Ok tt → Fair chosen r
unfolding judge_in
fair chosen r arrays e = go r.kind refl e
  where
    go : (k : Kind) → r.kind ≡ k → judge_by chosen k r ≡ Ok tt → Fair chosen r
    go kind.Missing is e = impossible (cc)
    go kind.Surface is e =
        let j = and-then (judge (is_blank_metar r.observed && is_blank_taf r.forecast) true) (synop.judge_of r.surface) e in
        let b = both (is_blank_metar r.observed) (is_blank_taf r.forecast) (fine _ true j.0).0 in
        same is refl (metar-blank r.observed arrays.observed b.0) (taf-blank r.forecast arrays.forecast b.1) (surface r.surface arrays.surface j.1)
    go kind.Observed is e =
        let j = and-then (judge (is_blank_synop r.surface && is_blank_taf r.forecast) true) (metar.judge_of r.observed) e in
        let b = both (is_blank_synop r.surface) (is_blank_taf r.forecast) (fine _ true j.0).0 in
        same is (synop-blank r.surface arrays.surface b.0) refl (taf-blank r.forecast arrays.forecast b.1) (observed r.observed arrays.observed j.1)
    go kind.Forecast is e =
        let j = and-then (judge (is_blank_synop r.surface && is_blank_metar r.observed) true) (taf.judge_in chosen r.forecast) e in
        let own = of-edition chosen r.forecast j.1 in
        let b = both (is_blank_synop r.surface) (is_blank_metar r.observed) (fine _ true j.0).0 in
        same is (synop-blank r.surface arrays.surface b.0) (metar-blank r.observed arrays.observed b.1) refl (forecast r.forecast arrays.forecast own.0 own.1)

-- ---- it is read back

-- the text that groups are joined to has the first of them as its first group
joined : (w g : Group) (gs : List Group) {n : ℕ} → has_pattern g w ≡ true → Sizes n (g ∷ gs) → length (join (g ∷ gs)) ≤ 2048 → Named (join (g ∷ gs)) w
unfolding placed
joined w g gs is sizes short =
    record {
      sound = join-sound (g ∷ gs) sizes.allow short;
      first = record { start = 0; bytes = g };
      others = placed (0 + length g + 1) gs;
      groups = round_trip (g ∷ gs) sizes.wholes;
      named = is;
    }

surface-word : (ship : Bool) → has_pattern (synop-text.word ship) (surface_word ship) ≡ true
unfolding has_pattern fits low high
surface-word true = refl
surface-word false = refl

observed-word : (special : Bool) → has_pattern (observed_word special) (observed_word special) ≡ true
unfolding has_pattern fits low high
observed-word true = refl
observed-word false = refl

module _ (s : Synop) (arrays : SynopArrays s) (e : synop.judge_of s ≡ Ok tt) where
  surface-named : Named (synop.canonical_of s) (surface_word s.ship)
  unfolding synop.canonical_of
  surface-named =
      let are = synop-text.groups-are s.ship s refl in
      let short = synop-text.length-canonical s arrays e in
      rw are (joined _ _ _ (surface-word s.ship) (rw are at (synop-text.groups-sizes s arrays e)) (omega (arith, rw are at short)))

  surface-text : SurfaceText (synop.canonical_of s) (Done (length (synop.canonical_of s)) (synop.classed_of s))
  surface-text = let n = surface-named in record { ship = s.ship; named = n; comes = rw n.groups at (synop-text.read-canonical s arrays e) }

module _ (m : Metar) (arrays : MetarArrays m) (e : metar.judge_of m ≡ Ok tt) where
  observed-named : Named (metar.canonical_of m) (observed_word m.observation.special)
  unfolding metar.canonical_of metar.groups_of observed-row.row
  observed-named = joined _ _ _ (observed-word m.observation.special) (metar-text.groups-sizes m arrays e) (omega (arith, metar-text.length-canonical m arrays e))

  observed-text : ObservedText (metar.canonical_of m) (Done (length (metar.canonical_of m)) (metar.classed_of m))
  observed-text = record { special = m.observation.special; named = observed-named; comes = metar-text.read-canonical m arrays e }

module _ (t : Taf) (arrays : TafArrays t) (e : taf.judge_of t ≡ Ok tt) where
  forecast-named : Named (taf.canonical_of t) forecast_word
  unfolding taf.canonical_of taf.groups_of forecast-row.row has_pattern fits low high
  forecast-named = joined _ _ _ refl (taf-text.groups-sizes t arrays e) (omega (arith, taf-text.length-canonical t arrays e))

  forecast-text : ForecastText t.edition (taf.canonical_of t) (Done (length (taf.canonical_of t)) (taf.classed_of t))
  forecast-text = record { named = forecast-named; comes = taf-text.read-canonical t arrays e }

pub comes_back : {chosen : Edition} {r : Report} → Fair chosen r → read_in chosen (canonical_of r) ≡ accepted (length (canonical_of r)) (classed_of r)
unfolding canonical_of classed_of
comes_back {chosen} (surface s arrays e) = read-surface chosen (surface-text s arrays e)
comes_back {chosen} (observed m arrays e) = read-observed chosen (observed-text m arrays e)
comes_back (forecast t arrays own e) = rw own (read-forecast t.edition (forecast-text t arrays e))

-- ---- and written again

blank-metar : is_blank_metar blank_metar ≡ true
unfolding is_blank_metar is_blank_observation no_observation is_blank_body
blank-metar = refl

blank-taf : is_blank_taf blank_taf ≡ true
unfolding is_blank_taf is_blank_body
blank-taf = refl

blank-synop : is_blank_synop blank_synop ≡ true
unfolding is_blank_synop no_surface
blank-synop = refl

edition-fine : (chosen : Edition) (t : Taf) → chosen ≡ t.edition → taf.judge_of t ≡ Ok tt → taf.judge_in chosen t ≡ Ok tt
unfolding taf.judge_in
edition-fine chosen t own e = rw (own, same-edition t.edition, e)

same-named : (t : Taf) → (taf.classed_of t).edition ≡ t.edition
unfolding taf.classed_of
same-named t = refl

pub fair-fine : {chosen : Edition} {r : Report} → Fair chosen r → judge_in chosen r ≡ Ok tt
unfolding judge_in
fair-fine (surface s arrays e) = rw (blank-metar, blank-taf, e)
fair-fine (observed m arrays e) = rw (blank-synop, blank-taf, e)
fair-fine (forecast t arrays own e) = rw (blank-synop, blank-metar, edition-fine _ t own e)

pub fine-again : {chosen : Edition} {r : Report} → Fair chosen r → judge_in chosen (classed_of r) ≡ Ok tt
unfolding judge_in classed_of
fine-again (surface s arrays e) = rw (blank-metar, blank-taf, synop-text.classed-fine s arrays e)
fine-again (observed m arrays e) = rw (blank-synop, blank-taf, metar-text.classed-fine m arrays e)
fine-again (forecast t arrays own e) = rw (blank-synop, blank-metar, edition-fine _ (taf.classed_of t) (own ∙ sym (same-named t)) (taf-text.classed-fine t arrays e))

pub text-again : {chosen : Edition} {r : Report} → Fair chosen r → canonical_of (classed_of r) ≡ canonical_of r
unfolding canonical_of classed_of
text-again (surface s arrays e) = synop-text.written-again s arrays e
text-again (observed m arrays e) = metar-text.written-again m arrays e
text-again (forecast t arrays own e) = taf-text.written-again t arrays e

-- ---- field by field

pub data Kept : Report → Report → Type 0 where
  surface-kept : {s q : Synop} → synop-promise.RecordRead s q → Kept (surface_report s) (surface_report q)
  observed-kept : {m q : Metar} → metar-promise.RecordRead m q → Kept (observed_report m) (observed_report q)
  forecast-kept : {t q : Taf} → taf-promise.RecordRead t q → Kept (forecast_report t) (forecast_report q)

pub kept : {chosen : Edition} {r : Report} → Fair chosen r → Kept r (classed_of r)
unfolding classed_of
kept (surface s arrays e) = surface-kept (synop-promise.promise s arrays e).1
kept (observed m arrays e) = observed-kept (metar-promise.promise m arrays e).1
kept (forecast t arrays own e) = forecast-kept (taf-promise.promise t arrays e).1

-- ---- each rounded number is the reading of its class

pub numbers-back : (t : Table) {chosen : Edition} {r : Report} → Fair chosen r → numbers_of t (classed_of r) ≡ map (class_on t) (numbers_of t r)
unfolding classed_of synop.classed_of metar.classed_of metar.class_observation taf.classed_of observed-row.row forecast-row.row
numbers-back t (surface s arrays e) = synop-numbers t s (synop.classed_of s) refl refl (synop-text.layers-back s arrays e)
numbers-back t (observed m arrays e) = observed-numbers t m (metar.classed_of m) refl (metar-promise.states-items m arrays e) (observed-bodies m (metar.classed_of m) refl (metar-promise.items-classed m arrays e))
numbers-back t (forecast f arrays own e) = forecast-numbers t f (taf.classed_of f) (forecast-bodies f (taf.classed_of f) refl (taf-promise.items-classed f arrays e))

pub speeds-back : {chosen : Edition} {r : Report} → Fair chosen r → speeds_of (classed_of r) ≡ map class_unit_speed (speeds_of r)
unfolding classed_of metar.classed_of metar.class_observation taf.classed_of observed-row.row forecast-row.row
speeds-back (surface s arrays e) = refl
speeds-back (observed m arrays e) =
    bodies-speeds (observed_bodies m) (observed_bodies (metar.classed_of m)) (observed-bodies m (metar.classed_of m) refl (metar-promise.items-classed m arrays e))
speeds-back (forecast f arrays own e) =
    bodies-speeds (forecast_bodies f) (forecast_bodies (taf.classed_of f)) (forecast-bodies f (taf.classed_of f) refl (taf-promise.items-classed f arrays e))

pub directions-back : {chosen : Edition} {r : Report} → Fair chosen r → directions_of (classed_of r) ≡ map class_direction (directions_of r)
unfolding classed_of synop.classed_of metar.classed_of metar.class_observation taf.classed_of observed-row.row forecast-row.row
directions-back (surface s arrays e) = refl
directions-back (observed m arrays e) = observed-directions m (metar.classed_of m) refl refl (metar-promise.items-classed m arrays e)
directions-back (forecast f arrays own e) = forecast-directions f (taf.classed_of f) refl (taf-promise.items-classed f arrays e)

pub temperatures-back : {chosen : Edition} {r : Report} → Fair chosen r → temperatures_of (classed_of r) ≡ map class_tenths (temperatures_of r)
unfolding classed_of metar.classed_of metar.class_observation observed-row.row
temperatures-back (surface s arrays e) = refl
temperatures-back (observed m arrays e) = refl
temperatures-back (forecast f arrays own e) = refl

pub pressures-back : {chosen : Edition} {r : Report} → Fair chosen r → pressures_of (classed_of r) ≡ map class_pressure (pressures_of r)
unfolding classed_of metar.classed_of metar.class_observation observed-row.row
pressures-back (surface s arrays e) = refl
pressures-back (observed m arrays e) = refl
pressures-back (forecast f arrays own e) = refl

pub rains-back : {chosen : Edition} {r : Report} → Fair chosen r → rains_of (classed_of r) ≡ map rounded_rain (rains_of r)
unfolding classed_of synop.classed_of
rains-back (surface s arrays e) = amount-is s.surface.rainfall.is
rains-back (observed m arrays e) = refl
rains-back (forecast f arrays own e) = refl

-- ---- each direction is near the one that is read back

-- one that is its own class is in range
still-fits : (d : Direction) → class_direction d ≡ d → direction_fits d ≡ true
still-fits direction.Missing e = refl
still-fits direction.Calm e = refl
still-fits direction.Variable e = refl
still-fits (direction.Degrees d) e =
    let same : rounded_direction d ≡ d = cc in
    le-leb d 359 (omega (arith, rounded-below d))

-- of each change that counts it is near, and those past the count are as they were
module _ {A : Type 0} (of : A → Direction) (f : A → A) (class : (x : A) → of (f x) ≡ class_direction (of x)) where
  still-near : (xs : List A) → map f xs ≡ xs → EachRead DirectionNear (map of xs) (map of (map f xs))
  still-near [] e = none
  still-near (x ∷ xs) e =
      let first : f x ≡ x = cc in
      let others : map f xs ≡ xs = cc in
      let near : DirectionNear (of x) (of (f x)) = rw (class x) (direction-near (of x) (still-fits (of x) (sym (class x) ∙ ap of first))) in
      more near (still-near xs others)

  module _ {R : A → A → Type 0} (near : (x y : A) → R x y → DirectionNear (of x) (of y)) where
    counted-near : (n : ℕ) (xs : List A) → EachRead R (take n xs) (take n (map f xs)) → drop n (map f xs) ≡ drop n xs → EachRead DirectionNear (map of xs) (map of (map f xs))
    counted-near zero xs reads past = still-near xs past
    counted-near (suc n) [] reads past = none
    counted-near (suc n) (x ∷ xs) (more first others) past = more (near x (f x) first) (counted-near n xs others past)

    items-near : (n : ℕ) (xs ys : List A) → ys ≡ map f xs → EachRead R (take n xs) (take n ys) → drop n ys ≡ drop n xs → EachRead DirectionNear (map of xs) (map of ys)
    items-near n xs ys is reads past = rw is (counted-near n xs (rw is at reads) (rw is at past))

extremes-near : {x y : Option Extremes} → ExtremesNear x y → EachRead DirectionNear (extreme_directions x) (extreme_directions y)
extremes-near no-extremes = none
extremes-near (between a b) = more (degrees a) (more (degrees b) none)

append-near : {A : Type 0} {R : A → A → Type 0} {xs ys us vs : List A} → EachRead R xs ys → EachRead R us vs → EachRead R (xs ++ us) (ys ++ vs)
append-near none b = b
append-near (more x a) b = more x (append-near a b)

pub directions-near : {chosen : Edition} {r : Report} → Fair chosen r → EachRead DirectionNear (directions_of r) (directions_of (classed_of r))
unfolding classed_of
directions-near (surface s arrays e) = more (synop-promise.promise s arrays e).1.surface.direction none
directions-near (observed m arrays e) =
    let p = (metar-promise.promise m arrays e).1 in
    let changes = items-near trend_direction trend.class_change trend-direction (λ c d r. r.body.wind.direction) m.trend.count m.trend.items (metar.classed_of m).trend.items (metar-promise.items-classed m arrays e) p.changes p.past in
    more p.observation.body.wind.direction (append-near (extremes-near p.observation.variation) changes)
directions-near (forecast f arrays own e) =
    let p = (taf-promise.promise f arrays e).1 in
    let changes = items-near change_direction (taf.class_change f.edition) (change-direction f.edition) (λ c d r. r.body.wind.direction) f.changes.count f.changes.items (taf.classed_of f).changes.items (taf-promise.items-classed f arrays e) p.changes p.past in
    more p.body.wind.direction changes
