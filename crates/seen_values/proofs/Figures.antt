-- What may have been seen where a figure stands: of the values that may be written, exactly those that are written as it; on every scale.
-- Assumes nothing.
use Rattle.std.specs.Prelude.{Some}
use mathlib.Core.Path.{◌≡◌, sym, ap, ◌∙◌}
use mathlib.Core.Bool.{Bool, true}
use mathlib.Core.Logic.Iff
use mathlib.Core.Logic.{◌↔◌}
use Prim.Native.Nat.{ℕ, ◌≤◌}
use lib.Dec.{eqb}
use lib.IntN.{ℤ}
use borrow.Author.Tests.{le-leb}
use Rattle.scales.specs.Scale.{Scale, figure_of}
use Rattle.scales.specs.Metres.{metres_figure, metres_reading, range_figure, range_reading, land, sea, base, visibility, runway, cloud}
use Rattle.scales.specs.Depth.{depth}
use Rattle.scales.specs.Layers.{layer_steps, layer_bands}
use Rattle.scales.specs.Rounded.{pressure_figure, pressure_reading, rain_fits, rain_figure, rain_reading, direction_figure, direction_reading}
use Rattle.scales.specs.Degrees.{degrees_fit, degrees_of, degrees_reading, degrees_with}
use Rattle.scales.specs.declared.kinds.Range.{Range}
use Rattle.scales.specs.declared.kinds.Rain.{Rain}
use Rattle.scales.proofs.Laws.{Lawful}
use Rattle.scales.proofs.Rounds.{Rounds}
use Rattle.scales.proofs.Answers.{metres-written}
use Rattle.scales.proofs.MetresLaws.{land-laws, sea-laws, base-laws, visibility-laws, runway-laws, cloud-laws}
use Rattle.scales.proofs.MetresRounds.{MetresRounds, land-rounds, sea-rounds, base-rounds, visibility-rounds, runway-rounds, cloud-rounds}
use Rattle.scales.proofs.DepthLaws.{depth-laws, depth-rounds}
use Rattle.scales.proofs.LayersLaws.{steps-laws, steps-rounds, bands-laws, bands-rounds}
use Rattle.scales.proofs.PressureLaws.{pressure-rounds, pressure-written}
use Rattle.scales.proofs.RainLaws.{rain-rounds, rain-written}
use Rattle.scales.proofs.DirectionLaws.{direction-rounds, direction-written}
use Rattle.scales.proofs.DegreesLaws.{Written, parts-same, degrees-rounds, fit_written}
use Rattle.seen_values.specs.Seen.{Within, seen_on}
use Rattle.seen_values.specs.Rounded.{seen_pressure, seen_rain, WithinRain, seen_direction, WithinArc, seen_degrees, WithinDegrees}
use Rattle.seen_values.proofs.Exactly.{seen-exactly}
use Rattle.seen_values.proofs.Rounds.{pressure-seen, rain-seen, direction-seen}
use Rattle.seen_values.proofs.DegreesLaws.{degrees-seen}

-- Whatever rounds: where a value has a figure at all, it is written as f exactly if it comes back as what f is read as.
module _ {A F : Type 0} {Writes : A → F → Type 0} {Reads : F → A → Type 0} {Unused : F → Type 0} {rounded : A → A} (rounds : Rounds Writes Reads Unused rounded) (one-figure : (v : A) (f g : F) → Writes v f → Writes v g → f ≡ g) (one-reading : (f : F) (a b : A) → Reads f a → Reads f b → a ≡ b) where
  written_as : (f : F) (m v : A) → Reads f m → (g : F) → Writes v g → Writes v f ↔ (rounded v ≡ m)
  written_as f m v r g w = (
    λ x. one-reading f (rounded v) m (rounds.back v f x) r,
    λ e.
        let q : Reads g m = rw e at (rounds.back v g w) in
        let same : g ≡ f = one-figure m g f (rounds.own g m q) (rounds.own f m r) in
        rw same at w,
  )

-- ---- the six scales in metres, the depth of deposits and the heights of layers
abbrev pub MetresFigures : Scale ℕ → Type 0
MetresFigures s = (f m v : ℕ) → metres_reading s f ≡ Some m → v ≤ 99999 → (metres_figure s v ≡ Some f) ↔ Within (seen_on s m) v

by-scale : (s : Scale ℕ) → Lawful eqb s → MetresRounds s → MetresFigures s
by-scale s laws rounds f m v r h =
    Iff.trans
    (written_as rounds (λ v f g a b. (cc)) (λ f a b x y. (cc)) f m v r (figure_of s v) (metres-written s v (le-leb v 99999 h)))
    (seen-exactly laws m v)

pub land-figures : MetresFigures land
land-figures = by-scale land land-laws land-rounds

pub sea-figures : MetresFigures sea
sea-figures = by-scale sea sea-laws sea-rounds

pub base-figures : MetresFigures base
base-figures = by-scale base base-laws base-rounds

pub visibility-figures : MetresFigures visibility
visibility-figures = by-scale visibility visibility-laws visibility-rounds

range-written : (v : ℕ) → v ≤ 99999 → range_figure v ≡ Some (figure_of runway v)
unfolding range_figure
range-written v h = rw (le-leb v 99999 h)

pub runway-figures : (f : Range) (m v : ℕ) → range_reading f ≡ Some m → v ≤ 99999 → (range_figure v ≡ Some f) ↔ Within (seen_on runway m) v
runway-figures f m v r h =
    Iff.trans
    (written_as runway-rounds (λ v f g a b. (cc)) (λ f a b x y. (cc)) f m v r (figure_of runway v) (range-written v h))
    (seen-exactly runway-laws m v)

pub cloud-figures : MetresFigures cloud
cloud-figures = by-scale cloud cloud-laws cloud-rounds

pub depth-figures : MetresFigures depth
depth-figures = by-scale depth depth-laws depth-rounds

pub steps-figures : MetresFigures layer_steps
steps-figures = by-scale layer_steps steps-laws steps-rounds

pub bands-figures : MetresFigures layer_bands
bands-figures = by-scale layer_bands bands-laws bands-rounds

-- ---- Q, rain, direction, aerodrome temperature
pub pressure-figures : (f m v : ℕ) → pressure_reading f ≡ Some m → v ≤ 99999 → (pressure_figure v ≡ Some f) ↔ Within (seen_pressure m) v
pressure-figures f m v r h =
    let w = pressure-written v (le-leb v 99999 h) in
    Iff.trans (written_as pressure-rounds (λ v f g a b. (cc)) (λ f a b x y. (cc)) f m v r w.0 w.1) (pressure-seen m v h)

pub rain-figures : (f : ℕ) (m v : Rain) → rain_reading f ≡ Some m → rain_fits v ≡ true → (rain_figure v ≡ Some f) ↔ WithinRain (seen_rain m) v
rain-figures f m v r h =
    let w = rain-written v h in
    Iff.trans (written_as rain-rounds (λ v f g a b. (cc)) (λ f a b x y. (cc)) f m v r w.0 w.1) (rain-seen m v h)

pub direction-figures : (f d v : ℕ) → direction_reading f ≡ Some d → v ≤ 359 → (direction_figure v ≡ Some f) ↔ WithinArc (seen_direction d) v
direction-figures f d v r h =
    let w = direction-written v h in
    Iff.trans (written_as direction-rounds (λ v f g a b. (cc)) (λ f a b x y. (cc)) f d v r w.0 w.1) (direction-seen d v h)

one-degree : (v : ℤ) (f g : Written) → degrees_of v ≡ Some (degrees_with f.0 f.1) → degrees_of v ≡ Some (degrees_with g.0 g.1) → f ≡ g
one-degree v f g a b =
    let (minus, whole) = parts-same (sym a ∙ b) in
    ap (λ (s : Bool). (s, f.1)) minus ∙ ap (λ (n : ℕ). (g.0, n)) whole

pub degrees-figures : (f : Written) (m v : ℤ) → degrees_reading f.0 f.1 ≡ Some m → degrees_fit v ≡ true → (degrees_of v ≡ Some (degrees_with f.0 f.1)) ↔ WithinDegrees (seen_degrees m) v
degrees-figures f m v r h =
    let w = fit_written v h in
    Iff.trans (written_as degrees-rounds one-degree (λ f a b x y. (cc)) f m v r w.0 w.1) (degrees-seen m v h)
