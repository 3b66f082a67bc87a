-- Document 02, No. 11, "Nothing nearer below": "no figure of that same scale has a reading greater than the one written and still not above the observation,
-- and .. each used figure is the one written for its own reading". One statement over any list of rising feet; each scale that rounds down cites it.
-- Assumes nothing.
use Rattle.std.specs.Prelude.{Some}
use mathlib.Core.Path.{◌≡◌, sym, ◌∙◌}
use mathlib.Core.Bool.{Bool}
use Prim.Native.Nat.{ℕ, ◌≤◌, ◌<◌}
use native.Mathlib.Omega.{arith}
use lib.Dec.{eqb}
use Rattle.scales.specs.Scale.{Scale, figure_of, foot_of, read_of}
use Rattle.scales.specs.Metres.{land, sea, base, visibility, runway, cloud, same_range, metres_figure, metres_reading, range_figure, range_reading}
use Rattle.scales.specs.Depth.{depth}
use Rattle.scales.specs.Layers.{layer_steps, layer_bands}
use Rattle.scales.specs.Rounded.{pressure_figure, pressure_reading}
use Rattle.scales.proofs.Laws.{Lawful}
use Rattle.scales.proofs.Answers.{figure-told, range-told}
use Rattle.scales.proofs.MetresLaws.{land-laws, sea-laws, base-laws, visibility-laws, runway-laws, cloud-laws}
use Rattle.scales.proofs.MetresRounds.{MetresRounds, foot-of, land-rounds, sea-rounds, base-rounds, visibility-rounds, runway-rounds, cloud-rounds}
use Rattle.scales.proofs.DepthLaws.{depth-laws, depth-rounds}
use Rattle.scales.proofs.LayersLaws.{steps-laws, steps-rounds, bands-laws, bands-rounds}
use Rattle.scales.proofs.PressureScale.{pressures, pressures-laws, pressures-rounds}
use Rattle.scales.proofs.PressureLaws.{figure-is, reading-is}

-- Writes v f: the observation v is written as the figure f. Reads f m: the figure f is read as m.
pub record NothingNearer {F : Type 0} (Writes : ℕ → F → Type 0) (Reads : F → ℕ → Type 0) : Type 0 where
  -- where v is written as f, which is read as m, no figure g is read as an n that is greater than m and not above v
  pub nothing-nearer : (v : ℕ) (f : F) (m : ℕ) → Writes v f → Reads f m → (g : F) (n : ℕ) → Reads g n → m < n → n ≤ v → ⊥
  -- each used figure is the one written for its own reading
  pub own-figure : (f : F) (m : ℕ) → Reads f m → Writes m f

-- Over any list of rising feet.
pub nearest-feet : {F : Type 0} {same : F → F → Bool} {s : Scale F} → Lawful same s → NothingNearer (λ v f. figure_of s v ≡ f) (λ f m. read_of same s f ≡ Some m)
nearest-feet {F} {same} {s} laws =
    record {
      nothing-nearer =
          λ v f m w r g n q l h.
          let b : read_of same s f ≡ Some (foot_of s v) = rw w at (laws.reads-back v) in
          let c : foot_of s v ≡ m = cc in
          absurd (omega (arith, c, l, laws.greatest g n v q h));
      own-figure = laws.own;
    }

-- What writes and reads as another does has this with it.
likewise : {F : Type 0} {Writes Writes' : ℕ → F → Type 0} {Reads Reads' : F → ℕ → Type 0} → ((v : ℕ) (f : F) → Writes' v f → Writes v f)
    → ((f : F) (m : ℕ) → Reads' f m → Reads f m) → ((f : F) (m : ℕ) → Reads' f m → Writes' m f) → NothingNearer Writes Reads → NothingNearer Writes' Reads'
likewise as-writes as-reads own near =
    record {
      nothing-nearer = λ v f m w r g n q. near.nothing-nearer v f m (as-writes v f w) (as-reads f m r) g n (as-reads g n q);
      own-figure = own;
    }

-- the answers of the code on a scale with whole numbers for figures
abbrev pub MetresNearest : Scale ℕ → Type 0
MetresNearest s = NothingNearer (λ v f. metres_figure s v ≡ Some f) (λ f m. metres_reading s f ≡ Some m)

by-scale : (s : Scale ℕ) → Lawful eqb s → MetresRounds s → MetresNearest s
unfolding metres_reading
by-scale s laws rounds =
    likewise (λ v f w. sym (figure-told s v w)) (λ f m r. foot-of (read_of eqb s f) m r) rounds.own (nearest-feet laws)

-- ---- each scale that rounds down: 4377 land and sea, 1600, VVVV, RVR, 1690, the depth of deposits, 1677 by steps and by bands, and Q
pub land-nearest : MetresNearest land
land-nearest = by-scale land land-laws land-rounds

pub sea-nearest : MetresNearest sea
sea-nearest = by-scale sea sea-laws sea-rounds

pub base-nearest : MetresNearest base
base-nearest = by-scale base base-laws base-rounds

pub visibility-nearest : MetresNearest visibility
visibility-nearest = by-scale visibility visibility-laws visibility-rounds

pub runway-nearest : NothingNearer (λ v f. range_figure v ≡ Some f) (λ f m. range_reading f ≡ Some m)
unfolding range_reading
runway-nearest =
    likewise (λ v f w. sym (range-told v w)) (λ f m r. foot-of (read_of same_range runway f) m r) runway-rounds.own (nearest-feet runway-laws)

pub cloud-nearest : MetresNearest cloud
cloud-nearest = by-scale cloud cloud-laws cloud-rounds

pub depth-nearest : MetresNearest depth
depth-nearest = by-scale depth depth-laws depth-rounds

pub steps-nearest : MetresNearest layer_steps
steps-nearest = by-scale layer_steps steps-laws steps-rounds

pub bands-nearest : MetresNearest layer_bands
bands-nearest = by-scale layer_bands bands-laws bands-rounds

pub pressure-nearest : NothingNearer (λ v f. pressure_figure v ≡ Some f) (λ f m. pressure_reading f ≡ Some m)
pressure-nearest =
    let q = by-scale pressures pressures-laws pressures-rounds in
    likewise
    (λ v f w. sym (figure-is v) ∙ w)
    (λ f m r. sym (reading-is f) ∙ r)
    (λ f m r. figure-is m ∙ q.own-figure f m (sym (reading-is f) ∙ r))
    q
