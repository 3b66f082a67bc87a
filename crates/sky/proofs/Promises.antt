-- What the round trip promises of a sky, in document 01's words: each height comes back as the reading of its class, near its value and never above
-- it, and all else as it was.
-- Assumes nothing.
use Rattle.std.specs.Prelude.{ℕ, Option}
use mathlib.Core.Path.{◌≡◌, refl}
use mathlib.Core.List.{List, [], ◌∷◌, map}
use Rattle.scales.specs.Metres.{cloud}
use Rattle.scales.proofs.MetresLaws.{cloud-laws}
use Rattle.record.specs.declared.aerodrome.Layer.{Layer}
use Rattle.record.specs.declared.aerodrome.Cover.{Cover}
use Rattle.record.specs.declared.aerodrome.Cover.TheVariants as cover
use Rattle.record.specs.declared.aerodrome.Sky.{Sky}
use Rattle.record.proofs.Near.{NumberDown, number-down}
use Rattle.elements.specs.Sky.{written_height, class_layer, class_cover, class_sky}

-- ---- how far off

-- a height in metres and its reading
pub height-read : (h : Option ℕ) → NumberDown cloud h (written_height h)
height-read = number-down cloud-laws

-- ---- the sky that is read back

pub record LayerBack (l k : Layer) : Type 0 where
  pub amount : k.amount ≡ l.amount
  pub height : NumberDown cloud l.height k.height
  pub convective : k.convective ≡ l.convective

pub data LayersBack : List Layer → List Layer → Type 0 where
  none : LayersBack [] []
  one_more : {l k : Layer} {ls ks : List Layer} → LayerBack l k → LayersBack ls ks → LayersBack (l ∷ ls) (k ∷ ks)

pub data CoverBack : Cover → Cover → Type 0 where
  layers : CoverBack cover.Layers cover.Layers
  clear : CoverBack cover.Clear cover.Clear
  none-significant : CoverBack cover.NoneSignificant cover.NoneSignificant
  none-detected : CoverBack cover.NoneDetected cover.NoneDetected
  vertical : {h k : Option ℕ} → NumberDown cloud h k → CoverBack (cover.Vertical h) (cover.Vertical k)

pub record SkyBack (s q : Sky) : Type 0 where
  pub cover : CoverBack s.cover q.cover
  pub layers : LayersBack s.layers q.layers
  pub count : q.count ≡ s.count

cover-read : (c : Cover) → CoverBack c (class_cover c)
cover-read cover.Layers = layers
cover-read cover.Clear = clear
cover-read cover.NoneSignificant = none-significant
cover-read cover.NoneDetected = none-detected
cover-read (cover.Vertical h) = vertical (height-read h)

layers-read : (ls : List Layer) → LayersBack ls (map class_layer ls)
layers-read [] = none
layers-read (l ∷ ls) = one_more (record { amount = refl; height = height-read l.height; convective = refl }) (layers-read ls)

pub sky-read : (s : Sky) → SkyBack s (class_sky s)
sky-read s = record { cover = cover-read s.cover; layers = layers-read s.layers; count = refl }
