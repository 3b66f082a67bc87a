-- The record's arrays have the lengths of the code's arrays: in the definitions an array is a list.
-- Assumes nothing: these are definitions.
use Rattle.std.specs.Prelude.{◌≡◌, List, [], ◌∷◌, length}
use Rattle.record.specs.declared.aerodrome.Body.{Body}
use Rattle.record.specs.declared.aerodrome.Observation.{Observation}
use Rattle.record.specs.declared.aerodrome.TrendChange.{TrendChange}
use Rattle.record.specs.declared.aerodrome.Metar.{Metar}
use Rattle.record.specs.declared.aerodrome.Change.{Change}
use Rattle.record.specs.declared.aerodrome.Taf.{Taf}
use Rattle.record.specs.declared.surface.Synop.{Synop}

pub record BodyArrays (b : Body) : Type 0 where
  pub weathers : length b.weathers.items ≡ 3
  pub layers : length b.sky.layers ≡ 4

pub record ObservationArrays (r : Observation) : Type 0 where
  pub letters : length r.station.letters ≡ 4
  pub body : BodyArrays r.body
  pub runways : length r.runways.items ≡ 4
  pub recents : length r.recents.items ≡ 3
  pub states : length r.states.items ≡ 4

-- it holds of each
abbrev pub Each : {A : Type 0} → (A → Type 0) → List A → Type 0
Each P [] = Unit {0}
Each P (x ∷ xs) = P x × Each P xs

abbrev pub TrendArrays : List TrendChange → Type 0
TrendArrays cs = Each (λ (c : TrendChange). BodyArrays c.body) cs

pub record MetarArrays (r : Metar) : Type 0 where
  pub observation : ObservationArrays r.observation
  pub trend : length r.trend.items ≡ 3
  pub each : TrendArrays r.trend.items

abbrev pub EachArrays : List Change → Type 0
EachArrays cs = Each (λ (c : Change). BodyArrays c.body) cs

pub record TafArrays (t : Taf) : Type 0 where
  pub letters : length t.leg.station.letters ≡ 4
  pub body : BodyArrays t.leg.body
  pub changes : length t.changes.items ≡ 16
  pub each : EachArrays t.changes.items

pub record SynopArrays (r : Synop) : Type 0 where
  pub letters : length r.site.sign.letters ≡ 9
  pub layers : length r.section3.layers.items ≡ 4
