-- Each place of sections 1 and 3 touches its own field alone, and each item is what its group says.
-- Assumes nothing.
use Rattle.std.specs.Prelude.{Ok}
use Prim.Native.Nat.{ℕ, ◌≤◌}
use mathlib.Core.Path.{◌≡◌, refl, sym, ap, subst, ◌∙◌}
use mathlib.Core.Bool.{Bool, true, false, cond, not}
use mathlib.Core.List.{List}
use lib.ListN.{take}
use lib.Dec.{eqb, leb}
use borrow.Author.Tests.{eqb-true, le-leb}
use Rattle.figures.specs.Quote.{bytes}
use Rattle.figures.proofs.Impossible.{impossible}
use Rattle.text.specs.declared.kinds.Refusal.TheVariants as refusal
use Rattle.text.specs.Groups.{Piece}
use Rattle.shapes.specs.Pattern.{has_pattern, has_any}
use Rattle.places.specs.Engine.{Group, Place, place_at}
use Rattle.record.specs.declared.values.Speed.{Speed}
use Rattle.record.specs.declared.values.Speed.TheVariants as speed
use Rattle.record.specs.declared.surface.Indicators.{Indicators}
use Rattle.record.specs.declared.surface.Wind.{Wind}
use Rattle.record.specs.declared.surface.Air.{Air}
use Rattle.record.specs.declared.surface.Moisture.{Moisture}
use Rattle.record.specs.declared.surface.Pressure.{Pressure}
use Rattle.record.specs.declared.surface.Level.{Level}
use Rattle.record.specs.declared.surface.Tendency.{Tendency}
use Rattle.record.specs.declared.surface.Rainfall.{Rainfall}
use Rattle.record.specs.declared.surface.Weather.{Weather}
use Rattle.record.specs.declared.surface.Clouds.{Clouds}
use Rattle.record.specs.declared.surface.Clock.{Clock}
use Rattle.record.specs.declared.surface.CloudLayer.{CloudLayer}
use Rattle.record.specs.declared.surface.CloudLayers.{CloudLayers}
use Rattle.record.specs.declared.surface.Surface.{Surface}
use Rattle.record.specs.declared.surface.Section3.{Section3}
use Rattle.record.specs.Set.{set_air, set_moisture, set_pressure, set_level, set_tendency, set_rainfall, set_weather, set_clouds, set_clock, set_maximum, set_minimum, set_layers}
use Rattle.synop_groups.specs.declared.kinds.Said.{Said as Meaning}
use Rattle.synop_groups.specs.declared.kinds.Said.TheVariants as said
use Rattle.synop_groups.specs.Reads.{said_speed, said_air, said_rainfall, said_weather, said_layer}
use Rattle.synop_groups.specs.Shows.{is_in_three}
use Rattle.synop_groups.specs.Classes.{speed_in_two}
use Rattle.synop_row.specs.declared.kinds.Needs.{Needs}
use Rattle.synop_row.specs.Row.{set_speed, with_said, row, stop_words}
use Rattle.section3.specs.declared.kinds.Told.TheVariants as told
use Rattle.section3.specs.Row.{rises, air_by, told_by, risen, layer_at, add_layer, with_told}
use Rattle.section3.specs.Row as third
use Rattle.accepted_laws.proofs.Tells.{Tells}
use Rattle.accepted_laws.proofs.Tells as tells
use Rattle.accepted_laws.proofs.Surfaces.{speed-told, air-told, moisture-told, pressure-told, level-told, tendency-told, clouds-told, clock-told}
use Rattle.sources.proofs.Rows.{Entry, Went, done, on, Item}
use Rattle.sources.proofs.Fields.{◌&◌, Fields, end, field, Tuple, Only, only-put, single-item, Rows, row_at}
use Rattle.synop_sources.specs.Items.{over99, wind_in_two, says, Said}
use Rattle.synop_sources.specs.declared.kinds.Element.TheVariants as element
use Rattle.synop_sources.proofs.Tells.{Made, same_good, made, rain-allowed, weather-allowed, layer-plain}

-- ---- section 1's fields, in the order of the row's places; and the indicators, which no place of it touches

abbrev fs : Fields
fs =
    field Wind (field Air (field Moisture (field Pressure (field Level (field Tendency (field Rainfall (field Weather (field Clouds (field Clock (field Indicators end))))))))))

abbrev fields : Surface → Tuple fs
fields s =
    s.wind & s.air & s.moisture & s.pressure & s.level & s.tendency & s.rainfall & s.weather & s.clouds & s.clock & s.indicators & tt

module _ (n : Needs) (g : Group) (a a' : Surface) where
  speed-put : with_said (said_speed n.speed g) a ≡ Ok a' → Made said.Speed (λ m. (n.speed ≡ true) × (99 ≤ m) × (m ≤ 999)) (λ m. set_speed (speed.Is m) a) (said_speed n.speed g) a'
  unfolding with_said
  speed-put e = made (λ x. with_said x a) (λ m. set_speed (speed.Is m) a) (λ m. refl) (λ f. refl) (speed-told n.speed g) e

  -- any other
  put-by : {A : Type 0} {make : A → Meaning} {P : A → Type 0} {x : Meaning} (put : A → Surface) → ((v : A) → with_said (make v) a ≡ Ok (put v)) → Tells make P x → with_said x a ≡ Ok a'
      → Made make P put x a'
  unfolding with_said
  put-by put is law e = made (λ x. with_said x a) put is (λ f. refl) law e

module _ (n : Needs) where
  abbrev OnlyAt : ℕ → Place Surface → Type 0
  OnlyAt j p = (m : ℕ) (g : Group) (a a' : Surface) → p.read m g a ≡ Ok a' → Only fs fields j a a'

  only-rows : Rows OnlyAt 0 (row n)
  unfolding row with_said
  only-rows =
      (λ m g a a' e. let d = speed-put n g a a' e in only-put fs fields 0 a a' (record { cover = a.wind.cover; direction = a.wind.direction; speed = speed.Is d.value }) (ap fields d.puts))
      & (λ m g a a' e. let d = put-by n g a a' (λ v. set_air v a) (λ v. refl) (air-told g) e in only-put fs fields 1 a a' d.value (ap fields d.puts))
      & (λ m g a a' e. let d = put-by n g a a' (λ v. set_moisture v a) (λ v. refl) (moisture-told g) e in only-put fs fields 2 a a' d.value (ap fields d.puts))
      & (λ m g a a' e. let d = put-by n g a a' (λ v. set_pressure v a) (λ v. refl) (pressure-told g) e in only-put fs fields 3 a a' d.value (ap fields d.puts))
      & (λ m g a a' e. let d = put-by n g a a' (λ v. set_level v a) (λ v. refl) (level-told g) e in only-put fs fields 4 a a' d.value (ap fields d.puts))
      & (λ m g a a' e. let d = put-by n g a a' (λ v. set_tendency v a) (λ v. refl) (tendency-told g) e in only-put fs fields 5 a a' d.value (ap fields d.puts))
      & (λ m g a a' e. let d = put-by n g a a' (λ v. set_rainfall v a) (λ v. refl) (rain-allowed (not n.rain) g) e in only-put fs fields 6 a a' d.value (ap fields d.puts))
      & (λ m g a a' e. let d = put-by n g a a' (λ v. set_weather v a) (λ v. refl) (weather-allowed (not n.weather) g) e in only-put fs fields 7 a a' d.value (ap fields d.puts))
      & (λ m g a a' e. let d = put-by n g a a' (λ v. set_clouds v a) (λ v. refl) (clouds-told g) e in only-put fs fields 8 a a' d.value (ap fields d.puts))
      & (λ m g a a' e. let d = put-by n g a a' (λ v. set_clock v a) (λ v. refl) (clock-told g) e in only-put fs fields 9 a a' d.value (ap fields d.puts))
      & tt

  row-only : (j : ℕ) → OnlyAt j (place_at (row n) j)
  row-only = row_at OnlyAt (row n) only-rows (λ j m g a a' e. impossible (cc))

  -- ---- the items of section 1

  abbrev RowItem : {A : Type 0} → ℕ → (Surface → A) → (Group → A → Type 0) → A → Type 0
  RowItem i get said-so missing = Item (row n) i 0 get said-so (λ s. Unit {0}) missing

  pub speed-item : (missing : Speed) → RowItem 0 (λ s. over99 s.wind.speed) (Said element.Speed) missing
  unfolding row
  speed-item missing =
      single-item fs fields (row n) row-only 0 (λ w. over99 w.speed) (Said element.Speed) refl
      (λ g a a' e. let d = speed-put n g a a' e in rw d.puts (says (ap (λ (b : Bool). said_speed b g) (sym d.so.0) ∙ d.is)))

  pub air-item : (missing : Air) → RowItem 1 (λ s. s.air) (Said element.Air) missing
  unfolding row with_said
  air-item missing =
      single-item fs fields (row n) row-only 1 (λ x. x) (Said element.Air) refl
      (λ g a a' e. let d = put-by n g a a' (λ v. set_air v a) (λ v. refl) (air-told g) e in rw d.puts d.is)

  pub moisture-item : (missing : Moisture) → RowItem 2 (λ s. s.moisture) (Said element.Moisture) missing
  unfolding row with_said
  moisture-item missing =
      single-item fs fields (row n) row-only 2 (λ x. x) (Said element.Moisture) refl
      (λ g a a' e. let d = put-by n g a a' (λ v. set_moisture v a) (λ v. refl) (moisture-told g) e in rw d.puts d.is)

  pub pressure-item : (missing : Pressure) → RowItem 3 (λ s. s.pressure) (Said element.Pressure) missing
  unfolding row with_said
  pressure-item missing =
      single-item fs fields (row n) row-only 3 (λ x. x) (Said element.Pressure) refl
      (λ g a a' e. let d = put-by n g a a' (λ v. set_pressure v a) (λ v. refl) (pressure-told g) e in rw d.puts d.is)

  pub level-item : (missing : Level) → RowItem 4 (λ s. s.level) (Said element.Level) missing
  unfolding row with_said
  level-item missing =
      single-item fs fields (row n) row-only 4 (λ x. x) (Said element.Level) refl
      (λ g a a' e. let d = put-by n g a a' (λ v. set_level v a) (λ v. refl) (level-told g) e in rw d.puts d.is)

  pub tendency-item : (missing : Tendency) → RowItem 5 (λ s. s.tendency) (Said element.Tendency) missing
  unfolding row with_said
  tendency-item missing =
      single-item fs fields (row n) row-only 5 (λ x. x) (Said element.Tendency) refl
      (λ g a a' e. let d = put-by n g a a' (λ v. set_tendency v a) (λ v. refl) (tendency-told g) e in rw d.puts d.is)

  pub rainfall-item : (missing : Rainfall) → RowItem 6 (λ s. s.rainfall) (Said element.Rainfall) missing
  unfolding row with_said
  rainfall-item missing =
      single-item fs fields (row n) row-only 6 (λ x. x) (Said element.Rainfall) refl
      (λ g a a' e. let d = put-by n g a a' (λ v. set_rainfall v a) (λ v. refl) (rain-allowed (not n.rain) g) e in rw d.puts (ap (λ (b : Bool). said_rainfall b g) (sym d.so) ∙ d.is))

  pub weather-item : (missing : Weather) → RowItem 7 (λ s. s.weather) (Said element.Weather) missing
  unfolding row with_said
  weather-item missing =
      single-item fs fields (row n) row-only 7 (λ x. x) (Said element.Weather) refl
      (λ g a a' e. let d = put-by n g a a' (λ v. set_weather v a) (λ v. refl) (weather-allowed (not n.weather) g) e in rw d.puts (ap (λ (b : Bool). said_weather b g) (sym d.so) ∙ d.is))

  pub clouds-item : (missing : Clouds) → RowItem 8 (λ s. s.clouds) (Said element.Clouds) missing
  unfolding row with_said
  clouds-item missing =
      single-item fs fields (row n) row-only 8 (λ x. x) (Said element.Clouds) refl
      (λ g a a' e. let d = put-by n g a a' (λ v. set_clouds v a) (λ v. refl) (clouds-told g) e in rw d.puts d.is)

  pub clock-item : (missing : Clock) → RowItem 9 (λ s. s.clock) (Said element.Clock) missing
  unfolding row with_said
  clock-item missing =
      single-item fs fields (row n) row-only 9 (λ x. x) (Said element.Clock) refl
      (λ g a a' e. let d = put-by n g a a' (λ v. set_clock v a) (λ v. refl) (clock-told g) e in rw d.puts d.is)

  -- ---- what section 1 leaves as it was: the indicators, and the wind but for a speed over 99

  abbrev Kept : Surface → Surface → Type 0
  Kept a a' = (a'.indicators ≡ a.indicators) × (wind_in_two a'.wind ≡ wind_in_two a.wind) × (n.speed ≡ is_in_three a'.wind.speed)

  in-two-three : (w : Wind) (m : ℕ) → is_in_three w.speed ≡ true → 99 ≤ m → wind_in_two (record { cover = w.cover; direction = w.direction; speed = speed.Is m }) ≡ wind_in_two w
  in-two-three w m three low = ap (λ (x : Speed). record { cover = w.cover; direction = w.direction; speed = x }) (go w.speed three)
    where
      go : (x : Speed) → is_in_three x ≡ true → speed_in_two (speed.Is m) ≡ speed_in_two x
      go speed.Missing e = impossible (cc)
      go (speed.Is s) e = rw (le-leb 99 m low, e)
      go (speed.Above s) e = impossible (cc)

  place_kept : (j m : ℕ) (g : Group) (a a' : Surface) → (place_at (row n) j).read m g a ≡ Ok a' → n.speed ≡ is_in_three a.wind.speed → Kept a a'
  unfolding row
  place_kept j m g a a' e due = let (x, y) = wind (eqb 0 j) refl in (indicators (eqb 10 j) refl, x, y)
    where
      indicators : (b : Bool) → eqb 10 j ≡ b → a'.indicators ≡ a.indicators
      indicators true is = let same = eqb-true 10 j is in absurd (none (rw (← same) at e))
        where
          none : (place_at (row n) 10).read m g a ≡ Ok a' → ⊥
          none e = impossible (cc)
      indicators false is = row-only j m g a a' e 10 is

      wind : (b : Bool) → eqb 0 j ≡ b → (wind_in_two a'.wind ≡ wind_in_two a.wind) × (n.speed ≡ is_in_three a'.wind.speed)
      wind true is =
          let same = eqb-true 0 j is in
          let d = speed-put n g a a' (rw (← same) at e) in
          rw d.puts (in-two-three a.wind d.value (sym due ∙ d.so.0) d.so.1, d.so.0 ∙ sym (le-leb 99 d.value d.so.1))
      wind false is = let same : a'.wind ≡ a.wind = row-only j m g a a' e 0 is in (ap wind_in_two same, due ∙ ap (λ (w : Wind). is_in_three w.speed) (sym same))

  pub section-kept : {c₁ k₁ : ℕ} {s₁ : Surface} {left : List Piece} {c k : ℕ} {s : Surface} {gs : List Piece} {es : List Entry} → Went (row n) (has_any stop_words) c₁ k₁ s₁ left c k s gs es
      → n.speed ≡ is_in_three s.wind.speed → (s₁.indicators ≡ s.indicators) × (wind_in_two s₁.wind ≡ wind_in_two s.wind)
  section-kept done due = (refl, refl)
  section-kept {s = s} (on {i = i} {n = m} {r' = s'} {g = g} t e w) due =
      let (a, b, still) = place_kept i m g.bytes s s' e due in
      let (x, y) = section-kept w still in
      (x ∙ a, y ∙ b)

-- ---- section 3

abbrev fs₃ : Fields
fs₃ = field Air (field Air (field CloudLayers end))

abbrev fields₃ : Section3 → Tuple fs₃
fields₃ s = s.maximum & s.minimum & s.layers & tt

-- 8//// leaves the section as it is; any other is a layer more, where there is room
pub data LayerDone (g : Group) (s : Section3) : Section3 → Type 0 where
  no-layer : has_pattern g (bytes "8////") ≡ true → LayerDone g s s
  layer : {l : CloudLayer} → has_pattern g (bytes "8////") ≡ false → leb 4 s.layers.count ≡ false → said_layer g ≡ said.Layer l → LayerDone g s (set_layers (add_layer l s.layers) s)

pub layer-done : (g : Group) (s s' : Section3) → with_told (layer_at s.layers g) s ≡ Ok s' → LayerDone g s s'
unfolding layer_at
layer-done g s s' e = some (has_pattern g (bytes "8////")) refl (leb 4 s.layers.count) refl e
  where
    up : {x : Meaning} {l : CloudLayer} → x ≡ said.Layer l → said_layer g ≡ x → has_pattern g (bytes "8////") ≡ false → leb 4 s.layers.count ≡ false → (b : Bool)
        → with_told (cond b (told.Layer l) (told.Refused refusal.Disagreement)) s ≡ Ok s' → LayerDone g s s'
    up p q filled few true e = subst (LayerDone g s) (sym (same_good e)) (layer filled few (q ∙ p))
    up p q filled few false e = impossible (cc)

    judges : (x : Meaning) → Tells said.Layer (λ l. Unit {0}) x → said_layer g ≡ x → has_pattern g (bytes "8////") ≡ false → leb 4 s.layers.count ≡ false
        → with_told (risen s.layers (told_by (air_by false) x)) s ≡ Ok s' → LayerDone g s s'
    judges _ (tells.told {a = l} p) is filled few e = up refl is filled few (rises (take s.layers.count s.layers.items) l) e
    judges _ tells.refused is filled few e = impossible (cc)

    some : (a : Bool) → has_pattern g (bytes "8////") ≡ a → (b : Bool) → leb 4 s.layers.count ≡ b
        → with_told (cond a told.Nothing (cond b (told.Refused refusal.Limit) (risen s.layers (told_by (air_by false) (said_layer g))))) s ≡ Ok s' → LayerDone g s s'
    some true p b q e = subst (LayerDone g s) (sym (same_good e)) (no-layer p)
    some false p true q e = impossible (cc)
    some false p false q e = judges (said_layer g) (layer-plain g) refl p q e

abbrev OnlyThird : ℕ → Place Section3 → Type 0
OnlyThird j p = (m : ℕ) (g : Group) (a a' : Section3) → p.read m g a ≡ Ok a' → Only fs₃ fields₃ j a a'

air-put : (lowest : Bool) (put : Air → Section3) (g : Group) (a a' : Section3) → ((v : Air) → with_told (air_by lowest v) a ≡ Ok (put v)) → with_told (told_by (air_by lowest) (said_air g)) a ≡ Ok a'
    → Made said.Air (λ v. Unit {0}) put (said_air g) a'
air-put lowest put g a a' is e =
    let d = made (λ x. with_told (told_by (air_by lowest) x) a) put is (λ f. refl) (air-told g) e in
    record { value = d.value; is = d.is; so = tt; puts = d.puts }

third-rows : Rows OnlyThird 0 third.row
unfolding third.row
third-rows =
    (λ m g a a' e. let d = air-put false (λ v. set_maximum v a) g a a' (λ v. refl) e in only-put fs₃ fields₃ 0 a a' d.value (ap fields₃ d.puts))
    & (λ m g a a' e. let d = air-put true (λ v. set_minimum v a) g a a' (λ v. refl) e in only-put fs₃ fields₃ 1 a a' d.value (ap fields₃ d.puts))
    & (λ m g a a' e. layers-only g a a' (layer-done g a a' e))
    & tt
  where
    layers-only : (g : Group) (a a' : Section3) → LayerDone g a a' → Only fs₃ fields₃ 2 a a'
    layers-only g a _ (no-layer p) = only-put fs₃ fields₃ 2 a a a.layers refl
    layers-only g a _ (layer {l} p q r) = only-put fs₃ fields₃ 2 a (set_layers (add_layer l a.layers) a) (add_layer l a.layers) refl

pub third-only : (j : ℕ) → OnlyThird j (place_at third.row j)
third-only = row_at OnlyThird third.row third-rows (λ j m g a a' e. impossible (cc))

pub maximum-item : (missing : Air) → Item third.row 0 0 (λ s. s.maximum) (Said element.Maximum) (λ s. Unit {0}) missing
unfolding third.row
maximum-item missing =
    single-item fs₃ fields₃ third.row third-only 0 (λ x. x) (Said element.Maximum) refl
    (λ g a a' e. let d = air-put false (λ v. set_maximum v a) g a a' (λ v. refl) e in rw d.puts d.is)

pub minimum-item : (missing : Air) → Item third.row 1 0 (λ s. s.minimum) (Said element.Minimum) (λ s. Unit {0}) missing
unfolding third.row
minimum-item missing =
    single-item fs₃ fields₃ third.row third-only 1 (λ x. x) (Said element.Minimum) refl
    (λ g a a' e. let d = air-put true (λ v. set_minimum v a) g a a' (λ v. refl) e in rw d.puts d.is)
