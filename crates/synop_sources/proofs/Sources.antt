-- WHERE THE ITEMS OF A SYNOP OR SHIP WERE READ FROM, in a text whose groups come to a record.
-- Assumes nothing.
use Prim.Native.Nat.{ℕ, zero, suc, ◌+◌, ◌≤◌, ◌<◌}
use native.Mathlib.Omega.{arith}
use mathlib.Core.Path.{◌≡◌, refl, sym, ap, subst, ◌∙◌}
use mathlib.Core.Bool.{Bool, true, false, cond}
use mathlib.Core.List.{List, [], ◌∷◌, ◌++◌, map}
use lib.ListN.{length}
use borrow.Author.Tests.{ne_eqb}
use Rattle.figures.specs.Quote.{bytes}
use Rattle.text.specs.Groups.{Piece, groups_from}
use Rattle.text.specs.Text.{tail_of}
use Rattle.shapes.specs.Pattern.{Pattern, low, high, clash, has_pattern, has_any}
use Rattle.shapes.proofs.Patterns.{excluded}
use Rattle.places.specs.Engine.{Group, Done}
use Rattle.record.specs.declared.values.Speed.TheVariants as speed
use Rattle.record.specs.declared.values.Speed.{Speed}
use Rattle.record.specs.declared.surface.Position.{Position}
use Rattle.record.specs.declared.surface.Time.{Time}
use Rattle.record.specs.declared.surface.Indicators.{Indicators}
use Rattle.record.specs.declared.surface.Wind.{Wind}
use Rattle.record.specs.declared.surface.Site.{Site}
use Rattle.record.specs.declared.surface.Surface.{Surface}
use Rattle.record.specs.declared.surface.Section3.{Section3}
use Rattle.record.specs.declared.surface.Synop.{Synop}
use Rattle.record.specs.Blank.{blank_layer, blank_surface, blank_section3, blank_synop}
use Rattle.synop_groups.specs.declared.kinds.Said.TheVariants as said
use Rattle.synop_groups.specs.Reads.{said_time, said_station, said_latitude, said_longitude, said_indicators, said_wind}
use Rattle.synop_row.specs.Row.{needs_of, row, stop_words, section3_word}
use Rattle.section3.specs.Row as third
use Rattle.synop.specs.Read.{sign_of, groups_read}
use Rattle.sources.specs.declared.kinds.Spot.{Spot}
use Rattle.sources.specs.declared.kinds.Spot.TheVariants as spot
use Rattle.sources.specs.Trail.{Taken, Origin, nowhere, group, origin_in, source_of, trail}
use Rattle.sources.proofs.Rows.{Entry, Item, item-told}
use Rattle.sources.proofs.Parts.{as_taken}
use Rattle.sources.proofs.Items.{Stems, from, absent, told-stems, past-part, Covers, cover-more}
use Rattle.sources.proofs.Own.{EachTaken, Apart, Distinct, apart-append, later-apart, own}
use Rattle.sources.proofs.Texts.{ReadFrom, read, unread, read-from, AllLie, groups-lie}
use Rattle.sources.proofs.Fields.{◌&◌}
use Rattle.synop_sources.specs.declared.kinds.Element.{Element}
use Rattle.synop_sources.specs.declared.kinds.Element.TheVariants as element
use Rattle.synop_sources.specs.Trail.{name_place, sign_place, time_place, station_place, latitude_place, longitude_place, nil_place, indicators_place, wind_place, start, move, ship_in, trail_of}
use Rattle.synop_sources.specs.Items.{part_of, spot_of, northern, wind_in_two, over99, says, value_of, Said, layer_in, layer_of, LayerSaid}
use Rattle.synop_sources.proofs.Tells.{InTwo}
use Rattle.synop_sources.proofs.Sections.{EachLow, Third, over, stop, opened, Sections, sections-walked, sections-cover, sections-distinct, sections-low}
use Rattle.synop_sources.proofs.Items.{speed-item, air-item, moisture-item, pressure-item, level-item, tendency-item, rainfall-item, weather-item, clouds-item, clock-item, section-kept, maximum-item, minimum-item}
use Rattle.synop_sources.proofs.Layers.{layers-stem, layer-lies}
use Rattle.synop_sources.proofs.Heads.{behind, land_site, ship_site, silent_report, Report, from-land, from-nil, from-ship, report-read}

-- ---- behind Nddff

third-none : {end rest : ℕ} {s₃ : Section3} {left : List Piece} {xs : List Taken} → Third end rest s₃ left xs → (s : Spot) → origin_in 0 s xs ≡ nowhere
unfolding origin_in
third-none (over a) s = refl
third-none (stop is a) s = refl
third-none (opened {es = es} is went halted begins) s = past-part 0 1 s es [] refl

module _ {end rest : ℕ} {r whole : Synop} {gs : List Piece} (d : Sections end rest r whole gs) where
  abbrev taken : List Taken
  taken = map (as_taken 0) d.entries ++ d.taken

  -- an item of section 1
  first-stems : {A : Type 0} {missing : A} (i : ℕ) (get : Surface → A) (said-so : Group → A → Type 0) → Item (row (needs_of r.surface)) i 0 get said-so (λ s. Unit {0}) missing
      → get r.surface ≡ missing → Stems (λ g. said-so g.bytes (get d.s₁)) (get d.s₁ ≡ missing) (origin_in 0 (spot.At i 0) taken)
  first-stems i get said-so item blank =
      told-stems 0 i 0 d.entries d.taken (third-none d.third (spot.At i 0)) (item-told (row (needs_of r.surface)) (has_any stop_words) item d.went tt blank)

  -- one of section 3
  third-stems : {A : Type 0} (i : ℕ) (get : Section3 → A) (said-so : Group → A → Type 0) → Item third.row i 0 get said-so (λ s. Unit {0}) (get blank_section3)
      → Stems (λ g. said-so g.bytes (get d.s₃)) (get d.s₃ ≡ get blank_section3) (origin_in 1 (spot.At i 0) taken)
  unfolding origin_in
  third-stems {A} i get said-so item =
      subst (Stems (λ g. said-so g.bytes (get d.s₃)) (get d.s₃ ≡ get blank_section3)) (sym (past-part 1 0 (spot.At i 0) d.entries d.taken refl)) (go d.third)
    where
      go : {end rest : ℕ} {s₃ : Section3} {left : List Piece} {xs : List Taken} → Third end rest s₃ left xs
          → Stems (λ g. said-so g.bytes (get s₃)) (get s₃ ≡ get blank_section3) (origin_in 1 (spot.At i 0) xs)
      go (over a) = absent refl
      go (stop is a) = absent refl
      go (opened {es = es} is went halted begins) = told-stems 1 i 0 es [] refl (item-told third.row third.halts item went tt refl)

  -- 333, which opens section 3; without it the section is blank
  opening-stems : Stems (λ g. has_pattern g.bytes section3_word ≡ true) (d.s₃ ≡ blank_section3) (origin_in 1 spot.Opening taken)
  unfolding origin_in
  opening-stems =
      subst (Stems (λ g. has_pattern g.bytes section3_word ≡ true) (d.s₃ ≡ blank_section3)) (sym (past-part 1 0 spot.Opening d.entries d.taken refl)) (go d.third)
    where
      go : {end rest : ℕ} {s₃ : Section3} {left : List Piece} {xs : List Taken} → Third end rest s₃ left xs
          → Stems (λ g. has_pattern g.bytes section3_word ≡ true) (s₃ ≡ blank_section3) (origin_in 1 spot.Opening xs)
      go (over a) = absent refl
      go (stop is a) = absent refl
      go (opened {g = g} is went halted begins) = from g is

  -- no group of the sections stands at a place before section 1
  none_before : (i : ℕ) → 10 ≤ i → origin_in 0 (spot.At i 0) taken ≡ nowhere
  unfolding origin_in
  none_before i h = go d.entries (sections-low d) ∙ third-none d.third (spot.At i 0)
    where
      go : (es : List Entry) → EachLow es → origin_in 0 (spot.At i 0) (map (as_taken 0) es ++ d.taken) ≡ origin_in 0 (spot.At i 0) d.taken
      go [] low = refl
      go (e ∷ es) (l, ls) = rw (ne_eqb i e.place (omega arith)) (go es ls)

-- ---- the items behind Nddff

-- the items that sections 1 and 3 say
data Behind : Element → Type 0 where
  speed-behind : Behind element.Speed
  air-behind : Behind element.Air
  moisture-behind : Behind element.Moisture
  pressure-behind : Behind element.Pressure
  level-behind : Behind element.Level
  tendency-behind : Behind element.Tendency
  rainfall-behind : Behind element.Rainfall
  weather-behind : Behind element.Weather
  clouds-behind : Behind element.Clouds
  clock-behind : Behind element.Clock
  maximum-behind : Behind element.Maximum
  minimum-behind : Behind element.Minimum

-- what is so of a report that is read
abbrev Stemming : (e : Element) → Synop → Origin → Type 0
Stemming e r o = Stems (λ g. Said e g.bytes (value_of e r)) (value_of e r ≡ value_of e blank_synop) o

module _ {end rest : ℕ} {kind : Bool} {site : Site} {i : Indicators} {w : Wind} {whole : Synop} {gs : List Piece} (d : Sections end rest (behind kind site i w) whole gs) (two : InTwo w) where
  abbrev read_as : Synop
  read_as = record { ship = kind; site = site; surface = d.s₁; section3 = d.s₃ }

  behind-stems : (e : Element) → Behind e → Stemming e read_as (origin_in (part_of e) (spot_of e) (taken d))
  behind-stems _ speed-behind = first-stems d 0 (λ s. over99 s.wind.speed) (Said element.Speed) (speed-item (needs_of (behind kind site i w).surface) speed.Missing) two.over
  behind-stems _ air-behind = first-stems d 1 (λ s. s.air) (Said element.Air) (air-item (needs_of (behind kind site i w).surface) blank_surface.air) refl
  behind-stems _ moisture-behind = first-stems d 2 (λ s. s.moisture) (Said element.Moisture) (moisture-item (needs_of (behind kind site i w).surface) blank_surface.moisture) refl
  behind-stems _ pressure-behind = first-stems d 3 (λ s. s.pressure) (Said element.Pressure) (pressure-item (needs_of (behind kind site i w).surface) blank_surface.pressure) refl
  behind-stems _ level-behind = first-stems d 4 (λ s. s.level) (Said element.Level) (level-item (needs_of (behind kind site i w).surface) blank_surface.level) refl
  behind-stems _ tendency-behind = first-stems d 5 (λ s. s.tendency) (Said element.Tendency) (tendency-item (needs_of (behind kind site i w).surface) blank_surface.tendency) refl
  behind-stems _ rainfall-behind = first-stems d 6 (λ s. s.rainfall) (Said element.Rainfall) (rainfall-item (needs_of (behind kind site i w).surface) blank_surface.rainfall) refl
  behind-stems _ weather-behind = first-stems d 7 (λ s. s.weather) (Said element.Weather) (weather-item (needs_of (behind kind site i w).surface) blank_surface.weather) refl
  behind-stems _ clouds-behind = first-stems d 8 (λ s. s.clouds) (Said element.Clouds) (clouds-item (needs_of (behind kind site i w).surface) blank_surface.clouds) refl
  behind-stems _ clock-behind = first-stems d 9 (λ s. s.clock) (Said element.Clock) (clock-item (needs_of (behind kind site i w).surface) blank_surface.clock) refl
  behind-stems _ maximum-behind = third-stems d 0 (λ s. s.maximum) (Said element.Maximum) (maximum-item blank_section3.maximum)
  behind-stems _ minimum-behind = third-stems d 1 (λ s. s.minimum) (Said element.Minimum) (minimum-item blank_section3.minimum)

  -- iRixhVV and Nddff stay as they were read
  kept : (d.s₁.indicators ≡ i) × (wind_in_two d.s₁.wind ≡ wind_in_two w)
  unfolding needs_of
  kept = section-kept (needs_of (behind kind site i w).surface) d.went refl

  wind-kept : wind_in_two d.s₁.wind ≡ w
  wind-kept = kept.1 ∙ ap (λ (x : Speed). record { cover = w.cover; direction = w.direction; speed = x }) two.two

-- ---- the groups before section 1

abbrev headed : ℕ → Piece → Taken
headed p g = record { part = 0; spot = spot.At p 0; piece = g }

-- the groups of a report where they were taken, its name first
abbrev trailed : {end rest : ℕ} {whole : Synop} {ship : Bool} {gs : List Piece} → Piece → Report end rest whole ship gs → List Taken
trailed f (from-land g₁ g₂ g₃ g₄ gs x n i w a b c d e two s) =
    headed name_place f ∷ headed time_place g₁ ∷ headed station_place g₂ ∷ headed indicators_place g₃ ∷ headed wind_place g₄ ∷ taken s
trailed f (from-nil g₁ g₂ g₃ x n a b c d is) = headed name_place f ∷ headed time_place g₁ ∷ headed station_place g₂ ∷ headed nil_place g₃ ∷ []
trailed f (from-ship g₀ g₁ g₂ g₃ g₄ g₅ gs x p q i w a b c d e h two s) =
    headed name_place f ∷ headed sign_place g₀ ∷ headed time_place g₁ ∷ headed latitude_place g₂ ∷ headed longitude_place g₃ ∷ headed indicators_place g₄ ∷ headed wind_place g₅ ∷ taken s

module _ {end rest : ℕ} {whole : Synop} (f : Piece) where
  report-walked : {ship : Bool} {gs : List Piece} (r : Report end rest whole ship gs) → trail (move ship) start (f ∷ gs) ≡ trailed f r
  unfolding trail move
  report-walked (from-land g₁ g₂ g₃ g₄ gs x n i w a b c d e two s) = rw (c, sections-walked false s)
  report-walked (from-nil g₁ g₂ g₃ x n a b c d is) = rw c
  report-walked (from-ship g₀ g₁ g₂ g₃ g₄ g₅ gs x p q i w a b c d e h two s) = rw (sections-walked true s)

  report-covers : {ship : Bool} {gs : List Piece} (r : Report end rest whole ship gs) → Covers end rest (f ∷ gs) (trailed f r)
  report-covers (from-land g₁ g₂ g₃ g₄ gs x n i w a b c d e two s) = cover-more _ (cover-more _ (cover-more _ (cover-more _ (cover-more _ (sections-cover s)))))
  report-covers (from-nil g₁ g₂ g₃ x n a b c d is) = cover-more _ (cover-more _ (cover-more _ (cover-more _ (record { left = []; all = refl; begins = d }))))
  report-covers (from-ship g₀ g₁ g₂ g₃ g₄ g₅ gs x p q i w a b c d e h two s) =
      cover-more _ (cover-more _ (cover-more _ (cover-more _ (cover-more _ (cover-more _ (cover-more _ (sections-cover s)))))))

-- no group behind them has the spot of one of them
head_apart : {end rest : ℕ} {r whole : Synop} {gs : List Piece} (d : Sections end rest r whole gs) (p : ℕ) (g : Piece) → 10 ≤ p → Apart (headed p g) (taken d)
head_apart d p g h = apart-append (headed p g) (map (as_taken 0) d.entries) d.taken (go d.entries (sections-low d)) (later-apart 0 (headed p g) refl d.taken (sections-distinct d).1)
  where
    go : (es : List Entry) → EachLow es → Apart (headed p g) (map (as_taken 0) es)
    go [] u = tt
    go (e ∷ es) (l, ls) = (rw (ne_eqb e.place p (omega arith)), go es ls)

report-distinct : {end rest : ℕ} {whole : Synop} {ship : Bool} {gs : List Piece} (f : Piece) (r : Report end rest whole ship gs) → Distinct (trailed f r)
report-distinct f (from-land g₁ g₂ g₃ g₄ gs x n i w a b c d e two s) =
    let apart = head_apart s in
    (refl & refl & refl & refl & apart name_place f (omega arith))
    & (refl & refl & refl & apart time_place g₁ (omega arith))
    & (refl & refl & apart station_place g₂ (omega arith))
    & (refl & apart indicators_place g₃ (omega arith))
    & apart wind_place g₄ (omega arith)
    & (sections-distinct s).0
report-distinct f (from-nil g₁ g₂ g₃ x n a b c d is) = (refl & refl & refl & tt) & (refl & refl & tt) & (refl & tt) & tt & tt
report-distinct f (from-ship g₀ g₁ g₂ g₃ g₄ g₅ gs x p q i w a b c d e h two s) =
    let apart = head_apart s in
    (refl & refl & refl & refl & refl & refl & apart name_place f (omega arith))
    & (refl & refl & refl & refl & refl & apart sign_place g₀ (omega arith))
    & (refl & refl & refl & refl & apart time_place g₁ (omega arith))
    & (refl & refl & refl & apart latitude_place g₂ (omega arith))
    & (refl & refl & apart longitude_place g₃ (omega arith))
    & (refl & apart indicators_place g₄ (omega arith))
    & apart wind_place g₅ (omega arith)
    & (sections-distinct s).0

-- ---- the items

-- the word that names a SYNOP or a SHIP
abbrev pub name_word : Bool → Pattern
name_word ship = cond ship (bytes "BBXX") (bytes "AAXX")

named-ship : (ship : Bool) (g : Group) → has_pattern g (name_word ship) ≡ true → has_pattern g (bytes "BBXX") ≡ ship
unfolding low high clash
named-ship true g e = e
named-ship false g e = excluded g (bytes "AAXX") (bytes "BBXX") refl e

as_read : (e : Element) (o : Origin) {r v : Synop} → r ≡ v → Stemming e v o → Stemming e r o
as_read e o is x = subst (λ (v : Synop). Stemming e v o) (sym is) x

no-layer : (k : ℕ) → layer_of k blank_synop ≡ blank_layer
no-layer zero = refl
no-layer (suc zero) = refl
no-layer (suc (suc zero)) = refl
no-layer (suc (suc (suc zero))) = refl
no-layer (suc (suc (suc (suc k)))) = refl

layered : (k : ℕ) (o : Origin) {r v : Synop} → r ≡ v → Stems (λ g. LayerSaid g.bytes (layer_of k v)) (layer_of k v ≡ layer_of k blank_synop) o
    → Stems (λ g. LayerSaid g.bytes (layer_of k r)) (layer_of k r ≡ layer_of k blank_synop) o
layered k o is x = subst (λ (v : Synop). Stems (λ g. LayerSaid g.bytes (layer_of k v)) (layer_of k v ≡ layer_of k blank_synop) o) (sym is) x

-- 333 stands there, or there is no section 3
abbrev Opening : Synop → Origin → Type 0
Opening v o = Stems (λ g. has_pattern g.bytes section3_word ≡ true) (v.section3 ≡ blank_section3) o

-- no group was taken there, and the item is missing
lacking : (e : Element) (r : Synop) (o : Origin) → o ≡ nowhere → value_of e r ≡ value_of e blank_synop → Stemming e r o
lacking e r o none m = subst (Stemming e r) (sym none) (absent m)

nil-stems : (f : Piece) (named : has_pattern f.bytes (bytes "BBXX") ≡ false) (g₁ g₂ g₃ : Piece) {x : Time} {n : ℕ} → said_time g₁.bytes ≡ said.Time x → said_station g₂.bytes ≡ said.Station n → (e : Element)
    → Stemming e (silent_report x n) (origin_in (part_of e) (spot_of e) (headed name_place f ∷ headed time_place g₁ ∷ headed station_place g₂ ∷ headed nil_place g₃ ∷ []))
unfolding origin_in
nil-stems f named g₁ g₂ g₃ a b element.Name = from f (sym named)
nil-stems f named g₁ g₂ g₃ a b element.Sign = absent refl
nil-stems f named g₁ g₂ g₃ a b element.Time = from g₁ a
nil-stems f named g₁ g₂ g₃ a b element.Station = from g₂ (says b)
nil-stems f named g₁ g₂ g₃ a b element.Latitude = absent refl
nil-stems f named g₁ g₂ g₃ a b element.Longitude = absent refl
nil-stems f named g₁ g₂ g₃ a b element.Nil = from g₃ refl
nil-stems f named g₁ g₂ g₃ a b element.Indicators = absent refl
nil-stems f named g₁ g₂ g₃ a b element.Wind = absent refl
nil-stems f named g₁ g₂ g₃ a b element.Speed = absent refl
nil-stems f named g₁ g₂ g₃ a b element.Air = absent refl
nil-stems f named g₁ g₂ g₃ a b element.Moisture = absent refl
nil-stems f named g₁ g₂ g₃ a b element.Pressure = absent refl
nil-stems f named g₁ g₂ g₃ a b element.Level = absent refl
nil-stems f named g₁ g₂ g₃ a b element.Tendency = absent refl
nil-stems f named g₁ g₂ g₃ a b element.Rainfall = absent refl
nil-stems f named g₁ g₂ g₃ a b element.Weather = absent refl
nil-stems f named g₁ g₂ g₃ a b element.Clouds = absent refl
nil-stems f named g₁ g₂ g₃ a b element.Clock = absent refl
nil-stems f named g₁ g₂ g₃ a b element.Maximum = absent refl
nil-stems f named g₁ g₂ g₃ a b element.Minimum = absent refl

module _ {end rest : ℕ} {whole : Synop} (f : Piece) where
  land-stems : (named : has_pattern f.bytes (bytes "BBXX") ≡ false) (g₁ g₂ g₃ g₄ : Piece) {gs : List Piece} {x : Time} {n : ℕ} {i : Indicators} {w : Wind}
      → said_time g₁.bytes ≡ said.Time x → said_station g₂.bytes ≡ said.Station n → said_indicators g₃.bytes ≡ said.Indicators i → said_wind g₄.bytes ≡ said.Wind w → (two : InTwo w)
      → (s : Sections end rest (behind false (land_site x n) i w) whole gs) (e : Element)
      → Stemming e (read_as s two) (origin_in (part_of e) (spot_of e) (headed name_place f ∷ headed time_place g₁ ∷ headed station_place g₂ ∷ headed indicators_place g₃ ∷ headed wind_place g₄ ∷ taken s))
  unfolding origin_in
  land-stems named g₁ g₂ g₃ g₄ a b c d two s element.Name = from f (sym named)
  land-stems named g₁ g₂ g₃ g₄ a b c d two s element.Sign = lacking element.Sign (read_as s two) _ (none_before s sign_place (omega arith)) refl
  land-stems named g₁ g₂ g₃ g₄ a b c d two s element.Time = from g₁ a
  land-stems named g₁ g₂ g₃ g₄ a b c d two s element.Station = from g₂ (says b)
  land-stems named g₁ g₂ g₃ g₄ a b c d two s element.Latitude = lacking element.Latitude (read_as s two) _ (none_before s latitude_place (omega arith)) refl
  land-stems named g₁ g₂ g₃ g₄ a b c d two s element.Longitude = lacking element.Longitude (read_as s two) _ (none_before s longitude_place (omega arith)) refl
  land-stems named g₁ g₂ g₃ g₄ a b c d two s element.Nil = lacking element.Nil (read_as s two) _ (none_before s nil_place (omega arith)) refl
  land-stems named g₁ g₂ g₃ g₄ a b c d two s element.Indicators = from g₃ (c ∙ ap said.Indicators (sym (kept s two).0))
  land-stems named g₁ g₂ g₃ g₄ a b c d two s element.Wind = from g₄ (d ∙ ap said.Wind (sym (wind-kept s two)))
  land-stems named g₁ g₂ g₃ g₄ a b c d two s element.Speed = behind-stems s two element.Speed speed-behind
  land-stems named g₁ g₂ g₃ g₄ a b c d two s element.Air = behind-stems s two element.Air air-behind
  land-stems named g₁ g₂ g₃ g₄ a b c d two s element.Moisture = behind-stems s two element.Moisture moisture-behind
  land-stems named g₁ g₂ g₃ g₄ a b c d two s element.Pressure = behind-stems s two element.Pressure pressure-behind
  land-stems named g₁ g₂ g₃ g₄ a b c d two s element.Level = behind-stems s two element.Level level-behind
  land-stems named g₁ g₂ g₃ g₄ a b c d two s element.Tendency = behind-stems s two element.Tendency tendency-behind
  land-stems named g₁ g₂ g₃ g₄ a b c d two s element.Rainfall = behind-stems s two element.Rainfall rainfall-behind
  land-stems named g₁ g₂ g₃ g₄ a b c d two s element.Weather = behind-stems s two element.Weather weather-behind
  land-stems named g₁ g₂ g₃ g₄ a b c d two s element.Clouds = behind-stems s two element.Clouds clouds-behind
  land-stems named g₁ g₂ g₃ g₄ a b c d two s element.Clock = behind-stems s two element.Clock clock-behind
  land-stems named g₁ g₂ g₃ g₄ a b c d two s element.Maximum = behind-stems s two element.Maximum maximum-behind
  land-stems named g₁ g₂ g₃ g₄ a b c d two s element.Minimum = behind-stems s two element.Minimum minimum-behind

  ship-stems : (named : has_pattern f.bytes (bytes "BBXX") ≡ true) (g₀ g₁ g₂ g₃ g₄ g₅ : Piece) {gs : List Piece} {x : Time} {p q : Position} {i : Indicators} {w : Wind}
      → said_time g₁.bytes ≡ said.Time x → said_latitude g₂.bytes ≡ said.Position p → said_longitude p g₃.bytes ≡ said.Position q → northern q ≡ p
      → said_indicators g₄.bytes ≡ said.Indicators i → said_wind g₅.bytes ≡ said.Wind w → (two : InTwo w)
      → (s : Sections end rest (behind true (ship_site (sign_of g₀.bytes) x q) i w) whole gs) (e : Element)
      → Stemming e (read_as s two) (origin_in (part_of e) (spot_of e) (headed name_place f ∷ headed sign_place g₀ ∷ headed time_place g₁ ∷ headed latitude_place g₂ ∷ headed longitude_place g₃ ∷ headed indicators_place g₄ ∷ headed wind_place g₅ ∷ taken s))
  unfolding origin_in
  ship-stems named g₀ g₁ g₂ g₃ g₄ g₅ a b c north d h two s element.Name = from f (sym named)
  ship-stems named g₀ g₁ g₂ g₃ g₄ g₅ a b c north d h two s element.Sign = from g₀ refl
  ship-stems named g₀ g₁ g₂ g₃ g₄ g₅ a b c north d h two s element.Time = from g₁ a
  ship-stems named g₀ g₁ g₂ g₃ g₄ g₅ a b c north d h two s element.Station = lacking element.Station (read_as s two) _ (none_before s station_place (omega arith)) refl
  ship-stems named g₀ g₁ g₂ g₃ g₄ g₅ a b c north d h two s element.Latitude = from g₂ (b ∙ ap said.Position (sym north))
  ship-stems named g₀ g₁ g₂ g₃ g₄ g₅ a b c north d h two s element.Longitude = from g₃ (ap (λ (p : Position). said_longitude p g₃.bytes) north ∙ c)
  ship-stems named g₀ g₁ g₂ g₃ g₄ g₅ a b c north d h two s element.Nil = lacking element.Nil (read_as s two) _ (none_before s nil_place (omega arith)) refl
  ship-stems named g₀ g₁ g₂ g₃ g₄ g₅ a b c north d h two s element.Indicators = from g₄ (d ∙ ap said.Indicators (sym (kept s two).0))
  ship-stems named g₀ g₁ g₂ g₃ g₄ g₅ a b c north d h two s element.Wind = from g₅ (h ∙ ap said.Wind (sym (wind-kept s two)))
  ship-stems named g₀ g₁ g₂ g₃ g₄ g₅ a b c north d h two s element.Speed = behind-stems s two element.Speed speed-behind
  ship-stems named g₀ g₁ g₂ g₃ g₄ g₅ a b c north d h two s element.Air = behind-stems s two element.Air air-behind
  ship-stems named g₀ g₁ g₂ g₃ g₄ g₅ a b c north d h two s element.Moisture = behind-stems s two element.Moisture moisture-behind
  ship-stems named g₀ g₁ g₂ g₃ g₄ g₅ a b c north d h two s element.Pressure = behind-stems s two element.Pressure pressure-behind
  ship-stems named g₀ g₁ g₂ g₃ g₄ g₅ a b c north d h two s element.Level = behind-stems s two element.Level level-behind
  ship-stems named g₀ g₁ g₂ g₃ g₄ g₅ a b c north d h two s element.Tendency = behind-stems s two element.Tendency tendency-behind
  ship-stems named g₀ g₁ g₂ g₃ g₄ g₅ a b c north d h two s element.Rainfall = behind-stems s two element.Rainfall rainfall-behind
  ship-stems named g₀ g₁ g₂ g₃ g₄ g₅ a b c north d h two s element.Weather = behind-stems s two element.Weather weather-behind
  ship-stems named g₀ g₁ g₂ g₃ g₄ g₅ a b c north d h two s element.Clouds = behind-stems s two element.Clouds clouds-behind
  ship-stems named g₀ g₁ g₂ g₃ g₄ g₅ a b c north d h two s element.Clock = behind-stems s two element.Clock clock-behind
  ship-stems named g₀ g₁ g₂ g₃ g₄ g₅ a b c north d h two s element.Maximum = behind-stems s two element.Maximum maximum-behind
  ship-stems named g₀ g₁ g₂ g₃ g₄ g₅ a b c north d h two s element.Minimum = behind-stems s two element.Minimum minimum-behind

  report-stems : {ship : Bool} {gs : List Piece} → has_pattern f.bytes (bytes "BBXX") ≡ ship → (r : Report end rest whole ship gs) (e : Element)
      → Stemming e whole (origin_in (part_of e) (spot_of e) (trailed f r))
  report-stems named (from-land g₁ g₂ g₃ g₄ gs x n i w a b c d h two s) e = as_read e _ s.is (land-stems named g₁ g₂ g₃ g₄ a b d h two s e)
  report-stems named (from-nil g₁ g₂ g₃ x n a b c d is) e = as_read e _ is (nil-stems f named g₁ g₂ g₃ a b e)
  report-stems named (from-ship g₀ g₁ g₂ g₃ g₄ g₅ gs x p q i w a b c north d h two s) e = as_read e _ s.is (ship-stems named g₀ g₁ g₂ g₃ g₄ g₅ a b c north d h two s e)

  report-opening : {ship : Bool} {gs : List Piece} (r : Report end rest whole ship gs) → Opening whole (origin_in 1 spot.Opening (trailed f r))
  unfolding origin_in
  report-opening (from-land g₁ g₂ g₃ g₄ gs x n i w a b c d h two s) = subst (λ (v : Synop). Opening v (origin_in 1 spot.Opening (taken s))) (sym s.is) (opening-stems s)
  report-opening (from-nil g₁ g₂ g₃ x n a b c d is) = subst (λ (v : Synop). Opening v nowhere) (sym is) (absent refl)
  report-opening (from-ship g₀ g₁ g₂ g₃ g₄ g₅ gs x p q i w a b c north d h two s) =
      subst (λ (v : Synop). Opening v (origin_in 1 spot.Opening (taken s))) (sym s.is) (opening-stems s)

  layer-stems : {ship : Bool} {gs : List Piece} (r : Report end rest whole ship gs) (k : ℕ) → k < 4
      → Stems (λ g. LayerSaid g.bytes (layer_of k whole)) (layer_of k whole ≡ layer_of k blank_synop) (layer_in k (trailed f r))
  unfolding layer_in
  layer-stems (from-land g₁ g₂ g₃ g₄ gs x n i w a b c d h two s) k few = layered k _ s.is (layers-stem k few s.entries s.third)
  layer-stems (from-nil g₁ g₂ g₃ x n a b c d is) k few = layered k _ is (absent refl)
  layer-stems (from-ship g₀ g₁ g₂ g₃ g₄ g₅ gs x p q i w a b c north d h two s) k few = layered k _ s.is (layers-stem k few s.entries s.third)

-- ---- THE TEXT

module _ (t : List ℕ) (rest : ℕ) (r : Synop) (ship : Bool) (f : Piece) (gs : List Piece) (groups : groups_from t 0 ≡ f ∷ gs) (named : has_pattern f.bytes (name_word ship) ≡ true)
    (reads : groups_read ship (tail_of t) (length t) gs ≡ Done rest r) where
  report : Report (length t) rest r ship gs
  report = report-read (tail_of t) (length t) rest r ship gs reads

  walked : trail_of t ≡ trailed f report
  unfolding trail_of ship_in
  walked = rw (groups, named-ship ship f.bytes named) (report-walked f report)

  -- EVERY GROUP UP TO THE UNREAD REST IS IN THE TRAIL, in its order.
  pub trail-covers : Covers (length t) rest (groups_from t 0) (trail_of t)
  trail-covers = subst (Covers (length t) rest (groups_from t 0)) (sym walked) (subst (λ (l : List Piece). Covers (length t) rest l (trailed f report)) (sym groups) (report-covers f report))

  -- EACH GROUP OF THE TRAIL IS THE ONE FOUND WHERE IT WAS TAKEN: it is the source of what was taken there, and no other group is.
  pub trail-own : EachTaken (λ x. origin_in x.part x.spot (trail_of t) ≡ group x.piece) (trail_of t)
  trail-own = subst (λ (xs : List Taken). EachTaken (λ x. origin_in x.part x.spot xs ≡ group x.piece) xs) (sym walked) (own (trailed f report) (report-distinct f report))

  -- EACH ITEM is what the definition of its group says of the bytes that it was read from, or, with no such group, it is missing.
  pub surface-source : (e : Element) → ReadFrom t (λ g. Said e g (value_of e r)) (value_of e r ≡ value_of e blank_synop) (source_of (origin_in (part_of e) (spot_of e) (trail_of t)))
  surface-source e =
      read-from t (part_of e) (spot_of e) (trail_of t) trail-covers
      (subst (λ (xs : List Taken). Stemming e r (origin_in (part_of e) (spot_of e) xs)) (sym walked) (report-stems f (named-ship ship f.bytes named) report e))

  -- 333 IS THE SOURCE OF SECTION 3; without it the section is blank.
  pub opening-source : ReadFrom t (λ g. has_pattern g section3_word ≡ true) (r.section3 ≡ blank_section3) (source_of (origin_in 1 spot.Opening (trail_of t)))
  opening-source = read-from t 1 spot.Opening (trail_of t) trail-covers (subst (λ (xs : List Taken). Opening r (origin_in 1 spot.Opening xs)) (sym walked) (report-opening f report))

  abbrev Layered : ℕ → Origin → Type 0
  Layered k o = Stems (λ g. LayerSaid g.bytes (layer_of k r)) (layer_of k r ≡ layer_of k blank_synop) o

  -- THE SAME OF EACH LAYER OF SECTION 3.
  pub layer-source : (k : ℕ) → k < 4 → ReadFrom t (λ g. LayerSaid g (layer_of k r)) (layer_of k r ≡ blank_layer) (source_of (layer_in k (trail_of t)))
  layer-source k few = go (layer_in k (trail_of t)) refl (subst (λ (xs : List Taken). Layered k (layer_in k xs)) (sym walked) (layer-stems f report k few))
    where
      go : (o : Origin) → layer_in k (trail_of t) ≡ o → Layered k o → ReadFrom t (λ g. LayerSaid g (layer_of k r)) (layer_of k r ≡ blank_layer) (source_of o)
      go _ is (from g x) =
          let c = trail-covers in
          read g.start (g.start + length g.bytes)
          (subst (λ (b : Group). LayerSaid b (layer_of k r)) (sym (layer-lies t (trail_of t) c.left (subst (AllLie t) c.all (groups-lie t)) k g is)) x)
      go _ is (absent m) = unread (m ∙ no-layer k)
