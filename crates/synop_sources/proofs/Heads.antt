-- THE GROUPS KNOWN BY POSITION, of a text whose groups come to a record: those of a land station, up to NIL or Nddff, and those of a ship.
-- Assumes nothing.
use Rattle.std.specs.Prelude.{Err, None, Ok, Option, Result, Some}
use Rattle.text.specs.declared.kinds.Refusal.{Refusal}
use Prim.Native.Nat.{ℕ}
use mathlib.Core.Path.{◌≡◌, refl, sym, subst, ◌∙◌}
use mathlib.Core.Bool.{Bool, true, false, cond, ◌&&◌, false≢true}
use mathlib.Core.List.{List, [], ◌∷◌}
use Rattle.figures.proofs.Impossible.{impossible}
use Rattle.text.specs.declared.kinds.Refusal.TheVariants as refusal
use Rattle.text.specs.Groups.{Piece}
use Rattle.places.specs.Engine.{Group, Done, Fault}
use Rattle.record.specs.declared.surface.CallSign.{CallSign}
use Rattle.record.specs.declared.surface.Position.{Position}
use Rattle.record.specs.declared.surface.Time.{Time}
use Rattle.record.specs.declared.surface.Indicators.{Indicators}
use Rattle.record.specs.declared.surface.Wind.{Wind}
use Rattle.record.specs.declared.surface.Site.{Site}
use Rattle.record.specs.declared.surface.Synop.{Synop}
use Rattle.record.specs.Blank.{blank_site, blank_surface, blank_section3}
use Rattle.record.specs.Set.{set_station, set_sign, set_position, set_time, set_nil, set_site, set_indicators, set_wind}
use Rattle.synop_groups.specs.declared.kinds.Said.{Said}
use Rattle.synop_groups.specs.declared.kinds.Said.TheVariants as said
use Rattle.synop_groups.specs.Reads.{said_time, said_station, said_latitude, said_longitude, said_indicators, said_wind}
use Rattle.synop_row.specs.Row.{with_said}
use Rattle.synop_section.specs.Answer.{begun}
use Rattle.synop.specs.Read.{Post, with_head, time_post, station_post, sign_of, sign_post, latitude_post, longitude_post, indicators_post, wind_post, posts, is_nil, cut_short, after_nil, onward, walk, groups_read}
use Rattle.accepted_laws.proofs.Tells.{Tells}
use Rattle.accepted_laws.proofs.Surfaces.{time-told, station-told, indicators-told}
use Rattle.sources.proofs.Parts.{done-same}
use Rattle.synop_sources.specs.Items.{northern}
use Rattle.synop_sources.proofs.Tells.{same_good, made, latitude-plain, longitude-kept, InTwo, wind-in-two}
use Rattle.synop_sources.proofs.Sections.{Sections, sections-read}

-- ---- the report behind Nddff

abbrev pub behind : Bool → Site → Indicators → Wind → Synop
behind ship site i w = record { ship = ship; site = site; surface = set_wind w (set_indicators i blank_surface); section3 = blank_section3 }

abbrev pub land_site : Time → ℕ → Site
land_site x n = set_station (Some n) (set_time x blank_site)

abbrev pub ship_site : CallSign → Time → Position → Site
ship_site s x p = set_position p (set_time x (set_sign s blank_site))

abbrev pub silent_report : Time → ℕ → Synop
silent_report x n = record { ship = false; site = set_nil true (land_site x n); surface = blank_surface; section3 = blank_section3 }

-- A REPORT'S GROUPS BEHIND ITS NAME, with what each says: a land station's, one that NIL ends, or a ship's.
pub data Report (end rest : ℕ) (whole : Synop) : Bool → List Piece → Type 0 where
  from-land : (g₁ g₂ g₃ g₄ : Piece) (gs : List Piece) (x : Time) (n : ℕ) (i : Indicators) (w : Wind)
      → said_time g₁.bytes ≡ said.Time x → said_station g₂.bytes ≡ said.Station n → is_nil g₃.bytes ≡ false → said_indicators g₃.bytes ≡ said.Indicators i
      → said_wind g₄.bytes ≡ said.Wind w → InTwo w → Sections end rest (behind false (land_site x n) i w) whole gs → Report end rest whole false (g₁ ∷ g₂ ∷ g₃ ∷ g₄ ∷ gs)
  from-nil : (g₁ g₂ g₃ : Piece) (x : Time) (n : ℕ) → said_time g₁.bytes ≡ said.Time x → said_station g₂.bytes ≡ said.Station n → is_nil g₃.bytes ≡ true → rest ≡ end
      → whole ≡ silent_report x n → Report end rest whole false (g₁ ∷ g₂ ∷ g₃ ∷ [])
  from-ship : (g₀ g₁ g₂ g₃ g₄ g₅ : Piece) (gs : List Piece) (x : Time) (p q : Position) (i : Indicators) (w : Wind)
      → said_time g₁.bytes ≡ said.Time x → said_latitude g₂.bytes ≡ said.Position p → said_longitude p g₃.bytes ≡ said.Position q → northern q ≡ p
      → said_indicators g₄.bytes ≡ said.Indicators i → said_wind g₅.bytes ≡ said.Wind w → InTwo w
      → Sections end rest (behind true (ship_site (sign_of g₀.bytes) x q) i w) whole gs → Report end rest whole true (g₀ ∷ g₁ ∷ g₂ ∷ g₃ ∷ g₄ ∷ g₅ ∷ gs)

module _ (tail : Option ℕ) (end rest : ℕ) (whole : Synop) where
  -- ---- one group after the other

  data PostDone (p : Post) (ps : List Post) (r : Synop) : List Piece → Type 0 where
    ends : {g : Piece} → p.nil ≡ true → is_nil g.bytes ≡ true → rest ≡ end → whole ≡ set_site (set_nil true r.site) r → PostDone p ps r (g ∷ [])
    goes : {g : Piece} {gs : List Piece} {r' : Synop} → (p.nil && is_nil g.bytes) ≡ false → p.read g.bytes r ≡ Ok r' → walk ps r' tail end gs ≡ Done rest whole
        → PostDone p ps r (g ∷ gs)

  post-done : (p : Post) (ps : List Post) (r : Synop) (gs : List Piece) → walk (p ∷ ps) r tail end gs ≡ Done rest whole → PostDone p ps r gs
  unfolding walk
  post-done p ps r [] e = short tail e
    where
      short : (u : Option ℕ) → cut_short u end ≡ Done rest whole → PostDone p ps r []
      short (Some at) e = impossible (cc)
      short None e = impossible (cc)
  post-done p ps r (g ∷ gs) e = nil p.nil refl (is_nil g.bytes) refl e
    where
      over : (u : Option ℕ) (gs : List Piece) → p.nil ≡ true → is_nil g.bytes ≡ true → after_nil u end r gs ≡ Done rest whole → PostDone p ps r (g ∷ gs)
      over (Some at) [] a b e = impossible (cc)
      over None [] a b e = let (x, y) = done-same e in ends a b x y
      over (Some at) (h ∷ gs) a b e = impossible (cc)
      over None (h ∷ gs) a b e = impossible (cc)

      on : (p.nil && is_nil g.bytes) ≡ false → (x : Result Synop Refusal) → p.read g.bytes r ≡ x → onward x g.start (λ r'. walk ps r' tail end gs) ≡ Done rest whole → PostDone p ps r (g ∷ gs)
      on n (Ok r') is e = goes n is e
      on n (Err f) is e = impossible (cc)

      has : (p.nil && is_nil g.bytes) ≡ false → (b : Bool)
          → cond b (onward (p.read g.bytes r) g.start (λ r'. walk ps r' tail end gs)) (Fault refusal.Shape g.start) ≡ Done rest whole → PostDone p ps r (g ∷ gs)
      has n true e = on n (p.read g.bytes r) refl e
      has n false e = impossible (cc)

      nil : (a : Bool) → p.nil ≡ a → (b : Bool) → is_nil g.bytes ≡ b
          → cond (a && b) (after_nil tail end r gs) (cond (p.has g.bytes) (onward (p.read g.bytes r) g.start (λ r'. walk ps r' tail end gs)) (Fault refusal.Shape g.start)) ≡ Done rest whole
          → PostDone p ps r (g ∷ gs)
      nil true u true v e = over tail gs u v e
      nil true u false v e = has (rw (u, v)) (p.has g.bytes) e
      nil false u b v e = has (rw u) (p.has g.bytes) e

  -- a group that NIL cannot stand for, with what it says, and then the others
  next : {A : Type 0} {make : A → Said} {P : A → Type 0} {says : Group → Said} (p : Post) (ps : List Post) (r : Synop) (put : A → Synop) (gs : List Piece) → p.nil ≡ false
      → ((g : Group) → p.read g r ≡ with_head (says g) r) → ((a : A) → with_head (make a) r ≡ Ok (put a)) → ((g : Group) → Tells make P (says g)) → (X : List Piece → Type 0)
      → ((g : Piece) (others : List Piece) (v : A) → says g.bytes ≡ make v → P v → walk ps (put v) tail end others ≡ Done rest whole → X (g ∷ others))
      → walk (p ∷ ps) r tail end gs ≡ Done rest whole → X gs
  unfolding with_head with_said
  next p ps r put gs quiet reads puts law X then e = go gs (post-done p ps r gs e)
    where
      go : (gs : List Piece) → PostDone p ps r gs → X gs
      go _ (ends nil word a b) = absurd (false≢true (sym quiet ∙ nil))
      go _ (goes {g} {gs} {r'} nil is e) =
          let d = made (λ y. with_head y r) put puts (λ f. refl) (law g.bytes) (sym (reads g.bytes) ∙ is) in
          then g gs d.value d.is d.so (subst (λ (q : Synop). walk ps q tail end gs ≡ Done rest whole) d.puts e)

  abbrev sited : Bool → Site → Synop
  sited ship site = record { ship = ship; site = site; surface = blank_surface; section3 = blank_section3 }

  abbrev indicated : Bool → Site → Indicators → Synop
  indicated ship site i = record { ship = ship; site = site; surface = set_indicators i blank_surface; section3 = blank_section3 }

  abbrev Comes : Bool → List Piece → Type 0
  Comes ship gs = Report end rest whole ship gs

  -- Nddff, and what follows
  at-wind : (ship : Bool) (site : Site) (i : Indicators) (gs : List Piece) (X : List Piece → Type 0)
      → ((g : Piece) (others : List Piece) (w : Wind) → said_wind g.bytes ≡ said.Wind w → InTwo w → Sections end rest (behind ship site i w) whole others → X (g ∷ others))
      → walk (wind_post ∷ []) (indicated ship site i) tail end gs ≡ Done rest whole → X gs
  unfolding walk with_head with_said
  at-wind ship site i gs X then e =
      next wind_post [] (indicated ship site i) (λ w. behind ship site i w) gs refl (λ g. refl) (λ w. refl) wind-in-two X
      (λ g others w is two e. then g others w is two (sections-read tail end rest whole (behind ship site i w) others refl e)) e

  -- ---- A LAND STATION

  at-indicators : (g₁ g₂ : Piece) (x : Time) (n : ℕ) → said_time g₁.bytes ≡ said.Time x → said_station g₂.bytes ≡ said.Station n → (gs : List Piece)
      → PostDone (indicators_post true) (wind_post ∷ []) (sited false (land_site x n)) gs → Comes false (g₁ ∷ g₂ ∷ gs)
  unfolding with_head with_said
  at-indicators g₁ g₂ x n a b _ (ends {g} may nil over is) = from-nil g₁ g₂ g x n a b nil over is
  at-indicators g₁ g₂ x n a b _ (goes {g} {gs} {r'} nil is e) =
      let d = made (λ y. with_head y (sited false (land_site x n))) (indicated false (land_site x n)) (λ i. refl) (λ f. refl) (indicators-told g.bytes) is in
      at-wind false (land_site x n) d.value gs (λ l. Comes false (g₁ ∷ g₂ ∷ g ∷ l))
      (λ g₄ others w wind two more. from-land g₁ g₂ g g₄ others x n d.value w a b nil d.is wind two more)
      (subst (λ (q : Synop). walk (wind_post ∷ []) q tail end gs ≡ Done rest whole) d.puts e)

  land-report : (gs : List Piece) → groups_read false tail end gs ≡ Done rest whole → Comes false gs
  unfolding groups_read posts with_head with_said
  land-report gs e =
      next time_post (station_post ∷ indicators_post true ∷ wind_post ∷ []) (begun false) (λ x. sited false (set_time x blank_site)) gs refl (λ g. refl) (λ x. refl) time-told (Comes false)
      (λ g₁ l₁ x a fine e. next station_post (indicators_post true ∷ wind_post ∷ []) (sited false (set_time x blank_site)) (λ n. sited false (land_site x n)) l₁ refl (λ g. refl) (λ n. refl) station-told (λ l. Comes false (g₁ ∷ l))
      (λ g₂ l₂ n b fits e. at-indicators g₁ g₂ x n a b l₂ (post-done (indicators_post true) (wind_post ∷ []) (sited false (land_site x n)) l₂ e)) e) e

  -- ---- A SHIP

  at_place : (g₀ g₁ : Piece) (x : Time) → said_time g₁.bytes ≡ said.Time x → (gs : List Piece)
      → walk (latitude_post ∷ longitude_post ∷ indicators_post false ∷ wind_post ∷ []) (sited true (set_time x (set_sign (sign_of g₀.bytes) blank_site))) tail end gs ≡ Done rest whole → Comes true (g₀ ∷ g₁ ∷ gs)
  unfolding with_head with_said
  at_place g₀ g₁ x a gs e =
      next latitude_post (longitude_post ∷ indicators_post false ∷ wind_post ∷ []) (sited true (set_time x (set_sign s blank_site))) (λ p. sited true (ship_site s x p)) gs refl (λ g. refl) (λ p. refl) latitude-plain (λ l. Comes true (g₀ ∷ g₁ ∷ l))
      (λ g₂ l₂ p b flat e. next longitude_post (indicators_post false ∷ wind_post ∷ []) (sited true (ship_site s x p)) (λ q. sited true (ship_site s x q)) l₂ refl (λ g. refl) (λ q. refl) (longitude-kept p) (λ l. Comes true (g₀ ∷ g₁ ∷ g₂ ∷ l))
      (λ g₃ l₃ q c kept e. next (indicators_post false) (wind_post ∷ []) (sited true (ship_site s x q)) (indicated true (ship_site s x q)) l₃ refl (λ g. refl) (λ i. refl) indicators-told (λ l. Comes true (g₀ ∷ g₁ ∷ g₂ ∷ g₃ ∷ l))
      (λ g₄ l₄ i d fine e. at-wind true (ship_site s x q) i l₄ (λ l. Comes true (g₀ ∷ g₁ ∷ g₂ ∷ g₃ ∷ g₄ ∷ l))
      (λ g₅ others w wind two more. from-ship g₀ g₁ g₂ g₃ g₄ g₅ others x p q i w a b c (kept ∙ flat) d wind two more) e) e) e) e
    where
      s : CallSign
      s = sign_of g₀.bytes

  ship-report : (gs : List Piece) → groups_read true tail end gs ≡ Done rest whole → Comes true gs
  unfolding groups_read posts with_head with_said
  ship-report gs e = go gs (post-done sign_post (time_post ∷ latitude_post ∷ longitude_post ∷ indicators_post false ∷ wind_post ∷ []) (begun true) gs e)
    where
      go : (gs : List Piece) → PostDone sign_post (time_post ∷ latitude_post ∷ longitude_post ∷ indicators_post false ∷ wind_post ∷ []) (begun true) gs → Comes true gs
      go _ (ends nil word a b) = absurd (false≢true nil)
      go _ (goes {g = g₀} {gs} {r'} nil is e) =
          next time_post (latitude_post ∷ longitude_post ∷ indicators_post false ∷ wind_post ∷ []) (sited true (set_sign (sign_of g₀.bytes) blank_site))
          (λ x. sited true (set_time x (set_sign (sign_of g₀.bytes) blank_site))) gs refl (λ g. refl) (λ x. refl) time-told (λ l. Comes true (g₀ ∷ l)) (λ g₁ l₁ x a fine e. at_place g₀ g₁ x a l₁ e)
          (subst (λ (q : Synop). walk (time_post ∷ latitude_post ∷ longitude_post ∷ indicators_post false ∷ wind_post ∷ []) q tail end gs ≡ Done rest whole) (same_good is) e)

  -- THE REPORT, of either kind.
  pub report-read : (ship : Bool) (gs : List Piece) → groups_read ship tail end gs ≡ Done rest whole → Report end rest whole ship gs
  report-read false gs e = land-report gs e
  report-read true gs e = ship-report gs e
