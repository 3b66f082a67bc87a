-- A SYNOP or SHIP that is read is judged fine and is its own class: the groups known by position, NIL, section 1 and section 3.
-- Assumes nothing.
use Rattle.std.specs.Prelude.{⊤, Err, None, Ok, Option, Result, Some}
use Rattle.text.specs.declared.kinds.Refusal.{Refusal}
use Prim.Native.Nat.{ℕ, zero, suc, ◌+◌, ◌-◌, ◌≤◌}
use native.Mathlib.Omega.{arith}
use mathlib.Core.Path.{◌≡◌, refl, sym, ap, ◌∙◌}
use mathlib.Core.Bool.{Bool, true, false, cond, not, ◌&&◌, ◌||◌, false≢true}
use mathlib.Core.List.{List, [], ◌∷◌, ◌++◌}
use lib.ListN.{length, take, drop, replicate, length-append, length-replicate}
use lib.Seq.{take_at, drop_at}
use lib.Dec.{leb}
use borrow.Author.Tests.{leb-true, le-leb}
use Rattle.figures.specs.Figures.{is_figure, is_letter, every}
use Rattle.text.specs.declared.kinds.Refusal.TheVariants as refusal
use Rattle.text.specs.Judge.{judge, and_then}
use Rattle.text.specs.Groups.{Piece}
use Rattle.shapes.specs.Pattern.{has_pattern}
use Rattle.shapes.proofs.Patterns.{both}
use Rattle.places.specs.Engine.{Group, Fault}
use Rattle.places.specs.Parts.{Opens, Ends}
use Rattle.record.specs.declared.values.Speed.TheVariants as speed
use Rattle.record.specs.declared.surface.CallSign.{CallSign}
use Rattle.record.specs.declared.surface.Position.{Position}
use Rattle.record.specs.declared.surface.Time.{Time}
use Rattle.record.specs.declared.surface.Indicators.{Indicators}
use Rattle.record.specs.declared.surface.Wind.{Wind}
use Rattle.record.specs.declared.surface.Rainfall.{Rainfall}
use Rattle.record.specs.declared.surface.Site.{Site}
use Rattle.record.specs.declared.surface.Surface.{Surface}
use Rattle.record.specs.declared.surface.Section3.{Section3}
use Rattle.record.specs.declared.surface.Synop.{Synop}
use Rattle.record.specs.Arrays.{SynopArrays}
use Rattle.record.specs.Blank.{blank_site, blank_surface, blank_section3}
use Rattle.record.specs.Set.{set_station, set_sign, set_position, set_time, set_nil, set_site, set_surface, set_section3, set_indicators, set_wind, set_air, set_moisture, set_pressure, set_level, set_tendency, set_rainfall, set_weather, set_clouds, set_clock}
use Rattle.record.specs.Missing.{is_missing, no_letters}
use Rattle.record.specs.SilentSurface.{no_sign, no_position, no_surface}
use Rattle.synop_groups.specs.Judge.{judge_time, judge_station, judge_sign, judge_position, judge_air, judge_moisture, judge_pressure, judge_level, judge_tendency, judge_rainfall, judge_weather, judge_clouds, judge_clock}
use Rattle.synop_groups.specs.Shows.{is_in_three}
use Rattle.synop_groups.specs.Classes.{class_indicators, class_wind, class_rainfall}
use Rattle.synop_row.specs.declared.kinds.Needs.{Needs}
use Rattle.synop_row.specs.Row.{rain_due, weather_due, figure_is, needs_of, set_speed, with_said, row, section3_word}
use Rattle.section3.specs.Step.{Opened}
use Rattle.section3.specs.Write.{judge_section3, class_section3}
use Rattle.synop_section.specs.Answer.{begun, word_of, first_part, third_part, parts, section}
use Rattle.synop.specs.Read.{Post, with_head, time_post, station_post, is_call_sign, sign_of, sign_post, latitude_post, longitude_post, indicators_post, wind_post, posts, is_nil, after_nil, onward, walk, groups_read}
use Rattle.synop.specs.Write.{foreign_blank, judge_site, judge_section, judge_surface, judge_of, classed_of}
use Rattle.accepted_laws.proofs.Gives.{Gives, good, bad}
use Rattle.accepted_laws.proofs.Stages.{Stage, Left, ServesRow, StandsAt}
use Rattle.accepted_laws.proofs.Reports.{Comes, done, fault, Turns, ends, opens, Leaves, report-leaves}
use Rattle.accepted_laws.proofs.Common.{◌&◌, Past, left-all, kept, serves-kept}
use Rattle.accepted_laws.proofs.Tells.{gives-told}
use Rattle.accepted_laws.proofs.Surfaces.{time-told, station-told, latitude-told, longitude-told, IndicatorsRead, indicators-told, WindRead, wind-told, speed-told, speed-set, air-told, moisture-told, pressure-told, level-told, tendency-told, RainfallRead, rainfall-told, weather-told, clouds-told, clock-told}
use Rattle.accepted_laws.proofs.SectionThree as three
use Rattle.accepted_laws.proofs.SectionThree.{SectionThreeRead}

-- ==== SECTION 1. Each place keeps what holds of the blank record too.

-- what iR and ix need stays as it was said; the wind is fine, and stands in three figures where ff was 99
abbrev Known : Needs → Surface → Type 0
Known n s = IndicatorsRead s.indicators × (n.rain ≡ figure_is rain_due s.indicators.rain) × (n.weather ≡ figure_is weather_due s.indicators.weather)

abbrev Windy : Needs → Surface → Type 0
Windy n s = WindRead s.wind × (n.speed ≡ is_in_three s.wind.speed)

abbrev stages : Needs → List (Stage Surface)
stages n =
    kept (Windy n)
    ∷ kept (λ s. judge_air s.air ≡ Ok tt)
    ∷ kept (λ s. judge_moisture s.moisture ≡ Ok tt)
    ∷ kept (λ s. judge_pressure s.pressure ≡ Ok tt)
    ∷ kept (λ s. judge_level s.level ≡ Ok tt)
    ∷ kept (λ s. judge_tendency s.tendency ≡ Ok tt)
    ∷ kept (λ s. RainfallRead (not n.rain) s.rainfall)
    ∷ kept (λ s. judge_weather (not n.weather) s.weather ≡ Ok tt)
    ∷ kept (λ s. judge_clouds s.clouds ≡ Ok tt)
    ∷ kept (λ s. judge_clock s.clock ≡ Ok tt)
    ∷ []

serves : (n : Needs) → ServesRow (λ s. ⊥) (Known n) (row n) (stages n)
unfolding row with_said
serves n =
    serves-kept _ _ _ _ _ refl
    (λ k g s has b h e. gives-told (λ x. with_said x s) (λ m. set_speed (speed.Is m) s) (λ m. refl) (λ f. refl) (speed-told n.speed g)
    (λ m t. (b, (speed-set s.wind m h.0 (sym h.1 ∙ t.0) t.1 t.2, t.0 ∙ sym (le-leb 99 m t.1)), e)))
    & serves-kept _ _ _ _ _ refl (λ k g s has b h e. gives-told (λ x. with_said x s) (λ x. set_air x s) (λ x. refl) (λ f. refl) (air-told g) (λ x t. (b, t, e)))
    & serves-kept _ _ _ _ _ refl (λ k g s has b h e. gives-told (λ x. with_said x s) (λ x. set_moisture x s) (λ x. refl) (λ f. refl) (moisture-told g) (λ x t. (b, t, e)))
    & serves-kept _ _ _ _ _ refl (λ k g s has b h e. gives-told (λ x. with_said x s) (λ x. set_pressure x s) (λ x. refl) (λ f. refl) (pressure-told g) (λ x t. (b, t, e)))
    & serves-kept _ _ _ _ _ refl (λ k g s has b h e. gives-told (λ x. with_said x s) (λ x. set_level x s) (λ x. refl) (λ f. refl) (level-told g) (λ x t. (b, t, e)))
    & serves-kept _ _ _ _ _ refl (λ k g s has b h e. gives-told (λ x. with_said x s) (λ x. set_tendency x s) (λ x. refl) (λ f. refl) (tendency-told g) (λ x t. (b, t, e)))
    & serves-kept _ _ _ _ _ refl (λ k g s has b h e. gives-told (λ x. with_said x s) (λ x. set_rainfall x s) (λ x. refl) (λ f. refl) (rainfall-told (not n.rain) g) (λ x t. (b, t, e)))
    & serves-kept _ _ _ _ _ refl (λ k g s has b h e. gives-told (λ x. with_said x s) (λ x. set_weather x s) (λ x. refl) (λ f. refl) (weather-told (not n.weather) g) (λ x t. (b, t, e)))
    & serves-kept _ _ _ _ _ refl (λ k g s has b h e. gives-told (λ x. with_said x s) (λ x. set_clouds x s) (λ x. refl) (λ f. refl) (clouds-told g) (λ x t. (b, t, e)))
    & serves-kept _ _ _ _ _ refl (λ k g s has b h e. gives-told (λ x. with_said x s) (λ x. set_clock x s) (λ x. refl) (λ f. refl) (clock-told g) (λ x t. (b, t, e)))
    & tt

record SurfaceRead (s : Surface) : Type 0 where
  fine : judge_surface s ≡ Ok tt
  indicators : class_indicators s.indicators ≡ s.indicators
  wind : class_wind s.wind ≡ s.wind
  rainfall : class_rainfall s.rainfall ≡ s.rainfall

same-needs : (a b c a' b' c' : Bool) → a ≡ a' → b ≡ b' → c ≡ c' → ◌≡◌ {A = Needs} (record { rain = a; weather = b; speed = c }) (record { rain = a'; weather = b'; speed = c' })
same-needs a b c a' b' c' p q r = rw (p, q, r)

needs-still : (n : Needs) (s : Surface) → Known n s → n.speed ≡ is_in_three s.wind.speed → needs_of s ≡ n
unfolding needs_of
needs-still n s k w = same-needs _ _ _ n.rain n.weather n.speed (sym k.1) (sym k.2) (sym w)

section-read : (n : Needs) (s : Surface) → Known n s → Past (stages n) s → SurfaceRead s
unfolding judge_surface judge_section
section-read n s known (wind, (air, (moisture, (pressure, (level, (tendency, (rainfall, (weather, (clouds, (clock, _)))))))))) =
    record {
      fine = rw (known.0.fine, wind.0.fine, needs-still n s known wind.1, air, moisture, pressure, level, tendency, rainfall.fine, weather, clouds, clock);
      indicators = known.0.own;
      wind = wind.0.own;
      rainfall = rainfall.own;
    }

surface-read : (n : Needs) (s : Surface) → Left (Known n) (stages n) s → SurfaceRead s
surface-read n s x = let (known, past) = left-all (Known n) (stages n) s x in section-read n s known past

-- what stands before section 1: the groups through Nddff, and nothing behind them
abbrev Begun : Surface → Type 0
Begun s = (i : Indicators) × (w : Wind) × (s ≡ set_wind w (set_indicators i blank_surface)) × IndicatorsRead i × WindRead w

section-begins : (i : Indicators) (w : Wind) → IndicatorsRead i → WindRead w
    → StandsAt (λ s. ⊥) (Known (needs_of (set_wind w (set_indicators i blank_surface)))) (stages (needs_of (set_wind w (set_indicators i blank_surface)))) 0 0 (set_wind w (set_indicators i blank_surface))
unfolding needs_of judge_air judge_moisture judge_pressure judge_level judge_tendency judge_rainfall judge_weather judge_clouds judge_clock
section-begins i w ir wr = (
  (ir, refl, refl),
  (wr, refl),
  refl & refl & refl & refl & refl & record { fine = or-fine (not (figure_is rain_due i.rain)); own = refl } & or-fine (not (figure_is weather_due i.weather)) & refl & refl & tt,
)
  where
    or-fine : (forbidden : Bool) → judge true (not forbidden || true) ≡ Ok tt
    or-fine true = refl
    or-fine false = refl

-- ==== THE HEAD, group after group

-- what the writer judges of a site
abbrev site_judged : Bool → Site → Result ⊤ Refusal
site_judged ship site = judge_site (record { ship = ship; site = site; surface = blank_surface; section3 = blank_section3 })

record HeadRead (ship : Bool) (site : Site) : Type 0 where
  fine : site_judged ship site ≡ Ok tt
  own : cond ship (is_missing site.station && not site.nil) (no_sign site.sign && no_position site.position) ≡ true
  heard : site.nil ≡ false
  nine : length site.sign.letters ≡ 9

pub record SynopRead (r : Synop) : Type 0 where
  pub fine : judge_of r ≡ Ok tt
  pub own : classed_of r ≡ r
  pub arrays : SynopArrays r

same-site : (r : Synop) → judge_site r ≡ site_judged r.ship r.site
unfolding judge_site
same-site r = refl

whole-fine : (own heard : Bool) (site surface third : Result ⊤ Refusal) → own ≡ true → heard ≡ false → site ≡ Ok tt → surface ≡ Ok tt → third ≡ Ok tt → (quiet : Bool)
    → and_then (cond (own && (not heard || quiet)) (Ok tt) (Err refusal.Value)) (and_then site (cond heard (Ok tt) (and_then surface third))) ≡ Ok tt
whole-fine own heard site surface third a b c d e quiet = rw (a, b, c, d, e)

synop-own : (r : Synop) → class_indicators r.surface.indicators ≡ r.surface.indicators → class_wind r.surface.wind ≡ r.surface.wind → class_rainfall r.surface.rainfall ≡ r.surface.rainfall
    → class_section3 r.section3 ≡ r.section3 → classed_of r ≡ r
unfolding classed_of
synop-own r a b c d = made (class_indicators r.surface.indicators) (class_wind r.surface.wind) (class_rainfall r.surface.rainfall) (class_section3 r.section3) a b c d
  where
    made : (i : Indicators) (w : Wind) (f : Rainfall) (t : Section3) → i ≡ r.surface.indicators → w ≡ r.surface.wind → f ≡ r.surface.rainfall → t ≡ r.section3
        → set_section3 t (set_surface (set_indicators i (set_wind w (set_rainfall f r.surface))) r) ≡ r
    made i w f t a b c d = rw (a, b, c, d)

record Whole (r : Synop) : Type 0 where
  head : HeadRead r.ship r.site
  first : SurfaceRead r.surface
  third : SectionThreeRead r.section3

whole-read : (r : Synop) → Whole r → SynopRead r
unfolding judge_of foreign_blank
whole-read r w =
    let h = w.head in
    let s = w.first in
    let t = w.third in
    record {
      fine = whole-fine _ r.site.nil (judge_site r) (judge_surface r.surface) (judge_section3 r.section3) h.own h.heard (same-site r ∙ h.fine) s.fine t.fine _;
      own = synop-own r s.indicators s.wind s.rainfall t.own;
      arrays = record { letters = h.nine; layers = t.four };
    }

-- nothing stands behind the head
abbrev Silent : Synop → Type 0
Silent r = (r.surface ≡ blank_surface) × (r.section3 ≡ blank_section3)

-- NIL after IIiii, which ends a land report
nil-read : (r : Synop) → r.ship ≡ false → HeadRead false r.site → Silent r → SynopRead (set_site (set_nil true r.site) r)
unfolding judge_of foreign_blank judge_site no_surface
nil-read r land h (quiet, no_third) =
    record {
      fine = rw (land, h.own, quiet, no_third, h.fine);
      own = rw (quiet, no_third) (synop-own (set_site (set_nil true r.site) (set_surface blank_surface (set_section3 blank_section3 r))) refl refl refl refl);
      arrays = record { letters = h.nine; layers = rw no_third };
    }

-- ---- a call sign

zeros : (n : ℕ) → no_letters (replicate n 0) ≡ true
zeros zero = refl
zeros (suc n) = zeros n

take-zeros : (m k : ℕ) → m ≤ k → take m (replicate {A = ℕ} k 0) ≡ replicate {A = ℕ} m 0
take-zeros zero zero h = refl
take-zeros zero (suc k) h = refl
take-zeros (suc m) zero h = absurd (omega (arith, h))
take-zeros (suc m) (suc k) h = rw (take-zeros m k (omega (arith, h)))

padded : (m k : ℕ) (g : List ℕ) → length g ≤ m → m ≤ length g + k → take m (g ++ replicate k 0) ≡ g ++ replicate (m - length g) 0
padded m k [] h l =
    let all : m - 0 ≡ m = omega arith in
    rw all (take-zeros m k (omega (arith, l)))
padded zero k (b ∷ g) h l = absurd (omega (arith, h))
padded (suc m) k (b ∷ g) h l =
    let less : suc m - suc (length g) ≡ m - length g = omega arith in
    rw (less, padded m k g (omega (arith, h)) (omega (arith, l)))

record SignRead (s : CallSign) : Type 0 where
  fine : judge_sign s ≡ Ok tt
  nine : length s.letters ≡ 9

sign_read : (g : Group) → is_call_sign g ≡ true → SignRead (sign_of g)
unfolding sign_of judge_sign
sign_read g h =
    let letters = both (leb 3 (length g) && leb (length g) 9) (every (λ b. is_letter b || is_figure b) g) h in
    let range = both (leb 3 (length g)) (leb (length g) 9) letters.0 in
    let most = leb-true (length g) 9 range.1 in
    let is = padded 9 9 g most (omega arith) in
    let front : take (length g) (g ++ replicate (9 - length g) 0) ≡ g = take_at g (replicate (9 - length g) 0) (length g) refl in
    let back : drop (length g) (g ++ replicate (9 - length g) 0) ≡ replicate (9 - length g) 0 = drop_at g (replicate (9 - length g) 0) (length g) refl in
    record {
      fine = rw (is, front, back, range.0, range.1, letters.1, zeros (9 - length g));
      nine = rw is (length-append g (replicate (9 - length g) 0) ∙ (omega (arith, length-replicate {A = ℕ} (9 - length g) 0, most)));
    }

-- ---- one group after the other

module _ {Q I J : Synop → Type 0} (p : Post) (ps : List Post)
    (reads : (g : Group) (r : Synop) → p.has g ≡ true → I r → Gives J (p.read g r))
    (silent : p.nil ≡ true → (r : Synop) → I r → Q (set_site (set_nil true r.site) r))
    (rest : (r : Synop) (tail : Option ℕ) (end : ℕ) (gs : List Piece) → J r → Comes Q (walk ps r tail end gs)) where
  post-walks : (r : Synop) (tail : Option ℕ) (end : ℕ) (gs : List Piece) → I r → Comes Q (walk (p ∷ ps) r tail end gs)
  unfolding walk
  post-walks r (Some at) end [] i = fault
  post-walks r None end [] i = fault
  post-walks r tail end (g ∷ gs) i = nil p.nil refl (is_nil g.bytes)
    where
      over : (tail : Option ℕ) (gs : List Piece) → p.nil ≡ true → Comes Q (after_nil tail end r gs)
      over (Some at) [] e = fault
      over None [] e = done (silent e r i)
      over (Some at) (g ∷ gs) e = fault
      over None (g ∷ gs) e = fault

      on : (x : Result Synop Refusal) → Gives J x → Comes Q (onward x g.start (λ r'. walk ps r' tail end gs))
      on _ (good {a} j) = rest a tail end gs j
      on _ bad = fault

      has : (b : Bool) → p.has g.bytes ≡ b → Comes Q (cond b (onward (p.read g.bytes r) g.start (λ r'. walk ps r' tail end gs)) (Fault refusal.Shape g.start))
      has true e = on (p.read g.bytes r) (reads g.bytes r e i)
      has false e = fault

      nil : (b : Bool) → p.nil ≡ b → (c : Bool)
          → Comes Q (cond (b && c) (after_nil tail end r gs) (cond (p.has g.bytes) (onward (p.read g.bytes r) g.start (λ r'. walk ps r' tail end gs)) (Fault refusal.Shape g.start)))
      nil true e true = over tail gs e
      nil true e false = has (p.has g.bytes) refl
      nil false e c = has (p.has g.bytes) refl

never : {X : Type 0} → false ≡ true → X
never e = absurd (false≢true e)

-- ---- behind the head

abbrev Headed : Bool → Synop → Type 0
Headed ship r = (r.ship ≡ ship) × HeadRead ship r.site × Silent r

abbrev Indicated : Bool → Synop → Type 0
Indicated ship r =
    (r.ship ≡ ship) × HeadRead ship r.site × ((i : Indicators) × (r.surface ≡ set_indicators i blank_surface) × IndicatorsRead i) × (r.section3 ≡ blank_section3)

abbrev Winded : Bool → Synop → Type 0
Winded ship r = (r.ship ≡ ship) × HeadRead ship r.site × Begun r.surface × (r.section3 ≡ blank_section3)

-- section 3 begins blank
abbrev Fresh : Synop → Opened → Section3 → Type 0
Fresh r w s = s ≡ blank_section3

-- 333 opens it, and at any other stop word reading ends
first_word : (r : Synop) (g : Group) → Turns Whole SynopRead Fresh r (word_of g)
first_word r g = go (has_pattern g section3_word)
  where
    go : (b : Bool) → Turns Whole SynopRead Fresh r (cond b (Opens (Ok (record { kind = tt; start = blank_section3 }))) Ends)
    go true = opens (good refl)
    go false = ends

first-leaves : (ship : Bool) (r : Synop) → Winded ship r → Leaves Whole SynopRead Fresh (first_part (needs_of r.surface) (λ s. set_surface s r)) r.surface
first-leaves ship r (is, h, (i, w, begun-so, ir, wr), no_third) =
    record {
      over = λ s. ⊥;
      before = Known (needs_of r.surface);
      stages = stages (needs_of r.surface);
      serves = serves (needs_of r.surface);
      begins = rw begun-so (section-begins i w ir wr);
      whole = λ s x e. record { head = rw is h; first = surface-read (needs_of r.surface) s x; third = rw no_third three.section-absent };
      ended = λ s z. absurd z;
      word = λ t g f e. first_word t g;
    }

third-leaves : (r : Synop) (w : Opened) (s : Section3) → Whole r → Fresh r w s → Leaves Whole SynopRead Fresh (third_part r) s
third-leaves r w s h is =
    record {
      over = λ s. ⊥;
      before = three.start;
      stages = three.stages;
      serves = three.serves;
      begins = rw is three.begins-blank;
      whole = λ q x e. record { head = h.head; first = h.first; third = three.section-read q x };
      ended = λ q z. absurd z;
      word = λ t g f e. ends;
    }

at-section : (ship : Bool) (r : Synop) (tail : Option ℕ) (end : ℕ) (gs : List Piece) → Winded ship r → Comes SynopRead (walk [] r tail end gs)
unfolding walk section
at-section ship r tail end gs x =
    report-leaves Whole SynopRead Fresh tail end parts whole-read third-leaves (λ t w s g o e. o) 1 (first_part (needs_of r.surface) (λ s. set_surface s r)) r.surface (first-leaves ship r x) gs

at-wind : (ship : Bool) (r : Synop) (tail : Option ℕ) (end : ℕ) (gs : List Piece) → Indicated ship r → Comes SynopRead (walk (wind_post ∷ []) r tail end gs)
unfolding with_head with_said
at-wind ship =
    post-walks wind_post []
    (λ g r has x. gives-told (λ y. with_head y r) (λ w. set_surface (set_wind w r.surface) r) (λ w. refl) (λ f. refl) (wind-told g) (λ w t. (x.0, x.1, (x.2.0, w, ap (set_wind w) x.2.1, x.2.2, t), x.3)))
    (λ e r x. never e) (at-section ship)

at-indicators : (ship land : Bool) → (land ≡ true → ship ≡ false) → (r : Synop) (tail : Option ℕ) (end : ℕ) (gs : List Piece) → Headed ship r → Comes SynopRead (walk (indicators_post land ∷ wind_post ∷ []) r tail end gs)
unfolding with_head with_said
at-indicators ship land only =
    post-walks (indicators_post land) (wind_post ∷ [])
    (λ g r has x. gives-told (λ y. with_head y r) (λ i. set_surface (set_indicators i r.surface) r) (λ i. refl) (λ f. refl) (indicators-told g) (λ i t. (x.0, x.1, (i, ap (set_indicators i) x.2.0, t), x.2.1)))
    (λ e r x. nil-read r (x.0 ∙ only e) (rw (only e) at x.1) x.2) (at-wind ship)

-- ---- A LAND STATION

abbrev Started : Bool → Synop → Type 0
Started ship r = (r.ship ≡ ship) × (r.site ≡ blank_site) × Silent r

abbrev Timed : Synop → Type 0
Timed r = (r.ship ≡ false) × ((t : Time) × (r.site ≡ set_time t blank_site) × (judge_time t ≡ Ok tt)) × Silent r

land-head : (t : Time) (n : ℕ) → judge_time t ≡ Ok tt → judge_station (Some n) ≡ Ok tt → HeadRead false (set_station (Some n) (set_time t blank_site))
unfolding judge_site
land-head t n a b = record { fine = rw (a, b); own = refl; heard = refl; nine = refl }

at-station : (r : Synop) (tail : Option ℕ) (end : ℕ) (gs : List Piece) → Timed r → Comes SynopRead (walk (station_post ∷ indicators_post true ∷ wind_post ∷ []) r tail end gs)
unfolding with_head with_said
at-station =
    post-walks station_post (indicators_post true ∷ wind_post ∷ [])
    (λ g r has x. gives-told (λ y. with_head y r) (λ n. set_site (set_station (Some n) r.site) r) (λ n. refl) (λ f. refl) (station-told g)
    (λ n t. (x.0, rw x.1.1 (land-head x.1.0 n x.1.2 t), x.2)))
    (λ e r x. never e) (at-indicators false true (λ e. refl))

land-walks : (r : Synop) (tail : Option ℕ) (end : ℕ) (gs : List Piece) → Started false r → Comes SynopRead (walk (time_post ∷ station_post ∷ indicators_post true ∷ wind_post ∷ []) r tail end gs)
unfolding with_head with_said
land-walks =
    post-walks time_post (station_post ∷ indicators_post true ∷ wind_post ∷ [])
    (λ g r has x. gives-told (λ y. with_head y r) (λ t. set_site (set_time t r.site) r) (λ t. refl) (λ f. refl) (time-told g) (λ t f. (x.0, (t, ap (set_time t) x.1, f), x.2)))
    (λ e r x. never e) at-station

-- ---- A SHIP

abbrev Signed : Synop → Type 0
Signed r = (r.ship ≡ true) × ((s : CallSign) × (r.site ≡ set_sign s blank_site) × SignRead s) × Silent r

abbrev SignedTimed : Synop → Type 0
SignedTimed r = (r.ship ≡ true) × ((s : CallSign) × (t : Time) × (r.site ≡ set_time t (set_sign s blank_site)) × SignRead s × (judge_time t ≡ Ok tt)) × Silent r

abbrev Placed : Synop → Type 0
Placed r =
    (r.ship ≡ true)
    × ((s : CallSign) × (t : Time) × (p : Position) × (r.site ≡ set_position p (set_time t (set_sign s blank_site))) × SignRead s × (judge_time t ≡ Ok tt))
    × Silent r

ship-head : (s : CallSign) (t : Time) (p : Position) → SignRead s → judge_time t ≡ Ok tt → judge_position p ≡ Ok tt → HeadRead true (set_position p (set_time t (set_sign s blank_site)))
unfolding judge_site
ship-head s t p a b c = record { fine = rw (a.fine, b, c); own = refl; heard = refl; nine = a.nine }

at-longitude : (r : Synop) (tail : Option ℕ) (end : ℕ) (gs : List Piece) → Placed r → Comes SynopRead (walk (longitude_post ∷ indicators_post false ∷ wind_post ∷ []) r tail end gs)
unfolding with_head with_said
at-longitude =
    post-walks longitude_post (indicators_post false ∷ wind_post ∷ [])
    (λ g r has x. gives-told (λ y. with_head y r) (λ p. set_site (set_position p r.site) r) (λ p. refl) (λ f. refl) (longitude-told r.site.position g)
    (λ p t. (x.0, rw x.1.3 (ship-head x.1.0 x.1.1 p x.1.4 x.1.5 t), x.2)))
    (λ e r x. never e) (at-indicators true false (λ e. never e))

at-latitude : (r : Synop) (tail : Option ℕ) (end : ℕ) (gs : List Piece) → SignedTimed r → Comes SynopRead (walk (latitude_post ∷ longitude_post ∷ indicators_post false ∷ wind_post ∷ []) r tail end gs)
unfolding with_head with_said
at-latitude =
    post-walks latitude_post (longitude_post ∷ indicators_post false ∷ wind_post ∷ [])
    (λ g r has x. gives-told (λ y. with_head y r) (λ p. set_site (set_position p r.site) r) (λ p. refl) (λ f. refl) (latitude-told g)
    (λ p t. (x.0, (x.1.0, x.1.1, p, ap (set_position p) x.1.2, x.1.3, x.1.4), x.2)))
    (λ e r x. never e) at-longitude

at-ship-time : (r : Synop) (tail : Option ℕ) (end : ℕ) (gs : List Piece) → Signed r
    → Comes SynopRead (walk (time_post ∷ latitude_post ∷ longitude_post ∷ indicators_post false ∷ wind_post ∷ []) r tail end gs)
unfolding with_head with_said
at-ship-time =
    post-walks time_post (latitude_post ∷ longitude_post ∷ indicators_post false ∷ wind_post ∷ [])
    (λ g r has x. gives-told (λ y. with_head y r) (λ t. set_site (set_time t r.site) r) (λ t. refl) (λ f. refl) (time-told g)
    (λ t f. (x.0, (x.1.0, t, ap (set_time t) x.1.1, x.1.2, f), x.2)))
    (λ e r x. never e) at-latitude

ship-walks : (r : Synop) (tail : Option ℕ) (end : ℕ) (gs : List Piece) → Started true r
    → Comes SynopRead (walk (sign_post ∷ time_post ∷ latitude_post ∷ longitude_post ∷ indicators_post false ∷ wind_post ∷ []) r tail end gs)
ship-walks =
    post-walks sign_post (time_post ∷ latitude_post ∷ longitude_post ∷ indicators_post false ∷ wind_post ∷ [])
    (λ g r has x. good (x.0, (sign_of g, ap (set_sign (sign_of g)) x.1, sign_read g has), x.2))
    (λ e r x. never e) at-ship-time

-- WHATEVER SYNOP OR SHIP IS ACCEPTED IS JUDGED FINE, AND COMES BACK AS IT IS.
pub synop-read : (ship : Bool) (tail : Option ℕ) (end : ℕ) (gs : List Piece) → Comes SynopRead (groups_read ship tail end gs)
unfolding groups_read posts
synop-read false tail end gs = land-walks (begun false) tail end gs (refl, refl, (refl, refl))
synop-read true tail end gs = ship-walks (begun true) tail end gs (refl, refl, (refl, refl))
