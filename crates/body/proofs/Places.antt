-- The body's places one by one: what is written at each of a body that is judged fine has the place's shape, takes a known room, and is read back as what is
-- put. Proved once, for METAR and SPECI, for a TAF's main part and for its changes.
-- Assumes nothing.
use Rattle.std.specs.Prelude.{⊤, Err, Ok, Result}
use Rattle.text.specs.declared.kinds.Refusal.{Refusal}
use Prim.Native.Nat.{ℕ, ◌+◌}
use native.Mathlib.Omega.{arith}
use mathlib.Core.Path.{◌≡◌, refl, sym, ap, ◌∙◌}
use mathlib.Core.Bool.{Bool, true, false, not, cond, ◌&&◌, ◌||◌, or-false, or-true, false≢true}
use mathlib.Core.List.{List, [], ◌∷◌, ◌++◌}
use lib.ListN.{length, take}
use borrow.Author.Tests.{not-true}
use Rattle.figures.specs.Quote.{bytes}
use Rattle.text.specs.Judge.{judge}
use Rattle.text.proofs.Judging.{fine}
use Rattle.figures.proofs.Impossible.{impossible}
use Rattle.shapes.specs.Pattern.{low, high, fits, has_pattern, has_any, clash, clash_each, all_apart}
use Rattle.shapes.specs.Shape.{leading, split, parts_of, spellings}
use Rattle.shapes.proofs.Patterns.{both, or_right, neither, all-excluded}
use Rattle.record.specs.Missing.{is_missing}
use Rattle.places.specs.Engine.{Group, Place}
use Rattle.places.proofs.ReadBack.{All, chain, fill}
use Rattle.places.proofs.Sizes.{Sized, measured, sized-any, sized-each}
use Rattle.places.proofs.Kept.{Kept, keep_one, keep-none, keep-each}
use Rattle.record.specs.declared.aerodrome.Wind.{Wind}
use Rattle.record.specs.declared.aerodrome.Visibility.{Visibility}
use Rattle.record.specs.declared.aerodrome.Weather.{Weather}
use Rattle.record.specs.declared.aerodrome.Weathers.{Weathers}
use Rattle.record.specs.declared.aerodrome.Sky.{Sky}
use Rattle.record.specs.declared.aerodrome.Body.{Body}
use Rattle.record.specs.Body.{set_wind, set_visibility, set_weathers, set_nsw, set_sky, blank_wind, blank_visibility, blank_weather, blank_weathers, blank_sky}
use Rattle.record.specs.SilentAerodrome.{is_blank_wind, no_view}
use Rattle.record.proofs.AerodromeBlanks.{wind-blank, visibility-blank}
use Rattle.elements.specs.Parts.{then}
use Rattle.elements.specs.Wind.{wind_shape, show_wind, judge_wind, class_wind}
use Rattle.elements.specs.Visibility.{visibility_shapes, is_cavok, show_visibility, judge_visibility, class_visibility}
use Rattle.elements.specs.Weather.{codes_of, weather_cover, weather_spoken, has_weather, has_unknown, phenomena_fit, read_weather, with_weather, show_weather, show_weathers, judge_weather, three_fit, judge_weathers}
use Rattle.elements.specs.Sky.{layer_shape, alone_shapes, has_sky, read_sky, show_sky, class_sky}
use Rattle.elements.specs.Body.{Terms, left_out, wind_place, visibility_place, is_nsw, has_weather_or_nsw, with_nsw, beside_others, read_weather_or_nsw, show_weather_or_nsw, weather_place, sky_place, unless_absent, wind_judged, visibility_judged, nsw_agrees, weather_judged, sky_judged}
use Rattle.elements.proofs.Fills.{filled, filled-items}
use Rattle.wind.proofs.RoundTripWind.{wind-shaped, wind-back}
use Rattle.wind.proofs.RoundTripVisibility.{visibility-shaped, visibility-back}
use Rattle.weather.proofs.Covers.{weather-covered}
use Rattle.weather.proofs.RoundTrip.{weather-shaped, weather-back, weather-sized}
use Rattle.weather.proofs.Lists.{add_each as add_weathers, EachFine, weathers-each, weathers-back, weathers-all, weathers-three}
use Rattle.weather.proofs.Spoken.{weather-spoken}
use Rattle.sky.proofs.RoundTrip.{add_each as add_sky, sky-shaped, sky-few, sky-back}

-- ---- terms under which a body is written and read back

pub record Live (t : Terms) : Type 0 where
  -- it is no NIL report
  pub heard : t.silent ≡ false
  -- wind and visibility stand, or what is blank is left out
  pub stands : (t.forecast || t.required) ≡ true

-- what is left out is blank, in a forecast
pub left_out_lem : (t : Terms) → Live t → (z : Bool) → left_out t z ≡ true → (t.forecast ≡ true) × (z ≡ true)
left_out_lem t l z e = go t.forecast refl
  where
    go : (f : Bool) → t.forecast ≡ f → (t.forecast ≡ true) × (z ≡ true)
    go true q = (q, rw q at e)
    go false q = absurd (false≢true (sym l.heard ∙ (rw q at e)))

-- what is not left out is judged
pub stands-judged : (t : Terms) → Live t → (z : Bool) (j : Result ⊤ Refusal) → left_out t z ≡ false → unless_absent t z j ≡ Ok tt → j ≡ Ok tt
stands-judged t l false j o e = go t.required e
  where
    go : (r : Bool) → cond (not r && false) (Ok tt) j ≡ Ok tt → j ≡ Ok tt
    go true e = e
    go false e = e
stands-judged t l true j o e = go t.forecast t.required refl refl
  where
    go : (f r : Bool) → t.forecast ≡ f → t.required ≡ r → j ≡ Ok tt
    go true r p q = absurd (false≢true (sym (rw p at o)))
    go false true p q = rw q at e
    go false false p q = absurd (false≢true (rw (p, q) at l.stands))

-- what is absent where it would not be judged fine need not stand
absent-free : (t : Terms) (j : Result ⊤ Refusal) → unless_absent t true j ≡ Ok tt → (j ≡ Ok tt → ⊥) → t.required ≡ false
absent-free t j e wrong = go t.required refl
  where
    go : (r : Bool) → t.required ≡ r → t.required ≡ false
    go true q = absurd (wrong (rw q at e))
    go false q = q

-- ---- the room of a group

wind-measured : measured 15 (spellings (parts_of wind_shape)) ≡ true
unfolding low high leading split parts_of spellings
wind-measured = refl

sky-measured : measured 9 (spellings (parts_of layer_shape) ++ alone_shapes) ≡ true
unfolding low high leading split parts_of spellings
sky-measured = refl

-- ---- wind and visibility, which a change group may leave out

blank-wind-wrong : judge_wind true blank_wind ≡ Ok tt → ⊥
unfolding judge_wind
blank-wind-wrong e = impossible (cc)

blank-view-wrong : judge_visibility true blank_visibility ≡ Ok tt → ⊥
unfolding judge_visibility
blank-view-wrong e = impossible (cc)

set-wind : (x : Wind) (acc : Body) → acc.wind ≡ x → set_wind x acc ≡ acc
set-wind x acc e = rw (← e)

set-visibility : (x : Visibility) (acc : Body) → acc.visibility ≡ x → set_visibility x acc ≡ acc
set-visibility x acc e = rw (← e)

set-weathers : (x : Weathers) (acc : Body) → acc.weathers ≡ x → set_weathers x acc ≡ acc
set-weathers x acc e = rw (← e)

set-nsw : (x : Bool) (acc : Body) → acc.nsw ≡ x → set_nsw x acc ≡ acc
set-nsw x acc e = rw (← e)

set-sky : (x : Sky) (acc : Body) → acc.sky ≡ x → set_sky x acc ≡ acc
set-sky x acc e = rw (← e)

module _ (t : Terms) (l : Live t) (b acc : Body) where
  pub kept-wind : acc.wind ≡ blank_wind → wind_judged t b ≡ Ok tt → Kept (wind_place t) 15 b acc
  kept-wind bare e = go (left_out t (is_blank_wind b.wind)) refl
    where
      go : (o : Bool) → left_out t (is_blank_wind b.wind) ≡ o → Kept (wind_place t) 15 b acc
      go true o =
          let (f, z) = left_out_lem t l (is_blank_wind b.wind) o in
          let is = wind-blank b.wind z in
          keep-none (rw o) (absent-free t (judge_wind t.forecast b.wind) (rw z at e) (λ j. blank-wind-wrong (rw (f, is) at j)))
          (ap (λ (x : Wind). set_wind (class_wind x) acc) is ∙ set-wind blank_wind acc bare)
      go false o =
          let j = stands-judged t l (is_blank_wind b.wind) (judge_wind t.forecast b.wind) o e in
          let s = wind-shaped t.forecast b.wind j in
          keep_one (show_wind b.wind) (rw o) s.0 s.1 (sized-any 15 (spellings (parts_of wind_shape)) (show_wind b.wind) wind-measured s.1) (omega arith)
          (rw (wind-back t.forecast b.wind j))

  pub kept-visibility : acc.visibility ≡ blank_visibility → visibility_judged t b ≡ Ok tt → Kept (visibility_place t) 5 b acc
  unfolding low high
  kept-visibility bare e = go (left_out t (no_view b.visibility.is)) refl
    where
      go : (o : Bool) → left_out t (no_view b.visibility.is) ≡ o → Kept (visibility_place t) 5 b acc
      go true o =
          let (f, z) = left_out_lem t l (no_view b.visibility.is) o in
          let is = visibility-blank b.visibility z in
          keep-none (rw o) (absent-free t (judge_visibility t.forecast b.visibility) (rw z at e) (λ j. blank-view-wrong (rw (f, is) at j)))
          (ap (λ (x : Visibility). set_visibility (class_visibility x) acc) is ∙ set-visibility blank_visibility acc bare)
      go false o =
          let j = stands-judged t l (no_view b.visibility.is) (judge_visibility t.forecast b.visibility) o e in
          let s = visibility-shaped t.forecast b.visibility j in
          keep_one (show_visibility b.visibility) (rw o) s s (sized-any 5 visibility_shapes (show_visibility b.visibility) refl s) (omega arith)
          (rw (visibility-back t.forecast b.visibility j))

-- ---- clouds

module _ (t : Terms) (b acc : Body) (bare : acc.sky ≡ blank_sky) (seen : is_cavok acc.visibility ≡ is_cavok b.visibility) (four : length b.sky.layers ≡ 4)
    (e : sky_judged t b ≡ Ok tt) where
  sky-filled : fill (sky_place t) 0 (show_sky b.sky) acc ≡ Ok (set_sky (class_sky b.sky) acc)
  sky-filled =
      ap (fill (sky_place t) 0 (show_sky b.sky)) (sym (set-sky blank_sky acc bare))
      ∙ filled (sky_place t) set_sky acc (read_sky t.forecast (is_cavok acc.visibility)) (add_sky t.forecast (is_cavok acc.visibility))
      (λ k g s. refl) (λ k s. refl) (λ k g gs s. refl)
      (show_sky b.sky) blank_sky (class_sky b.sky) (rw seen (sky-back t.forecast (is_cavok b.visibility) b.sky four e))

  pub kept-sky : Kept (sky_place t) 9 b acc
  kept-sky =
      let s = sky-shaped t.forecast (is_cavok b.visibility) b.sky e in
      keep-each refl s
      (sized-each (λ g. has_sky g ≡ true) 9 (spellings (parts_of layer_shape) ++ alone_shapes) (show_sky b.sky) sky-measured s)
      (sky-few t.forecast (is_cavok b.visibility) b.sky e) sky-filled

-- ---- weather, or NSW alone

-- no weather is NSW
not-nsw : (g : Group) → has_weather g ≡ true → is_nsw g ≡ false
unfolding has_any low high clash clash_each all_apart codes_of
not-nsw g h = rw (or-false (has_pattern g (bytes "NSW"))) at (all-excluded g weather_cover (bytes "NSW" ∷ []) refl (weather-covered g h))

-- NSW before what weather speaks or is covered by
pub with-nsw : (ps : List (List ℕ)) (g : Group) → has_any ps g ≡ true → has_any (with_nsw ps) g ≡ true
unfolding has_any
with-nsw ps g h = or_right (has_pattern g (bytes "NSW")) (has_any ps g) h

-- weather is judged beside CAVOK and NSW, so that none stands there
beside-free : (forecast automatic beside : Bool) (x : Weather) → judge_weather forecast automatic beside x ≡ Ok tt → not beside ≡ true
unfolding judge_weather
beside-free forecast automatic beside x h =
    (both (not beside) (automatic || not (has_unknown x.is))
    (fine (phenomena_fit x.is || (not forecast && is_missing x.is)) (not beside && (automatic || not (has_unknown x.is))) h).1).0

module _ (forecast automatic : Bool) (ws : Weathers) (three : length ws.items ≡ 3) (e : judge_weathers (judge_weather forecast automatic true) ws ≡ Ok tt) where
  abbrev beside : Weather → Result ⊤ Refusal
  beside = judge_weather forecast automatic true

  none_beside : (show_weathers ws ≡ []) × (ws ≡ blank_weathers)
  unfolding show_weathers
  none_beside =
      let none = empty (take ws.count ws.items) (weathers-each beside ws e) in
      let back = weathers-back ws three (λ g. Ok blank_weather) show_weather beside (λ x h. absurd (false≢true (beside-free forecast automatic true x h))) e in
      (rw none, good (rw none at back))
    where
      empty : (l : List Weather) → EachFine beside l → l ≡ []
      empty [] a = refl
      empty (x ∷ l) a = absurd (false≢true (beside-free forecast automatic true x a.0))

      good : {x : Weathers} → ◌≡◌ {A = Result Weathers Refusal} (Ok blank_weathers) (Ok x) → x ≡ blank_weathers
      good e = cc

-- a place whose groups are read alike reads them alike
fill-same : (p q : Place Body) (gs : List Group) → All (λ g. (k : ℕ) (b : Body) → p.read k g b ≡ q.read k g b) gs → (k : ℕ) (acc : Body) → fill p k gs acc ≡ fill q k gs acc
fill-same p q [] a k acc = refl
fill-same p q (g ∷ gs) a k acc = rw (a.0 k acc) (go (λ b. fill-same p q gs a.1 _ b) (q.read k g acc))
  where
    go : ((b : Body) → fill p (k + 1) gs b ≡ fill q (k + 1) gs b) → (x : Result Body Refusal) → chain x (fill p (k + 1) gs) ≡ chain x (fill q (k + 1) gs)
    go rest (Ok b) = rest b
    go rest (Err f) = refl

module _ (t : Terms) (b acc : Body) (bare : acc.weathers ≡ blank_weathers) (off : acc.nsw ≡ false)
    (seen : is_cavok acc.visibility ≡ is_cavok b.visibility) (three : length b.weathers.items ≡ 3) where
  abbrev stood : Bool
  stood = is_cavok b.visibility || b.nsw

  abbrev test : Weather → Result ⊤ Refusal
  test = judge_weather t.forecast t.automatic stood

  abbrev reads_beside : Group → Result Weather Refusal
  reads_beside g = beside_others acc (read_weather t.forecast t.automatic g)

  -- the place as it reads weather alone
  abbrev alone : Place Body
  alone =
      record {
        has = has_weather_or_nsw;
        cover = [];
        spoken = [];
        most = 3;
        must = false;
        ends = false;
        read = λ k g b. then (beside_others b (read_weather t.forecast t.automatic g)) (λ x. Ok (set_weathers (with_weather k b.weathers x) b));
        show = show_weather_or_nsw;
        put = λ b acc. acc;
      }

  -- of the body only the visibility and NSW count
  beside_same : (ws : Weathers) (x : Result Weather Refusal) → beside_others (set_weathers ws acc) x ≡ beside_others acc x
  beside_same ws (Ok x) = refl
  beside_same ws (Err f) = refl

  weather-read : (x : Weather) → test x ≡ Ok tt → reads_beside (show_weather x) ≡ Ok x
  weather-read x h =
      let free = neither (is_cavok b.visibility) b.nsw (beside-free t.forecast t.automatic stood x h) in
      rw (weather-back t.forecast t.automatic stood x h, seen, free.0, off)

  weathers-filled : judge_weathers test b.weathers ≡ Ok tt → fill (weather_place t) 0 (show_weathers b.weathers) acc ≡ Ok (set_weathers b.weathers acc)
  unfolding show_weathers read_weather_or_nsw
  weathers-filled e =
      fill-same (weather_place t) alone (show_weathers b.weathers)
      (weathers-all show_weather test b.weathers e (λ g. (k : ℕ) (q : Body) → (weather_place t).read k g q ≡ alone.read k g q)
      (λ x h k q. rw (not-nsw (show_weather x) (weather-shaped t.forecast t.automatic stood x h)))) 0 acc
      ∙ ap (fill alone 0 (show_weathers b.weathers)) (sym (set-weathers blank_weathers acc bare))
      ∙ filled-items alone set_weathers acc reads_beside with_weather (add_weathers reads_beside)
      (λ k g ws. rw (beside_same ws (read_weather t.forecast t.automatic g))) (λ k ws. refl) (λ k g gs ws. refl)
      (show_weathers b.weathers) blank_weathers b.weathers (weathers-back b.weathers three reads_beside show_weather test weather-read e)

  kept-weathers : b.nsw ≡ false → judge_weathers test b.weathers ≡ Ok tt → Kept (weather_place t) 9 b acc
  unfolding show_weathers
  kept-weathers none e =
      keep-each refl
      (rw none
      (weathers-all show_weather test b.weathers e (λ g. (has_weather_or_nsw g ≡ true) × (has_any (with_nsw weather_spoken) g ≡ true))
      (λ x h.
      (or_right (is_nsw (show_weather x)) (has_weather (show_weather x)) (weather-shaped t.forecast t.automatic stood x h), with-nsw weather_spoken (show_weather x) (weather-spoken t.forecast t.automatic stood x h)))))
      (rw none
      (weathers-all show_weather test b.weathers e (Sized 9)
      (λ x h. let z = weather-sized t.forecast t.automatic stood x h in record { whole = z.0; allow = z.1; short = z.2 })))
      (rw none (weathers-three show_weather test b.weathers e three))
      (rw none (weathers-filled e ∙ ap Ok (sym (set-nsw false (set_weathers b.weathers acc) off))))

  kept-nsw : b.nsw ≡ true → t.may_nsw ≡ true → is_cavok b.visibility ≡ false → judge_weathers (judge_weather t.forecast t.automatic true) b.weathers ≡ Ok tt
      → Kept (weather_place t) 9 b acc
  unfolding read_weather_or_nsw has_any has_pattern fits low high
  kept-nsw is may sky e =
      let none = none_beside t.forecast t.automatic b.weathers three e in
      keep_one (bytes "NSW") (rw (is, none.0)) refl refl (sized-any 9 (bytes "NSW" ∷ []) (bytes "NSW") refl refl) (omega arith)
      (rw (may, seen, sky, is, none.1) (ap (λ (q : Body). Ok (set_nsw true q)) (sym (set-weathers blank_weathers acc bare))))

  -- what is judged of it
  weather-judged : weather_judged t b ≡ Ok tt → (nsw_agrees t b ≡ true) × (judge_weathers test b.weathers ≡ Ok tt)
  weather-judged e = go (nsw_agrees t b) e
    where
      go : (u : Bool) → cond u (judge_weathers test b.weathers) (judge (three_fit b.weathers) false) ≡ Ok tt
          → (u ≡ true) × (judge_weathers test b.weathers ≡ Ok tt)
      go true e = (refl, e)
      go false e = absurd (false≢true (fine (three_fit b.weathers) false e).1)

  pub kept-weather : weather_judged t b ≡ Ok tt → Kept (weather_place t) 9 b acc
  kept-weather e = go b.nsw refl
    where
      go : (n : Bool) → b.nsw ≡ n → Kept (weather_place t) 9 b acc
      go false n = kept-weathers n (weather-judged e).1
      go true n =
          let j = weather-judged e in
          let a = both t.may_nsw (not (is_cavok b.visibility)) (rw n at j.0) in
          kept-nsw n a.0 (not-true (is_cavok b.visibility) a.1) (rw (n, or-true (is_cavok b.visibility)) at j.1)
