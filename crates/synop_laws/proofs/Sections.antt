-- Section 1 after Nddff, and section 3, as a whole: what is written of a surface and a section 3 that are judged fine is read back as their classes.
-- Assumes nothing.
use Rattle.std.specs.Prelude.{None, Ok}
use Prim.Native.Nat.{ℕ, ◌≤◌, ◌<◌}
use Prim.Native.String.{String}
use native.Mathlib.Omega.{arith}
use mathlib.Core.Path.{◌≡◌, refl, sym, ap, ◌∙◌}
use mathlib.Core.Bool.{Bool, true, false, not, false≢true}
use mathlib.Core.List.{List, [], ◌∷◌, ◌++◌, append-nil}
use mathlib.Core.Logic.{⊎_elim}
use lib.ListN.{length, replicate}
use borrow.Author.Tests.{le-leb, lt-leb}
use Rattle.figures.specs.Quote.{bytes}
use Rattle.text.specs.Groups.{Piece}
use Rattle.text.proofs.Judging.{and-then}
use Rattle.shapes.specs.Pattern.{Pattern, low, high, fits, has_pattern, has_any}
use Rattle.places.specs.Engine.{Group, Done, Place, written, put_all}
use Rattle.places.specs.Parts.{Opens}
use Rattle.places.proofs.ReadBack.{All, one-pattern, Served, groups_of, stops_any, plain}
use Rattle.places.proofs.Sizes.{measured, sized-each, Sizes}
use Rattle.places.proofs.Kept.{Kept, KeptRow, done, more, kept-spoken, kept-sizes}
use Rattle.places.proofs.Parts.{Saying, KeptPart, unjoined, Opening, one as one_word, Last, LastAll, KeptAll, said_all, taken_all, report-back}
use Rattle.scales.proofs.Laws.{reached}
use Rattle.record.specs.declared.values.Speed.{Speed}
use Rattle.record.specs.declared.values.Speed.TheVariants as speed
use Rattle.record.specs.declared.surface.Surface.{Surface}
use Rattle.record.specs.declared.surface.Synop.{Synop}
use Rattle.record.specs.declared.surface.Section3.{Section3}
use Rattle.record.specs.Set.{set_surface, set_section3}
use Rattle.record.specs.Blank.{blank_surface, blank_section3}
use Rattle.synop_groups.specs.declared.kinds.Said.{Said}
use Rattle.synop_groups.specs.Classes.{class_indicators, class_wind, class_rainfall}
use Rattle.synop_groups.specs.Shows.{is_in_three, speed_group, show_speed, show_air, show_minimum}
use Rattle.synop_groups.specs.Judge.{judge_wind, judge_air, judge_moisture, judge_pressure, judge_level, judge_tendency, judge_rainfall, judge_weather, judge_clouds, judge_clock}
use Rattle.synop_groups.specs.Classes.{speed_in_two, wind_in_two}
use Rattle.synop_groups.proofs.RoundTrip.{Back, none, one, Each, back-shaped, meant_speed, speed-back, air-back, moisture-back, moisture-covered, pressure-back, level-back, tendency-back, rainfall-back, weather-back, clouds-back, clock-back, rainfall-again, rainfall-classed}
use Rattle.synop_row.specs.declared.kinds.Needs.{Needs}
use Rattle.synop_row.specs.Row.{needs_of, set_speed, with_said, place_for, row, stop_words, section3_word}
use Rattle.synop_row.proofs.Sound.{row-sound, row-covered}
use Rattle.section3.specs.Row.{show_layers, row as row3}
use Rattle.section3.specs.Step.{Opened}
use Rattle.section3.specs.Write.{judge_section3, is_silent, show_section3, class_section3}
use Rattle.section3.proofs.Section3Back.{kept-section3, put-section3, silent-blank}
use Rattle.synop_section.specs.Answer.{word_of, first_part, parts, section}
use Rattle.synop.specs.Write.{judge_section}

-- ---- what the row owes, place by place

-- a place that ends no report, and those after it
then : {n : ℕ} {ns : List ℕ} {p : Place Surface} {ps : List (Place Surface)} {s acc : Surface} → Kept p n s acc → p.ends ≡ false
    → KeptRow ns ps s (p.put s acc) → KeptRow (n ∷ ns) (p ∷ ps) s acc
then k lasts ks = more k (rw lasts) ks

-- groups that have the shape and fit the spoken patterns
each_all : (P Q : Group → Type 0) (gs : List Group) → Each P gs → Each Q gs → All (λ g. P g × Q g) gs
each_all P Q [] h j = tt
each_all P Q (g ∷ gs) h j = ((h.0, j.0), each_all P Q gs h.1 j.1)

-- A place for one group of five keeps what is written there: the group that stands says the part, and without one the part is blank.
module _ {X : Type 0} (shape : String) {must : Bool} {says : Group → Said} {meant : X → Said} {blank x : X} where
  serves : {gs : List Group} (spoken : List Pattern) (show : Surface → List Group) (put : Surface → Surface → Surface) (acc after : Surface)
      → Back (bytes shape) must says meant blank x gs → (0 < length gs → with_said (meant x) acc ≡ Ok after) → (x ≡ blank → acc ≡ after)
      → Served (place_for shape spoken must says show put) gs acc after
  serves spoken show put acc after (none m e) full empty =
      record { few = omega arith; there = λ t. absurd (false≢true (sym m ∙ t)); reads = ap Ok (empty e) }
  serves spoken show put acc after (one {g} h r) full empty =
      record { few = omega arith; there = λ t. omega arith; reads = rw (r, full (omega arith)) }

  keep : {spoken : List Pattern} {show : Surface → List Group} {put : Surface → Surface → Surface} {s acc : Surface} → measured 5 spoken ≡ true
      → Back (bytes shape) must says meant blank x (show s) → Each (λ g. has_any spoken g ≡ true) (show s)
      → (0 < length (show s) → with_said (meant x) acc ≡ Ok (put s acc)) → (x ≡ blank → acc ≡ put s acc)
      → Kept (place_for shape spoken must says show put) 5 s acc
  keep {spoken} {show} {put} {s} {acc} five b spoke full empty =
      let shaped = each_all (λ g. has_pattern g (bytes shape) ≡ true) (λ g. has_any spoken g ≡ true) (show s) (back-shaped b) spoke in
      record {
        shaped = shaped;
        sized = sized-each (λ g. has_pattern g (bytes shape) ≡ true) 5 spoken (show s) five shaped;
        served = serves spoken show put acc (put s acc) b full empty;
      }

  -- a place that speaks its own shape
  speaks : {gs : List Group} → Back (bytes shape) must says meant blank x gs → Each (λ g. has_any (bytes shape ∷ []) g ≡ true) gs
  speaks (none m e) = tt
  speaks (one {g} h r) = (one-pattern (bytes shape) g h, tt)

-- ---- what is judged fine

-- the surface as Nddff leaves it, and as the whole section leaves it
abbrev pub begun_surface : Surface → Surface
begun_surface s =
    record {
      indicators = class_indicators s.indicators;
      wind = wind_in_two s.wind;
      air = blank_surface.air;
      moisture = blank_surface.moisture;
      pressure = blank_surface.pressure;
      level = blank_surface.level;
      tendency = blank_surface.tendency;
      rainfall = blank_surface.rainfall;
      weather = blank_surface.weather;
      clouds = blank_surface.clouds;
      clock = blank_surface.clock;
    }

abbrev pub classed_surface : Surface → Surface
classed_surface s =
    record {
      indicators = class_indicators s.indicators;
      wind = class_wind s.wind;
      air = s.air;
      moisture = s.moisture;
      pressure = s.pressure;
      level = s.level;
      tendency = s.tendency;
      rainfall = class_rainfall s.rainfall;
      weather = s.weather;
      clouds = s.clouds;
      clock = s.clock;
    }

pub put-row : (s : Surface) → put_all (row (needs_of s)) s (begun_surface s) ≡ classed_surface s
unfolding row
put-row s = refl

-- each group of section 1 is judged fine
record Fine (n : Needs) (s : Surface) : Type 0 where
  air : judge_air s.air ≡ Ok tt
  moisture : judge_moisture s.moisture ≡ Ok tt
  pressure : judge_pressure s.pressure ≡ Ok tt
  level : judge_level s.level ≡ Ok tt
  tendency : judge_tendency s.tendency ≡ Ok tt
  rainfall : judge_rainfall (not n.rain) s.rainfall ≡ Ok tt
  weather : judge_weather (not n.weather) s.weather ≡ Ok tt
  clouds : judge_clouds s.clouds ≡ Ok tt
  clock : judge_clock s.clock ≡ Ok tt

section-fine : (n : Needs) (s : Surface) → judge_section n s ≡ Ok tt → Fine n s
unfolding judge_section
section-fine n s e =
    let a = and-then (judge_air s.air) _ e in
    let m = and-then (judge_moisture s.moisture) _ a.1 in
    let p = and-then (judge_pressure s.pressure) _ m.1 in
    let l = and-then (judge_level s.level) _ p.1 in
    let t = and-then (judge_tendency s.tendency) _ l.1 in
    let r = and-then (judge_rainfall (not n.rain) s.rainfall) _ t.1 in
    let w = and-then (judge_weather (not n.weather) s.weather) _ r.1 in
    let c = and-then (judge_clouds s.clouds) _ w.1 in
    record {
      air = a.0;
      moisture = m.0;
      pressure = p.0;
      level = l.0;
      tendency = t.0;
      rainfall = r.0;
      weather = w.0;
      clouds = c.0;
      clock = c.1;
    }

speed-meant : (x : Speed) (s : Surface) → 0 < length (speed_group x) → with_said (meant_speed x) s ≡ Ok (set_speed x s)
unfolding with_said
speed-meant speed.Missing s h = absurd (omega arith)
speed-meant (speed.Is n) s h = refl
speed-meant (speed.Above n) s h = absurd (omega arith)

-- groups of at most five bytes at each of the ten places
abbrev fives : List ℕ
fives = replicate 10 5

pub kept_row : (s : Surface) → judge_wind s.wind ≡ Ok tt → judge_section (needs_of s) s ≡ Ok tt → KeptRow fives (row (needs_of s)) s (begun_surface s)
unfolding row needs_of with_said show_speed low high
kept_row s w e =
    let f = section-fine (needs_of s) s e in
    let speed = speed-back s.wind w in
    let air = air-back s.air f.air in
    let moisture = moisture-back s.moisture f.moisture in
    let pressure = pressure-back s.pressure f.pressure in
    let level = level-back s.level f.level in
    let tendency = tendency-back s.tendency f.tendency in
    let rainfall = rainfall-back (needs_of s).rain s.rainfall f.rainfall in
    let weather = weather-back (needs_of s).weather s.weather f.weather in
    let clouds = clouds-back s.clouds f.clouds in
    let clock = clock-back s.clock f.clock in
    then (keep "00###" refl speed (speaks "00###" speed) (speed-meant s.wind.speed _) (λ e. rw (← e))) refl
    (then (keep "1####" refl air (speaks "1####" air) (λ h. refl) (λ e. rw e)) refl
    (then (keep "2####" refl moisture (moisture-covered s.moisture f.moisture) (λ h. refl) (λ e. rw e)) refl
    (then (keep "3####" refl pressure (speaks "3####" pressure) (λ h. refl) (λ e. rw e)) refl
    (then (keep "4####" refl level (speaks "4####" level) (λ h. refl) (λ e. rw e)) refl
    (then (keep "5####" refl tendency (speaks "5####" tendency) (λ h. refl) (λ e. rw e)) refl
    (then (keep "6####" refl rainfall (speaks "6####" rainfall) (λ h. refl) (λ e. rw e)) refl
    (then (keep "7####" refl weather (speaks "7####" weather) (λ h. refl) (λ e. rw e)) refl
    (then (keep "8####" refl clouds (speaks "8####" clouds) (λ h. refl) (λ e. rw e)) refl
    (then (keep "9####" refl clock (speaks "9####" clock) (λ h. refl) (λ e. rw e)) refl done)))))))))

-- ---- section 1 as a whole

-- what Nddff leaves requires the same groups
three-kept : (x : Speed) → is_in_three (speed_in_two x) ≡ is_in_three x
three-kept speed.Missing = refl
three-kept (speed.Above s) = refl
three-kept (speed.Is s) = ⊎_elim (λ h. rw (le-leb 99 s h)) (λ h. rw (lt-leb 99 s h, lt-leb 99 s h)) (reached 99 s)

pub needs-kept : (s : Surface) → needs_of (begun_surface s) ≡ needs_of s
unfolding needs_of
needs-kept s = rw (three-kept s.wind.speed)

-- the first part of a report keeps the surface
first-kept : (s : Surface) (takes : Surface → Synop) → judge_wind s.wind ≡ Ok tt → judge_section (needs_of s) s ≡ Ok tt
    → KeptPart (first_part (needs_of s) takes) s (begun_surface s)
first-kept s takes w e =
    let k = kept_row s w e in
    record {
      words = stop_words;
      sizes = fives;
      some = unfold row in omega arith;
      told = row-sound (needs_of s);
      covered = row-covered (needs_of s);
      kept = k;
      plain = plain stop_words (row (needs_of s)) s (row-sound (needs_of s)) (kept-spoken k);
      whole = refl;
    }

-- nothing in it ends the report
first-lasts : (n : Needs) (s : Surface) → stops_any (row n) s ≡ false
unfolding row
first-lasts n s = refl

-- what section 3 says after 333
abbrev third : Section3 → Saying Section3 Opened
third x = record { words = section3_word ∷ []; kind = tt; start = blank_section3; said = x }

third-stops : has_any stop_words section3_word ≡ true
unfolding stop_words has_any has_pattern fits low high
third-stops = refl

third-opens : word_of section3_word ≡ Opens (Ok (record { kind = tt; start = blank_section3 }))
unfolding has_pattern fits low high
third-opens = refl

unjoined-third : (its : List Group) → unjoined parts tt its ≡ true
unjoined-third [] = refl
unjoined-third (g ∷ gs) = refl

module _ (s : Surface) (r : Synop) (end : ℕ) (gs : List Piece) (w : judge_wind s.wind ≡ Ok tt) (e : judge_section (needs_of s) s ≡ Ok tt) where
  abbrev takes : Surface → Synop
  takes u = set_surface u r

  -- with so much said after section 1
  module _ (xs : List (Saying Section3 Opened)) (few : length xs ≤ 1) (last : Last parts (first_part (needs_of s) takes) s xs)
      (kept : KeptAll parts (has_any stop_words) (λ t g. word_of g) (set_surface (classed_surface s) r) xs) (lasts : LastAll parts (set_surface (classed_surface s) r) xs)
      (are : groups_of gs ≡ written (row (needs_of s)) s ++ said_all parts (set_surface (classed_surface s) r) xs) where
    both-back : section (set_surface (begun_surface s) r) None end gs ≡ Done end (taken_all parts (set_surface (classed_surface s) r) xs)
    unfolding section row
    both-back =
        rw (needs-kept s) (report-back parts xs end 1 (first_part (needs_of s) takes) s (begun_surface s) gs (first-kept s takes w e) last kept lasts few are)

-- SECTION 1 AND SECTION 3 THAT ARE JUDGED FINE ARE READ BACK, from any pieces that hold their groups.
module _ (s : Surface) (x : Section3) (r : Synop) (end : ℕ) (gs : List Piece) (blank : r.section3 ≡ blank_section3) (w : judge_wind s.wind ≡ Ok tt)
    (e : judge_section (needs_of s) s ≡ Ok tt) (four : length x.layers.items ≡ 4) (f : judge_section3 x ≡ Ok tt)
    (are : groups_of gs ≡ written (row (needs_of s)) s ++ show_section3 x) where
  abbrev report : Synop
  report = set_surface (classed_surface s) r

  -- nothing is written of a section that has nothing to say
  none_written : show_section3 blank_section3 ≡ []
  unfolding show_section3 row3 show_air show_minimum show_layers
  none_written = refl

  silent : is_silent x ≡ true → section (set_surface (begun_surface s) r) None end gs ≡ Done end (set_section3 (class_section3 x) report)
  silent h =
      let b = silent-blank x four f h in
      both-back s r end gs w e [] (omega arith) tt tt tt (are ∙ ap (λ (l : List Group). written (row (needs_of s)) s ++ l) (ap show_section3 b ∙ none_written))
      ∙ ap (Done end) (rw (b, blank))

  some_written : is_silent x ≡ false → show_section3 x ≡ (section3_word ∷ []) ++ (written row3 x ++ [])
  unfolding show_section3
  some_written h = rw (h, append-nil (written row3 x))

  opens : Opening parts (has_any stop_words) (λ t g. word_of g) report tt blank_section3 (written row3 x ++ []) (section3_word ∷ [])
  opens = one_word third-stops third-opens (unjoined-third (written row3 x ++ []))

  spoken : is_silent x ≡ false → section (set_surface (begun_surface s) r) None end gs ≡ Done end (set_section3 (class_section3 x) report)
  spoken h =
      both-back s r end gs w e (third x ∷ []) (omega arith) (first-lasts (needs_of s) s) (opens, kept-section3 x four f (λ u. set_section3 u report), tt) (tt, tt)
      (are ∙ ap (λ (l : List Group). written (row (needs_of s)) s ++ l) (some_written h))
      ∙ ap (λ (u : Section3). Done end (set_section3 u report)) (put-section3 x)

  pub section-back : section (set_surface (begun_surface s) r) None end gs ≡ Done end (set_section3 (class_section3 x) report)
  section-back = go (is_silent x) refl
    where
      go : (b : Bool) → is_silent x ≡ b → section (set_surface (begun_surface s) r) None end gs ≡ Done end (set_section3 (class_section3 x) report)
      go true h = silent h
      go false h = spoken h

-- They take at most sixty bytes.
pub section-sizes : (s : Surface) → judge_wind s.wind ≡ Ok tt → judge_section (needs_of s) s ≡ Ok tt → Sizes 60 (written (row (needs_of s)) s)
section-sizes s w e = unfold row in kept-sizes (kept_row s w e)

-- The surface that is read back is written alike, and judged fine.
pub section-again : (s : Surface) → judge_section (needs_of s) s ≡ Ok tt
    → written (row (needs_of (classed_surface s))) (classed_surface s) ≡ written (row (needs_of s)) s
unfolding row needs_of show_speed
section-again s e =
    rw (rainfall-again (needs_of s).rain (not (needs_of s).rain) s.rainfall (section-fine (needs_of s) s e).rainfall)

pub section-classed : (s : Surface) → judge_section (needs_of s) s ≡ Ok tt → judge_section (needs_of (classed_surface s)) (classed_surface s) ≡ Ok tt
unfolding judge_section needs_of
section-classed s e =
    let f = section-fine (needs_of s) s e in
    rw (
      f.air,
      f.moisture,
      f.pressure,
      f.level,
      f.tendency,
      rainfall-classed (not (needs_of s).rain) s.rainfall f.rainfall,
      f.weather,
      f.clouds,
      f.clock,
    )
