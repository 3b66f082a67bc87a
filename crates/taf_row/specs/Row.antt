-- A TAF's parts as rows of places: "TAF, [AMD or COR], CCCC, YYGGggZ, NIL (end) or YYGG/YYGG, CNL (end) or wind, visibility or CAVOK, up to 3 weather,
-- 4 cloud and 16 change groups". A change group's part has the same places, those of the head closed, so that a group of an earlier place is refused 6.
-- The edition decides how a period and FM are written: in that of 2005 "the period as Y1Y1G1G1G2G2, G2 01 to 24, or 51 to 74 when it lasts 25 to 48
-- hours; change periods as GGGeGe, GG 00 to 23 and Ge 01 to 24; FMGGgg. Document 01's other TAF rules hold." (document 02, No. 9)
-- Assumes nothing: these are definitions.
use Rattle.std.specs.Prelude.{ℕ, Bool, true, false, not, ◌&&◌, ◌||◌, cond, List, [], ◌∷◌, ◌++◌, leb, None, Ok, Result, Some}
use Rattle.text.specs.declared.kinds.Refusal.{Refusal}
use Prim.Native.String.{String}
use Rattle.figures.specs.Quote.{bytes}
use Rattle.figures.specs.Figures.{field_at, field_text}
use Rattle.shapes.specs.Pattern.{Pattern, has_pattern}
use Rattle.places.specs.Engine.{Group, Place}
use Rattle.places.specs.Lift.{lift, open_in}
use Rattle.record.specs.declared.aerodrome.Correction.{Correction}
use Rattle.record.specs.declared.aerodrome.Correction.TheVariants as correction
use Rattle.record.specs.declared.aerodrome.Instant.{Instant}
use Rattle.record.specs.declared.aerodrome.Period.{Period}
use Rattle.record.specs.declared.aerodrome.Body.{Body}
use Rattle.record.specs.declared.aerodrome.Leg.{Leg}
use Rattle.record.specs.declared.aerodrome.Edition.{Edition}
use Rattle.record.specs.declared.aerodrome.Edition.TheVariants as edition
use Rattle.record.specs.Missing.{between}
use Rattle.record.specs.Taf.{set_correction, set_station, set_time, set_nil, set_period, set_cancelled, set_body}
use Rattle.elements.specs.Parts.{figured, provided, then}
use Rattle.elements.specs.Body.{Terms, wind_place, visibility_place, weather_place, sky_place, has_element}
use Rattle.aerodrome_groups.specs.Head.{word_place, station_place, time_place, field_of, is_day, is_hour}
use Rattle.taf_row.specs.declared.kinds.Part.{Part}
use Rattle.taf_row.specs.declared.kinds.Part.TheVariants as part
use Rattle.taf_row.specs.declared.kinds.Form.{Form}
use Rattle.taf_row.specs.declared.kinds.Form.TheVariants as form

-- ---- where a part stands

abbrev pub is_main : Part → Bool
is_main part.Main = true
is_main part.Changing = false
is_main part.From = false

-- wind and visibility are required in the main part and under FM
abbrev pub is_whole : Part → Bool
is_whole part.Main = true
is_whole part.Changing = false
is_whole part.From = true

-- a change's period stands under a change word other than FM
abbrev pub is_changing : Part → Bool
is_changing part.Main = false
is_changing part.Changing = true
is_changing part.From = false

-- "A change body needs one element"
abbrev pub element_stands : Part → Body → Bool
element_stands w b = is_main w || has_element b

-- the body of a forecast: no missing forms, no UP, wind and visibility required in the main part and under FM, NSW "only in change bodies"
abbrev pub forecast_in : Part → Terms
forecast_in w = record { forecast = true; required = is_whole w; may_nsw = not (is_main w); automatic = false; silent = false }

-- ---- places

-- for one group: its shape and the patterns that cover it, whether it must stand; how it is read, how it is written and what it is read back as
abbrev pub place_for : (Group → Bool) → List Pattern → Bool → (Group → Leg → Result Leg Refusal) → (Leg → List Group) → (Leg → Leg → Leg) → Place Leg
place_for has cover must read show put =
    record { has = has; cover = cover; spoken = cover; most = 1; must = must; ends = false; read = λ k g r. read g r; show = show; put = put }

abbrev pub of_body : Place Body → Place Leg
of_body p = lift (λ (r : Leg). r.body) set_body p

abbrev pub word : String → Group → Bool
word w g = has_pattern g (bytes w)

abbrev pub onto : {A : Type 0} → Result A Refusal → (A → Leg → Leg) → Leg → Result Leg Refusal
onto x f r = then x (λ a. Ok (f a r))

-- ---- AMD and COR

abbrev pub is_correction : Group → Bool
is_correction g = word "AMD" g || word "COR" g

abbrev pub correction_of : Group → Correction
correction_of g = cond (word "AMD" g) correction.Amended correction.Corrected

abbrev pub show_correction : Correction → List Group
show_correction correction.None = []
show_correction correction.Amended = bytes "AMD" ∷ []
show_correction correction.Corrected = bytes "COR" ∷ []

-- ---- periods: YYGG/YYGG, Y1Y1G1G1G2G2, GGGeGe

-- the report's own
abbrev pub own_form : Edition → Form
own_form edition.Present = form.BothDays
own_form edition.Of2005 = form.FirstDay

-- a change's
abbrev pub change_form : Edition → Form
change_form edition.Present = form.BothDays
change_form edition.Of2005 = form.NoDay

abbrev pub period_shape : Form → Pattern
period_shape form.BothDays = bytes "####/####"
period_shape form.FirstDay = bytes "######"
period_shape form.NoDay = bytes "####"

-- "Days 01-31, .. end hours 00-24, others 00-23."; in the 2005 edition "G2 01 to 24, or 51 to 74", "Ge 01 to 24"
abbrev pub is_end_hour : Form → ℕ → Bool
is_end_hour form.BothDays h = leb h 24
is_end_hour form.FirstDay h = between 1 24 h || between 51 74 h
is_end_hour form.NoDay h = between 1 24 h

abbrev pub hour_of : ℕ → ℕ → Instant
hour_of d h = record { day = Some d; hour = Some h; minute = None }

-- without its day
abbrev pub hour_alone : ℕ → Instant
hour_alone h = record { day = None; hour = Some h; minute = None }

unfoldable pub read_period : Form → Group → Result Period Refusal
read_period form.BothDays g =
    figured (field_at g 0 2)
    (λ d. figured (field_at g 2 2)
    (λ h. figured (field_at g 5 2)
    (λ e. figured (field_at g 7 2)
    (λ k. provided (is_day d && is_hour h && is_day e && is_end_hour form.BothDays k) (Ok (record { from = hour_of d h; to = hour_of e k }))))))
read_period form.FirstDay g =
    figured (field_at g 0 2)
    (λ d. figured (field_at g 2 2)
    (λ h. figured (field_at g 4 2)
    (λ k. provided (is_day d && is_hour h && is_end_hour form.FirstDay k) (Ok (record { from = hour_of d h; to = hour_alone k })))))
read_period form.NoDay g =
    figured (field_at g 0 2)
    (λ h. figured (field_at g 2 2)
    (λ k. provided (is_hour h && is_end_hour form.NoDay k) (Ok (record { from = hour_alone h; to = hour_alone k }))))

abbrev pub show_hour : Instant → List ℕ
show_hour t = field_text 2 (field_of t.day) ++ field_text 2 (field_of t.hour)

abbrev pub show_hour_alone : Instant → List ℕ
show_hour_alone t = field_text 2 (field_of t.hour)

unfoldable pub show_period : Form → Period → Group
show_period form.BothDays p = show_hour p.from ++ bytes "/" ++ show_hour p.to
show_period form.FirstDay p = show_hour p.from ++ show_hour_alone p.to
show_period form.NoDay p = show_hour_alone p.from ++ show_hour_alone p.to

-- a NIL report has none
abbrev pub period_place : Form → Place Leg
period_place f =
    place_for (λ g. has_pattern g (period_shape f)) (period_shape f ∷ []) true (λ g r. onto (read_period f g) set_period r)
    (λ r. cond r.nil [] (show_period f r.period ∷ [])) (λ r acc. set_period r.period acc)

-- ---- the rows

unfoldable pub row : Edition → Part → List (Place Leg)
row e w =
    open_in (is_main w) (place_for (word "TAF") (bytes "TAF" ∷ []) true (λ g r. Ok r) (λ r. bytes "TAF" ∷ []) (λ r acc. acc))
    ∷ open_in (is_main w) (place_for is_correction (bytes "AMD" ∷ bytes "COR" ∷ []) false (λ g r. Ok (set_correction (correction_of g) r))
    (λ r. show_correction r.correction) (λ r acc. set_correction r.correction acc))
    ∷ open_in (is_main w) (lift (λ (r : Leg). r.station) set_station station_place)
    ∷ open_in (is_main w) (lift (λ (r : Leg). r.time) set_time time_place)
    ∷ open_in (is_main w) (lift (λ (r : Leg). r.nil) set_nil (word_place "NIL" true))
    ∷ open_in (is_main w) (period_place (own_form e))
    ∷ open_in (is_changing w) (period_place (change_form e))
    ∷ open_in (is_main w) (lift (λ (r : Leg). r.cancelled) set_cancelled (word_place "CNL" true))
    ∷ of_body (wind_place (forecast_in w))
    ∷ of_body (visibility_place (forecast_in w))
    ∷ of_body (weather_place (forecast_in w))
    ∷ of_body (sky_place (forecast_in w))
    ∷ []

-- FMYYGGgg, FMGGgg
abbrev pub from_shape : Edition → Pattern
from_shape edition.Present = bytes "FM######"
from_shape edition.Of2005 = bytes "FM####"

-- "BECMG, TEMPO, PROB30, PROB40, PROB TEMPO, each with YYGG/YYGG, or FMYYGGgg. A change group opens a body and a body runs to the next change group."
unfoldable pub change_words : Edition → List Pattern
change_words e = bytes "BECMG" ∷ bytes "TEMPO" ∷ bytes "PROB##" ∷ from_shape e ∷ []
