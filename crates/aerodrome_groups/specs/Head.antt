-- The head's groups: a word that stands or does not (COR, NIL, AUTO, CNL), the station and the time, CCCC and YYGGggZ: "Days 01-31, minutes 00-59,
-- .. others 00-23". Each is a place of its own, which the rows of METAR and TAF lift.
-- Assumes nothing: these are definitions.
use Rattle.std.specs.Prelude.{⊤, ℕ, Bool, true, false, cond, ◌&&◌, [], ◌∷◌, ◌++◌, length, take, replicate, leb, eqb, None, Ok, Option, Result, Some}
use Rattle.text.specs.declared.kinds.Refusal.{Refusal}
use Prim.Native.String.{String}
use Rattle.figures.specs.Quote.{bytes}
use Rattle.figures.specs.declared.kinds.Field.{Field}
use Rattle.figures.specs.declared.kinds.Field.TheVariants as field
use Rattle.figures.specs.Figures.{field_at, field_text, is_letter, every}
use Rattle.text.specs.Judge.{judge}
use Rattle.shapes.specs.Pattern.{Pattern, has_pattern}
use Rattle.places.specs.Engine.{Group, Place}
use Rattle.record.specs.declared.aerodrome.Instant.{Instant}
use Rattle.record.specs.declared.aerodrome.Station.{Station}
use Rattle.record.specs.Missing.{present}
use Rattle.elements.specs.Parts.{figured, provided}

abbrev pub station_shape : Pattern
station_shape = bytes "@@@@"

-- the four letters; a shorter group has blanks after it
unfoldable pub station_of : Group → Station
station_of g = record { letters = take 4 (g ++ replicate 4 0) }

abbrev pub time_shape : Pattern
time_shape = bytes "######Z"

abbrev pub is_day : ℕ → Bool
is_day d = leb 1 d && leb d 31

abbrev pub is_hour : ℕ → Bool
is_hour h = leb h 23

abbrev pub is_minute : ℕ → Bool
is_minute m = leb m 59

unfoldable pub read_time : Group → Result Instant Refusal
read_time g =
    figured (field_at g 0 2)
    (λ d. figured (field_at g 2 2)
    (λ h. figured (field_at g 4 2)
    (λ m. provided (is_day d && is_hour h && is_minute m) (Ok (record { day = Some d; hour = Some h; minute = Some m })))))

-- ---- writing

abbrev pub field_of : Option ℕ → Field
field_of None = field.Missing
field_of (Some n) = field.Number n

unfoldable pub show_time : Instant → Group
show_time t = field_text 2 (field_of t.day) ++ field_text 2 (field_of t.hour) ++ field_text 2 (field_of t.minute) ++ bytes "Z"

-- ---- judging: a station has four letters, and a time is there

unfoldable pub judge_station : Station → Result ⊤ Refusal
judge_station s = judge (eqb (length s.letters) 4 && every is_letter s.letters) true

abbrev pub instant_fits : Instant → Bool
instant_fits t = present is_day t.day && present is_hour t.hour && present is_minute t.minute

unfoldable pub judge_time : Instant → Result ⊤ Refusal
judge_time t = judge (instant_fits t) true

-- ---- the places

-- a word; whether it ends the report
abbrev pub word_place : String → Bool → Place Bool
word_place w ends =
    record {
      has = λ g. has_pattern g (bytes w);
      cover = bytes w ∷ [];
      spoken = bytes w ∷ [];
      most = 1;
      must = false;
      ends = ends;
      read = λ k g x. Ok true;
      show = λ x. cond x (bytes w ∷ []) [];
      put = λ x acc. x;
    }

abbrev pub station_place : Place Station
station_place =
    record {
      has = λ g. has_pattern g station_shape;
      cover = station_shape ∷ [];
      spoken = station_shape ∷ [];
      most = 1;
      must = true;
      ends = false;
      read = λ k g s. Ok (station_of g);
      show = λ s. s.letters ∷ [];
      put = λ s acc. s;
    }

abbrev pub time_place : Place Instant
time_place =
    record {
      has = λ g. has_pattern g time_shape;
      cover = time_shape ∷ [];
      spoken = time_shape ∷ [];
      most = 1;
      must = true;
      ends = false;
      read = λ k g t. read_time g;
      show = λ t. show_time t ∷ [];
      put = λ t acc. t;
    }
