-- A weather group in its parts, by position: its sign or VC, its descriptor, and how long they are.
-- Assumes nothing: these are definitions.
use Rattle.std.specs.Prelude.{ℕ, cond, ◌&&◌, List, [], ◌∷◌, get_or, eqb, Ok, Result, None, Option, Some}
use Rattle.text.specs.declared.kinds.Refusal.{Refusal}
use Rattle.places.specs.Engine.{Group}
use Rattle.record.specs.declared.aerodrome.Intensity.{Intensity}
use Rattle.record.specs.declared.aerodrome.Intensity.TheVariants as intensity
use Rattle.record.specs.declared.aerodrome.Code.{Code}
use Rattle.record.specs.declared.aerodrome.Weather.{Weather}
use Rattle.record.specs.Values.{code_of}
use Rattle.elements.specs.Parts.{provided}
use Rattle.elements.specs.Weather.{is_descriptor, intensity_fits, weather_of, joined}

-- "+", "-", "VC"
unfoldable pub intensity_of : Group → Intensity
intensity_of g =
    cond (eqb (get_or g 0 0) 43) intensity.Heavy
    (cond (eqb (get_or g 0 0) 45) intensity.Light (cond (eqb (get_or g 0 0) 86 && eqb (get_or g 1 0) 67) intensity.Vicinity intensity.None))

abbrev pub sign_length : Intensity → ℕ
sign_length intensity.None = 0
sign_length intensity.Light = 1
sign_length intensity.Heavy = 1
sign_length intensity.Vicinity = 2

unfoldable pub descriptor_of : List ℕ → Option Code
descriptor_of s = cond (is_descriptor (get_or s 0 0 ∷ get_or s 1 0 ∷ [])) (Some (code_of (get_or s 0 0) (get_or s 1 0))) None

abbrev pub code_length : Option Code → ℕ
code_length None = 0
code_length (Some x) = 2

-- codes after their sign or VC: the weather, if they may stand so
unfoldable pub told : Intensity → List (List ℕ) → Result Weather Refusal
told i cs = provided (intensity_fits i (joined cs)) (Ok (weather_of i (joined cs)))

-- a reading by its answer
