-- Weather (003, table 4678 and its notes): "sign or VC, at most one descriptor, one phenomenon or one to three different precipitations."
-- Assumes nothing: these are definitions.
use Rattle.std.specs.Prelude.{⊤, ℕ, ◌+◌, Bool, true, false, cond, not, ◌&&◌, ◌||◌, List, [], ◌∷◌, ◌++◌, map, length, get_or, take, drop, set, leb, ltb, eqb, Err, Ok, Result, None, Option, Some}
use Rattle.text.specs.declared.kinds.Refusal.{Refusal}
use Prim.Native.String.{String}
use Rattle.figures.specs.Quote.{bytes}
use Rattle.figures.specs.Figures.{every}
use Rattle.shapes.specs.Pattern.{Pattern, has_pattern}
use Rattle.places.specs.Engine.{Group}
use Rattle.record.specs.declared.aerodrome.Intensity.{Intensity}
use Rattle.record.specs.declared.aerodrome.Intensity.TheVariants as intensity
use Rattle.record.specs.declared.aerodrome.Code.{Code}
use Rattle.record.specs.declared.aerodrome.Phenomena.{Phenomena}
use Rattle.record.specs.declared.aerodrome.Weather.{Weather}
use Rattle.record.specs.declared.aerodrome.Weathers.{Weathers}
use Rattle.record.specs.Missing.{is_missing}
use Rattle.record.specs.SilentAerodrome.{is_blank_weather}
use Rattle.text.specs.Judge.{judge, and_then}
use Rattle.record.specs.Values.{code_of, phenomena_of}
use Rattle.elements.specs.Parts.{wrong, provided, agreeing}

-- ---- the codes of table 4678, two letters each

-- a list of codes is written as the codes one after the other
unfoldable pub codes_of : List ℕ → List (List ℕ)
codes_of [] = []
codes_of (a ∷ []) = []
codes_of (a ∷ b ∷ rest) = (a ∷ b ∷ []) ∷ codes_of rest

abbrev pub same : List ℕ → List ℕ → Bool
same [] [] = true
same [] (b ∷ bs) = false
same (a ∷ l) [] = false
same (a ∷ l) (b ∷ bs) = eqb a b && same l bs

abbrev pub among : List ℕ → List (List ℕ) → Bool
among c [] = false
among c (d ∷ ds) = same c d || among c ds

abbrev pub one : String → List ℕ → Bool
one codes c = among c (codes_of (bytes codes))

abbrev pub is_descriptor : List ℕ → Bool
is_descriptor c = one "MIBCPRDRBLSHTSFZ" c

abbrev pub is_precipitation : List ℕ → Bool
is_precipitation c = one "DZRASNSGICPLGRGSUP" c

-- obscurations and others
abbrev pub is_phenomenon : List ℕ → Bool
is_phenomenon c = one "BRFGFUVADUSAHZPOSQFCSSDS" c

abbrev pub is_code : List ℕ → Bool
is_code c = is_descriptor c || is_precipitation c || is_phenomenon c || one "VC" c

-- ---- the shape: a sign or none, and one or more codes, VC being one of them; or //

abbrev pub is_sign : ℕ → Bool
is_sign b = eqb b 43 || eqb b 45

unfoldable pub are_codes : List ℕ → Bool
are_codes [] = true
are_codes (a ∷ []) = false
are_codes (a ∷ b ∷ rest) = is_code (a ∷ b ∷ []) && are_codes rest

abbrev pub some_codes : List ℕ → Bool
some_codes g = ltb 0 (length g) && are_codes g

unfoldable pub signed_codes : Group → Bool
signed_codes [] = false
signed_codes (b ∷ g) = cond (is_sign b) (some_codes g) (some_codes (b ∷ g))

unfoldable pub has_weather : Group → Bool
has_weather g = has_pattern g (bytes "//") || signed_codes g

-- weather's cover: //, or a sign or none and a code of the table, and anything more
abbrev pub covering : List ℕ → List (List ℕ) → List Pattern
covering before [] = []
covering before (c ∷ cs) = (before ++ c ++ bytes "*") ∷ covering before cs

abbrev pub all_codes : List (List ℕ)
all_codes = codes_of (bytes "MIBCPRDRBLSHTSFZDZRASNSGICPLGRGSUPBRFGFUVADUSAHZPOSQFCSSDSVC")

-- without a sign SN stands alone or before another code, so that SNOCLO is no weather
abbrev pub codes_but_snow : List (List ℕ)
codes_but_snow = codes_of (bytes "MIBCPRDRBLSHTSFZDZRASGICPLGRGSUPBRFGFUVADUSAHZPOSQFCSSDSVC")

abbrev pub unsigned_cover : List Pattern
unsigned_cover = bytes "SN" ∷ (covering (bytes "SN") all_codes ++ covering [] codes_but_snow)

abbrev pub weather_cover : List Pattern
weather_cover = bytes "//" ∷ (unsigned_cover ++ (covering (bytes "+") all_codes ++ covering (bytes "-") all_codes))

-- what is written of weather fits one of these: PR stands before FG alone, so that PROB30 is no weather
abbrev pub spoken_codes : List (List ℕ)
spoken_codes = codes_of (bytes "MIBCDRBLSHTSFZDZRASNSGICPLGRGSUPBRFGFUVADUSAHZPOSQFCSSDSVC")

abbrev pub weather_spoken : List Pattern
weather_spoken =
    bytes "//" ∷ bytes "PRFG" ∷ (covering [] spoken_codes ++ (covering (bytes "+") spoken_codes ++ covering (bytes "-") spoken_codes))

-- "RE groups carry no sign and no VC (5)"
unfoldable pub has_recent : Group → Bool
has_recent [] = false
has_recent (r ∷ []) = false
has_recent (r ∷ e ∷ g) = eqb r 82 && eqb e 69 && signed_codes g

-- ---- how codes are joined

abbrev pub all_among : (List ℕ → Bool) → List (List ℕ) → Bool
all_among test [] = true
all_among test (c ∷ cs) = test c && all_among test cs

abbrev pub differ : List (List ℕ) → Bool
differ [] = true
differ (c ∷ cs) = not (among c cs) && differ cs

-- "one to three different precipitations"
abbrev pub precipitations : List (List ℕ) → Bool
precipitations cs = leb 1 (length cs) && leb (length cs) 3 && all_among is_precipitation cs && differ cs

abbrev pub single : (List ℕ → Bool) → List (List ℕ) → Bool
single test cs = eqb (length cs) 1 && all_among test cs

-- "Every precipitation in a group must suit its descriptor."
abbrev pub suits : List ℕ → List (List ℕ) → Bool
suits d cs =
    -- "MI BC PR only with FG; DR BL with one of DU SA SN; SH with RA SN PL GS GR; TS likewise; FZ with FG, or with DZ, RA or both."
    cond (one "MIBCPR" d) (single (one "FG") cs)
    (cond (one "DRBL" d) (single (one "DUSASN") cs)
    (cond (one "SHTS" d) (precipitations cs && all_among (one "RASNPLGSGR") cs) (single (one "FG") cs || (precipitations cs && all_among (one "DZRA") cs))))

-- with no descriptor: "one phenomenon or one to three different precipitations"
abbrev pub bare : List (List ℕ) → Bool
bare cs = single is_phenomenon cs || precipitations cs

-- A group's codes after its sign or VC, by whether the first is a descriptor.
pub data Joined : Type 0 where
  Bare : List (List ℕ) → Joined
  Under : List ℕ → List (List ℕ) → Joined

abbrev pub joined : List (List ℕ) → Joined
joined [] = Bare []
joined (c ∷ cs) = cond (is_descriptor c) (Under c cs) (Bare (c ∷ cs))

abbrev pub right : Joined → Bool
right (Bare cs) = bare cs
-- "TS alone is accepted in METAR, SPECI, TAF and as RETS." (document 02, No. 3)
right (Under d cs) = (one "TS" d && eqb (length cs) 0) || suits d cs

-- "VC stands before only DS SS FG FC SH TS PO BLDU BLSA BLSN VA."
abbrev pub in_vicinity : Joined → Bool
in_vicinity (Bare cs) = single (one "DSSSFGFCPOVA") cs
in_vicinity (Under d cs) = (one "SHTS" d && eqb (length cs) 0) || (one "BL" d && single (one "DUSASN") cs)

-- "A sign only with precipitation not under DR or BL, with DS or SS, and + also with FC and PO."
abbrev pub signed : Bool → Joined → Bool
signed heavy (Bare cs) = precipitations cs || single (one "DSSS") cs || (heavy && single (one "FCPO") cs)
signed heavy (Under d cs) = precipitations cs && not (one "DRBL" d)

-- ---- what a group says

abbrev pub letters : List ℕ → Option Code
letters c = Some (code_of (get_or c 0 0) (get_or c 1 0))

abbrev pub code_at : List (List ℕ) → ℕ → Option Code
code_at cs i = cond (ltb i (length cs)) (letters (get_or cs i [])) None

abbrev pub weather_of : Intensity → Joined → Weather
weather_of i (Bare cs) = record { is = Some (phenomena_of i None (code_at cs 0) (code_at cs 1) (code_at cs 2)) }
weather_of i (Under d cs) = record { is = Some (phenomena_of i (letters d) (code_at cs 0) (code_at cs 1) (code_at cs 2)) }

-- the sign or VC, and what it stands before
abbrev pub unsigned : List (List ℕ) → Result Weather Refusal
unsigned [] = wrong
unsigned (c ∷ cs) =
    cond (one "VC" c) (provided (in_vicinity (joined cs)) (Ok (weather_of intensity.Vicinity (joined cs))))
    (provided (right (joined (c ∷ cs))) (Ok (weather_of intensity.None (joined (c ∷ cs)))))

abbrev pub with_sign : Bool → List (List ℕ) → Result Weather Refusal
with_sign heavy cs =
    provided (right (joined cs) && signed heavy (joined cs)) (Ok (weather_of (cond heavy intensity.Heavy intensity.Light) (joined cs)))

unfoldable pub said_weather : Group → Result Weather Refusal
said_weather [] = wrong
said_weather (b ∷ g) = cond (eqb b 43) (with_sign true (codes_of g)) (cond (eqb b 45) (with_sign false (codes_of g)) (unsigned (codes_of (b ∷ g))))

abbrev pub missing_weather : Weather
missing_weather = record { is = None }

-- "UP without AUTO is 7."
abbrev pub is_unknown : Option Code → Bool
is_unknown None = false
is_unknown (Some x) = eqb x.first 85 && eqb x.second 80

abbrev pub has_unknown : Option Phenomena → Bool
has_unknown None = false
has_unknown (Some x) = is_unknown x.first || is_unknown x.second || is_unknown x.third

abbrev pub unless_unknown : Bool → Result Weather Refusal → Result Weather Refusal
unless_unknown automatic (Ok w) = agreeing (automatic || not (has_unknown w.is)) (Ok w)
unless_unknown automatic (Err f) = Err f

-- present or forecast weather; // is missing, in a TAF 5
unfoldable pub read_weather : Bool → Bool → Group → Result Weather Refusal
read_weather forecast automatic g =
    cond (has_pattern g (bytes "//")) (provided (not forecast) (Ok missing_weather)) (unless_unknown automatic (said_weather g))

-- recent weather: "RE groups carry no sign and no VC (5)."
abbrev pub plain : Intensity → Bool
plain intensity.None = true
plain intensity.Light = false
plain intensity.Heavy = false
plain intensity.Vicinity = false

abbrev pub is_plain : Option Phenomena → Bool
is_plain None = false
is_plain (Some x) = plain x.intensity

abbrev pub only_plain : Result Weather Refusal → Result Weather Refusal
only_plain (Ok w) = provided (is_plain w.is) (Ok w)
only_plain (Err f) = Err f

unfoldable pub read_recent : Bool → Group → Result Weather Refusal
read_recent automatic [] = wrong
read_recent automatic (r ∷ []) = wrong
read_recent automatic (r ∷ e ∷ g) = unless_unknown automatic (only_plain (said_weather g))

-- one more where k stand; past the third there is no room
abbrev pub with_weather : ℕ → Weathers → Weather → Weathers
with_weather k ws x = cond (ltb k 3) (record { items = set ws.items k x; count = k + 1 }) ws

-- ---- writing

abbrev pub code_text : Option Code → List ℕ
code_text None = []
code_text (Some x) = x.first ∷ x.second ∷ []

abbrev pub sign_text : Intensity → List ℕ
sign_text intensity.None = []
sign_text intensity.Light = bytes "-"
sign_text intensity.Heavy = bytes "+"
sign_text intensity.Vicinity = bytes "VC"

abbrev pub phenomena_text : Option Phenomena → Group
phenomena_text None = bytes "//"
phenomena_text (Some x) = sign_text x.intensity ++ code_text x.descriptor ++ code_text x.first ++ code_text x.second ++ code_text x.third

unfoldable pub show_weather : Weather → Group
show_weather w = phenomena_text w.is

unfoldable pub show_recent : Weather → Group
show_recent w = bytes "RE" ++ phenomena_text w.is

unfoldable pub show_weathers : Weathers → List Group
show_weathers ws = map show_weather (take ws.count ws.items)

unfoldable pub show_recents : Weathers → List Group
show_recents ws = map show_recent (take ws.count ws.items)

-- ---- judging: "A sign and table codes wrongly joined are 5", in a record a value outside its range. The codes stand one after the other, the first
-- a descriptor or none, and what they are joined to is read back as they are.

-- no code after one that is not there
abbrev pub gapless : Option Code → Option Code → Option Code → Bool
gapless a b c = (not (is_missing a) || (is_missing b && is_missing c)) && (not (is_missing b) || is_missing c)

abbrev pub listed : Option Code → List (List ℕ) → List (List ℕ)
listed None cs = cs
listed (Some x) cs = (x.first ∷ x.second ∷ []) ∷ cs

abbrev pub under : Option Code → List (List ℕ) → Joined
under None cs = Bare cs
under (Some x) cs = Under (x.first ∷ x.second ∷ []) cs

-- a descriptor is one of the table's
abbrev pub is_described : Option Code → Bool
is_described None = true
is_described (Some x) = is_descriptor (x.first ∷ x.second ∷ [])

abbrev pub intensity_fits : Intensity → Joined → Bool
intensity_fits intensity.None j = right j
intensity_fits intensity.Light j = right j && signed false j
intensity_fits intensity.Heavy j = right j && signed true j
intensity_fits intensity.Vicinity j = in_vicinity j

abbrev pub phenomena_fit : Option Phenomena → Bool
phenomena_fit None = false
phenomena_fit (Some x) = is_described x.descriptor && gapless x.first x.second x.third && intensity_fits x.intensity (under x.descriptor (listed x.first (listed x.second (listed x.third []))))

-- beside: CAVOK or NSW stands for the weather
unfoldable pub judge_weather : Bool → Bool → Bool → Weather → Result ⊤ Refusal
judge_weather forecast automatic beside w =
    judge (phenomena_fit w.is || (not forecast && is_blank_weather w)) (not beside && (automatic || not (has_unknown w.is)))

unfoldable pub judge_recent : Bool → Weather → Result ⊤ Refusal
judge_recent automatic w = judge (phenomena_fit w.is && is_plain w.is) (automatic || not (has_unknown w.is))

-- ---- up to three: "a count over its limit, a slot past its count .. that is not blank", then each in turn

abbrev pub judge_each : (Weather → Result ⊤ Refusal) → List Weather → Result ⊤ Refusal
judge_each test [] = Ok tt
judge_each test (w ∷ ws) = and_then (test w) (judge_each test ws)

abbrev pub three_fit : Weathers → Bool
three_fit ws = leb ws.count 3 && every is_blank_weather (drop ws.count ws.items)

unfoldable pub judge_weathers : (Weather → Result ⊤ Refusal) → Weathers → Result ⊤ Refusal
judge_weathers test ws = and_then (judge (three_fit ws) true) (judge_each test (take ws.count ws.items))
