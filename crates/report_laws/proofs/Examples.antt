-- Worked examples: what some texts are read as, and what the records are written as. Each text gives its canonical text, or the refusal's number and
-- place. And what is judged of some winds that stand in a record alone.
-- Assumes nothing.
use Rattle.std.specs.Prelude.{⊤, Err, None, Ok, Result}
use Rattle.text.specs.declared.kinds.Refusal.{Refusal}
use Prim.Native.Nat.{ℕ}
use mathlib.Core.Path.{◌≡◌, refl}
use mathlib.Core.Bool.{false}
use mathlib.Core.List.{List, [], ◌∷◌, ◌++◌, map}
use Rattle.text.specs.Numbers.{verdict_numbers, written_numbers}
use Rattle.text.specs.Example.{Example, reads, refuses, answer_to}
use Rattle.text.specs.declared.kinds.Refusal.TheVariants as refusal
use Rattle.record.specs.declared.values.Direction.{Direction}
use Rattle.record.specs.declared.values.Direction.TheVariants as direction
use Rattle.record.specs.declared.values.Speed.{Speed}
use Rattle.record.specs.declared.values.Speed.TheVariants as speed
use Rattle.record.specs.declared.aerodrome.Edition.{Edition}
use Rattle.record.specs.declared.aerodrome.Edition.TheVariants as edition
use Rattle.record.specs.declared.aerodrome.Unit.{Unit}
use Rattle.record.specs.declared.aerodrome.Unit.TheVariants as unit
use Rattle.record.specs.declared.aerodrome.Wind.{Wind}
use Rattle.report_record.specs.declared.kinds.Reading.{Reading}
use Rattle.figures.specs.Figures as figures
use Rattle.figures.specs.Signed as signed
use Rattle.text.specs.Bytes as bytes
use Rattle.text.specs.Groups as groups
use Rattle.text.specs.Text as text
use Rattle.shapes.specs.Pattern as pattern
use Rattle.shapes.specs.Shape as shape
use Rattle.places.specs.Parts as parts
use Rattle.places.specs.Seek as seek
use Rattle.scales.specs.Degrees as degrees
use Rattle.scales.specs.Depth as deposit
use Rattle.scales.specs.Layers as layered
use Rattle.scales.specs.Metres as metres
use Rattle.scales.specs.Rounded as rounded
use Rattle.scales.specs.Scale as scale
use Rattle.record.specs.SilentSurface as silent-surface
use Rattle.record.specs.SilentAerodrome as silent-aerodrome
use Rattle.synop_groups.specs.Judge as surface-judge
use Rattle.synop_groups.specs.Reads as surface-reads
use Rattle.synop_groups.specs.Shows as surface-shows
use Rattle.synop_row.specs.Row as synop-row
use Rattle.section3.specs.Row as section3
use Rattle.section3.specs.Write as section3-write
use Rattle.synop_section.specs.Answer as section
use Rattle.synop.specs.Read as synop-read
use Rattle.synop.specs.Write as synop-write
use Rattle.elements.specs.Body as body
use Rattle.elements.specs.Sky as sky
use Rattle.elements.specs.Visibility as visibility
use Rattle.elements.specs.Weather as weather
use Rattle.elements.specs.Wind as wind
use Rattle.aerodrome_groups.specs.Head as head
use Rattle.aerodrome_groups.specs.Runway as runway
use Rattle.aerodrome_groups.specs.Temperatures as temperatures
use Rattle.runway_states.specs.State as state
use Rattle.metar_row.specs.Row as metar-row
use Rattle.trend_row.specs.Times as trend-times
use Rattle.trend_row.specs.Row as trend-row
use Rattle.trend.specs.Read as trend-read
use Rattle.trend.specs.Write as trend-write
use Rattle.metar.specs.Read as metar-read
use Rattle.metar.specs.Write as metar-write
use Rattle.taf_row.specs.Row as taf-row
use Rattle.taf.specs.Read as taf-read
use Rattle.taf.specs.Write as taf-write
use Rattle.report.specs.Read as report-read
use Rattle.report.specs.Write as report-write

-- what is answered to a text, where there is room for the longest
abbrev answered : Edition → Reading → List ℕ
answered e r = answer_to (verdict_numbers r.verdict) (written_numbers (report-write.written_in e r.report 2048)) (report-write.canonical_of r.report)

-- The same, with all that it computes with: who unfolds `answer_in` has every definition unfolded by which a text is read and its record written.
unfoldable pub answer_in : Edition → List ℕ → List ℕ
unfolding figures.figures figures.scan figures.field_at figures.number_text figures.slashes figures.field_text
    signed.signed_of
    bytes.lead
    groups.groups_in groups.groups_from groups.past_parting groups.spaced groups.parted groups.join
    text.equals_at text.bytes_of text.junk_from text.tail_of
    pattern.low pattern.high pattern.fits pattern.has_pattern pattern.has_any
    shape.leading shape.split shape.parts_of shape.begins shape.value_of shape.pick_of shape.scan_parts shape.answered shape.scan_of shape.has_shape shape.filled shape.print_parts shape.print_of shape.spellings
    parts.run_to parts.further parts.report_of
    seek.seek seek.anywhere seek.find_of seek.owed
    degrees.signed_reading degrees.whole_degrees degrees.degrees_of degrees.degrees_reading
    deposit.depth
    layered.layer_steps layered.layer_bands
    metres.land metres.sea metres.base metres.metres_figure metres.metres_reading metres.visibility metres.runway metres.cloud metres.same_range metres.range_figure metres.range_reading
    rounded.rain_figure rounded.rain_reading rounded.direction_figure rounded.direction_reading rounded.pressure_figure rounded.pressure_reading
    scale.class_in scale.read_in scale.run
    silent-surface.no_surface silent-surface.is_blank_synop
    silent-aerodrome.is_blank_body silent-aerodrome.no_observation silent-aerodrome.is_blank_observation silent-aerodrome.is_blank_metar silent-aerodrome.is_blank_taf
    surface-judge.judge_time surface-judge.judge_station surface-judge.judge_sign surface-judge.judge_position surface-judge.judge_indicators surface-judge.judge_wind surface-judge.judge_air surface-judge.judge_moisture surface-judge.judge_pressure surface-judge.judge_level surface-judge.judge_tendency surface-judge.judge_rainfall surface-judge.judge_weather surface-judge.judge_clouds surface-judge.judge_clock surface-judge.layer_fits
    surface-reads.time_of surface-reads.said_time surface-reads.said_station surface-reads.latitude_is surface-reads.said_latitude surface-reads.position_of surface-reads.said_longitude surface-reads.indicators_of surface-reads.said_indicators surface-reads.wind_by surface-reads.said_wind surface-reads.speed_is surface-reads.said_speed surface-reads.air_is surface-reads.said_air surface-reads.moisture_is surface-reads.said_moisture surface-reads.said_pressure surface-reads.level_is surface-reads.said_level surface-reads.tendency_is surface-reads.said_tendency surface-reads.said_rainfall surface-reads.said_weather surface-reads.said_clouds surface-reads.clock_is surface-reads.said_clock surface-reads.said_layer
    surface-shows.show_time surface-shows.show_station surface-shows.show_sign surface-shows.show_latitude surface-shows.show_longitude surface-shows.show_indicators surface-shows.show_wind surface-shows.show_speed surface-shows.show_air surface-shows.show_moisture surface-shows.show_pressure surface-shows.show_level surface-shows.show_tendency surface-shows.show_rainfall surface-shows.weather_text surface-shows.show_weather surface-shows.clouds_text surface-shows.show_clouds surface-shows.show_clock surface-shows.show_minimum surface-shows.show_layer
    synop-row.needs_of synop-row.with_said synop-row.row synop-row.stop_words
    section3.row section3.own_shapes section3.halts section3.layer_at section3.show_layers
    section3-write.judge_layers section3-write.judge_section3 section3-write.show_section3
    section.section
    synop-read.with_head synop-read.sign_of synop-read.posts synop-read.walk synop-read.groups_read
    synop-write.foreign_blank synop-write.judge_site synop-write.judge_section synop-write.judge_surface synop-write.judge_of synop-write.site_groups synop-write.surface_groups synop-write.groups_of synop-write.canonical_of
    body.read_weather_or_nsw body.judge_body
    sky.read_layer sky.read_alone sky.read_sky sky.show_layer sky.show_sky sky.judge_sky
    visibility.read_visibility visibility.show_visibility visibility.judge_visibility
    weather.codes_of weather.are_codes weather.signed_codes weather.has_weather weather.has_recent weather.said_weather weather.read_weather weather.read_recent weather.show_weather weather.show_recent weather.show_weathers weather.show_recents weather.judge_weather weather.judge_recent weather.judge_weathers
    wind.wind_by wind.read_wind wind.read_variation wind.show_wind wind.show_variation wind.judge_wind wind.judge_variation
    head.station_of head.read_time head.show_time head.judge_station head.judge_time
    runway.read_runway runway.show_runway runway.show_runways runway.judge_runways
    temperatures.read_temperatures temperatures.read_qnh temperatures.show_temperatures temperatures.show_qnh temperatures.judge_temperatures temperatures.judge_qnh
    state.read_state state.show_state state.show_states state.judge_states
    metar-row.row metar-row.is_known metar-row.words
    trend-times.read_moment
    trend-row.row
    trend-read.comes_to
    trend-write.judge_change trend-write.judge_trend trend-write.show_change trend-write.show_trend
    metar-read.groups_read
    metar-write.judge_head metar-write.judge_observation metar-write.judge_of metar-write.groups_of metar-write.canonical_of
    taf-row.read_period taf-row.show_period taf-row.row taf-row.change_words
    taf-read.opened_by taf-read.groups_read
    taf-write.judge_part taf-write.judge_change taf-write.judge_changes taf-write.foreign_blank taf-write.judge_of taf-write.judge_in taf-write.show_change taf-write.groups_of taf-write.canonical_of
    report-read.name_of report-read.read_in
    report-write.judge_in report-write.canonical_of report-write.written_in
answer_in e t = answered e (report-read.read_in e t)

abbrev pub examples : List Example
examples =
    reads "AAXX 24124 99901  11466 80412 10053 60021 76166" "AAXX 24124 99901 11466 80412 10053 60021 76166="
    ∷ refuses "AAXX 24124 99901 43/// 80412 1//// 10053" 6 35
    ∷ refuses "AAXX 24124 99901 13/// 80412 8//// 60011" 8 29
    ∷ refuses "AAXX 24124 99901 NIL==" 4 21
    ∷ reads "AAXX 24124 99901 43/// 80412 22212 X" "AAXX 24124 99901 43/// 80412="
    ∷ refuses "BBXX ABC 24124 99001 10001 NIL" 4 27
    ∷ refuses "AAXX 24124 99901 43/// 80499 10053" 8 29
    ∷ refuses "AAXX 24124 99901 43/// 80099" 7 23
    ∷ refuses "AAXX 24124 99901 43/// 80412 6////" 7 29
    ∷ reads "AAXX 24124 99901 43/97 80412" "AAXX 24124 99901 43/97 80412="
    ∷ refuses "BBXX D5LT 24124 99900 71800 43/// 80499 00123 11000" 5 46
    ∷ reads "BBXX D5LT 24124 99000 71800 43/// 80499 00123=" "BBXX D5LT 24124 99000 11800 43/// 80499 00123="
    ∷ reads "AAXX 24124 99901 43/// 80412 333 8//// 81500 8//// 82589 8/590 845// 8//// X= Y" "AAXX 24124 99901 43/// 80412 333 81500 82589 8/590 845//="
    ∷ reads "BBXX ABC 24124 99001 10001 43/// ///// 333 11123 20012" "BBXX ABC 24124 99001 10001 43/// ///// 333 11123 20012="
    ∷ reads "AAXX 24124 99901 43/// 80412 333 1//// 8////" "AAXX 24124 99901 43/// 80412="
    ∷ refuses "AAXX 24124 99901 43/// 80412 333 81500 82500 83500 84500 81551" 9 57
    ∷ refuses "AAXX 24124 99901 43/// 80412 333 8//// 10123" 6 39
    ∷ refuses "AAXX 24124 99901 43/// 80412 333 29050" 5 33
    ∷ refuses "AAXX 24124 99901 43/// 80412 333 81530 815// 81591 81529" 7 51
    ∷ reads "AAXX 24124 99901 43/// 80412 333 10123 22212 20123" "AAXX 24124 99901 43/// 80412 333 10123="
    ∷ reads "METAR LEMD 011200Z 00000KT 010V020 CAVOK 15/10 Q1013" "METAR LEMD 011200Z 00000KT 010V020 CAVOK 15/10 Q1013="
    ∷ refuses "METAR METAR LEMD" 6 6
    ∷ reads "METAR AUTO 011200Z 27010KT 9999 15/10 Q1013" "METAR AUTO 011200Z 27010KT 9999 15/10 Q1013="
    ∷ refuses "METAR LEMD 011200Z 27010KT 9999 15/10 Q1013 RERA RERA RERA RERA" 9 59
    ∷ reads "METAR LEMD 011200Z 27010KT 9999 15/10 Q1013 24CLRD// 88459095 99//99// NOSIG" "METAR LEMD 011200Z 27010KT 9999 15/10 Q1013 24CLRD// 88459095 99//99// NOSIG="
    ∷ reads "METAR LEMD 011200Z 27010KT 9999 15/10 Q1013 RESN SNOCLO" "METAR LEMD 011200Z 27010KT 9999 15/10 Q1013 RESN SNOCLO="
    ∷ refuses "METAR LEMD 011200Z 27010KT 9999 15/10 Q1013 24459193" 5 44
    ∷ refuses "METAR LEMD 011200Z 27010KT 9999 15/10 Q1013 SNOCLO SNOCLO" 6 51
    ∷ refuses "METAR LEMD 011200Z 27010KT 9999 15/10 Q1013 SNOCLO 24CLRD//" 7 51
    ∷ refuses "METAR LEMD 011200Z 27010KT 9999 15/10 Q1013 24CLRD// 24CLRD// 24CLRD// 24CLRD// SNOCLO" 7 80
    ∷ refuses "METAR LEMD 011200Z 27010KT 9999 15/10 Q1013 24CLRD// 24CLRD// 24CLRD// 24CLRD// 00CLRD//" 9 80
    ∷ refuses "METAR LEMD 011200Z 270050KT" 5 19
    ∷ reads "METAR LEMD 011200Z 27099G100KT 9999 15/10 Q1013 TEMPO 270150GP99KT" "METAR LEMD 011200Z 27099GP99KT 9999 15/10 Q1013 TEMPO 270P99GP99KT="
    ∷ refuses "METAR LEMD 011200Z 270P099KT" 5 19
    ∷ refuses "METAR LEMD 011200Z 270P99G150KT" 7 19
    ∷ refuses "METAR LEMD 011200Z 27010KT 9999 RASNPLGSGR" 5 32
    ∷ refuses "METAR LEMD 011200Z 27010KT 9999 -TS 15/10 Q1013" 5 32
    ∷ reads "METAR LEMD 011200Z 27010KT 9999 15/10 Q1013 RETS TEMPO TS" "METAR LEMD 011200Z 27010KT 9999 15/10 Q1013 RETS TEMPO TS="
    ∷ refuses "METAR LEMD 011200Z 27010KT 9999 RA+" 4 32
    ∷ refuses "METAR LEMD 011200Z 27010KT CAVOK //" 7 33
    ∷ refuses "METAR LEMD 011200Z 27010KT 9999 SKC SKC" 7 36
    ∷ reads "METAR LEMD 011200Z 27010KT CAVOK R24/0500 R24/0500 15/10 Q1013" "METAR LEMD 011200Z 27010KT CAVOK R24/0500 R24/0500 15/10 Q1013="
    ∷ reads "METAR LEMD 011200Z 27010KT 9999 FEW///CB 15/10 Q1013 NOSIG" "METAR LEMD 011200Z 27010KT 9999 FEW///CB 15/10 Q1013 NOSIG="
    ∷ reads "METAR LEMD 011200Z 27010KT 9999 15/10 Q1013 TEMPO FM2300 TL0100 RA" "METAR LEMD 011200Z 27010KT 9999 15/10 Q1013 TEMPO FM2300 TL0100 RA="
    ∷ refuses "METAR LEMD 011200Z 27010KT 9999 15/10 Q1013 TEMPO RA TEMPO RA TEMPO RA BECMG" 9 71
    ∷ refuses "METAR LEMD 011200Z 27010KT 9999 15/10 Q1013 NOSIG BECMG" 7 50
    ∷ refuses "METAR LEMD 011200Z 27010KT 9999 15/10 Q1013 TEMPO TL1200 FM1100 RA" 6 57
    ∷ refuses "METAR NOSIG" 8 6
    ∷ reads "TAF LEMD 011100Z 0112/0212 27010KT 9999 RA RA RA BECMG 0112/0114 RA RA RA" "TAF LEMD 011100Z 0112/0212 27010KT 9999 RA RA RA BECMG 0112/0114 RA RA RA="
    ∷ reads "TAF LEMD 011100Z 0112/0212 27010KT 9999 TS BECMG 0112/0114 TS" "TAF LEMD 011100Z 0112/0212 27010KT 9999 TS BECMG 0112/0114 TS="
    ∷ reads "TAF LEMD 011100Z 0212/0100 27010KT 9999 FM310000 27010KT 9999" "TAF LEMD 011100Z 0212/0100 27010KT 9999 FM310000 27010KT 9999="
    ∷ refuses "TAF LEMD 011100Z 0112/0212 27010KT 9999 UP" 7 40
    ∷ refuses "TAF LEMD 011100Z 0112/0212 27010KT 9999 Q////" 4 40
    ∷ refuses "TAF LEMD 011100Z 0112/0212 27010KT 9999 PROB50" 5 40
    ∷ refuses "TAF LEMD 011100Z 0112/0212 27010KT 9999 BECMG BECMG" 8 46
    ∷ refuses "TAF LEMD 011100Z 0112/0212 27010KT 9999 PROB30 TEMPO TEMPO" 8 53
    ∷ refuses "TAF LEMD 011100Z 0112/0212 27010KT 9999 FM011300 0113/0114" 6 49
    ∷ refuses "TAF LEMD 011100Z 0112/0212 27010KT 9999 BECMG 0112/0114 FM011300" 8 56
    ∷ refuses "TAF LEMD 011100Z 0112/0212 27010KT 9999 RA SN DZ NSW" 9 49
    ∷ refuses "TAF LEMD 011100Z 0112/0212 27010KT 9999 BECMG 0112/0114 NSW NSW" 7 60
    ∷ refuses "TAF LEMD 011100Z 011206 27010KT 9999" 4 17
    ∷ []

-- the caller names the 2005 edition
abbrev pub examples2005 : List Example
examples2005 =
    reads "METAR LEMD 011200Z NIL" "METAR LEMD 011200Z NIL="
    ∷ reads "TAF LEMD 011100Z 011262 27010KT CAVOK BECMG 1111 RA" "TAF LEMD 011100Z 011262 27010KT CAVOK BECMG 1111 RA="
    ∷ reads "TAF LEMD 011100Z 011206 27010KT 9999 BECMG 1214 0800 FM2359 27010KT 9999" "TAF LEMD 011100Z 011206 27010KT 9999 BECMG 1214 0800 FM2359 27010KT 9999="
    ∷ refuses "TAF LEMD 011100Z 0112/0206 27010KT 9999" 4 17
    ∷ refuses "TAF LEMD 011100Z 011206 27010KT 9999 FM011230" 4 37
    ∷ refuses "TAF LEMD 011100Z 01/206 27010KT 9999" 5 17
    ∷ refuses "TAF LEMD 011100Z 011206 27010KT 9999 BECMG 9999" 5 43
    ∷ refuses "TAF LEMD 011100Z 011206 27010KT 9999 BECMG 1214 1416" 5 48
    ∷ refuses "TAF LEMD 011100Z 011206 27010KT 9999 FM1230 27010KT 1214" 5 52
    ∷ refuses "TAF LEMD 011100Z 1206 27010KT 9999" 8 17
    ∷ refuses "TAF LEMD 011100Z 011206 27010KT 9999 BECMG 011206" 6 43
    ∷ refuses "TAF LEMD 011100Z 011200 27010KT 9999" 5 17
    ∷ refuses "TAF LEMD 011100Z 011250 27010KT 9999" 5 17
    ∷ refuses "TAF LEMD 011100Z 011206 27010KT 9999 BECMG 2200 RA" 5 43
    ∷ refuses "TAF LEMD 011100Z 011206 27010KT 9999 FM2400" 5 37
    ∷ []

abbrev in_editions : List (Edition × Example)
in_editions = map (λ (x : Example). (edition.Present, x)) examples ++ map (λ (x : Example). (edition.Of2005, x)) examples2005

pub worked : map (λ (x : Edition × Example). answer_in x.0 x.1.text) in_editions ≡ map (λ (x : Edition × Example). x.1.answer) in_editions
unfolding answer_in
worked = refl

-- ---- winds of a record: no text shows what is refused there

pub record WindExample : Type 0 where
  pub wind : Wind
  pub answer : Result ⊤ Refusal

abbrev blows : Direction → Speed → Speed → Unit → Result ⊤ Refusal → WindExample
blows d s g u a = record { wind = record { direction = d; speed = s; gust = g; unit = u }; answer = a }

-- as rulings 8.3 to 8.8 have them: "agreement being judged on the figures it would write", "a km/h number in a record may now be 0 to 999, else 11, as is
-- "above" another figure"
abbrev pub winds : List WindExample
winds =
    blows (direction.Degrees 270) (speed.Is 150) (speed.Is 120) unit.Knots (Ok tt)
    ∷ blows (direction.Degrees 270) (speed.Is 150) (speed.Is 99) unit.Knots (Err refusal.Disagreement)
    ∷ blows (direction.Degrees 270) (speed.Above 99) (speed.Is 150) unit.Knots (Ok tt)
    ∷ blows (direction.Degrees 270) (speed.Above 99) (speed.Is 99) unit.Knots (Err refusal.Disagreement)
    ∷ blows (direction.Degrees 270) (speed.Above 99) speed.Missing unit.MetresPerSecond (Err refusal.Value)
    ∷ blows direction.Calm (speed.Above 99) speed.Missing unit.Knots (Err refusal.Disagreement)
    ∷ blows direction.Calm (speed.Above 49) speed.Missing unit.Knots (Err refusal.Value)
    ∷ blows direction.Missing (speed.Above 99) speed.Missing unit.Knots (Err refusal.Value)
    ∷ blows (direction.Degrees 270) (speed.Is 999) speed.Missing unit.KilometresPerHour (Ok tt)
    ∷ blows (direction.Degrees 270) (speed.Is 200) speed.Missing unit.Knots (Err refusal.Value)
    ∷ []

pub worked-winds : map (λ (e : WindExample). wind.judge_wind false e.wind) winds ≡ map (λ (e : WindExample). e.answer) winds
unfolding wind.judge_wind
worked-winds = refl

-- "any "above" in a SYNOP or SHIP"
pub no_above : surface-judge.judge_wind (record { cover = None; direction = direction.Calm; speed = speed.Above 99 }) ≡ Err refusal.Value
unfolding surface-judge.judge_wind
no_above = refl
