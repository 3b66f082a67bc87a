-- Nothing is said in a METAR, SPECI or TAF, group by group and in the whole: "a field foreign to the kind (or to NIL, CNL) that is not blank" is
-- refused 11.
-- Assumes nothing: these are definitions.
use Rattle.std.specs.Prelude.{Bool, true, false, not, ◌&&◌, eqb, None, Option, Some}
use Rattle.figures.specs.Figures.{every}
use Rattle.record.specs.declared.aerodrome.Unit.{Unit}
use Rattle.record.specs.declared.aerodrome.Unit.TheVariants as unit
use Rattle.record.specs.declared.aerodrome.Wind.{Wind}
use Rattle.record.specs.declared.aerodrome.Extremes.{Extremes}
use Rattle.record.specs.declared.aerodrome.View.{View}
use Rattle.record.specs.declared.aerodrome.View.TheVariants as view
use Rattle.record.specs.declared.aerodrome.Body.{Body}
use Rattle.record.specs.declared.aerodrome.Side.{Side}
use Rattle.record.specs.declared.aerodrome.Side.TheVariants as side
use Rattle.record.specs.declared.aerodrome.Course.{Course}
use Rattle.record.specs.declared.aerodrome.Course.TheVariants as course
use Rattle.record.specs.declared.aerodrome.Runway.{Runway}
use Rattle.record.specs.declared.aerodrome.Runways.{Runways}
use Rattle.record.specs.declared.aerodrome.Depth.{Depth}
use Rattle.record.specs.declared.aerodrome.Depth.TheVariants as depth
use Rattle.record.specs.declared.aerodrome.Condition.{Condition}
use Rattle.record.specs.declared.aerodrome.Condition.TheVariants as condition
use Rattle.record.specs.declared.aerodrome.RunwayState.{RunwayState}
use Rattle.record.specs.declared.aerodrome.RunwayStates.{RunwayStates}
use Rattle.record.specs.declared.aerodrome.Phenomena.{Phenomena}
use Rattle.record.specs.declared.aerodrome.Weather.{Weather}
use Rattle.record.specs.declared.aerodrome.Weathers.{Weathers}
use Rattle.record.specs.declared.aerodrome.Amount.{Amount}
use Rattle.record.specs.declared.aerodrome.Amount.TheVariants as amount
use Rattle.record.specs.declared.aerodrome.Convective.{Convective}
use Rattle.record.specs.declared.aerodrome.Convective.TheVariants as convective
use Rattle.record.specs.declared.aerodrome.Layer.{Layer}
use Rattle.record.specs.declared.aerodrome.Cover.{Cover}
use Rattle.record.specs.declared.aerodrome.Cover.TheVariants as cover
use Rattle.record.specs.declared.aerodrome.Sky.{Sky}
use Rattle.record.specs.declared.aerodrome.Temperatures.{Temperatures}
use Rattle.record.specs.declared.aerodrome.Station.{Station}
use Rattle.record.specs.declared.aerodrome.Instant.{Instant}
use Rattle.record.specs.declared.aerodrome.Period.{Period}
use Rattle.record.specs.declared.aerodrome.Correction.{Correction}
use Rattle.record.specs.declared.aerodrome.Correction.TheVariants as correction
use Rattle.record.specs.declared.aerodrome.Opening.{Opening}
use Rattle.record.specs.declared.aerodrome.Opening.TheVariants as opening
use Rattle.record.specs.declared.aerodrome.Leg.{Leg}
use Rattle.record.specs.declared.aerodrome.Change.{Change}
use Rattle.record.specs.declared.aerodrome.Changes.{Changes}
use Rattle.record.specs.declared.aerodrome.Observation.{Observation}
use Rattle.record.specs.declared.aerodrome.Hours.{Hours}
use Rattle.record.specs.declared.aerodrome.Hours.TheVariants as hours
use Rattle.record.specs.declared.aerodrome.Tendency.{Tendency}
use Rattle.record.specs.declared.aerodrome.Tendency.TheVariants as tendency
use Rattle.record.specs.declared.aerodrome.TrendChange.{TrendChange}
use Rattle.record.specs.declared.aerodrome.Trend.{Trend}
use Rattle.record.specs.declared.aerodrome.Metar.{Metar}
use Rattle.record.specs.declared.aerodrome.Edition.{Edition}
use Rattle.record.specs.declared.aerodrome.Edition.TheVariants as edition
use Rattle.record.specs.declared.aerodrome.Taf.{Taf}
use Rattle.record.specs.Missing.{is_missing, no_direction, no_speed, no_letters}

-- ---- wind, visibility, runways

abbrev pub no_unit : Unit → Bool
no_unit unit.Missing = true
no_unit unit.Knots = false
no_unit unit.MetresPerSecond = false
no_unit unit.KilometresPerHour = false

-- no wind at all: nothing of it is there, its unit neither
abbrev pub is_blank_wind : Wind → Bool
is_blank_wind w = no_direction w.direction && no_speed w.speed && no_speed w.gust && no_unit w.unit

abbrev pub no_view : View → Bool
no_view view.Missing = true
no_view view.Cavok = false
no_view (view.Metres m) = false

abbrev pub no_side : Side → Bool
no_side side.None = true
no_side side.Left = false
no_side side.Centre = false
no_side side.Right = false

abbrev pub no_course : Course → Bool
no_course course.None = true
no_course course.Up = false
no_course course.Down = false
no_course course.NoChange = false

abbrev pub is_blank_runway : Runway → Bool
is_blank_runway w = is_missing w.number && no_side w.side && is_missing w.range && no_course w.course

abbrev pub no_runways : Runways → Bool
no_runways rs = eqb rs.count 0 && every is_blank_runway rs.items

-- ---- runway states

abbrev pub no_depth : Depth → Bool
no_depth depth.Missing = true
no_depth depth.Closed = false
no_depth (depth.Millimetres m) = false

-- not cleared, and nothing is said of a deposit
abbrev pub no_condition : Condition → Bool
no_condition condition.Cleared = false
no_condition (condition.Covered d e h b) = is_missing d && is_missing e && no_depth h && is_missing b

abbrev pub is_blank_state : RunwayState → Bool
is_blank_state s = is_missing s.runway && no_condition s.condition

abbrev pub no_states : RunwayStates → Bool
no_states ss = not ss.snoclo && eqb ss.count 0 && every is_blank_state ss.items

-- ---- weather and sky

abbrev pub is_blank_weather : Weather → Bool
is_blank_weather w = is_missing w.is

abbrev pub no_weathers : Weathers → Bool
no_weathers ws = eqb ws.count 0 && every is_blank_weather ws.items

abbrev pub no_amount : Amount → Bool
no_amount amount.None = true
no_amount amount.Few = false
no_amount amount.Scattered = false
no_amount amount.Broken = false
no_amount amount.Overcast = false

abbrev pub no_convective : Convective → Bool
no_convective convective.None = true
no_convective convective.Cumulonimbus = false
no_convective convective.ToweringCumulus = false

abbrev pub is_blank_layer : Layer → Bool
is_blank_layer l = no_amount l.amount && is_missing l.height && no_convective l.convective

-- the clouds are given as layers, and not as SKC, NSC, NCD or VVhhh
abbrev pub is_layers : Cover → Bool
is_layers cover.Layers = true
is_layers cover.Clear = false
is_layers cover.NoneSignificant = false
is_layers cover.NoneDetected = false
is_layers (cover.Vertical h) = false

abbrev pub no_sky : Sky → Bool
no_sky s = is_layers s.cover && eqb s.count 0 && every is_blank_layer s.layers

-- ---- temperatures, station and times

abbrev pub no_temperatures : Temperatures → Bool
no_temperatures t = is_missing t.air && is_missing t.dew

abbrev pub no_station : Station → Bool
no_station s = no_letters s.letters

abbrev pub no_instant : Instant → Bool
no_instant t = is_missing t.day && is_missing t.hour && is_missing t.minute

abbrev pub no_period : Period → Bool
no_period p = no_instant p.from && no_instant p.to

abbrev pub no_correction : Correction → Bool
no_correction correction.None = true
no_correction correction.Amended = false
no_correction correction.Corrected = false

abbrev pub no_opening : Opening → Bool
no_opening opening.None = true
no_opening opening.Becoming = false
no_opening opening.Temporary = false
no_opening (opening.Probable n) = false
no_opening (opening.ProbablyTemporary n) = false
no_opening opening.From = false

-- ---- the body

-- nothing is said of wind, visibility, weather (or NSW) and sky
unfoldable pub is_blank_body : Body → Bool
is_blank_body b = is_blank_wind b.wind && no_view b.visibility.is && no_weathers b.weathers && not b.nsw && no_sky b.sky

-- ---- METAR and SPECI

-- nothing stands after the time
unfoldable pub no_observation : Observation → Bool
no_observation r =
    not r.automatic && is_blank_body r.body && is_missing r.variation.is && no_runways r.runways
    && no_temperatures r.temperatures && is_missing r.qnh.is && no_weathers r.recents && no_states r.states

unfoldable pub is_blank_observation : Observation → Bool
is_blank_observation r = not r.special && not r.corrected && no_station r.station && no_instant r.time && not r.nil && no_observation r

-- ---- the trend

abbrev pub no_hours : Hours → Bool
no_hours hours.None = true
no_hours (hours.From f) = false
no_hours (hours.Until u) = false
no_hours (hours.Between f u) = false
no_hours (hours.At t) = false

abbrev pub no_tendency : Tendency → Bool
no_tendency tendency.None = true
no_tendency tendency.Becoming = false
no_tendency tendency.Temporary = false

abbrev pub is_blank_trend_change : TrendChange → Bool
is_blank_trend_change c = no_tendency c.tendency && no_hours c.times.is && is_blank_body c.body

abbrev pub no_trend : Trend → Bool
no_trend t = not t.nosig && eqb t.count 0 && every is_blank_trend_change t.items

unfoldable pub is_blank_metar : Metar → Bool
is_blank_metar r = is_blank_observation r.observation && no_trend r.trend

-- ---- TAF

-- the edition that a blank record names, in every other kind's report too
abbrev pub is_present : Edition → Bool
is_present edition.Present = true
is_present edition.Of2005 = false

abbrev pub is_same_edition : Edition → Edition → Bool
is_same_edition edition.Present edition.Present = true
is_same_edition edition.Present edition.Of2005 = false
is_same_edition edition.Of2005 edition.Present = false
is_same_edition edition.Of2005 edition.Of2005 = true

abbrev pub no_head : Leg → Bool
no_head r = no_correction r.correction && no_station r.station && no_instant r.time && not r.nil && no_period r.period && not r.cancelled

abbrev pub is_blank_change : Change → Bool
is_blank_change c = no_opening c.opening && no_period c.period && is_blank_body c.body

abbrev pub no_changes : Changes → Bool
no_changes cs = eqb cs.count 0 && every is_blank_change cs.items

unfoldable pub is_blank_taf : Taf → Bool
is_blank_taf t = is_present t.edition && no_head t.leg && is_blank_body t.leg.body && no_changes t.changes
