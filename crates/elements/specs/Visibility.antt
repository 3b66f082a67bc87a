-- Visibility: VVVV by its scale, ////, which "in a TAF" is 5, or CAVOK, which "stands for visibility, weather and clouds".
-- Assumes nothing: these are definitions.
use Rattle.std.specs.Prelude.{⊤, Bool, true, false, cond, not, List, [], ◌∷◌, leb, Ok, Result}
use Rattle.text.specs.declared.kinds.Refusal.{Refusal}
use Rattle.figures.specs.Quote.{bytes}
use Rattle.figures.specs.Figures.{field_at, figures}
use Rattle.shapes.specs.Pattern.{Pattern, has_pattern}
use Rattle.places.specs.Engine.{Group}
use Rattle.scales.specs.Scale.{figure_of, foot_of}
use Rattle.scales.specs.Metres.{visibility, metres_reading}
use Rattle.record.specs.declared.aerodrome.View.{View}
use Rattle.record.specs.declared.aerodrome.View.TheVariants as view
use Rattle.record.specs.declared.aerodrome.Visibility.{Visibility}
use Rattle.text.specs.Judge.{judge}
use Rattle.elements.specs.Parts.{may_miss, used, provided}

abbrev pub visibility_shapes : List Pattern
visibility_shapes = bytes "####" ∷ bytes "CAVOK" ∷ []

unfoldable pub read_visibility : Bool → Group → Result Visibility Refusal
read_visibility forecast g =
    cond (has_pattern g (bytes "CAVOK")) (Ok (record { is = view.Cavok }))
    (may_miss (field_at g 0 4) (provided (not forecast) (Ok (record { is = view.Missing })))
    (λ n. used (metres_reading visibility n) (λ m. Ok (record { is = view.Metres m }))))

abbrev pub is_cavok : Visibility → Bool
is_cavok v = elim v.is [ view.Missing ↦ false | view.Cavok ↦ true | view.Metres m ↦ false ]

-- ---- writing, judging, and what is read back

abbrev pub view_group : View → Group
view_group view.Missing = bytes "////"
view_group view.Cavok = bytes "CAVOK"
view_group (view.Metres m) = figures 4 (figure_of visibility m)

unfoldable pub show_visibility : Visibility → Group
show_visibility v = view_group v.is

abbrev pub view_fits : Bool → View → Bool
view_fits forecast view.Missing = not forecast
view_fits forecast view.Cavok = true
view_fits forecast (view.Metres m) = leb m 99999

unfoldable pub judge_visibility : Bool → Visibility → Result ⊤ Refusal
judge_visibility forecast v = judge (view_fits forecast v.is) true

abbrev pub class_view : View → View
class_view view.Missing = view.Missing
class_view view.Cavok = view.Cavok
class_view (view.Metres m) = view.Metres (foot_of visibility m)

abbrev pub class_visibility : Visibility → Visibility
class_visibility v = record { is = class_view v.is }
