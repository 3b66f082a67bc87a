-- The row of a trend's change keeps what is written of a change that is judged fine: its times as they are, its body as its class.
-- Assumes nothing.
use Prim.Native.Nat.{ℕ}
use mathlib.Core.Path.{◌≡◌, refl, ap}
use mathlib.Core.Bool.{Bool, true, false}
use mathlib.Core.List.{List, ◌∷◌}
use lib.ListN.{drop}
use Rattle.places.specs.Engine.{put_all}
use Rattle.places.proofs.ReadBack.{stops_any}
use Rattle.places.proofs.Kept.{KeptRow, done, more, keep-none}
use Rattle.places.proofs.Lift.{Lens, kept-lifted, kept-row-lifted}
use Rattle.record.specs.declared.aerodrome.Times.{Times}
use Rattle.record.specs.declared.aerodrome.TrendChange.{TrendChange}
use Rattle.record.specs.Body.{blank_body}
use Rattle.record.specs.Trend.{set_times, set_body, blank_times}
use Rattle.record.specs.Arrays.{BodyArrays}
use Rattle.elements.specs.Body.{changing, body_row, has_element, class_body}
use Rattle.body.proofs.Places.{Live}
use Rattle.body.proofs.Bodies.{FairBody, body_sizes, kept-body, element-classed}
use Rattle.trend_row.specs.Times.{hours_fit}
use Rattle.trend_row.specs.Row.{row}
use Rattle.trend_row.proofs.TimesBack.{kept-times, times-back}

times-lens : Lens (λ (c : TrendChange). c.times) set_times
times-lens = record { got = λ a c. refl; same = λ c. refl; twice = λ a b c. refl }

body-lens : Lens (λ (c : TrendChange). c.body) set_body
body-lens = record { got = λ a c. refl; same = λ c. refl; twice = λ a b c. refl }

-- the body of a change stands under these terms
pub live : Live changing
live = record { heard = refl; stands = refl }

-- the bytes that a group may have at each place
abbrev pub change_sizes : List ℕ
change_sizes = 0 ∷ 6 ∷ 6 ∷ 6 ∷ body_sizes

kept-elements : (c acc : TrendChange) → BodyArrays c.body → FairBody changing c.body → acc.body ≡ blank_body → KeptRow body_sizes (drop 4 (row true)) c acc
unfolding row
kept-elements c acc arrays fair bare = kept-row-lifted body-lens {ps = body_row changing} c acc (rw bare (kept-body changing live c.body arrays fair))

-- THE ROW KEEPS WHAT IS WRITTEN OF A CHANGE.
pub kept-change-row : (c : TrendChange) → BodyArrays c.body → hours_fit c.times.is ≡ true → FairBody changing c.body
    → (acc : TrendChange) → acc.times ≡ blank_times → acc.body ≡ blank_body → KeptRow change_sizes (row true) c acc
unfolding row
kept-change-row c arrays fit fair acc none bare =
    let k = kept-times c.times.is fit acc.times (ap (λ (t : Times). t.is) none) in
    more (keep-none refl refl refl) refl
    (more (kept-lifted times-lens k.0) refl (more (kept-lifted times-lens k.1) refl (more (kept-lifted times-lens k.2) refl (kept-elements c _ arrays fair bare))))

-- what is read back: the times are those of the change, each rounded number of the body is the reading of its class
pub change-classed : (c acc : TrendChange) → acc.times ≡ blank_times
    → put_all (row true) c acc ≡ record { tendency = acc.tendency; times = c.times; body = class_body c.body }
unfolding row
change-classed c acc none = rw (none, times-back c.times.is)

-- it has an element where the change has one
pub element-back : (c acc : TrendChange) → has_element (put_all (row true) c acc).body ≡ has_element c.body
unfolding row
element-back c acc = element-classed c.body

-- ---- NOSIG, after which nothing is written and nothing is read

pub kept-closed : (c acc : TrendChange) → KeptRow change_sizes (row false) c acc
unfolding row
kept-closed c acc =
    more (keep-none refl refl refl) refl
    (more (keep-none refl refl refl) refl
    (more (keep-none refl refl refl) refl
    (more (keep-none refl refl refl) refl
    (more (keep-none refl refl refl) refl
    (more (keep-none refl refl refl) refl
    (more (keep-none refl refl refl) refl
    (more (keep-none refl refl refl) refl done)))))))

-- reading ends at none of the row's places
pub change-goes-on : (free : Bool) (c : TrendChange) → stops_any (row free) c ≡ false
unfolding row
change-goes-on true c = refl
change-goes-on false c = refl
