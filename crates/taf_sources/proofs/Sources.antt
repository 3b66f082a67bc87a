-- WHERE THE ITEMS OF A TAF'S MAIN PART WERE READ FROM, in a text whose groups come to a record; and that its trail holds every group up to the unread rest.
-- Assumes nothing.
use Rattle.std.specs.Prelude.{Ok}
use Prim.Native.Nat.{ℕ, ◌<◌}
use mathlib.Core.Path.{◌≡◌, refl, sym, subst}
use mathlib.Core.Bool.{Bool, not}
use mathlib.Core.List.{List, ◌++◌, map}
use lib.ListN.{length}
use Rattle.figures.proofs.Impossible.{impossible}
use Rattle.text.specs.Groups.{groups_from}
use Rattle.text.specs.Text.{tail_of}
use Rattle.places.specs.Engine.{Group, Done}
use Rattle.places.specs.Parts.{Word, Opens}
use Rattle.record.specs.declared.aerodrome.Opening.{Opening}
use Rattle.record.specs.declared.aerodrome.Opening.TheVariants as opening
use Rattle.record.specs.declared.aerodrome.Leg.{Leg}
use Rattle.record.specs.declared.aerodrome.Edition.{Edition}
use Rattle.record.specs.declared.aerodrome.Taf.{Taf}
use Rattle.record.specs.Taf.{blank_leg, blank_taf}
use Rattle.taf_row.specs.declared.kinds.Part.TheVariants as part
use Rattle.taf_row.specs.Row.{element_stands, row}
use Rattle.taf.specs.Read.{opened_by, part_of, change_of, with_change, groups_read}
use Rattle.sources.specs.declared.kinds.Spot.TheVariants as spot
use Rattle.sources.specs.Trail.{Taken, group, origin_in, source_of}
use Rattle.sources.specs.Trail as walk
use Rattle.sources.proofs.Rows.{first}
use Rattle.sources.proofs.Parts.{as_taken, main_of, Read-on, report-done, report-walked}
use Rattle.sources.proofs.Own.{EachTaken, report-own}
use Rattle.sources.proofs.Items.{Stems, main-stems, main-shaped, Covers, report-covers}
use Rattle.sources.proofs.Texts.{ReadFrom, read-from}
use Rattle.taf_sources.specs.declared.kinds.Element.{Element}
use Rattle.taf_sources.specs.declared.kinds.Element.TheVariants as element
use Rattle.taf_sources.specs.Trail.{word_move, route, trail_of}
use Rattle.taf_sources.specs.Items.{place_of, most_of, value_of, Said}
use Rattle.taf_sources.proofs.Items.{fair_of, LegItem, correction-item, station-item, time-item, nil-item, period-item, cancelled-item, wind-item, visibility-item, weather-item, clouds-item}
use Rattle.taf_sources.proofs.Words.{joins-once}

-- ---- the report as its route: what a word comes to, and how a part is taken in

abbrev pub coming : Edition → Taf → Group → Word Opening Leg
coming e t g = Opens (opened_by e g)

abbrev pub begun : Edition → Leg → Taf
begun e r = record { edition = e; leg = r; changes = blank_taf.changes }

abbrev pub main_lacks : Leg → Bool
main_lacks r = not (element_stands part.Main r.body)

abbrev pub takes : Taf → Opening → Leg → Taf
takes t o r = record { edition = t.edition; leg = t.leg; changes = with_change t.changes (change_of o r) }

abbrev pub lacks : Taf → Opening → Leg → Bool
lacks t o r = not (element_stands (part_of o) r.body)

-- the group's own definition says what opens the part
pub word-opens : (e : Edition) (t : Taf) (g : Group) (w : Opening) (p : Leg) → coming e t g ≡ Opens (Ok (record { kind = w; start = p }))
    → opened_by e g ≡ Ok (record { kind = w; start = p })
word-opens e t g w p is = cc

word-moves : (e : Edition) (t : Taf) (g : Group) (w : Opening) (p : Leg) → coming e t g ≡ Opens (Ok (record { kind = w; start = p })) → word_move e g ≡ walk.Opens w
unfolding word_move
word-moves e t g w p is = rw (word-opens e t g w p is)

module _ (e : Edition) (t : List ℕ) (rest : ℕ) (r : Taf) (reads : groups_read e (tail_of t) (length t) (groups_from t 0) ≡ Done rest r) where
  -- the reading, part by part and group by group
  pub went : Read-on (route e) (coming e) (begun e) main_lacks takes lacks (tail_of t) (length t) rest r (main_of (route e) (coming e) (begun e) main_lacks takes lacks) 0 blank_leg (groups_from t 0)
  unfolding groups_read
  went = report-done (route e) (coming e) (begun e) main_lacks takes lacks (tail_of t) (length t) rest r 16 blank_leg (groups_from t 0) reads

  pub walked : trail_of e t ≡ map (as_taken 0) went.entries ++ went.follows.taken
  unfolding trail_of
  walked = report-walked (route e) (coming e) (begun e) main_lacks takes lacks (λ x g is. impossible (cc)) (word-moves e) joins-once went opening.None

  -- EVERY GROUP UP TO THE UNREAD REST IS IN THE TRAIL, in its order.
  pub trail-covers : Covers (length t) rest (groups_from t 0) (trail_of e t)
  trail-covers = subst (Covers (length t) rest (groups_from t 0)) (sym walked) (report-covers (route e) (coming e) (begun e) main_lacks takes lacks went)

  -- EACH GROUP OF THE TRAIL IS THE ONE FOUND WHERE IT WAS TAKEN: it is the source of what was taken there, and no other group is.
  pub trail-own : EachTaken (λ x. origin_in x.part x.spot (trail_of e t) ≡ group x.piece) (trail_of e t)
  trail-own =
      subst (λ (xs : List Taken). EachTaken (λ x. origin_in x.part x.spot xs ≡ group x.piece) xs) (sym walked)
      (report-own (route e) (coming e) (begun e) main_lacks takes lacks went)

  -- what is said of an item's source
  abbrev Stem : (x : Element) → ℕ → List Taken → Type 0
  Stem x k xs = Stems (λ g. Said e x g.bytes (value_of x k r.leg)) (value_of x k r.leg ≡ value_of x k blank_leg) (origin_in 0 (spot.At (place_of x) k) xs)

  by-item : (x : Element) (k : ℕ) → LegItem e x k → fair_of x blank_leg → Stem x k (map (as_taken 0) went.entries ++ went.follows.taken)
  by-item x k item fair =
      main-stems (route e) (coming e) (begun e) main_lacks takes lacks {get = λ t. value_of x k t.leg} item (λ o. refl) (λ t w p. refl) went fair refl

  name-stems : (k : ℕ) → Stem element.Name k (map (as_taken 0) went.entries ++ went.follows.taken)
  unfolding row
  name-stems k = main-shaped (route e) (coming e) (begun e) main_lacks takes lacks went 0 k refl

  leg-stems : (x : Element) (k : ℕ) → k < most_of x → Stem x k (map (as_taken 0) went.entries ++ went.follows.taken)
  leg-stems element.Name k few = name-stems k
  leg-stems element.Correction k few = by-item element.Correction k (first 1 k _ _ few (correction-item e)) tt
  leg-stems element.Station k few = by-item element.Station k (first 2 k _ _ few (station-item e)) tt
  leg-stems element.Time k few = by-item element.Time k (first 3 k _ _ few (time-item e)) tt
  leg-stems element.Nil k few = by-item element.Nil k (first 4 k _ _ few (nil-item e)) tt
  leg-stems element.Period k few = by-item element.Period k (first 5 k _ _ few (period-item e)) tt
  leg-stems element.Cancelled k few = by-item element.Cancelled k (first 7 k _ _ few (cancelled-item e)) tt
  leg-stems element.Wind k few = by-item element.Wind k (first 8 k _ _ few (wind-item e part.Main)) tt
  leg-stems element.Visibility k few = by-item element.Visibility k (first 9 k _ _ few (visibility-item e part.Main)) tt
  leg-stems element.Weather k few = by-item element.Weather k (weather-item e part.Main k few) refl
  leg-stems element.Clouds k few = by-item element.Clouds k (clouds-item e part.Main k few) refl

  -- EACH ITEM OF THE MAIN PART is what the definition of its group says of the bytes that it was read from, or, with no such group, it is missing.
  pub leg-source : (x : Element) (k : ℕ) → k < most_of x
      → ReadFrom t (λ g. Said e x g (value_of x k r.leg)) (value_of x k r.leg ≡ value_of x k blank_leg) (source_of (origin_in 0 (spot.At (place_of x) k) (trail_of e t)))
  leg-source x k few = read-from t 0 (spot.At (place_of x) k) (trail_of e t) trail-covers (subst (Stem x k) (sym walked) (leg-stems x k few))
