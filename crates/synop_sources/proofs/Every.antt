-- EVERY GROUP OF THE TRAIL OF A SYNOP OR SHIP WAS TAKEN AT THE SPOT OF AN ITEM: of one that is known by its position, of section 1 or of section 3, among the
-- layers of section 3, or as 333, which opens it. It is so of every text, and so of those that are accepted.
-- Assumes nothing.
use Prim.Native.Nat.{ℕ, ◌+◌, ◌<◌}
use native.Mathlib.Omega.{arith}
use mathlib.Core.Path.{◌≡◌, refl, subst}
use mathlib.Core.Bool.{Bool, true, false, cond}
use mathlib.Core.List.{List, [], ◌∷◌}
use lib.Dec.{eqb}
use Rattle.text.specs.declared.kinds.Refusal.{Refusal}
use Rattle.text.specs.Groups.{Piece, groups_from}
use Rattle.shapes.specs.Pattern.{has_pattern, has_any}
use Rattle.places.specs.declared.kinds.Turn.{Turn}
use Rattle.places.specs.declared.kinds.Turn.TheVariants as turn
use Rattle.places.specs.Engine.{Group, Place}
use Rattle.places.specs.Turn.{turn_at}
use Rattle.synop_row.specs.Row.{row, stop_words, section3_word}
use Rattle.section3.specs.Row as third
use Rattle.synop.specs.Read.{is_nil}
use Rattle.sources.specs.declared.kinds.Spot.{Spot}
use Rattle.sources.specs.declared.kinds.Spot.TheVariants as spot
use Rattle.sources.specs.Trail.{Opens, Ends, Taken, after_move, trail}
use Rattle.sources.proofs.Rows.{turn-within}
use Rattle.sources.proofs.Fields.{◌&◌, Rows, row_at}
use Rattle.sources.proofs.Own.{EachTaken}
use Rattle.sources.proofs.Every.{SpotIs}
use Rattle.synop_sources.specs.declared.kinds.Element.{Element}
use Rattle.synop_sources.specs.declared.kinds.Element.TheVariants as element
use Rattle.synop_sources.specs.Trail.{name_place, sign_place, time_place, station_place, latitude_place, longitude_place, indicators_place, wind_place, head_turn, free, section_turn, in_head, mark_at, move_by, move, ship_in, trail_of}
use Rattle.synop_sources.specs.Items.{part_of, place_of, spot_of, layers_place}

-- THE SPOTS OF THE ITEMS, of which `surface-source`, `opening-source` and `layer-source` speak.
pub data IsItem : ℕ → Spot → Type 0 where
  of-element : (e : Element) → IsItem (part_of e) (spot_of e)
  of_word : IsItem 1 spot.Opening
  of-layers : (n : ℕ) → IsItem 1 (spot.At layers_place n)

-- ---- where a group may be taken

-- in that part, a group that is taken is taken at the spot of an item
data Proper (part : ℕ) : Turn → Type 0 where
  taken : {i n : ℕ} → IsItem part (spot.At i n) → Proper part (turn.At i n)
  halts : Proper part turn.Halt
  refused : {f : Refusal} → Proper part (turn.Refused f)

either : {part : ℕ} (b : Bool) {u v : Turn} → Proper part u → Proper part v → Proper part (cond b u v)
either true p q = p
either false p q = q

-- before section 1
head-proper : (ship : Bool) (c k : ℕ) (g : Group) → Proper 0 (head_turn ship c k g)
head-proper ship c k g =
    either (eqb c name_place)
    (either (eqb k 0) (taken (of-element element.Name)) (either ship (taken (of-element element.Sign)) (taken (of-element element.Time))))
    (either (eqb c sign_place) (taken (of-element element.Time))
    (either (eqb c time_place) (either ship (taken (of-element element.Latitude)) (taken (of-element element.Station)))
    (either (eqb c station_place) (either (is_nil g) (taken (of-element element.Nil)) (taken (of-element element.Indicators)))
    (either (eqb c latitude_place) (taken (of-element element.Longitude))
    (either (eqb c longitude_place) (taken (of-element element.Indicators))
    (either (eqb c indicators_place) (taken (of-element element.Wind)) refused))))))

-- as many groups as a place of a row has room for
abbrev ItemsAt : {R : Type 0} → ℕ → ℕ → Place R → Type 0
ItemsAt part i p = (n : ℕ) → n < p.most → IsItem part (spot.At i n)

row-proper : {R : Type 0} (part : ℕ) (row : List (Place R)) (stops : Group → Bool) → Rows (ItemsAt part) 0 row → (c k : ℕ) (g : Group)
    → Proper part (turn_at row stops c k g)
row-proper part row stops items c k g = go (turn_at row stops c k g) refl
  where
    go : (u : Turn) → turn_at row stops c k g ≡ u → Proper part u
    go (turn.At i n) is = taken (row_at (ItemsAt part) row items (λ j m few. absurd (omega arith)) i n (turn-within row stops c k g i n is).1)
    go turn.Halt is = halts
    go (turn.Refused f) is = refused

-- where one group may stand
only : (e : Element) (n : ℕ) → n < 1 → IsItem (part_of e) (spot.At (place_of e) n)
only e n few = let first : 0 ≡ n = omega arith in subst (λ (m : ℕ). IsItem (part_of e) (spot.At (place_of e) m)) first (of-element e)

first-items : Rows (ItemsAt 0) 0 (row free)
unfolding row
first-items =
    only element.Speed
    & only element.Air
    & only element.Moisture
    & only element.Pressure
    & only element.Level
    & only element.Tendency
    & only element.Rainfall
    & only element.Weather
    & only element.Clouds
    & only element.Clock
    & tt

third-items : Rows (ItemsAt 1) 0 third.row
unfolding third.row
third-items = only element.Maximum & only element.Minimum & (λ n few. of-layers n) & tt

section-proper : (c k : ℕ) (g : Group) → Proper 0 (section_turn c k g)
section-proper c k g =
    either (eqb c wind_place) (row-proper 0 (row free) (has_any stop_words) first-items 0 0 g) (row-proper 0 (row free) (has_any stop_words) first-items c k g)

-- ---- the walk

abbrev Items : List Taken → Type 0
Items = EachTaken (SpotIs IsItem)

module _ (ship : Bool) where
  -- in section 3, which no other part follows
  third-walk : (c k : ℕ) (gs : List Piece) → Items (trail (move ship) (mark_at 1 c k) gs)
  unfolding trail move
  third-walk c k [] = tt
  third-walk c k (g ∷ gs) = go (row-proper 1 third.row third.halts third-items c k g.bytes) (λ i n. third-walk i n gs)
    where
      go : {u : Turn} → Proper 1 u → ((i n : ℕ) → Items (trail (move ship) (mark_at 1 i n) gs))
          → Items (after_move (mark_at 1 c k) g (λ m. trail (move ship) m gs) (move_by 1 g.bytes u))
      go (taken {i} {n} x) later = (x, later i (n + 1))
      go halts later = tt
      go refused later = tt

  -- from the name on
  first_walk : (c k : ℕ) (gs : List Piece) → Items (trail (move ship) (mark_at 0 c k) gs)
  unfolding trail move
  first_walk c k [] = tt
  first_walk c k (g ∷ gs) = go (either (in_head c) (head-proper ship c k g.bytes) (section-proper c k g.bytes)) (λ i n. first_walk i n gs)
    where
      word : (b : Bool) → Items (after_move (mark_at 0 c k) g (λ m. trail (move ship) m gs) (cond b (Opens tt) Ends))
      word true = (of_word, third-walk 0 0 gs)
      word false = tt

      go : {u : Turn} → Proper 0 u → ((i n : ℕ) → Items (trail (move ship) (mark_at 0 i n) gs))
          → Items (after_move (mark_at 0 c k) g (λ m. trail (move ship) m gs) (move_by 0 g.bytes u))
      go (taken {i} {n} x) later = (x, later i (n + 1))
      go halts later = word (has_pattern g.bytes section3_word)
      go refused later = tt

-- EACH GROUP OF THE TRAIL WAS TAKEN AT THE SPOT OF AN ITEM.
pub trail-items : (t : List ℕ) → EachTaken (SpotIs IsItem) (trail_of t)
unfolding trail_of
trail-items t = first_walk (ship_in t) name_place 0 (groups_from t 0)
