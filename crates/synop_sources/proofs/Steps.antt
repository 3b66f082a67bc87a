-- The laws of a walk over a SYNOP or SHIP: what the next group comes to.
-- Assumes nothing.
use Prim.Native.Nat.{ℕ, ◌<◌}
use native.Mathlib.Omega.{arith}
use mathlib.Core.Path.{◌≡◌, refl, sym, ap, subst, ◌∙◌}
use mathlib.Core.Bool.{Bool, true, false, ◌&&◌, cond}
use mathlib.Core.List.{List, []}
use lib.Dec.{eqb}
use borrow.Author.Tests.{eqb-true}
use Rattle.figures.proofs.Impossible.{impossible}
use Rattle.text.specs.declared.kinds.Refusal.{Refusal}
use Rattle.text.specs.declared.kinds.Cut.{Cut}
use Rattle.text.specs.declared.kinds.Cut.TheVariants as cut
use Rattle.text.specs.Groups.{groups_from, next_of, part_of}
use Rattle.text.proofs.Groups.{Follows, when-group, when-end}
use Rattle.shapes.specs.Pattern.{has_pattern, has_any}
use Rattle.shapes.proofs.Patterns.{both}
use Rattle.places.specs.declared.kinds.Turn.{Turn}
use Rattle.places.specs.declared.kinds.Turn.TheVariants as turn
use Rattle.places.specs.Engine.{Group}
use Rattle.places.specs.Turn.{turn_at}
use Rattle.places.proofs.Loop.{turn-room}
use Rattle.synop_row.specs.Row.{row, stop_words, section3_word}
use Rattle.synop_section.proofs.SectionSteps as first
use Rattle.section3.specs.Row as third
use Rattle.section3.specs.Step.{Opened}
use Rattle.section3.proofs.Turns as thirds
use Rattle.synop.specs.Read.{is_nil}
use Rattle.sources.specs.Trail.{Mark, Move, Takes, Opens, Ends, trail}
use Rattle.synop_sources.specs.declared.kinds.Met.{Met}
use Rattle.synop_sources.specs.declared.kinds.Met.TheVariants as met
use Rattle.synop_sources.specs.Trail.{name_place, sign_place, time_place, station_place, latitude_place, longitude_place, indicators_place, wind_place, head_turn, free, in_head, turn_in, mark_at, move_by, move, met_move, met_cut, met_of}

-- ---- no place has more than 2,048 groups

-- a group before section 1 is the only one at its place
data Lone : Turn → Type 0 where
  lone : {i : ℕ} → Lone (turn.At i 0)
  none : {f : Refusal} → Lone (turn.Refused f)

either : (b : Bool) {u v : Turn} → Lone u → Lone v → Lone (cond b u v)
either true p q = p
either false p q = q

head-lone : (ship : Bool) (c k : ℕ) (g : Group) → Lone (head_turn ship c k g)
head-lone ship c k g =
    either (eqb c name_place) (either (eqb k 0) lone (either ship lone lone))
    (either (eqb c sign_place) lone
    (either (eqb c time_place) (either ship lone lone)
    (either (eqb c station_place) (either (is_nil g) lone lone)
    (either (eqb c latitude_place) lone (either (eqb c longitude_place) lone (either (eqb c indicators_place) lone none))))))

lone-few : {u : Turn} {i n : ℕ} → Lone u → u ≡ turn.At i n → n < 2048
lone-few {n = n} lone e = let z : 0 ≡ n = cc in omega arith
lone-few none e = impossible (cc)

turn-few : (ship : Bool) (part c k : ℕ) (g : Group) (i n : ℕ) → turn_in ship part c k g ≡ turn.At i n → n < 2048
turn-few ship part c k g i n e = go (eqb part 0) (in_head c) (eqb c wind_place) e
  where
    section : (c k : ℕ) → turn_at (row free) (has_any stop_words) c k g ≡ turn.At i n → n < 2048
    section c k e = let h = turn-room (row free) (has_any stop_words) c k g 1 (first.row-few free) refl e in omega (arith, h)

    go : (a b d : Bool) → cond a (cond b (head_turn ship c k g) (cond d (turn_at (row free) (has_any stop_words) 0 0 g) (turn_at (row free) (has_any stop_words) c k g))) (turn_at third.row third.halts c k g) ≡ turn.At i n
        → n < 2048
    go true true d e = lone-few (head-lone ship c k g) e
    go true false true e = section 0 0 e
    go true false false e = section c k e
    go false b d e = turn-room third.row third.halts c k g 2048 thirds.row-few refl e

-- ---- the next group

module _ (t : List ℕ) (from : ℕ) (ship : Bool) (part c k : ℕ) where
  abbrev m : Mark Opened
  m = mark_at part c k

  pub met-end : {x : Cut} {at : ℕ} → x ≡ next_of t from → x ≡ cut.End at → met.Over ≡ met_of t from ship m
  unfolding met_of
  met-end a b = rw (← a, b)

  pub met-turn : {x : Cut} {s e : ℕ} {g : Group} {u v : Turn} {r : Met} → x ≡ next_of t from → x ≡ cut.Group s e → g ≡ part_of t s e → u ≡ turn_in ship part c k g → u ≡ v
      → r ≡ met_move s e (move_by part g v) → r ≡ met_of t from ship m
  unfolding met_of move
  met-turn a b cut turn is end = rw (← a, b, ← cut, ← turn, is) end

  -- ---- and what it was

  pub record Took (i n s e : ℕ) : Type 0 where
    pub follows : Follows t from s e
    pub moves : move ship m (part_of t s e) ≡ Takes i n i
    pub few : n < 2048

  pub record Began (s e : ℕ) : Type 0 where
    pub follows : Follows t from s e
    pub moves : move ship m (part_of t s e) ≡ Opens tt
    pub first : part ≡ 0

  abbrev MetSo : Met → Type 0
  MetSo met.Over = trail (move ship) m (groups_from t from) ≡ []
  MetSo (met.Takes i n s e) = Took i n s e
  MetSo (met.Opens s e) = Began s e

  moved : (s e : ℕ) (u : Turn) → turn_in ship part c k (part_of t s e) ≡ u → move ship m (part_of t s e) ≡ move_by part (part_of t s e) u
  unfolding move
  moved s e u is = ap (move_by part (part_of t s e)) is

  ended : {s e : ℕ} → Follows t from s e → move ship m (part_of t s e) ≡ Ends → trail (move ship) m (groups_from t from) ≡ []
  unfolding trail
  ended f moves = rw (f.groups, moves)

  none_left : groups_from t from ≡ [] → trail (move ship) m (groups_from t from) ≡ []
  unfolding trail
  none_left e = rw e

  met-so : MetSo (met_of t from ship m)
  unfolding met_of
  met-so = go (next_of t from) refl
    where
      by_turn : (s e : ℕ) → Follows t from s e → (u : Turn) → turn_in ship part c k (part_of t s e) ≡ u → MetSo (met_move s e (move_by part (part_of t s e) u))
      by_turn s e f (turn.At i n) is = record { follows = f; moves = moved s e (turn.At i n) is; few = turn-few ship part c k (part_of t s e) i n is }
      by_turn s e f turn.Halt is = word (eqb part 0 && has_pattern (part_of t s e) section3_word) refl (moved s e turn.Halt is)
        where
          word : (b : Bool) → (eqb part 0 && has_pattern (part_of t s e) section3_word) ≡ b → move ship m (part_of t s e) ≡ cond b (Opens tt) Ends → MetSo (met_move s e (cond b (Opens tt) Ends))
          word true c moves = record { follows = f; moves = moves; first = eqb-true part 0 (both (eqb part 0) _ c).0 }
          word false c moves = ended f moves
      by_turn s e f (turn.Refused r) is = ended f (moved s e (turn.Refused r) is)

      go : (x : Cut) → next_of t from ≡ x → MetSo (met_cut t ship m x)
      go (cut.End at) is = none_left (when-end t from at (sym is))
      go (cut.Group s e) is =
          subst (λ (v : Move Opened). MetSo (met_move s e v)) (sym (moved s e (turn_in ship part c k (part_of t s e)) refl))
          (by_turn s e (when-group t from s e (sym is)) (turn_in ship part c k (part_of t s e)) refl)

  pub was-over : {x : Met} → x ≡ met_of t from ship m → x ≡ met.Over → trail (move ship) m (groups_from t from) ≡ []
  was-over a b = subst MetSo (sym a ∙ b) met-so

  pub was-taken : {x : Met} {i n s e : ℕ} → x ≡ met_of t from ship m → x ≡ met.Takes i n s e → Took i n s e
  was-taken a b = subst MetSo (sym a ∙ b) met-so

  pub was-opened : {x : Met} {s e : ℕ} → x ≡ met_of t from ship m → x ≡ met.Opens s e → Began s e
  was-opened a b = subst MetSo (sym a ∙ b) met-so
