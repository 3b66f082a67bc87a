-- The laws of a walk over a METAR or SPECI: a group's move by its turn, and what the next group comes to.
-- Assumes nothing.
use Rattle.std.specs.Prelude.{None}
use Prim.Native.Nat.{ℕ, ◌<◌}
use mathlib.Core.Path.{◌≡◌, refl, sym, ap, subst, ◌∙◌}
use mathlib.Core.Bool.{Bool, true, false, ◌&&◌, cond}
use mathlib.Core.List.{List}
use lib.Dec.{eqb}
use Rattle.figures.specs.Quote.{bytes}
use Rattle.text.specs.declared.kinds.Cut.{Cut}
use Rattle.text.specs.declared.kinds.Cut.TheVariants as cut
use Rattle.text.specs.Groups.{next_of, part_of}
use Rattle.text.proofs.Groups.{Follows, when-group, when-end}
use Rattle.shapes.specs.Pattern.{has_pattern, has_any}
use Rattle.places.specs.declared.kinds.Turn.{Turn}
use Rattle.places.specs.declared.kinds.Turn.TheVariants as turn
use Rattle.places.specs.Engine.{Group, onward}
use Rattle.places.specs.Turn.{turn_at}
use Rattle.places.proofs.Loop.{turn-room}
use Rattle.metar.proofs.Steps as observed
use Rattle.metar_row.specs.Row as observation
use Rattle.trend.proofs.Steps as changes
use Rattle.trend_row.specs.declared.kinds.Word.{Word}
use Rattle.trend_row.specs.declared.kinds.Word.TheVariants as word
use Rattle.trend_row.specs.Row as trend
use Rattle.sources.specs.declared.kinds.Spot.{Spot}
use Rattle.sources.specs.Trail.{Mark, Move, Takes, Opens, Joins, Ends}
use Rattle.sources.specs.Route.{move_by, move_on}
use Rattle.sources.proofs.Walks.{looked, looked-over, looked-ends}
use Rattle.metar_sources.specs.declared.kinds.Met.{Met}
use Rattle.metar_sources.specs.declared.kinds.Met.TheVariants as met
use Rattle.metar_sources.specs.Trail.{word_move, route, mark_at, turn_in, past_in, met_move, met_cut, met_of}

-- ---- a group's move, by its turn

abbrev pub move_turn : ℕ → Word → Group → Turn → Move Word
move_turn part w g (turn.At i n) = Takes i n (past_in part w i)
move_turn part w g turn.Halt = word_move g
move_turn part w g (turn.Refused f) = Ends

pub move-turn : (part : ℕ) (w : Word) (c k : ℕ) (g : Group) → move_on route (mark_at part w c k) g ≡ move_turn part w g (turn_in part w c k g)
unfolding move_on
move-turn part w c k g = go (eqb part 0) (eqb c 0 && eqb k 0) (turn_at observation.row (has_any observation.words) c k g) (turn_at (trend.row (trend.is_change w)) (has_any observation.words) c k g)
  where
    by : (b : Bool) → Turn → Move Word
    by b (turn.At i n) = Takes i n (cond b (onward observation.row i) (onward (trend.row (trend.is_change w)) i))
    by b turn.Halt = word_move g
    by b (turn.Refused f) = Ends

    by-main : (u : Turn) → move_by word_move observation.row g u ≡ by true u
    by-main (turn.At i n) = refl
    by-main turn.Halt = refl
    by-main (turn.Refused f) = refl

    by_part : (u : Turn) → move_by word_move (trend.row (trend.is_change w)) g u ≡ by false u
    by_part (turn.At i n) = refl
    by_part turn.Halt = refl
    by_part (turn.Refused f) = refl

    same : (u : Turn) → by (eqb part 0) u ≡ move_turn part w g u
    same (turn.At i n) = refl
    same turn.Halt = refl
    same (turn.Refused f) = refl

    go' : (b front : Bool) (u v : Turn)
        → cond b (move_by word_move observation.row g u) (cond (front && false) (Joins w) (move_by word_move (trend.row (trend.is_change w)) g v)) ≡ by b (cond b u v)
    go' true front u v = by-main u
    go' false true u v = by_part v
    go' false false u v = by_part v

    go : (b front : Bool) (u v : Turn) → cond (eqb part 0) (move_by word_move observation.row g u) (cond (front && false) (Joins w) (move_by word_move (trend.row (trend.is_change w)) g v))
        ≡ move_turn part w g (cond (eqb part 0) u v)
    go b front u v = go' (eqb part 0) front u v ∙ same (cond (eqb part 0) u v)

-- a word opens a part, or the walk ends there
pub data Worded : Move Word → Type 0 where
  ends : Worded Ends
  opens : (w : Word) → Worded (Opens w)

pub worded : (g : Group) → Worded (word_move g)
unfolding word_move
worded g = go (has_any observation.stop_words g) (has_pattern g (bytes "NOSIG")) (has_pattern g (bytes "BECMG"))
  where
    go : (a b c : Bool) → Worded (cond a Ends (cond b (Opens word.Nosig) (Opens (cond c word.Becoming word.Temporary))))
    go true b c = ends
    go false true c = opens word.Nosig
    go false false c = opens (cond c word.Becoming word.Temporary)

-- no place of the observation has more than four groups, and none of a change
turn-few : (part : ℕ) (w : Word) (c k : ℕ) (g : Group) (i n : ℕ) → turn_in part w c k g ≡ turn.At i n → n < 4
turn-few part w c k g i n e = go (eqb part 0) e
  where
    go : (b : Bool) → cond b (turn_at observation.row (has_any observation.words) c k g) (turn_at (trend.row (trend.is_change w)) (has_any observation.words) c k g) ≡ turn.At i n → n < 4
    go true e = turn-room observation.row (has_any observation.words) c k g 4 observed.row-few refl e
    go false e = turn-room (trend.row (trend.is_change w)) (has_any observation.words) c k g 4 (changes.row-few (trend.is_change w)) refl e

-- ---- the next group

module _ (t : List ℕ) (from part : ℕ) (w : Word) (c k : ℕ) where
  abbrev m : Mark Word
  m = mark_at part w c k

  pub met-end : {x : Cut} {at : ℕ} → x ≡ next_of t from → x ≡ cut.End at → met.Over ≡ met_of t from m
  unfolding met_of
  met-end a b = rw (← a, b)

  pub met-turn : {x : Cut} {s e : ℕ} {g : Group} {u v : Turn} {r : Met} → x ≡ next_of t from → x ≡ cut.Group s e → g ≡ part_of t s e → u ≡ turn_in part w c k g → u ≡ v
      → r ≡ met_move s e (move_turn part w g v) → r ≡ met_of t from m
  unfolding met_of
  met-turn {s = s} {e} {g} {r = r} a b cut turn is end =
      rw (← a, b, ← cut, move-turn part w c k g, ← turn, is) end

  -- ---- and what it was

  pub record Took (i n past s e : ℕ) : Type 0 where
    pub follows : Follows t from s e
    pub moves : move_on route m (part_of t s e) ≡ Takes i n past
    pub few : n < 4

  pub record Began (v : Word) (s e : ℕ) : Type 0 where
    pub follows : Follows t from s e
    pub moves : move_on route m (part_of t s e) ≡ Opens v

  abbrev MetSo : Met → Type 0
  MetSo met.Over = (q : ℕ) (p : Spot) → None ≡ looked (move_on route) q p t m from
  MetSo (met.Takes i n past s e) = Took i n past s e
  MetSo (met.Opens v s e) = Began v s e

  met-so : MetSo (met_of t from m)
  unfolding met_of
  met-so = go (next_of t from) refl
    where
      by_turn : (s e : ℕ) → Follows t from s e → (u : Turn) → turn_in part w c k (part_of t s e) ≡ u → MetSo (met_move s e (move_turn part w (part_of t s e) u))
      by_turn s e f (turn.At i n) is =
          record { follows = f; moves = move-turn part w c k (part_of t s e) ∙ ap (move_turn part w (part_of t s e)) is; few = turn-few part w c k (part_of t s e) i n is }
      by_turn s e f turn.Halt is = word (word_move (part_of t s e)) (worded (part_of t s e)) (move-turn part w c k (part_of t s e) ∙ ap (move_turn part w (part_of t s e)) is)
        where
          word : (v : Move Word) → Worded v → move_on route m (part_of t s e) ≡ v → MetSo (met_move s e v)
          word _ ends moves = λ q p. looked-ends (move_on route) q p t m from f moves
          word _ (opens v) moves = record { follows = f; moves = moves }
      by_turn s e f (turn.Refused r) is = λ q p. looked-ends (move_on route) q p t m from f (move-turn part w c k (part_of t s e) ∙ ap (move_turn part w (part_of t s e)) is)

      go : (x : Cut) → next_of t from ≡ x → MetSo (met_cut t m x)
      go (cut.End at) is = λ q p. looked-over (move_on route) q p t m from (when-end t from at (sym is))
      go (cut.Group s e) is =
          subst (λ (v : Move Word). MetSo (met_move s e v)) (sym (move-turn part w c k (part_of t s e)))
          (by_turn s e (when-group t from s e (sym is)) (turn_in part w c k (part_of t s e)) refl)

  pub was-over : {x : Met} → x ≡ met_of t from m → x ≡ met.Over → (q : ℕ) (p : Spot) → None ≡ looked (move_on route) q p t m from
  was-over a b = subst MetSo (sym a ∙ b) met-so

  pub was-taken : {x : Met} {i n past s e : ℕ} → x ≡ met_of t from m → x ≡ met.Takes i n past s e → Took i n past s e
  was-taken a b = subst MetSo (sym a ∙ b) met-so

  pub was-opened : {x : Met} {v : Word} {s e : ℕ} → x ≡ met_of t from m → x ≡ met.Opens v s e → Began v s e
  was-opened a b = subst MetSo (sym a ∙ b) met-so
