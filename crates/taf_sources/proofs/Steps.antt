-- The laws of a walk over a TAF: a group's move by its turn, and what the next group comes to.
-- Assumes nothing.
use Rattle.std.specs.Prelude.{None, Option, Some}
use Prim.Native.Nat.{ℕ, ◌+◌, ◌≤◌, ◌<◌}
use native.Mathlib.Omega.{arith}
use mathlib.Core.Path.{◌≡◌, refl, sym, subst, ◌∙◌}
use mathlib.Core.Bool.{Bool, true, false, not, cond, ◌&&◌}
use mathlib.Core.List.{List}
use lib.Dec.{eqb}
use Rattle.text.specs.declared.kinds.Cut.{Cut}
use Rattle.text.specs.declared.kinds.Cut.TheVariants as cut
use Rattle.text.specs.Groups.{next_of, part_of as bytes_of}
use Rattle.text.proofs.Groups.{Follows, when-group, when-end}
use Rattle.shapes.specs.Pattern.{has_any}
use Rattle.places.specs.declared.kinds.Turn.{Turn}
use Rattle.places.specs.declared.kinds.Turn.TheVariants as turn
use Rattle.places.specs.Engine.{Group}
use Rattle.places.specs.Turn.{turn_at}
use Rattle.places.proofs.Loop.{turn-room}
use Rattle.record.specs.declared.aerodrome.Opening.{Opening}
use Rattle.record.specs.declared.aerodrome.Edition.{Edition}
use Rattle.taf_row.specs.declared.kinds.Part.{Part}
use Rattle.taf_row.specs.declared.kinds.Part.TheVariants as part
use Rattle.taf_row.specs.Row.{row, change_words}
use Rattle.taf_row.specs.Tests.{joins}
use Rattle.taf_row.proofs.Rows.{row-few}
use Rattle.taf.specs.Read.{after_probable, part_of}
use Rattle.sources.specs.declared.kinds.Spot.{Spot}
use Rattle.sources.specs.Trail.{Mark, Move, Takes, Opens, Joins, Ends, same_spot, source_at}
use Rattle.sources.specs.Route.{move_by, move_on}
use Rattle.sources.proofs.Walks.{looked, looked-over, looked-ends, takes-found, takes-on, opens-found, opens-on, joins-found, joins-on}
use Rattle.taf_sources.specs.declared.kinds.Step.{Step}
use Rattle.taf_sources.specs.Trail.{word_move, route, mark_at, row_of, belongs, met_move, met_cut, met_of}

module _ (e : Edition) where
  abbrev pub turn_in : Part → ℕ → ℕ → Group → Turn
  turn_in w c k g = turn_at (row e w) (has_any (change_words e)) c k g

  -- no place has more than four groups
  pub turn-few : (w : Part) (c k : ℕ) (g : Group) {u : Turn} {i n : ℕ} → u ≡ turn_in w c k g → u ≡ turn.At i n → n < 4
  turn-few w c k g a b = turn-room (row e w) (has_any (change_words e)) c k g 4 (row-few e w) refl (sym a ∙ b)

  -- A GROUP'S MOVE: it belongs to the word before it, or it goes by its turn.
  abbrev move_turn : Part → Group → Turn → Move Opening
  move_turn w g u = move_by (word_move e) (row e w) g u

  move-so : (q : ℕ) (o : Opening) (c k : ℕ) (g : Group)
      → move_on (route e) (mark_at q o c k) g ≡ cond (belongs q o c k g) (Joins (after_probable o)) (move_turn (row_of q o) g (turn_in (row_of q o) c k g))
  unfolding move_on
  move-so q o c k g = go (eqb q 0)
    where
      go : (b : Bool) → cond b (move_turn part.Main g (turn_in part.Main c k g))
          (cond ((eqb c 0 && eqb k 0) && joins o g) (Joins (after_probable o)) (move_turn (part_of o) g (turn_in (part_of o) c k g)))
          ≡ cond (not b && ((eqb c 0 && eqb k 0) && joins o g)) (Joins (after_probable o))
          (move_turn (cond b part.Main (part_of o)) g (turn_in (cond b part.Main (part_of o)) c k g))
      go true = refl
      go false = refl

-- ---- the next group

module _ (e : Edition) (t : List ℕ) (from q : ℕ) (o : Opening) (c k : ℕ) where
  abbrev m : Mark Opening
  m = mark_at q o c k

  pub met-end : {x : Cut} {at : ℕ} → x ≡ next_of t from → x ≡ cut.End at → None ≡ met_of e t from m
  unfolding met_of
  met-end a b = rw (← a, b)

  module _ {x : Cut} {start end : ℕ} {g : Group} {b : Bool} (next : x ≡ next_of t from) (is : x ≡ cut.Group start end) (bytes : g ≡ bytes_of t start end)
      (asked : b ≡ belongs q o c k g) where
    pub met-joined : {r : Option Step} → b ≡ true → r ≡ met_move o start end (Joins (after_probable o)) → r ≡ met_of e t from m
    unfolding met_of
    met-joined joins made = rw (← next, is, ← bytes, move-so e q o c k g, ← asked, joins) made

    pub met-turn : {w : Part} {u v : Turn} {r : Option Step} → b ≡ false → w ≡ row_of q o → u ≡ turn_in e w c k g → u ≡ v
        → r ≡ met_move o start end (move_by (word_move e) (row e (row_of q o)) g v) → r ≡ met_of e t from m
    unfolding met_of
    met-turn {v = v} alone held turned known made =
        let turn : turn_in e (row_of q o) c k g ≡ v = rw (← held) (sym turned ∙ known) in
        rw (← next, is, ← bytes, move-so e q o c k g, ← asked, alone, turn) made

  -- ---- and what it was

  -- the source that is looked for is this group, or it is looked for behind it
  pub record Stepped (x : Step) : Type 0 where
    pub follows : Follows t from x.start x.end
    pub few : x.parts ≤ 1
    pub found : (p : ℕ) (s : Spot) → (eqb p (q + x.parts) && same_spot s x.spot) ≡ true
        → Some (source_at x.start x.end) ≡ looked (move_on (route e)) p s t m from
    pub on : (p : ℕ) (s : Spot) → (eqb p (q + x.parts) && same_spot s x.spot) ≡ false
        → looked (move_on (route e)) p s t (mark_at (q + x.parts) x.opener x.place x.count) x.end ≡ looked (move_on (route e)) p s t m from

  abbrev MetSo : Option Step → Type 0
  MetSo None = (p : ℕ) (s : Spot) → None ≡ looked (move_on (route e)) p s t m from
  MetSo (Some x) = Stepped x

  none : q + 0 ≡ q
  none = omega arith

  met-so : MetSo (met_of e t from m)
  unfolding met_of
  met-so = go (next_of t from) refl
    where
      by_move : (start end : ℕ) → Follows t from start end → (v : Move Opening) → move_on (route e) m (bytes_of t start end) ≡ v → MetSo (met_move o start end v)
      by_move start end f (Takes i n past) is =
          record {
            follows = f;
            few = omega arith;
            found = λ p s h. takes-found (move_on (route e)) p s t m from f is (rw none at h);
            on = λ p s h. rw none (takes-on (move_on (route e)) p s t m from f is (rw none at h));
          }
      by_move start end f (Opens w) is =
          record {
            follows = f;
            few = omega arith;
            found = λ p s h. opens-found (move_on (route e)) p s t m from f is h;
            on = λ p s h. opens-on (move_on (route e)) p s t m from f is h;
          }
      by_move start end f (Joins w) is =
          record {
            follows = f;
            few = omega arith;
            found = λ p s h. joins-found (move_on (route e)) p s t m from f is (rw none at h);
            on = λ p s h. rw none (joins-on (move_on (route e)) p s t m from f is (rw none at h));
          }
      by_move start end f Ends is = λ p s. looked-ends (move_on (route e)) p s t m from f is

      go : (x : Cut) → next_of t from ≡ x → MetSo (met_cut e t m x)
      go (cut.End at) is = λ p s. looked-over (move_on (route e)) p s t m from (when-end t from at (sym is))
      go (cut.Group start end) is = by_move start end (when-group t from start end (sym is)) (move_on (route e) m (bytes_of t start end)) refl

  pub was-over : {x : Option Step} → x ≡ met_of e t from m → x ≡ None → (p : ℕ) (s : Spot) → None ≡ looked (move_on (route e)) p s t m from
  was-over a b = subst MetSo (sym a ∙ b) met-so

  pub was-step : {x : Option Step} {s : Step} → x ≡ met_of e t from m → x ≡ Some s → Stepped s
  was-step a b = subst MetSo (sym a ∙ b) met-so
