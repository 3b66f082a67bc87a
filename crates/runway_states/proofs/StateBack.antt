-- The round trip of a runway state: what the writer judges fine and writes has its shape, is read back as its class, and the class is written alike.
-- Assumes nothing.
use Rattle.std.specs.Prelude.{None, Ok, Option, Some}
use Prim.Native.Nat.{ℕ}
use native.Mathlib.Omega.{arith}
use mathlib.Core.Path.{◌≡◌, refl, ap, ◌∙◌}
use mathlib.Core.Bool.{true, false, not, ◌&&◌, false≢true}
use mathlib.Core.List.{List, [], ◌++◌, append_assoc, append-nil}
use lib.ListN.{length, replicate, length-append}
use lib.Dec.{leb, eqb}
use borrow.Author.Tests.{leb-true, not-true}
use Rattle.figures.specs.Quote.{bytes}
use Rattle.figures.specs.declared.kinds.Field.{Field}
use Rattle.figures.specs.declared.kinds.Field.TheVariants as field
use Rattle.figures.specs.Figures.{field_at, field_text, Fits}
use Rattle.figures.proofs.Figures.{length-field, field_back}
use Rattle.shapes.specs.Pattern.{low, high, fits, has_pattern, has_any, clash}
use Rattle.shapes.proofs.Patterns.{both, or_right, excluded, pattern-append, field-pattern}
use Rattle.places.specs.Engine.{Group}
use Rattle.scales.specs.Scale.{run, figure_of}
use Rattle.scales.specs.Depth.{depth}
use Rattle.scales.proofs.Laws.{figure-such}
use Rattle.scales.proofs.Answers.{foot-low, metres-read, metres-again, metres-written}
use Rattle.scales.proofs.DepthLaws.{depth-laws}
use Rattle.record.specs.declared.aerodrome.Depth.{Depth}
use Rattle.record.specs.declared.aerodrome.Depth.TheVariants as deep
use Rattle.record.specs.declared.aerodrome.Condition.{Condition}
use Rattle.record.specs.declared.aerodrome.Condition.TheVariants as condition
use Rattle.record.specs.declared.aerodrome.RunwayState.{RunwayState}
use Rattle.record.specs.Missing.{present, optional}
use Rattle.aerodrome_groups.specs.Head.{field_of}
use Rattle.runway_states.specs.declared.tables.Table.TheVariants as table
use Rattle.runway_states.specs.Tables.{has, runways, deposits, extents, brakings}
use Rattle.runway_states.specs.State.{figures_shape, cleared_shape, state_shapes, read_depth, read_covered, read_state, depth_field, show_condition, show_state, depth_fits, condition_fits, state_fits, class_depth, class_condition, class_state}
use Rattle.runway_states.proofs.Figured.{listed_below, holds-field, number-back, one-figure, two-figures}

-- ---- five fields one after the other: RR, deposit, extent, depth, braking

abbrev laid : Field → Field → Field → Field → Field → Group
laid r d e h b = field_text 2 r ++ (field_text 1 d ++ field_text 1 e ++ field_text 2 h ++ field_text 2 b)

-- their group has the shape of eight figures, and each is read at its place
record Laid (r d e h b : Field) : Type 0 where
  shape : has_pattern (laid r d e h b) figures_shape ≡ true
  runway : field_at (laid r d e h b) 0 2 ≡ r
  deposit : field_at (laid r d e h b) 2 1 ≡ d
  extent : field_at (laid r d e h b) 3 1 ≡ e
  depth : field_at (laid r d e h b) 4 2 ≡ h
  braking : field_at (laid r d e h b) 6 2 ≡ b

module _ (r d e h b : Field) (fit-r : Fits 2 r) (fit-d : Fits 1 d) (fit-e : Fits 1 e) (fit-h : Fits 2 h) (fit-b : Fits 2 b) where
  abbrev one : Field → List ℕ
  one f = field_text 1 f

  abbrev two : Field → List ℕ
  two f = field_text 2 f

  abbrev group : Group
  group = laid r d e h b

  length-one : (f : Field) → Fits 1 f → length (one f) ≡ 1
  length-one f fit = length-field 1 f (omega arith) fit

  length_two : (f : Field) → Fits 2 f → length (two f) ≡ 2
  length_two f fit = length-field 2 f (omega arith) fit

  -- the fields up to one of them
  up-to-d : length (one d ++ one e) ≡ 2
  up-to-d = rw (length-append, length-one d fit-d, length-one e fit-e)

  up-to-h : length (one d ++ one e ++ two h) ≡ 4
  up-to-h = rw (length-append, up-to-d, length_two h fit-h)

  laid-shape : has_pattern group figures_shape ≡ true
  laid-shape =
      pattern-append (two r) (one d ++ one e ++ two h ++ two b) (replicate 2 35) (replicate 6 35) refl (length_two r fit-r)
      ∙ rw (field-pattern 2 r (omega arith) fit-r)
      (pattern-append (one d ++ one e ++ two h) (two b) (replicate 4 35) (replicate 2 35) refl up-to-h
      ∙ rw (field-pattern 2 b (omega arith) fit-b, pattern-append (one d ++ one e) (two h) (replicate 2 35) (replicate 2 35) refl up-to-d, field-pattern 2 h (omega arith) fit-h, pattern-append (one d) (one e) (replicate 1 35) (replicate 1 35) refl (length-one d fit-d), field-pattern 1 d (omega arith) fit-d, field-pattern 1 e (omega arith) fit-e))

  laid-runway : field_at group 0 2 ≡ r
  laid-runway = field_back [] (one d ++ one e ++ two h ++ two b) 2 r (omega arith) (omega arith) fit-r

  laid-deposit : field_at group 2 1 ≡ d
  laid-deposit =
      simp append_assoc
      (simp append_assoc at (rw (length_two r fit-r) at (field_back (two r) (one e ++ (two h ++ two b)) 1 d (omega arith) (omega arith) fit-d)))

  laid-extent : field_at group 3 1 ≡ e
  laid-extent =
      let three : length (two r ++ one d) ≡ 3 = rw (length-append, length_two r fit-r, length-one d fit-d) in
      simp append_assoc (simp append_assoc at (rw three at (field_back (two r ++ one d) (two h ++ two b) 1 e (omega arith) (omega arith) fit-e)))

  laid-depth : field_at group 4 2 ≡ h
  laid-depth =
      let four : length (two r ++ (one d ++ one e)) ≡ 4 = rw (length-append, length_two r fit-r, up-to-d) in
      simp append_assoc (simp append_assoc at (rw four at (field_back (two r ++ (one d ++ one e)) (two b) 2 h (omega arith) (omega arith) fit-h)))

  laid-braking : field_at group 6 2 ≡ b
  laid-braking =
      let six : length (two r ++ (one d ++ one e ++ two h)) ≡ 6 = rw (length-append, length_two r fit-r, up-to-h) in
      simp append_assoc (simp (append_assoc, append-nil) at (rw six at (field_back (two r ++ (one d ++ one e ++ two h)) [] 2 b (omega arith) (omega arith) fit-b)))

  laid_out : Laid r d e h b
  laid_out = record { shape = laid-shape; runway = laid-runway; deposit = laid-deposit; extent = laid-extent; depth = laid-depth; braking = laid-braking }

-- ---- the depth

-- every figure of the scale is below 99, and has two figures
depth_below : (m : ℕ) → leb (figure_of depth m) 98 ≡ true
depth_below m = figure-such (λ f. leb f 98) depth m (unfold depth run in refl)

depth-open : (m : ℕ) → eqb (figure_of depth m) 99 ≡ false
depth-open m = not-true (eqb (figure_of depth m) 99) (figure-such (λ f. not (eqb f 99)) depth m (unfold depth run in refl))

depth-fits : (h : Depth) → depth_fits h ≡ true → Fits 2 (depth_field h)
depth-fits deep.Missing e = tt
depth-fits deep.Closed e = omega arith
depth-fits (deep.Millimetres m) e = rw (metres-written depth m e) (omega (arith, leb-true (figure_of depth m) 98 (depth_below m)))

depth-back : (h : Depth) → depth_fits h ≡ true → read_depth (depth_field h) ≡ Ok (class_depth h)
depth-back deep.Missing e = refl
depth-back deep.Closed e = refl
depth-back (deep.Millimetres m) e = rw (metres-written depth m e) (rw (depth-open m, metres-read depth-laws m))

depth-again : (h : Depth) → depth_fits h ≡ true → depth_field (class_depth h) ≡ depth_field h
depth-again deep.Missing e = refl
depth-again deep.Closed e = refl
depth-again (deep.Millimetres m) e = rw (metres-again depth-laws m e)

depth-classed : (h : Depth) → depth_fits h ≡ true → depth_fits (class_depth h) ≡ true
depth-classed deep.Missing e = refl
depth-classed deep.Closed e = refl
depth-classed (deep.Millimetres m) e = foot-low depth-laws m e

-- ---- a covered runway that is judged fine

record Covered (d e : Option ℕ) (h : Depth) (b : Option ℕ) : Type 0 where
  deposit : optional (has deposits) d ≡ true
  extent : optional (has extents) e ≡ true
  depth : depth_fits h ≡ true
  braking : optional (has brakings) b ≡ true

covered : (d e : Option ℕ) (h : Depth) (b : Option ℕ) → condition_fits (condition.Covered d e h b) ≡ true → Covered d e h b
covered d e h b f =
    let t = both (optional (has deposits) d && optional (has extents) e && depth_fits h) (optional (has brakings) b) f in
    let u = both (optional (has deposits) d && optional (has extents) e) (depth_fits h) t.0 in
    let v = both (optional (has deposits) d) (optional (has extents) e) u.0 in
    record { deposit = v.0; extent = v.1; depth = u.1; braking = t.1 }

covered-back : (d e : Option ℕ) (h : Depth) (b : Option ℕ) → Covered d e h b
    → read_covered (field_of d) (field_of e) (depth_field h) (field_of b) ≡ Ok (condition.Covered d e (class_depth h) b)
covered-back d e h b f =
    rw (holds-field table.Deposits d f.deposit, holds-field table.Extents e f.extent, holds-field table.Brakings b f.braking, depth-back h f.depth, number-back d, number-back e, number-back b)

-- ---- the group

abbrev Written : Option ℕ → Condition → Type 0
Written r c =
    (has_any state_shapes (show_state (record { runway = r; condition = c })) ≡ true)
    × (read_state (show_state (record { runway = r; condition = c })) ≡ Ok (class_state (record { runway = r; condition = c })))

module _ (k : ℕ) (listed : has runways k ≡ true) where
  abbrev rr : Field
  rr = field.Number k

  fit-k : Fits 2 rr
  fit-k = let l = listed_below 99 runways k refl listed in omega arith

  cleared-shape : has_pattern (field_text 2 rr ++ bytes "CLRD//") cleared_shape ≡ true
  unfolding has_pattern fits low high
  cleared-shape = pattern-append (field_text 2 rr) (bytes "CLRD//") (replicate 2 35) (bytes "CLRD//") refl (length-field 2 rr (omega arith) fit-k) ∙ rw (field-pattern 2 rr (omega arith) fit-k)

  cleared-written : Written (Some k) condition.Cleared
  unfolding has_any show_state read_state
  cleared-written =
      let g = field_text 2 rr ++ bytes "CLRD//" in (
        or_right (has_pattern g figures_shape) _ (rw cleared-shape),
        rw (field_back [] (bytes "CLRD//") 2 rr (omega arith) (omega arith) fit-k, cleared-shape, listed),
      )

  module _ (d e : Option ℕ) (h : Depth) (b : Option ℕ) (f : Covered d e h b) where
    fit-d : Fits 1 (field_of d)
    fit-d = one-figure deposits d f.deposit refl

    fit-e : Fits 1 (field_of e)
    fit-e = one-figure extents e f.extent refl

    fit-h : Fits 2 (depth_field h)
    fit-h = depth-fits h f.depth

    fit-b : Fits 2 (field_of b)
    fit-b = two-figures brakings b f.braking refl

    covered-written : Written (Some k) (condition.Covered d e h b)
    unfolding has_any show_state read_state
    covered-written =
        let l = laid_out rr (field_of d) (field_of e) (depth_field h) (field_of b) fit-k fit-d fit-e fit-h fit-b in
        let x = laid rr (field_of d) (field_of e) (depth_field h) (field_of b) in
        let no-clearing : has_pattern x cleared_shape ≡ false = excluded x figures_shape cleared_shape (unfold clash low high in refl) l.shape in (
          rw l.shape,
          rw (l.runway, no-clearing, l.deposit, l.extent, l.depth, l.braking, listed, covered-back d e h b f),
        )

state-written : (r : Option ℕ) (c : Condition) → present (has runways) r ≡ true → condition_fits c ≡ true → Written r c
state-written None c p f = absurd (false≢true p)
state-written (Some k) condition.Cleared p f = cleared-written k p
state-written (Some k) (condition.Covered d e h b) p f = covered-written k p d e h b (covered d e h b f)

module _ (s : RunwayState) (e : state_fits s ≡ true) where
  parts : (present (has runways) s.runway ≡ true) × (condition_fits s.condition ≡ true)
  parts = both (present (has runways) s.runway) (condition_fits s.condition) e

  pub state-shaped : has_any state_shapes (show_state s) ≡ true
  state-shaped = (state-written s.runway s.condition parts.0 parts.1).0

  pub state-back : read_state (show_state s) ≡ Ok (class_state s)
  state-back = (state-written s.runway s.condition parts.0 parts.1).1

  pub state-again : show_state (class_state s) ≡ show_state s
  unfolding show_state
  state-again = ap (λ (g : Group). field_text 2 (field_of s.runway) ++ g) (go s.condition parts.1)
    where
      go : (c : Condition) → condition_fits c ≡ true → show_condition (class_condition c) ≡ show_condition c
      go condition.Cleared f = refl
      go (condition.Covered d e h b) f = rw (depth-again h (covered d e h b f).depth)

  pub state-classed : state_fits (class_state s) ≡ true
  state-classed = rw parts.0 (go s.condition parts.1)
    where
      go : (c : Condition) → condition_fits c ≡ true → condition_fits (class_condition c) ≡ true
      go condition.Cleared f = refl
      go (condition.Covered d e h b) f =
          let p = covered d e h b f in
          rw (p.deposit, p.extent, depth-classed h p.depth, p.braking)
