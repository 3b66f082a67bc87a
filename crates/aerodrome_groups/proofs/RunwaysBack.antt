-- The round trip of up to four runway ranges: what is written of those that stand is read back as their classes, and the rest is blank.
-- Assumes nothing.
use Rattle.std.specs.Prelude.{Ok, Result}
use Rattle.text.specs.declared.kinds.Refusal.{Refusal}
use Prim.Native.Nat.{ℕ, zero, suc, ◌+◌, ◌-◌, ◌≤◌}
use native.Mathlib.Nat.{add-zero, zero-add, suc-add}
use native.Mathlib.Omega.{arith}
use mathlib.Core.Path.{◌≡◌, refl, sym, ap, ◌∙◌}
use mathlib.Core.Bool.{true, ◌&&◌}
use mathlib.Core.List.{List, [], ◌∷◌, ◌++◌, map, append_assoc, map-append}
use lib.ListN.{length, take, drop, replicate, length-append, length-take, length-drop, length-map, take-append-drop}
use lib.Seq.{set_at, length-take-le}
use lib.Dec.{leb}
use borrow.Author.Tests.{leb-true, le-leb, lt-ltb}
use Rattle.text.specs.Judge.{judge}
use Rattle.text.proofs.Judging.{fine, and-then}
use Rattle.shapes.proofs.Patterns.{both}
use Rattle.places.specs.Engine.{Group}
use Rattle.places.proofs.Rows.{drop-map}
use Rattle.places.proofs.ReadBack.{All}
use Rattle.record.specs.declared.aerodrome.Runway.{Runway}
use Rattle.record.specs.declared.aerodrome.Runways.{Runways}
use Rattle.record.specs.Observation.{blank_runway, blank_runways}
use Rattle.elements.specs.Parts.{then}
use Rattle.record.specs.SilentAerodrome.{is_blank_runway}
use Rattle.record.proofs.AerodromeBlanks.{runway-blank}
use Rattle.figures.specs.Figures.{every}
use Rattle.figures.proofs.Every.{every-is}
use Rattle.aerodrome_groups.specs.Runway.{runway_shape, read_runway, with_runway, show_runway, show_runways, judge_each_runway, judge_runways, class_runway, class_runways}
use Rattle.aerodrome_groups.proofs.Printed.{Shaped}
use Rattle.aerodrome_groups.proofs.RunwayBack.{runway_fits, runway-shaped, runway-back, runway-again, runway-classed}

-- groups read one after the other, from where k stand
abbrev pub add_each : ℕ → List Group → Runways → Result Runways Refusal
add_each k [] rs = Ok rs
add_each k (g ∷ gs) rs = then (read_runway g) (λ x. add_each (k + 1) gs (with_runway k rs x))

-- ---- what is judged fine

abbrev EachFits : List Runway → Type 0
EachFits [] = Unit {0}
EachFits (w ∷ ws) = (runway_fits w ≡ true) × EachFits ws

each_fits : (ws : List Runway) → judge_each_runway ws ≡ Ok tt → EachFits ws
each_fits [] e = tt
each_fits (w ∷ ws) e = let t = and-then (judge (runway_fits w) true) (judge_each_runway ws) e in ((fine (runway_fits w) true t.0).0, each_fits ws t.1)

each-fine : (ws : List Runway) → EachFits ws → judge_each_runway ws ≡ Ok tt
each-fine [] f = refl
each-fine (w ∷ ws) f = rw f.0 (each-fine ws f.1)

record RunwaysFit (rs : Runways) : Type 0 where
  few : rs.count ≤ 4
  past : every is_blank_runway (drop rs.count rs.items) ≡ true
  each : EachFits (take rs.count rs.items)

runways-fit : (rs : Runways) → judge_runways rs ≡ Ok tt → RunwaysFit rs
unfolding judge_runways
runways-fit rs e =
    let t = and-then (judge (leb rs.count 4 && every is_blank_runway (drop rs.count rs.items)) true) (judge_each_runway (take rs.count rs.items)) e in
    let u = both (leb rs.count 4) (every is_blank_runway (drop rs.count rs.items)) (fine _ true t.0).0 in
    record { few = leb-true rs.count 4 u.0; past = u.1; each = each_fits (take rs.count rs.items) t.1 }

-- ---- blank runways

blanks : (ws : List Runway) → every is_blank_runway ws ≡ true → ws ≡ replicate (length ws) blank_runway
blanks ws e = every-is is_blank_runway blank_runway runway-blank ws e

-- the class of a blank runway is blank
blanks-classed : (n : ℕ) → map class_runway (replicate n blank_runway) ≡ replicate n blank_runway
blanks-classed zero = refl
blanks-classed (suc n) = ap (λ (l : List Runway). blank_runway ∷ l) (blanks-classed n)

blanks-blank : (n : ℕ) → every is_blank_runway (replicate n blank_runway) ≡ true
blanks-blank zero = refl
blanks-blank (suc n) = blanks-blank n

-- ---- what is written

shaped-each : (ws : List Runway) → EachFits ws → All (Shaped runway_shape) (map show_runway ws)
shaped-each [] f = tt
shaped-each (w ∷ ws) f = (runway-shaped w f.0, shaped-each ws f.1)

pub runways-shaped : (rs : Runways) → judge_runways rs ≡ Ok tt → All (Shaped runway_shape) (show_runways rs)
unfolding show_runways
runways-shaped rs e = shaped-each (take rs.count rs.items) (runways-fit rs e).each

pub runways-few : (rs : Runways) → length rs.items ≡ 4 → judge_runways rs ≡ Ok tt → length (show_runways rs) ≤ 4
unfolding show_runways
runways-few rs four e =
    rw (length-map (take rs.count rs.items) show_runway, length-take rs.count rs.items) (omega (arith, (runways-fit rs e).few))

-- ---- what is read back

-- runways that fit, read where n are done and the rest is blank
add_back : (ws done : List Runway) (n rest : ℕ) → EachFits ws → length done ≡ n → n + (length ws + rest) ≡ 4
    → add_each n (map show_runway ws) (record { items = done ++ replicate (length ws + rest) blank_runway; count = n })
    ≡ Ok (record { items = done ++ (map class_runway ws ++ replicate rest blank_runway); count = n + length ws })
add_back [] done n rest f len sum = rw (add-zero n, zero-add rest)
add_back (w ∷ ws) done n rest f len sum =
    let x = class_runway w in
    let next : length (done ++ (x ∷ [])) ≡ n + 1 = simp length-append (omega arith) in
    let count : n + 1 + length ws ≡ n + suc (length ws) = omega arith in
    rw (suc-add (length ws) rest, runway-back w f.0, lt-ltb n 4 (omega arith), set_at done blank_runway (replicate (length ws + rest) blank_runway) x n len)
    (rw count at (simp append_assoc at (add_back ws (done ++ (x ∷ [])) (n + 1) rest f.1 next (omega arith))))

module _ (rs : Runways) (four : length rs.items ≡ 4) (e : judge_runways rs ≡ Ok tt) where
  past : drop rs.count rs.items ≡ replicate (4 - rs.count) blank_runway
  past = blanks (drop rs.count rs.items) (runways-fit rs e).past ∙ rw (length-drop, four)

  classed : map class_runway rs.items ≡ map class_runway (take rs.count rs.items) ++ replicate (4 - rs.count) blank_runway
  classed =
      ap (map class_runway) (sym (take-append-drop rs.count rs.items))
      ∙ map-append class_runway (take rs.count rs.items) (drop rs.count rs.items)
      ∙ rw (past, blanks-classed)

  pub runways-back : add_each 0 (show_runways rs) blank_runways ≡ Ok (class_runways rs)
  unfolding show_runways
  runways-back =
      let fit = runways-fit rs e in
      let count : length (take rs.count rs.items) ≡ rs.count = length-take-le rs.count rs.items (omega (arith, fit.few)) in
      let all : rs.count + (4 - rs.count) ≡ 4 = omega (arith, fit.few) in
      rw classed (rw (count, all, zero-add rs.count) at (add_back (take rs.count rs.items) [] 0 (4 - rs.count) fit.each refl (omega (arith, fit.few))))

-- ---- the classes

take-map : {A B : Type 0} (f : A → B) (n : ℕ) (l : List A) → take n (map f l) ≡ map f (take n l)
take-map f zero l = refl
take-map f (suc n) [] = refl
take-map f (suc n) (x ∷ l) = rw (take-map f n l)

again-each : (ws : List Runway) → map show_runway (map class_runway ws) ≡ map show_runway ws
again-each [] = refl
again-each (w ∷ ws) = rw (runway-again w, again-each ws)

pub runways-again : (rs : Runways) → show_runways (class_runways rs) ≡ show_runways rs
unfolding show_runways
runways-again rs = rw (take-map class_runway rs.count rs.items) (again-each (take rs.count rs.items))

classed-each : (ws : List Runway) → EachFits ws → EachFits (map class_runway ws)
classed-each [] f = tt
classed-each (w ∷ ws) f = (runway-classed w f.0, classed-each ws f.1)

pub runways-classed : (rs : Runways) → judge_runways rs ≡ Ok tt → judge_runways (class_runways rs) ≡ Ok tt
unfolding judge_runways
runways-classed rs e =
    let fit = runways-fit rs e in
    rw (le-leb rs.count 4 fit.few, drop-map class_runway rs.items rs.count, blanks (drop rs.count rs.items) fit.past, blanks-classed, blanks-blank, take-map class_runway rs.count rs.items)
    (each-fine (map class_runway (take rs.count rs.items)) (classed-each (take rs.count rs.items) fit.each))
