-- The laws of shapes: what is printed by a shape is scanned back, a group that has a shape fits one of its spellings, and so shapes are told apart
-- by their spellings.
-- Assumes nothing.
use mathlib.Core.Path.{◌≡◌, refl, sym, ap, ◌∙◌}
use mathlib.Core.Bool.{Bool, true, false, cond, ◌&&◌, false≢true}
use mathlib.Core.List.{List, [], ◌∷◌, ◌++◌}
use Prim.Native.Nat.{ℕ, zero, suc, ◌+◌, ◌-◌, ◌<◌}
use native.Mathlib.Nat.{add-zero, zero-add}
use native.Mathlib.Omega.{arith}
use lib.ListN.{length, drop, get_or, replicate}
use lib.Seq.{drop_at}
use borrow.Author.Tests.{le-leb, leb-true, ltb-true}
use Rattle.shapes.specs.declared.kinds.Value.{Value}
use Rattle.shapes.specs.declared.kinds.Scan.{Scan}
use Rattle.shapes.specs.Pattern.{Pattern, has_pattern, has_any}
use Rattle.shapes.specs.Shape.{Part, Pick, Alternative, Nothing, Values, Says, Unlike, also, begins, parts_of, value_of, pick_of, scan_parts, blank_value, padded, answered, scan_of, has_shape, filled, print_parts, print_of, with_each, spellings, unled_each, clear_part, clear, printable_each, printable_all, sound, Sayable, shapes_apart}
use Rattle.shapes.proofs.Patterns.{both, all-excluded, starless}
use Rattle.shapes.proofs.Exact.{
  exact,
  exact-is,
  exact-all,
  exact-begins,
  begins-exact,
  exact_any,
  any-pattern,
  unled-any,
  with_first,
  with-later,
  spelled,
}
use Rattle.shapes.proofs.Filled.{filled-exact, filled-length, filled-value, printable-at}
use Rattle.shapes.proofs.Scans.{part_none, part-some}

-- ---- what is printed is scanned back

-- alternative number i is picked, where x fits it and one of the continuations cs follows
pick-there : (p : Part) (k i : ℕ) (cs : List Pattern) (x y : List ℕ) → clear_part p cs ≡ true → i < length p → exact (get_or p i []) x ≡ true
    → exact_any cs y ≡ true → pick_of k p (x ++ y) ≡ Alternative (value_of (k + i) (get_or p i []) (x ++ y)) (length (get_or p i []))
unfolding pick_of
pick-there [] k i cs x y c l h s = absurd (omega arith)
pick-there (a ∷ p) k zero cs x y c l h s = rw (exact-begins a x y h, add-zero k)
pick-there (a ∷ p) k (suc i) cs x y c l h s =
    let t = both (unled_each a (with_each p cs)) (clear_part p cs) c in
    let n : k + suc i ≡ k + 1 + i = omega arith in
    rw (unled-any a (with_each p cs) (x ++ y) t.0 (spelled p i cs x y (omega arith) h s), n)
    (pick-there p (k + 1) i cs x y t.1 (omega arith) h s)

-- what can be printed has a spelling
print-spelled : (ps : List Part) (vs : List Value) → printable_all ps ≡ true → Sayable ps vs → exact_any (spellings ps) (print_parts ps vs) ≡ true
unfolding spellings print_parts
print-spelled [] [] ok say = refl
print-spelled [] (v ∷ vs) ok say = absurd say
print-spelled (p ∷ ps) [] ok say = absurd say
print-spelled (p ∷ ps) (v ∷ vs) ok say =
    let t = both (printable_each p) (printable_all ps) ok in
    let l : v.which < length p = ltb-true _ _ say.0.0 in
    spelled p v.which (spellings ps) _ _ l
    (filled-exact (get_or p v.which []) v.field (printable-at p v.which t.0 l) say.0.1)
    (print-spelled ps vs t.1 say.1)

pub scan-print : (ps : List Part) (vs : List Value) → clear ps ≡ true → printable_all ps ≡ true → Sayable ps vs
    → scan_parts ps (print_parts ps vs) ≡ Says vs
unfolding clear scan_parts print_parts
scan-print [] [] c ok say = refl
scan-print [] (v ∷ vs) c ok say = absurd say
scan-print (p ∷ ps) [] c ok say = absurd say
scan-print (p ∷ ps) (v ∷ vs) c ok say =
    let d = both (clear_part p (spellings ps)) (clear ps) c in
    let t = both (printable_each p) (printable_all ps) ok in
    let l : v.which < length p = ltb-true _ _ say.0.0 in
    let a = get_or p v.which [] in
    let x = filled a v.field in
    let y = print_parts ps vs in
    let f = printable-at p v.which t.0 l in
    let whole = filled-exact a v.field f say.0.1 in
    let pick : pick_of 0 p (x ++ y) ≡ Alternative v (length a) =
    pick-there p 0 v.which (spellings ps) x y d.0 l whole (print-spelled ps vs t.1 say.1)
    ∙ rw (zero-add v.which, filled-value v a y f say.0.1) in
    part-some p ps (x ++ y) (sym pick)
    ∙ rw (drop_at x y (length a) (filled-length a v.field f say.0.1), scan-print ps vs d.1 t.1 say.1)

-- values past those of the parts are not printed
print-padded : (ps : List Part) (vs ws : List Value) → Sayable ps vs → print_parts ps (vs ++ ws) ≡ print_parts ps vs
unfolding print_parts
print-padded [] vs ws say = refl
print-padded (p ∷ ps) [] ws say = absurd say
print-padded (p ∷ ps) (v ∷ vs) ws say = rw (print-padded ps vs ws say.1)

said-length : (ps : List Part) (vs : List Value) → Sayable ps vs → length vs ≡ length ps
said-length [] [] say = refl
said-length [] (v ∷ vs) say = absurd say
said-length (p ∷ ps) [] say = absurd say
said-length (p ∷ ps) (v ∷ vs) say = ap suc (said-length ps vs say.1)

-- a group that was printed has the shape, and says the values
pub scan-back : (shape : List ℕ) (vs : List Value) → sound shape ≡ true → Sayable (parts_of shape) vs
    → scan_of shape (print_of shape (padded vs)) ≡ record { fits = true; values = padded vs }
unfolding sound scan_of print_of answered
scan-back shape vs s say =
    let t = both (clear (parts_of shape)) _ s in
    let u = both (printable_all (parts_of shape)) _ t.1 in
    let few = leb-true (length (parts_of shape)) 8 u.1 in
    rw (print-padded (parts_of shape) vs (replicate (8 - length vs) blank_value) say, scan-print (parts_of shape) vs t.0 u.0 say)
    (rw (le-leb (length vs) 8 (omega (arith, said-length (parts_of shape) vs say))))

pub has-printed : (shape : List ℕ) (vs : List Value) → sound shape ≡ true → Sayable (parts_of shape) vs
    → has_shape shape (print_of shape (padded vs)) ≡ true
unfolding has_shape
has-printed shape vs s say = ap (λ (r : Scan). r.fits) (scan-back shape vs s say)

-- ---- a group that has a shape fits one of its spellings

-- the alternative that is picked is one of the part's
pick-covered : (p : Part) (k : ℕ) (cs : List Pattern) (g : List ℕ) {v : Value} {w : ℕ} → pick_of k p g ≡ Alternative v w
    → exact_any cs (drop w g) ≡ true → exact_any (with_each p cs) g ≡ true
unfolding pick_of
pick-covered [] k cs g e h = let z : ◌≡◌ {A = ℕ} 0 1 = cc in absurd (omega arith)
pick-covered (a ∷ p) k cs g {v} {w} e h = go (begins a g) refl (λ d. pick-covered p (k + 1) cs g d h) e
  where
    go : (x : Bool) → begins a g ≡ x → (pick_of (k + 1) p g ≡ Alternative v w → exact_any (with_each p cs) g ≡ true)
        → cond x (Alternative (value_of k a g) (length a)) (pick_of (k + 1) p g) ≡ Alternative v w → exact_any (with_each (a ∷ p) cs) g ≡ true
    go true b ih d =
        let s : w ≡ length a = cc in
        with_first a g (drop (length a) g) (λ c f. begins-exact a c g b f) p cs (rw s at h)
    go false b ih d = with-later a p cs g (ih d)

abbrev said : Values → Bool
said (Says vs) = true
said Unlike = false

said-also : (v : Value) (x : Values) → said (also v x) ≡ said x
said-also v (Says vs) = refl
said-also v Unlike = refl

spelled-parts : (ps : List Part) (g : List ℕ) → said (scan_parts ps g) ≡ true → exact_any (spellings ps) g ≡ true
unfolding scan_parts spellings
spelled-parts [] [] h = refl
spelled-parts [] (b ∷ g) h = absurd (false≢true h)
spelled-parts (p ∷ ps) g h = go (pick_of 0 p g) refl (λ w. spelled-parts ps (drop w g))
  where
    go : (x : Pick) → pick_of 0 p g ≡ x → ((w : ℕ) → said (scan_parts ps (drop w g)) ≡ true → exact_any (spellings ps) (drop w g) ≡ true)
        → exact_any (with_each p (spellings ps)) g ≡ true
    go (Alternative v w) e ih = pick-covered p 0 (spellings ps) g e (ih w (rw (part-some p ps g (sym e), said-also) at h))
    go Nothing e ih = absurd (false≢true (rw (part_none p ps g (sym e)) at h))

fits_said : (x : Values) → (answered x).fits ≡ true → said x ≡ true
unfolding answered
fits_said (Says vs) h = refl
fits_said Unlike h = h

pub covered : (s g : List ℕ) → has_shape s g ≡ true → has_any (spellings (parts_of s)) g ≡ true
unfolding has_shape scan_of
covered s g h = any-pattern (spellings (parts_of s)) g (spelled-parts (parts_of s) g (fits_said (scan_parts (parts_of s) g) h))

-- so a group of none of the spellings has not the shape
pub not-spelled : (s g : List ℕ) → has_any (spellings (parts_of s)) g ≡ false → has_shape s g ≡ false
not-spelled s g n = go (has_shape s g) refl
  where
    go : (x : Bool) → has_shape s g ≡ x → x ≡ false
    go true e = absurd (false≢true (sym n ∙ covered s g e))
    go false e = refl

pub shapes-apart : (s t g : List ℕ) → shapes_apart s t ≡ true → has_shape s g ≡ true → has_shape t g ≡ false
unfolding shapes_apart
shapes-apart s t g a h = not-spelled t g (all-excluded g (spellings (parts_of s)) (spellings (parts_of t)) a (covered s g h))

-- ---- a shape of one part with one alternative is its pattern

none_left : (v : Value) (r : List ℕ) → (answered (also v (scan_parts [] r))).fits ≡ exact [] r
unfolding answered scan_parts
none_left v [] = refl
none_left v (b ∷ r) = refl

single : (a : Pattern) (g : List ℕ) → (answered (scan_parts ((a ∷ []) ∷ []) g)).fits ≡ exact a g
unfolding pick_of
single a g = rw (exact-all a g) (go (begins a g) refl)
  where
    go : (x : Bool) → begins a g ≡ x → (answered (scan_parts ((a ∷ []) ∷ []) g)).fits ≡ (x && exact [] (drop (length a) g))
    go true e = ap (λ (v : Values). (answered v).fits) (part-some (a ∷ []) [] g {v = value_of 0 a g} {w = length a} (rw e)) ∙ none_left (value_of 0 a g) (drop (length a) g)
    go false e = ap (λ (v : Values). (answered v).fits) (part_none (a ∷ []) [] g (rw e)) ∙ unfold answered in refl

pub one-pattern : (s g : List ℕ) → parts_of s ≡ (s ∷ []) ∷ [] → starless s ≡ true → has_shape s g ≡ has_pattern g s
unfolding has_shape scan_of
one-pattern s g e n = ap (λ (ps : List Part). (answered (scan_parts ps g)).fits) e ∙ single s g ∙ exact-is s g n
