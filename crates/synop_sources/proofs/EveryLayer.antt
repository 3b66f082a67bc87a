-- EACH GROUP THAT WAS TAKEN AMONG THE LAYERS of an accepted SYNOP or SHIP is 8////, which is no layer, or the source of one of the four layers.
-- Assumes nothing.
use Rattle.std.specs.Prelude.{Ok}
use Prim.Native.Nat.{ℕ, suc, ◌+◌, ◌≤◌, ◌<◌}
use native.Mathlib.Omega.{arith}
use mathlib.Core.Path.{◌≡◌, refl, sym}
use mathlib.Core.Bool.{Bool, true, false, cond, not}
use mathlib.Core.List.{List, [], ◌∷◌, ◌++◌, map}
use lib.ListN.{length}
use lib.Dec.{eqb}
use borrow.Author.Tests.{eqb-true, eqb-false, ne_eqb, leb-false, lt-ltb}
use Rattle.figures.specs.Quote.{bytes}
use Rattle.text.specs.Groups.{Piece, groups_from}
use Rattle.text.specs.Text.{tail_of}
use Rattle.shapes.specs.Pattern.{low, high, clash, has_pattern}
use Rattle.shapes.proofs.Patterns.{excluded}
use Rattle.places.specs.Engine.{Group, place_at, Done}
use Rattle.record.specs.declared.surface.Section3.{Section3}
use Rattle.record.specs.declared.surface.Synop.{Synop}
use Rattle.section3.specs.Row as third
use Rattle.synop.specs.Read.{groups_read}
use Rattle.sources.specs.Trail.{Taken, group, trail}
use Rattle.sources.proofs.Rows.{Entry, Went, done, on}
use Rattle.sources.proofs.Parts.{as_taken}
use Rattle.sources.proofs.Own.{EachTaken, each_map}
use Rattle.synop_sources.specs.Trail.{start, move, ship_in, trail_of}
use Rattle.synop_sources.specs.Items.{layers_place, at_layers, says_layer, is_layer, layer_in}
use Rattle.synop_sources.proofs.Sections.{Third, over, stop, opened, Sections, sections-walked}
use Rattle.synop_sources.proofs.Items.{LayerDone, no-layer, layer, layer-done, third-only}
use Rattle.synop_sources.proofs.Heads.{Report, from-land, from-nil, from-ship, report-read}
use Rattle.synop_sources.proofs.Sources.{name_word}

-- ---- in any trail, a group that says a layer is found as one of as many as there are

abbrev count_layers : List Taken → ℕ
count_layers [] = 0
count_layers (x ∷ xs) = cond (is_layer x) (suc (count_layers xs)) (count_layers xs)

record FoundLayer (xs : List Taken) (g : Piece) : Type 0 where
  which : ℕ
  few : which < count_layers xs
  is : layer_in which xs ≡ group g

found-later : (x : Taken) (xs : List Taken) (g : Piece) → FoundLayer xs g → FoundLayer (x ∷ xs) g
unfolding layer_in
found-later x xs g l = go (is_layer x) refl
  where
    go : (b : Bool) → is_layer x ≡ b → FoundLayer (x ∷ xs) g
    go true is = record { which = suc l.which; few = rw is (omega (arith, l.few)); is = rw is l.is }
    go false is = record { which = l.which; few = rw is l.few; is = rw is l.is }

all_found : (xs : List Taken) → EachTaken (λ x. is_layer x ≡ true → FoundLayer xs x.piece) xs
unfolding layer_in
all_found [] = tt
all_found (x ∷ xs) =
    ((λ says. record { which = 0; few = rw says (omega arith); is = rw says }), each_map (λ y l says. found-later x xs y.piece (l says)) xs (all_found xs))

-- ---- in an accepted text there are four at most: "a fifth layer is 9"

-- a group of section 3 that is read: one that says a layer is one layer more
abbrev Counted : Bool → Section3 → Section3 → Type 0
Counted says a a' = (cond says (suc a.layers.count) a.layers.count ≡ a'.layers.count) × (a'.layers.count ≤ 4)

count-step : (j m : ℕ) (g : Group) (a a' : Section3) → (place_at third.row j).read m g a ≡ Ok a' → a.layers.count ≤ 4
    → Counted (says_layer 1 (eqb j layers_place) g) a a'
unfolding third.row
count-step j m g a a' e h = go (eqb j layers_place) refl
  where
    among : (a' : Section3) → LayerDone g a a' → Counted (not (has_pattern g (bytes "8////"))) a a'
    among _ (no-layer p) = rw p (refl, h)
    among _ (layer {l} p q r) =
        let few = leb-false 4 a.layers.count q in
        rw (p, lt-ltb a.layers.count 4 few) (omega arith, omega arith)

    go : (b : Bool) → eqb j layers_place ≡ b → Counted (says_layer 1 (eqb j layers_place) g) a a'
    go true is = let same = eqb-true j layers_place is in rw is (among a' (layer-done g a a' (rw same at e)))
    go false is =
        let kept : a'.layers ≡ a.layers = third-only j m g a a' e layers_place (ne_eqb layers_place j (λ q. eqb-false j layers_place is (sym q))) in
        rw (is, kept) (refl, h)

in_all : (b : Bool) (n c d : ℕ) → cond b (suc c) c ≡ d → n + d ≤ 4 → cond b (suc n) n + c ≤ 4
in_all true n c d e h = omega arith
in_all false n c d e h = omega arith

third-count : {c₁ k₁ : ℕ} {s₁ : Section3} {left : List Piece} {c k : ℕ} {s : Section3} {gs : List Piece} {es : List Entry} → Went third.row third.halts c₁ k₁ s₁ left c k s gs es
    → s.layers.count ≤ 4 → count_layers (map (as_taken 1) es ++ []) + s.layers.count ≤ 4
third-count done h = omega arith
third-count {s = s} (on {i = i} {n = m} {r' = s'} {g = g} {es = es} t e w) h =
    let (more, few) = count-step i m g.bytes s s' e h in
    in_all (says_layer 1 (eqb i layers_place) g.bytes) (count_layers (map (as_taken 1) es ++ [])) s.layers.count s'.layers.count more
    (third-count w few)

-- none stands before section 3
first_count : (es : List Entry) (xs : List Taken) → count_layers (map (as_taken 0) es ++ xs) ≡ count_layers xs
first_count [] xs = refl
first_count (e ∷ es) xs = first_count es xs

after-count : {end rest : ℕ} {s : Section3} {left : List Piece} {xs : List Taken} → Third end rest s left xs → count_layers xs ≤ 4
after-count (over a) = omega arith
after-count (stop is a) = omega arith
after-count (opened is went halted begins) = let h = third-count went (omega arith) in omega arith

sections-count : {end rest : ℕ} {r whole : Synop} {gs : List Piece} (d : Sections end rest r whole gs)
    → count_layers (map (as_taken 0) d.entries ++ d.taken) ≤ 4
sections-count d = rw (first_count d.entries d.taken) (after-count d.third)

report-count : {end rest : ℕ} {whole : Synop} {ship : Bool} {gs : List Piece} (f : Piece) → Report end rest whole ship gs
    → count_layers (trail (move ship) start (f ∷ gs)) ≤ 4
unfolding trail move
report-count f (from-land g₁ g₂ g₃ g₄ gs x n i w a b c d e two s) = rw (c, sections-walked false s) (sections-count s)
report-count f (from-nil g₁ g₂ g₃ x n a b c d is) = rw c (omega arith)
report-count f (from-ship g₀ g₁ g₂ g₃ g₄ g₅ gs x p q i w a b c d e h two s) = rw (sections-walked true s) (sections-count s)

-- ---- THE TEXT

-- a group among the layers
pub data LayerSource (xs : List Taken) (g : Piece) : Type 0 where
  says_none : has_pattern g.bytes (bytes "8////") ≡ true → LayerSource xs g
  says-layer : (k : ℕ) → k < 4 → layer_in k xs ≡ group g → LayerSource xs g

is-ship : (ship : Bool) (g : Group) → has_pattern g (name_word ship) ≡ true → has_pattern g (bytes "BBXX") ≡ ship
unfolding low high clash
is-ship true g e = e
is-ship false g e = excluded g (bytes "AAXX") (bytes "BBXX") refl e

module _ (t : List ℕ) (rest : ℕ) (r : Synop) (ship : Bool) (f : Piece) (gs : List Piece) (groups : groups_from t 0 ≡ f ∷ gs)
    (named : has_pattern f.bytes (name_word ship) ≡ true) (reads : groups_read ship (tail_of t) (length t) gs ≡ Done rest r) where
  few-layers : count_layers (trail_of t) ≤ 4
  unfolding trail_of ship_in
  few-layers = rw (groups, is-ship ship f.bytes named) (report-count f (report-read (tail_of t) (length t) rest r ship gs reads))

  -- EACH GROUP THAT WAS TAKEN AMONG THE LAYERS IS 8////, OR THE SOURCE OF A LAYER.
  pub trail-layers : EachTaken (λ x. x.part ≡ 1 → at_layers x.spot ≡ true → LayerSource (trail_of t) x.piece) (trail_of t)
  trail-layers = each_map told (trail_of t) (all_found (trail_of t))
    where
      told : (x : Taken) → (is_layer x ≡ true → FoundLayer (trail_of t) x.piece) → x.part ≡ 1 → at_layers x.spot ≡ true → LayerSource (trail_of t) x.piece
      told x found third there = go (has_pattern x.piece.bytes (bytes "8////")) refl
        where
          go : (b : Bool) → has_pattern x.piece.bytes (bytes "8////") ≡ b → LayerSource (trail_of t) x.piece
          go true is = says_none is
          go false is = let l = found (rw (third, there, is)) in says-layer l.which (omega (arith, l.few, few-layers)) l.is
