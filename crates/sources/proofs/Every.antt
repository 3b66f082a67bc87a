-- EVERY GROUP OF A TRAIL WAS TAKEN AS WHAT ITS PART MAY HAVE: at a place of the part's row that has room and reads it; as the word that opened the part; or as
-- the group that belongs to that word. And no more parts come than may. What is so of each group of a trail is so of every group before the unread rest.
-- Assumes nothing.
use Rattle.std.specs.Prelude.{Ok, Option}
use Prim.Native.Nat.{ℕ, zero, suc, ◌+◌, ◌≤◌, ◌<◌}
use native.Mathlib.Omega.{arith}
use mathlib.Core.Path.{◌≡◌, refl, sym, subst, ◌∙◌}
use mathlib.Core.Bool.{Bool, true}
use mathlib.Core.List.{List, [], ◌∷◌, ◌++◌, map}
use Rattle.figures.proofs.Impossible.{impossible}
use Rattle.text.specs.Groups.{Piece, groups_from}
use Rattle.places.specs.Engine.{Group, Place, place_at, Done}
use Rattle.places.specs.Parts.{Word, Part, Further, turned, owes, part_from, begins, further, run_to, report_of}
use Rattle.places.proofs.Loop.{turn-steps}
use Rattle.sources.specs.declared.kinds.Spot.{Spot}
use Rattle.sources.specs.declared.kinds.Spot.TheVariants as spot
use Rattle.sources.specs.declared.kinds.Source.{Source}
use Rattle.sources.specs.Trail.{Taken, group, source_of}
use Rattle.sources.specs.Route.{Route}
use Rattle.sources.proofs.Rows.{Entry, Went, done, on, turn-within}
use Rattle.sources.proofs.Parts.{lacked-none, as_taken, main_of, parts_of, Plain, Halted, After, over, stop, one, two, Read-on}
use Rattle.sources.proofs.Own.{EachTaken, each_both, each_append}
use Rattle.sources.proofs.Items.{RestAt, Covers}
use Rattle.sources.proofs.Texts.{over-groups}

-- ---- what a spot of a part may be

-- whatever a place takes and reads is so: the place, and the how-manieth
abbrev pub PlaceIs : {R : Type 0} → (ℕ → ℕ → Type 0) → ℕ → Place R → Type 0
PlaceIs {R} Is i p = (n : ℕ) (g : Group) (a a' : R) → n < p.most → p.read n g a ≡ Ok a' → Is i n

-- it is so of the spot where a group was taken
abbrev pub SpotIs : (ℕ → Spot → Type 0) → Taken → Type 0
SpotIs Is x = Is x.part x.spot

-- So of all that the parts of a report may have, where at most so many come after the main one.
pub record MayHave {M P W : Type 0} (route : Route M P W) (limit : ℕ) (Is : ℕ → Spot → Type 0) : Type 0 where
  pub main : (i : ℕ) → PlaceIs (λ j n. Is 0 (spot.At j n)) i (place_at route.main i)
  pub placed : (q : ℕ) → 0 < q → q ≤ limit → (w : W) (i : ℕ) → PlaceIs (λ j n. Is q (spot.At j n)) i (place_at (route.row w) i)
  pub opening : (q : ℕ) → 0 < q → q ≤ limit → Is q spot.Opening
  pub joined : (q : ℕ) → 0 < q → q ≤ limit → (w : W) (g : Group) → route.joins w g ≡ true → Is q spot.Joined

-- the groups of one part
went-each : {R : Type 0} (Is : ℕ → Spot → Type 0) (row : List (Place R)) (halts : Group → Bool) (m : ℕ)
    → ((i : ℕ) → PlaceIs (λ j n. Is m (spot.At j n)) i (place_at row i))
    → {c₁ k₁ : ℕ} {r₁ : R} {left : List Piece} {c n : ℕ} {r : R} {gs : List Piece} {es : List Entry} → Went row halts c₁ k₁ r₁ left c n r gs es
    → EachTaken (SpotIs Is) (map (as_taken m) es)
went-each Is row halts m place done = tt
went-each Is row halts m place {c} {n} {r = r} (on {i = j} {n = l} {r' = r'} {g = g} t e w) =
    (place j l g.bytes r r' (turn-within row halts c n g.bytes j l t).1 e, went-each Is row halts m place w)

-- ---- how many parts come

module _ {T M P W : Type 0} (route : Route M P W) (word : T → Group → Word W P) (main_takes : M → T) (main_lacks : M → Bool) (takes : T → W → P → T)
    (lacks : T → W → P → Bool) (tail : Option ℕ) (end rest : ℕ) (whole : T) where
  abbrev more : ℕ → Further T P W
  more n = further tail end (parts_of route word main_takes main_lacks takes lacks) n

  -- from a word on, with so many parts still to come, the groups come to the whole report
  abbrev Goes : (T → Group → Word W P) → ℕ → T → List Piece → Type 0
  Goes of n t [] = Unit {0}
  Goes of n t (g ∷ gs) = turned (more n) t g gs (of t g.bytes) ≡ Done rest whole

  -- a part is read as from its last group on
  went-runs : {R : Type 0} (part : Part T P W R) (n : ℕ) {c₁ k₁ : ℕ} {r₁ : R} {left : List Piece} {c k : ℕ} {r : R} {gs : List Piece} {es : List Entry}
      → Went part.row part.halts c₁ k₁ r₁ left c k r gs es → part_from tail end part (more n) c k r gs ≡ part_from tail end part (more n) c₁ k₁ r₁ left
  unfolding run_to
  went-runs part n done = refl
  went-runs part n {c} {k} {r = r} (on {g = g} t e w) = rw (turn-steps part.row part.halts c k g.bytes r, t, e) (went-runs part n w)

  halted-goes : {R : Type 0} (part : Part T P W R) (n c k : ℕ) (r : R) (left : List Piece)
      → Halted route word main_takes main_lacks takes lacks part.row part.halts c k left → part_from tail end part (more n) c k r left ≡ Done rest whole
      → Goes part.word n (part.takes r) left
  unfolding run_to
  halted-goes part n c k r [] h e = tt
  halted-goes part n c k r (g ∷ gs) h e =
      lacked-none (owes part c k r) g.start rest _ whole (rw (turn-steps part.row part.halts c k g.bytes r, h) at e)

  -- so past a part that comes to it the groups do
  part-goes : {R : Type 0} (part : Part T P W R) (n : ℕ) {c k : ℕ} {r r₁ : R} {left gs : List Piece} {es : List Entry}
      → Went part.row part.halts c k r₁ left 0 0 r gs es → Halted route word main_takes main_lacks takes lacks part.row part.halts c k left
      → part_from tail end part (more n) 0 0 r gs ≡ Done rest whole → Goes part.word n (part.takes r₁) left
  part-goes part n {c} {k} {r₁ = r₁} {left = left} went halted e = halted-goes part n c k r₁ left halted (sym (went-runs part n went) ∙ e)

  -- the word of the part, alone
  begins-alone : (n : ℕ) (t : T) (w : W) (p : P) (gs : List Piece) → Plain route word main_takes main_lacks takes lacks w 0 0 gs
      → begins tail end (parts_of route word main_takes main_lacks takes lacks) (more n) t w p gs ≡ Done rest whole
      → part_from tail end ((parts_of route word main_takes main_lacks takes lacks).part t w) (more n) 0 0 p gs ≡ Done rest whole
  begins-alone n t w p [] plain e = e
  begins-alone n t w p (h ∷ gs) plain e = rw plain at e

  module _ {Is : ℕ → Spot → Type 0} {limit : ℕ} (may : MayHave route limit Is) where
    after-each : {m : ℕ} {t : T} {gs : List Piece} {xs : List Taken} → After route word main_takes main_lacks takes lacks end rest whole m t gs xs
        → (n : ℕ) → m + n ≤ limit → Goes word n t gs → EachTaken (SpotIs Is) xs
    unfolding further
    after-each (over a b) n few goes = tt
    after-each (stop is a b) n few goes = tt
    after-each (one is plain went halted after) zero few goes = let fault = rw is at goes in impossible (cc)
    after-each {m = m} {t = t} (one {w = w} {p = p} {gs = gs} {es = es} {xs = xs} is plain went halted after) (suc n) few goes =
        let reads = begins-alone n t w p gs plain (rw is at goes) in
        let next = part-goes ((parts_of route word main_takes main_lacks takes lacks).part t w) n went halted reads in (
          may.opening (m + 1) (omega arith) (omega arith),
          each_append (SpotIs Is) (map (as_taken (m + 1)) es) xs
              (went-each Is (route.row w) route.halts (m + 1) (may.placed (m + 1) (omega arith) (omega arith) w) went)
              (after-each after n (omega arith) next),
        )
    after-each (two is joins went halted after) zero few goes = let fault = rw is at goes in impossible (cc)
    after-each {m = m} {t = t} (two {w = w} {p = p} {h = h} {gs = gs} {es = es} {xs = xs} is joins went halted after) (suc n) few goes =
        let reads = rw (is, joins) at goes in
        let next = part-goes ((parts_of route word main_takes main_lacks takes lacks).part t (route.joined w)) n went halted reads in (
          may.opening (m + 1) (omega arith) (omega arith),
          (
            may.joined (m + 1) (omega arith) (omega arith) w h.bytes joins,
            each_append (SpotIs Is) (map (as_taken (m + 1)) es) xs
                (went-each Is (route.row (route.joined w)) route.halts (m + 1) (may.placed (m + 1) (omega arith) (omega arith) (route.joined w)) went)
                (after-each after n (omega arith) next),
          ),
        )

    -- EACH GROUP OF A REPORT'S TRAIL WAS TAKEN AS WHAT ITS PART MAY HAVE.
    pub report-each : {m : M} {gs : List Piece}
        (d : Read-on route word main_takes main_lacks takes lacks tail end rest whole (main_of route word main_takes main_lacks takes lacks) 0 m gs)
        → report_of tail end (parts_of route word main_takes main_lacks takes lacks) limit (main_of route word main_takes main_lacks takes lacks) m gs ≡ Done rest whole
        → EachTaken (SpotIs Is) (map (as_taken 0) d.entries ++ d.follows.taken)
    unfolding report_of
    report-each d reads =
        each_append (SpotIs Is) (map (as_taken 0) d.entries) d.follows.taken
        (went-each Is route.main route.main_halts 0 may.main d.went)
        (after-each d.follows.after limit (omega arith)
        (part-goes (main_of route word main_takes main_lacks takes lacks) limit d.went d.halted reads))

-- ---- the groups that begin before the unread rest

abbrev pub EachBefore : ℕ → (Piece → Type 0) → List Piece → Type 0
EachBefore rest P [] = Unit {0}
EachBefore rest P (g ∷ gs) = (g.start < rest → P g) × EachBefore rest P gs

-- groups begin one after the other
abbrev From : ℕ → List Piece → Type 0
From at [] = Unit {0}
From at (g ∷ gs) = (at ≤ g.start) × From at gs

abbrev Ordered : List Piece → Type 0
Ordered [] = Unit {0}
Ordered (g ∷ gs) = From g.start gs × Ordered gs

from_less : (a b : ℕ) → a ≤ b → (gs : List Piece) → From b gs → From a gs
from_less a b h [] f = tt
from_less a b h (g ∷ gs) (l, f) = (omega arith, from_less a b h gs f)

groups-ordered : (t : List ℕ) → Ordered (groups_from t 0)
groups-ordered t =
    (over-groups t (λ at gs. From at gs × Ordered gs) (λ at. (tt, tt))
    (λ at s e f next.
    ((f.after, from_less at e (omega (arith, f.after, f.some)) (groups_from t e) next.0), (from_less s e (omega (arith, f.some)) (groups_from t e) next.0, next.1))) 0).1

ordered-past : (gs left : List Piece) → Ordered (gs ++ left) → Ordered left
ordered-past [] left o = o
ordered-past (g ∷ gs) left (f, o) = ordered-past gs left o

module _ (end rest : ℕ) (P : Piece → Type 0) where
  none_before : (gs : List Piece) → From rest gs → EachBefore rest P gs
  none_before [] f = tt
  none_before (g ∷ gs) (l, f) = ((λ h. absurd (omega arith)), none_before gs f)

  left-before : (left : List Piece) → RestAt end rest left → Ordered left → EachBefore rest P left
  left-before [] b o = tt
  left-before (g ∷ gs) b (f, o) = ((λ h. absurd (omega arith)), none_before gs (rw b f))

  taken-before : (xs : List Taken) (left : List Piece) → EachTaken (λ x. P x.piece) xs → EachBefore rest P left
      → EachBefore rest P (map (λ (x : Taken). x.piece) xs ++ left)
  taken-before [] left e l = l
  taken-before (x ∷ xs) left (p, e) l = ((λ h. p), taken-before xs left e l)

  -- WHAT IS SO OF EACH GROUP OF A TRAIL that covers a text is so of every group that begins before the unread rest.
  pub each-before : (t : List ℕ) (xs : List Taken) → Covers end rest (groups_from t 0) xs → EachTaken (λ x. P x.piece) xs → EachBefore rest P (groups_from t 0)
  each-before t xs c e =
      subst (EachBefore rest P) (sym c.all)
      (taken-before xs c.left e
      (left-before c.left c.begins (ordered-past (map (λ (x : Taken). x.piece) xs) c.left (subst Ordered c.all (groups-ordered t)))))

-- A GROUP IS THE SOURCE OF AN ITEM: this is the spot of an item, and the group is the source of what was taken there.
pub record ItemSource (Is : ℕ → Spot → Type 0) (source : ℕ → Spot → Option Source) (g : Piece) : Type 0 where
  pub part : ℕ
  pub spot : Spot
  pub item : Is part spot
  pub from : source part spot ≡ source_of (group g)

-- EVERY GROUP THAT BEGINS BEFORE THE UNREAD REST IS THE SOURCE OF AN ITEM.
pub all-sources : (Is : ℕ → Spot → Type 0) (source : ℕ → Spot → Option Source) (t : List ℕ) {end rest : ℕ} (xs : List Taken) → Covers end rest (groups_from t 0) xs
    → EachTaken (SpotIs Is) xs → EachTaken (λ x. source x.part x.spot ≡ source_of (group x.piece)) xs
    → EachBefore rest (ItemSource Is source) (groups_from t 0)
all-sources Is source t {end} {rest} xs covers items own =
    each-before end rest (ItemSource Is source) t xs covers
    (each_both (λ x i e. record { part = x.part; spot = x.spot; item = i; from = e }) xs items own)
