-- What a reading against any row leaves in the record, place by place: at the places that are left behind it is what they have to leave, where reading stands
-- it is what so many groups said, and at the places to come it is blank. So at the end it is what all places have to leave, or what a place at which the
-- report ends has to.
-- Assumes nothing.
use Rattle.std.specs.Prelude.{Result}
use Prim.Native.Nat.{ℕ, zero, suc, ◌+◌, ◌≤◌, ◌<◌}
use native.Mathlib.Omega.{arith}
use mathlib.Core.Path.{◌≡◌, refl, sym, ◌∙◌}
use mathlib.Core.Logic.{◌⊎◌, inl, inr}
use mathlib.Core.Bool.{Bool, true, false, cond, ◌&&◌, ◌||◌, false≢true, and-eq-true_iff}
use mathlib.Core.List.{List, [], ◌∷◌}
use lib.ListN.{length, drop}
use lib.Dec.{leb, ltb, eqb}
use borrow.Author.Tests.{ltb-true, le-leb}
use Rattle.figures.proofs.Impossible.{impossible}
use Rattle.text.specs.declared.kinds.Refusal.{Refusal}
use Rattle.text.specs.declared.kinds.Refusal.TheVariants as refusal
use Rattle.text.specs.Groups.{Piece}
use Rattle.shapes.proofs.Patterns.{both_false}
use Rattle.places.specs.declared.kinds.Found.{Found}
use Rattle.places.specs.declared.kinds.Found.TheVariants.{Take, Skips, Full, Earlier, Unknown}
use Rattle.places.specs.Seek.{Stand, seek, anywhere, or_earlier, find_of, owed}
use Rattle.places.specs.Engine.{Group, Place, place_at, onward, stands_of, musts_of, taken, judged, Step, On, Halt, Stop}
use Rattle.places.specs.Parts.{Exits, carry_to, run_to}
use Rattle.accepted_laws.proofs.Gives.{Gives, good, bad, gives_more}

-- What a place leaves in the record: before a group can stand there, where so many stand, and once it is left behind.
pub record Stage (R : Type 0) : Type 1 where
  pub blank : R → Type 0
  pub held : ℕ → R → Type 0
  pub past : R → Type 0

module _ {R : Type 0} where
  abbrev pub Blank : List (Stage R) → R → Type 0
  Blank [] r = Unit {0}
  Blank (s ∷ ss) r = s.blank r × Blank ss r

  -- once a place is left behind, beside what was known before
  abbrev pub and_past : (R → Type 0) → Stage R → R → Type 0
  and_past B s r = B r × s.past r

  -- the end: all places are left behind
  abbrev pub Left : (R → Type 0) → List (Stage R) → R → Type 0
  Left B [] r = B r
  Left B (s ∷ ss) r = Left (and_past B s) ss r

  -- Z: what holds where a place has ended the report. B: what was known before the row and what the places before have left.
  module _ (Z : R → Type 0) where
    -- after a group: the report has ended, or so many groups stand
    abbrev pub Moved : (R → Type 0) → Stage R → List (Stage R) → Bool → ℕ → R → Type 0
    Moved B s ss true k r = Z r
    Moved B s ss false k r = B r × s.held k r × Blank ss r

    -- A place serves its stage: whatever the places before it left, and whatever group it reads.
    pub record Serves (B : R → Type 0) (p : Place R) (s : Stage R) (ss : List (Stage R)) : Type 0 where
      pub begins : (r : R) → B r → s.blank r → s.held 0 r
      pub passes : (k : ℕ) (r : R) → B r → (p.must ≡ true → 1 ≤ k) → s.held k r → s.past r
      pub takes : (k : ℕ) (g : Group) (r : R) → k < p.most → p.has g ≡ true → B r → s.held k r → Blank ss r
          → Gives (Moved B s ss p.ends (k + 1)) (p.read k g r)

    abbrev pub ServesRow : (R → Type 0) → List (Place R) → List (Stage R) → Type 0
    ServesRow B [] [] = Unit {0}
    ServesRow B [] (s ∷ ss) = ⊥
    ServesRow B (p ∷ ps) [] = ⊥
    ServesRow B (p ∷ ps) (s ∷ ss) = Serves B p s ss × ServesRow (and_past B s) ps ss

    -- reading stands at the first place, where k groups stand; at place c
    abbrev Stands : (R → Type 0) → List (Stage R) → ℕ → R → Type 0
    Stands B [] k r = B r
    Stands B (s ∷ ss) k r = B r × s.held k r × Blank ss r

    abbrev pub StandsAt : (R → Type 0) → List (Stage R) → ℕ → ℕ → R → Type 0
    StandsAt B ss zero k r = Stands B ss k r
    StandsAt B [] (suc c) k r = ⊥
    StandsAt B (s ∷ ss) (suc c) k r = StandsAt (and_past B s) ss c k r

    -- ---- a place that is left behind

    next-stands : (B : R → Type 0) (p : Place R) (s : Stage R) (ps : List (Place R)) (ss : List (Stage R)) → Serves B p s ss → ServesRow (and_past B s) ps ss
        → (k : ℕ) (r : R) → (p.must ≡ true → 1 ≤ k) → Stands B (s ∷ ss) k r → Stands (and_past B s) ss 0 r
    next-stands B p s [] [] a b k r m (x, h, bs) = (x, a.passes k r x m h)
    next-stands B p s [] (s' ∷ ss) a b k r m e = absurd b
    next-stands B p s (p' ∷ ps) [] a b k r m e = absurd b
    next-stands B p s (p' ∷ ps) (s' ∷ ss) a b k r m (x, h, bs) =
        let known : and_past B s r = (x, a.passes k r x m h) in
        (known, b.0.begins r known bs.0, bs.1)

    not-owed : (must : Bool) (k : ℕ) → (must && eqb k 0) ≡ false → must ≡ true → 1 ≤ k
    not-owed must zero e m = absurd (false≢true (sym e ∙ rw m))
    not-owed must (suc k) e m = omega arith

    -- ---- a group that is taken

    -- at place `off` of the row: the report has ended, or reading stands there
    abbrev Taken : (R → Type 0) → List (Place R) → List (Stage R) → ℕ → ℕ → R → Type 0
    Taken B ps ss off n r = (((place_at ps off).ends ≡ true) × Z r) ⊎ (((place_at ps off).ends ≡ false) × StandsAt B ss off n r)

    -- where it goes, from place i on, and what it leaves
    record Took (B : R → Type 0) (ps : List (Place R)) (ss : List (Stage R)) (g : Group) (r : R) (i j n : ℕ) : Type 0 where
      off : ℕ
      is : j ≡ i + off
      gives : Gives (Taken B ps ss off (n + 1)) ((place_at ps off).read n g r)

    here : (B : R → Type 0) (p : Place R) (ps : List (Place R)) (s : Stage R) (ss : List (Stage R)) (n : ℕ) {x : Result R Refusal} (e : Bool) → p.ends ≡ e
        → Gives (Moved B s ss e n) x → Gives (Taken B (p ∷ ps) (s ∷ ss) 0 n) x
    here B p ps s ss n true e x = gives_more x (λ r z. inl (e, z))
    here B p ps s ss n false e x = gives_more x (λ r z. inr (e, z))

    not_late : (ps : List Stand) (i k : ℕ) (late : Bool) (j n : ℕ) → seek i k late ps ≡ Take j n → late ≡ false
    unfolding seek
    not_late [] i k late j n e = impossible (cc)
    not_late (p ∷ ps) i k false j n e = refl
    not_late (p ∷ ps) i k true j n e = go (p.has && ltb k p.most) (p.has && ltb 1 p.most) e (not_late ps (i + 1) 0 true j n)
      where
        go : (a b : Bool) → cond a Skips (cond b Full (seek (i + 1) 0 true ps)) ≡ Take j n → (seek (i + 1) 0 true ps ≡ Take j n → true ≡ false) → true ≡ false
        go true b e ih = impossible (cc)
        go false true e ih = impossible (cc)
        go false false e ih = ih e

    seek-takes : (B : R → Type 0) (ps : List (Place R)) (ss : List (Stage R)) → ServesRow B ps ss → (g : Group) (r : R) (i k : ℕ) (late : Bool) (j n : ℕ)
        → Stands B ss k r → seek i k late (stands_of ps g) ≡ Take j n → Took B ps ss g r i j n
    unfolding seek
    seek-takes B [] ss v g r i k late j n st e = impossible (cc)
    seek-takes B (p ∷ ps) [] v g r i k late j n st e = absurd v
    seek-takes B (p ∷ ps) (s ∷ ss) v g r i k late j n st e =
        go (p.has g && ltb k p.most) refl late refl (p.has g && ltb 1 p.most) refl
        (λ st' e'. seek-takes (and_past B s) ps ss v.1 g r (i + 1) 0 (late || (p.must && eqb k 0)) j n st' e')
      where
        go : (b : Bool) → (p.has g && ltb k p.most) ≡ b → (l : Bool) → late ≡ l → (f : Bool) → (p.has g && ltb 1 p.most) ≡ f
            → (Stands (and_past B s) ss 0 r → seek (i + 1) 0 (late || (p.must && eqb k 0)) (stands_of ps g) ≡ Take j n → Took (and_past B s) ps ss g r (i + 1) j n)
            → Took B (p ∷ ps) (s ∷ ss) g r i j n
        go true q true l f u ih =
            let a : Skips ≡ Take j n = rw (q, l) at e in
            impossible (cc)
        go true q false l f u ih =
            let a : Take i k ≡ Take j n = rw (q, l) at e in
            let at : i ≡ j = cc in
            let ij : j ≡ i + 0 = omega (arith, at) in
            let kn : k ≡ n = cc in
            let both = (and-eq-true_iff (p.has g) (ltb k p.most)).0 q in
            let (x, h, bs) = st in
            record { off = 0; is = ij; gives = rw (← kn) (here B p ps s ss (k + 1) p.ends refl (v.0.takes k g r (ltb-true k p.most both.1) both.0 x h bs)) }
        go false q l o true u ih =
            let a : Full ≡ Take j n = rw (q, u) at e in
            impossible (cc)
        go false q l o false u ih =
            let e' : seek (i + 1) 0 (late || (p.must && eqb k 0)) (stands_of ps g) ≡ Take j n = rw (q, u) at e in
            let due = (both_false late (p.must && eqb k 0) (not_late (stands_of ps g) (i + 1) 0 (late || (p.must && eqb k 0)) j n e')).1 in
            let t = ih (next-stands B p s ps ss v.0 v.1 k r (not-owed p.must k due) st) e' in
            record { off = suc t.off; is = omega (arith, t.is); gives = t.gives }

    -- from any place on
    find-takes : (B : R → Type 0) (ps : List (Place R)) (ss : List (Stage R)) → ServesRow B ps ss → (g : Group) (r : R) (c i k : ℕ) (late : Bool) (j n : ℕ)
        → StandsAt B ss c k r → seek (i + c) k late (drop c (stands_of ps g)) ≡ Take j n → Took B ps ss g r i j n
    find-takes B ps ss v g r zero i k late j n st e =
        let same : i + 0 ≡ i = omega arith in
        seek-takes B ps ss v g r i k late j n st (rw same at e)
    find-takes B [] [] v g r (suc c) i k late j n st e = absurd st
    find-takes B [] (s ∷ ss) v g r (suc c) i k late j n st e = absurd v
    find-takes B (p ∷ ps) [] v g r (suc c) i k late j n st e = absurd v
    find-takes B (p ∷ ps) (s ∷ ss) v g r (suc c) i k late j n st e =
        let same : i + suc c ≡ i + 1 + c = omega arith in
        let t = find-takes (and_past B s) ps ss v.1 g r c (i + 1) k late j n st (rw same at e) in
        record { off = suc t.off; is = omega (arith, t.is); gives = t.gives }

    -- ---- the end

    ends-left : (B : R → Type 0) (ps : List (Place R)) (ss : List (Stage R)) → ServesRow B ps ss → (k : ℕ) (r : R) → Stands B ss k r → owed k (musts_of ps) ≡ false → Left B ss r
    unfolding owed
    ends-left B [] [] v k r st e = st
    ends-left B [] (s ∷ ss) v k r st e = absurd v
    ends-left B (p ∷ ps) [] v k r st e = absurd v
    ends-left B (p ∷ ps) (s ∷ ss) v k r st e =
        let (here, later) = both_false (p.must && eqb k 0) (owed 0 (musts_of ps)) e in
        ends-left (and_past B s) ps ss v.1 0 r (next-stands B p s ps ss v.0 v.1 k r (not-owed p.must k here) st) later

    pub left_at : (B : R → Type 0) (ps : List (Place R)) (ss : List (Stage R)) → ServesRow B ps ss → (c k : ℕ) (r : R) → StandsAt B ss c k r
        → owed k (drop c (musts_of ps)) ≡ false → Left B ss r
    left_at B ps ss v zero k r st e = ends-left B ps ss v k r st e
    left_at B [] [] v (suc c) k r st e = absurd st
    left_at B [] (s ∷ ss) v (suc c) k r st e = absurd v
    left_at B (p ∷ ps) [] v (suc c) k r st e = absurd v
    left_at B (p ∷ ps) (s ∷ ss) v (suc c) k r st e = left_at (and_past B s) ps ss v.1 c k r st e

    -- ---- a row, up to wherever its reading ends

    -- reading stands at place c, or the report has ended
    pub data Reached (B : R → Type 0) (ss : List (Stage R)) (row : List (Place R)) (c k : ℕ) (r : R) : Type 0 where
      within : StandsAt B ss c k r → Reached B ss row c k r
      ended : length row ≤ c → Z r → Reached B ss row c k r

    module _ (B : R → Type 0) (row : List (Place R)) (ss : List (Stage R)) (serves : ServesRow B row ss) where
      abbrev Goes : Step R → Type 0
      Goes (On c k r) = Reached B ss row c k r
      Goes Halt = ⊥
      Goes (Stop f) = Unit {0}

      taken-goes : (i n : ℕ) (x : Result R Refusal) → Gives (Taken B row ss i n) x → Goes (taken (onward row i) n x)
      taken-goes i n _ bad = tt
      taken-goes i n _ (good {a} (inl (e, z))) = rw e (ended (omega arith) z)
      taken-goes i n _ (good {a} (inr (e, st))) = rw e (within st)

      found : (here : Bool) (f : Found) (j n : ℕ) → or_earlier here f ≡ Take j n → f ≡ Take j n
      found here (Take i k) j n e = e
      found here Skips j n e = e
      found here Full j n e = e
      found here Earlier j n e = e
      found true Unknown j n e = impossible (cc)
      found false Unknown j n e = e

      judged-goes : (c k : ℕ) (r : R) (g : Group) → StandsAt B ss c k r → (f : Found) → find_of (stands_of row g) c k ≡ f → Goes (judged row r g f)
      unfolding find_of
      judged-goes c k r g st (Take i n) e =
          let same : 0 + c ≡ c = omega arith in
          let t = find-takes B row ss serves g r c 0 k false i n st (rw same (found (anywhere (stands_of row g)) _ i n e)) in
          let at : t.off ≡ i = omega (arith, t.is) in
          taken-goes i (n + 1) ((place_at row i).read n g r) (rw at at t.gives)
      judged-goes c k r g st Skips e = tt
      judged-goes c k r g st Full e = tt
      judged-goes c k r g st Earlier e = tt
      judged-goes c k r g st Unknown e = tt

      module _ {X : Type 0} (Q : X → Type 0) (halts : Group → Bool) (x : Exits R X)
          (at-end : (c k : ℕ) (r : R) → Reached B ss row c k r → Q (x.over c k r))
          (at-halt : (c k : ℕ) (r : R) (g : Piece) (gs : List Piece) → StandsAt B ss c k r → halts g.bytes ≡ true → Q (x.halt c k r g gs))
          (at-fault : (f : Refusal) (at : ℕ) → Q (x.fault f at)) where
        pub runs_to : (gs : List Piece) (c k : ℕ) (r : R) → Reached B ss row c k r → Q (run_to row halts x c k r gs)
        unfolding run_to
        runs_to [] c k r st = at-end c k r st
        runs_to (g ∷ gs) c k r st = past (leb (length row) c) refl st (runs_to gs)
          where
            -- one group, by what its step comes to
            step : (s : Step R) → Goes s → ((c k : ℕ) (r : R) → Reached B ss row c k r → Q (run_to row halts x c k r gs))
                → Q (carry_to s x c k r g gs (λ c' k' r'. run_to row halts x c' k' r' gs))
            step (On c' k' r') h ih = ih c' k' r' h
            step Halt h ih = absurd h
            step (Stop f) h ih = at-fault f g.start

            word : (b : Bool) → halts g.bytes ≡ b → StandsAt B ss c k r → ((c k : ℕ) (r : R) → Reached B ss row c k r → Q (run_to row halts x c k r gs))
                → Q (carry_to (cond b Halt (judged row r g.bytes (find_of (stands_of row g.bytes) c k))) x c k r g gs (λ c' k' r'. run_to row halts x c' k' r' gs))
            word true h st ih = at-halt c k r g gs st h
            word false h st ih = step (judged row r g.bytes (find_of (stands_of row g.bytes) c k)) (judged-goes c k r g.bytes st (find_of (stands_of row g.bytes) c k) refl) ih

            past : (b : Bool) → leb (length row) c ≡ b → Reached B ss row c k r → ((c k : ℕ) (r : R) → Reached B ss row c k r → Q (run_to row halts x c k r gs))
                → Q (carry_to (cond b (Stop refusal.Shape) (cond (halts g.bytes) Halt (judged row r g.bytes (find_of (stands_of row g.bytes) c k)))) x c k r g gs (λ c' k' r'. run_to row halts x c' k' r' gs))
            past true e st ih = at-fault refusal.Shape g.start
            past false e (within st) ih = word (halts g.bytes) refl st ih
            past false e (ended h z) ih = absurd (false≢true (sym e ∙ le-leb (length row) c h))
