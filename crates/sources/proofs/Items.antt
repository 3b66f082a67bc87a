-- WHERE EACH ITEM OF A REPORT WAS READ FROM: of the main part, and of any part after it. And that no group up to the unread rest is left out.
-- Assumes nothing.
use Rattle.std.specs.Prelude.{Ok}
use Prim.Native.Nat.{ℕ, ◌+◌, ◌≤◌, ◌<◌}
use native.Mathlib.Omega.{arith}
use mathlib.Core.Path.{◌≡◌, refl, sym, ap, subst, ◌∙◌}
use mathlib.Core.Bool.{Bool, true, false, ◌&&◌, cond}
use mathlib.Core.List.{List, [], ◌∷◌, ◌++◌, map}
use lib.Dec.{eqb}
use borrow.Author.Tests.{eqb-true, eqb-false, eq-eqb, ne_eqb}
use Rattle.text.specs.Groups.{Piece}
use Rattle.places.specs.Engine.{Group, place_at}
use Rattle.places.specs.Parts.{Word, Opens}
use Rattle.sources.specs.declared.kinds.Spot.{Spot}
use Rattle.sources.specs.declared.kinds.Spot.TheVariants as spot
use Rattle.sources.specs.Trail.{Taken, Origin, nowhere, group, origin_in}
use Rattle.sources.specs.Route.{Route}
use Rattle.sources.proofs.Rows.{Entry, Went, went-pieces, Item, If, Told, shape-told, item-told}
use Rattle.sources.proofs.Parts.{as_taken, main_of, After, over, stop, one, two, Read-on}

-- ---- what is said of the source

-- there is a group, and this is so of it; or there is none, and this is so
pub data Stems (says : Piece → Type 0) (missing : Type 0) : Origin → Type 0 where
  from : (g : Piece) → says g → Stems says missing (group g)
  absent : missing → Stems says missing nowhere

module _ {says : Piece → Type 0} {missing : Type 0} where
  stems-if : (b : Bool) (g : Piece) (s : Origin) (A : Type 0) → (A → Stems says missing s) → If b (says g) A → Stems says missing (cond b (group g) s)
  stems-if true g s A f x = from g x
  stems-if false g s A f x = f x

  -- the entries of part m, then groups of later parts
  pub told-stems : (m i k : ℕ) (es : List Entry) (xs : List Taken) → origin_in m (spot.At i k) xs ≡ nowhere → Told says missing i k es
      → Stems says missing (origin_in m (spot.At i k) (map (as_taken m) es ++ xs))
  unfolding origin_in
  told-stems m i k [] xs none t = rw none (absent t)
  told-stems m i k (e ∷ es) xs none t =
      rw (eq-eqb m m refl)
      (stems-if (eqb i e.place && eqb k e.count) e.piece (origin_in m (spot.At i k) (map (as_taken m) es ++ xs)) (Told says missing i k es)
      (told-stems m i k es xs none) t)

-- the entries of another part
pub past-part : (q m : ℕ) (s : Spot) (es : List Entry) (xs : List Taken) → eqb q m ≡ false → origin_in q s (map (as_taken m) es ++ xs) ≡ origin_in q s xs
unfolding origin_in
past-part q m s [] xs e = refl
past-part q m s (x ∷ es) xs e = rw e (past-part q m s es xs e)

-- a group of another part
past-group : (q m : ℕ) (s s' : Spot) (g : Piece) (xs : List Taken) → eqb q m ≡ false → origin_in q s (record { part = m; spot = s'; piece = g } ∷ xs) ≡ origin_in q s xs
unfolding origin_in
past-group q m s s' g xs e = rw e

-- the word that opens a part is at no place
skip-opening : (q m i k : ℕ) (g : Piece) (xs : List Taken)
    → origin_in q (spot.At i k) (record { part = m; spot = spot.Opening; piece = g } ∷ xs) ≡ origin_in q (spot.At i k) xs
unfolding origin_in
skip-opening q m i k g xs = go (eqb q m)
  where
    go : (b : Bool) → cond (b && false) (group g) (origin_in q (spot.At i k) xs) ≡ origin_in q (spot.At i k) xs
    go true = refl
    go false = refl

skip-joined : (q m i k : ℕ) (g : Piece) (xs : List Taken)
    → origin_in q (spot.At i k) (record { part = m; spot = spot.Joined; piece = g } ∷ xs) ≡ origin_in q (spot.At i k) xs
unfolding origin_in
skip-joined q m i k g xs = go (eqb q m)
  where
    go : (b : Bool) → cond (b && false) (group g) (origin_in q (spot.At i k) xs) ≡ origin_in q (spot.At i k) xs
    go true = refl
    go false = refl

-- ---- no group is left out

abbrev pub RestAt : ℕ → ℕ → List Piece → Type 0
RestAt end rest [] = rest ≡ end
RestAt end rest (g ∷ gs) = rest ≡ g.start

-- The groups are those of the trail, in order, and those left, which begin where the unread rest does.
pub record Covers (end rest : ℕ) (gs : List Piece) (xs : List Taken) : Type 0 where
  pub left : List Piece
  pub all : gs ≡ map (λ (x : Taken). x.piece) xs ++ left
  pub begins : RestAt end rest left

pub entries-cover : {end rest : ℕ} (m : ℕ) (es : List Entry) (left : List Piece) (xs : List Taken) → Covers end rest left xs
    → Covers end rest (map (λ (e : Entry). e.piece) es ++ left) (map (as_taken m) es ++ xs)
entries-cover m [] left xs c = c
entries-cover m (e ∷ es) left xs c =
    let d = entries-cover m es left xs c in
    record { left = d.left; all = ap (λ (l : List Piece). e.piece ∷ l) d.all; begins = d.begins }

pub cover-more : {end rest : ℕ} (x : Taken) {gs : List Piece} {xs : List Taken} → Covers end rest gs xs → Covers end rest (x.piece ∷ gs) (x ∷ xs)
cover-more x c = record { left = c.left; all = ap (λ (l : List Piece). x.piece ∷ l) c.all; begins = c.begins }

-- ---- the parts of a report

module _ {T M P W : Type 0} (route : Route M P W) (word : T → Group → Word W P) (main_takes : M → T) (main_lacks : M → Bool) (takes : T → W → P → T)
    (lacks : T → W → P → Bool) where
  abbrev Ahead : ℕ → ℕ → T → ℕ → T → List Piece → List Taken → Type 0
  Ahead end rest whole m t gs xs = After route word main_takes main_lacks takes lacks end rest whole m t gs xs

  -- the parts after part m hold no group of it or of one before it
  none-later : {end rest : ℕ} {whole : T} {m : ℕ} {t : T} {gs : List Piece} {xs : List Taken} → Ahead end rest whole m t gs xs → (q : ℕ) (s : Spot) → q ≤ m → origin_in q s xs ≡ nowhere
  unfolding origin_in
  none-later (over a b) q s h = refl
  none-later (stop is a b) q s h = refl
  none-later {m = m} (one {es = es} {xs = xs} is plain went halted after) q s h =
      let other = ne_eqb q (m + 1) (omega arith) in
      rw other (past-part q (m + 1) s es xs other ∙ none-later after q s (omega arith))
  none-later {m = m} (two {es = es} {xs = xs} is joins went halted after) q s h =
      let other = ne_eqb q (m + 1) (omega arith) in
      rw other (past-part q (m + 1) s es xs other ∙ none-later after q s (omega arith))

  -- A GROUP OF THE MAIN PART HAS THE SHAPE OF ITS PLACE.
  pub main-shaped : {missing : Type 0} {end rest : ℕ} {whole : T} {m : M} {gs : List Piece} {tail : _} (d : Read-on route word main_takes main_lacks takes lacks tail end rest whole (main_of route word main_takes main_lacks takes lacks) 0 m gs)
      (i k : ℕ) → missing → Stems (λ g. (place_at route.main i).has g.bytes ≡ true) missing (origin_in 0 (spot.At i k) (map (as_taken 0) d.entries ++ d.follows.taken))
  main-shaped d i k none =
      told-stems 0 i k d.entries d.follows.taken (none-later d.follows.after 0 (spot.At i k) (omega arith)) (shape-told route.main route.main_halts i k d.went none)

  -- ---- an item of the main part: no part after it touches the item

  module _ {A : Type 0} {i k : ℕ} {get : T → A} {inner : M → A} {says : Group → A → Type 0} {fair : M → Type 0} {missing : A} (item : Item route.main i k inner says fair missing)
      (takes-in : (r : M) → get (main_takes r) ≡ inner r) (aside : (t : T) (w : W) (p : P) → get (takes t w p) ≡ get t) where
    after-aside : {end rest : ℕ} {whole : T} {m : ℕ} {t : T} {gs : List Piece} {xs : List Taken} → Ahead end rest whole m t gs xs → get whole ≡ get t
    after-aside (over a b) = ap get b
    after-aside (stop is a b) = ap get b
    after-aside {t = t} (one {w = w} {p' = p'} is plain went halted after) = after-aside after ∙ aside t w p'
    after-aside {t = t} (two {w = w} {p' = p'} is joins went halted after) = after-aside after ∙ aside t (route.joined w) p'

    -- THE ITEM OF THE WHOLE REPORT is what its place says of its source, or missing.
    pub main-stems : {end rest : ℕ} {whole : T} {m : M} {gs : List Piece} {tail : _} (d : Read-on route word main_takes main_lacks takes lacks tail end rest whole (main_of route word main_takes main_lacks takes lacks) 0 m gs)
        → fair m → inner m ≡ missing → Stems (λ g. says g.bytes (get whole)) (get whole ≡ missing) (origin_in 0 (spot.At i k) (map (as_taken 0) d.entries ++ d.follows.taken))
    main-stems {whole = whole} {m = m} d f blank =
        let e : get whole ≡ inner d.r₁ = after-aside d.follows.after ∙ takes-in d.r₁ in
        told-stems 0 i k d.entries d.follows.taken (none-later d.follows.after 0 (spot.At i k) (omega arith)) (rw e (item-told route.main route.main_halts item d.went f blank))

  -- ---- an item of a part after it

  -- a part is opened by a word, or by a word with a group that belongs to it
  pub data Begins (t : T) : W → P → Type 0 where
    alone : {g : Group} {w : W} {p : P} → word t g ≡ Opens (Ok (record { kind = w; start = p })) → Begins t w p
    joined : {g h : Group} {v : W} {p : P} → word t g ≡ Opens (Ok (record { kind = v; start = p })) → route.joins v h ≡ true → Begins t (route.joined v) p

  -- What no part but part q touches; `inv m t` is known of a report t into which m parts were taken.
  pub record Beside {A : Type 0} (q : ℕ) (get : T → A) (inv : ℕ → T → Type 0) : Type 0 where
    pub next : (m : ℕ) (t : T) (w : W) (p p' : P) → inv m t → Begins t w p → inv (m + 1) (takes t w p')
    pub aside : (m : ℕ) (t : T) (w : W) (p p' : P) → inv m t → Begins t w p → eqb q (m + 1) ≡ false → get (takes t w p') ≡ get t

  choose : {A : Type 0} (q n : ℕ) (b : Bool) → eqb q n ≡ b → (q ≡ n → A) → (eqb q n ≡ false → A) → A
  choose q n true e f h = f (eqb-true q n e)
  choose q n false e f h = h e

  module _ {A : Type 0} {q : ℕ} {get : T → A} {inv : ℕ → T → Type 0} (beside : Beside q get inv) where
    after_kept : {end rest : ℕ} {whole : T} {m : ℕ} {t : T} {gs : List Piece} {xs : List Taken} → Ahead end rest whole m t gs xs → inv m t → q ≤ m → get whole ≡ get t
    after_kept (over a b) v h = ap get b
    after_kept (stop is a b) v h = ap get b
    after_kept {m = m} {t = t} (one {w = w} {p = p} {p' = p'} is plain went halted after) v h =
        after_kept after (beside.next m t w p p' v (alone is)) (omega arith) ∙ beside.aside m t w p p' v (alone is) (ne_eqb q (m + 1) (omega arith))
    after_kept {m = m} {t = t} (two {w = w} {p = p} {p' = p'} is joins went halted after) v h =
        after_kept after (beside.next m t (route.joined w) p p' v (joined is joins)) (omega arith)
        ∙ beside.aside m t (route.joined w) p p' v (joined is joins) (ne_eqb q (m + 1) (omega arith))

    -- ---- the item that the word of part q says

    -- the word, or the word with the group that belongs to it, brings it in
    pub record Opener (says : Group → A → Type 0) (missing : A) : Type 0 where
      pub opens : (m : ℕ) (t : T) (g : Group) (w : W) (p p' : P) {c n : ℕ} {gs left : List Piece} {es : List Entry} → inv m t → q ≡ m + 1 → get t ≡ missing
          → word t g ≡ Opens (Ok (record { kind = w; start = p })) → Went (route.row w) route.halts c n p' left 0 0 p gs es → says g (get (takes t w p'))
      pub joins : (m : ℕ) (t : T) (g h : Group) (w : W) (p p' : P) {c n : ℕ} {gs left : List Piece} {es : List Entry} → inv m t → q ≡ m + 1 → get t ≡ missing
          → word t g ≡ Opens (Ok (record { kind = w; start = p })) → route.joins w h ≡ true
          → Went (route.row (route.joined w)) route.halts c n p' left 0 0 p gs es → says g (get (takes t (route.joined w) p'))

    module _ {says : Group → A → Type 0} {missing : A} (opener : Opener says missing) where
      abbrev Worded : T → Origin → Type 0
      Worded whole o = Stems (λ g. says g.bytes (get whole)) (get whole ≡ missing) o

      opening-here : (m : ℕ) (g : Piece) (xs : List Taken) → q ≡ m → origin_in q spot.Opening (record { part = m; spot = spot.Opening; piece = g } ∷ xs) ≡ group g
      unfolding origin_in
      opening-here m g xs e = rw (eq-eqb q m e)

      -- THE ITEM THAT A PART'S WORD SAYS is what the word's definition says of its source, or missing where there is no such part.
      pub word-stems : {end rest : ℕ} {whole : T} {m : ℕ} {t : T} {gs : List Piece} {xs : List Taken} → Ahead end rest whole m t gs xs → inv m t → m < q → get t ≡ missing
          → Worded whole (origin_in q spot.Opening xs)
      unfolding origin_in
      word-stems (over a b) v h blank = absent (ap get b ∙ blank)
      word-stems (stop is a b) v h blank = absent (ap get b ∙ blank)
      word-stems {whole = whole} {m = m} {t = t} (one {w = w} {p = p} {p' = p'} {g = g} {es = es} {xs = xs} is plain went halted after) v h blank =
          choose q (m + 1) (eqb q (m + 1)) refl
          (λ e. subst (Worded whole) (sym (opening-here (m + 1) g (map (as_taken (m + 1)) es ++ xs) e))
          (from g (subst (says g.bytes) (sym (after_kept after (beside.next m t w p p' v (alone is)) (omega arith))) (opener.opens m t g.bytes w p p' v e blank is went))))
          (λ e. subst (Worded whole) (sym (past-group q (m + 1) spot.Opening spot.Opening g (map (as_taken (m + 1)) es ++ xs) e ∙ past-part q (m + 1) spot.Opening es xs e))
          (word-stems after (beside.next m t w p p' v (alone is)) (omega (arith, eqb-false q (m + 1) e)) (beside.aside m t w p p' v (alone is) e ∙ blank)))
      word-stems {whole = whole} {m = m} {t = t} (two {w = w} {p = p} {p' = p'} {g = g} {h = h'} {es = es} {xs = xs} is joins went halted after) v h blank =
          choose q (m + 1) (eqb q (m + 1)) refl
          (λ e. subst (Worded whole) (sym (opening-here (m + 1) g (record { part = m + 1; spot = spot.Joined; piece = h' } ∷ (map (as_taken (m + 1)) es ++ xs)) e))
          (from g (subst (says g.bytes) (sym (after_kept after (beside.next m t (route.joined w) p p' v (joined is joins)) (omega arith)))
          (opener.joins m t g.bytes h'.bytes w p p' v e blank is joins went))))
          (λ e. subst (Worded whole)
          (sym (past-group q (m + 1) spot.Opening spot.Opening g (record { part = m + 1; spot = spot.Joined; piece = h' } ∷ (map (as_taken (m + 1)) es ++ xs)) e
          ∙ past-group q (m + 1) spot.Opening spot.Joined h' (map (as_taken (m + 1)) es ++ xs) e ∙ past-part q (m + 1) spot.Opening es xs e))
          (word-stems after (beside.next m t (route.joined w) p p' v (joined is joins)) (omega (arith, eqb-false q (m + 1) e))
          (beside.aside m t (route.joined w) p p' v (joined is joins) e ∙ blank)))

    -- ---- the item that a group says which belongs to the word of part q

    -- it brings the item in, and a word alone does not
    pub record Joiner (says : Group → A → Type 0) (missing : A) : Type 0 where
      pub alone : (m : ℕ) (t : T) (g : Group) (w : W) (p p' : P) → inv m t → q ≡ m + 1 → word t g ≡ Opens (Ok (record { kind = w; start = p })) → get (takes t w p') ≡ missing
      pub joins : (m : ℕ) (t : T) (g h : Group) (w : W) (p p' : P) → inv m t → q ≡ m + 1 → word t g ≡ Opens (Ok (record { kind = w; start = p })) → route.joins w h ≡ true
          → says h (get (takes t (route.joined w) p'))

    module _ {says : Group → A → Type 0} {missing : A} (joiner : Joiner says missing) where
      abbrev Belonging : T → Origin → Type 0
      Belonging whole o = Stems (λ g. says g.bytes (get whole)) (get whole ≡ missing) o

      joined-here : (m : ℕ) (g h : Piece) (xs : List Taken) → q ≡ m
          → origin_in q spot.Joined (record { part = m; spot = spot.Opening; piece = g } ∷ record { part = m; spot = spot.Joined; piece = h } ∷ xs) ≡ group h
      unfolding origin_in
      joined-here m g h xs e = rw (eq-eqb q m e)

      -- the word that opens a part, and the groups at its places, belong to no word
      joined-past : (m : ℕ) (g : Piece) (es : List Entry) (xs : List Taken)
          → origin_in q spot.Joined (record { part = m; spot = spot.Opening; piece = g } ∷ (map (as_taken m) es ++ xs)) ≡ origin_in q spot.Joined xs
      unfolding origin_in
      joined-past m g es xs = never (eqb q m) g _ ∙ go es
        where
          never : (b : Bool) (g : Piece) (o : Origin) → cond (b && false) (group g) o ≡ o
          never true g o = refl
          never false g o = refl

          go : (es : List Entry) → origin_in q spot.Joined (map (as_taken m) es ++ xs) ≡ origin_in q spot.Joined xs
          go [] = refl
          go (e ∷ es) = never (eqb q m) e.piece _ ∙ go es

      -- THE ITEM THAT A GROUP SAYS WHICH BELONGS TO A PART'S WORD is what it says by itself, or missing where there is none.
      pub joined-stems : {end rest : ℕ} {whole : T} {m : ℕ} {t : T} {gs : List Piece} {xs : List Taken} → Ahead end rest whole m t gs xs → inv m t → m < q → get t ≡ missing
          → Belonging whole (origin_in q spot.Joined xs)
      unfolding origin_in
      joined-stems (over a b) v h blank = absent (ap get b ∙ blank)
      joined-stems (stop is a b) v h blank = absent (ap get b ∙ blank)
      joined-stems {whole = whole} {m = m} {t = t} (one {w = w} {p = p} {p' = p'} {g = g} {es = es} {xs = xs} is plain went halted after) v h blank =
          subst (Belonging whole) (sym (joined-past (m + 1) g es xs))
          (choose q (m + 1) (eqb q (m + 1)) refl
          (λ e. subst (Belonging whole) (sym (none-later after q spot.Joined (omega arith)))
          (absent (after_kept after (beside.next m t w p p' v (alone is)) (omega arith) ∙ joiner.alone m t g.bytes w p p' v e is)))
          (λ e. joined-stems after (beside.next m t w p p' v (alone is)) (omega (arith, eqb-false q (m + 1) e)) (beside.aside m t w p p' v (alone is) e ∙ blank)))
      joined-stems {whole = whole} {m = m} {t = t} (two {w = w} {p = p} {p' = p'} {g = g} {h = h'} {es = es} {xs = xs} is joins went halted after) v h blank =
          choose q (m + 1) (eqb q (m + 1)) refl
          (λ e. subst (Belonging whole) (sym (joined-here (m + 1) g h' (map (as_taken (m + 1)) es ++ xs) e))
          (from h' (subst (says h'.bytes) (sym (after_kept after (beside.next m t (route.joined w) p p' v (joined is joins)) (omega arith)))
          (joiner.joins m t g.bytes h'.bytes w p p' v e is joins))))
          (λ e. subst (Belonging whole)
          (sym (past-group q (m + 1) spot.Joined spot.Opening g (record { part = m + 1; spot = spot.Joined; piece = h' } ∷ (map (as_taken (m + 1)) es ++ xs)) e
          ∙ past-group q (m + 1) spot.Joined spot.Joined h' (map (as_taken (m + 1)) es ++ xs) e ∙ past-part q (m + 1) spot.Joined es xs e))
          (joined-stems after (beside.next m t (route.joined w) p p' v (joined is joins)) (omega (arith, eqb-false q (m + 1) e))
          (beside.aside m t (route.joined w) p p' v (joined is joins) e ∙ blank)))

    -- ---- an item at a place of part q

    -- Part q brings it in; `missing` is what it is before.
    pub record Shelf (i k : ℕ) (inner : P → A) (says : Group → A → Type 0) (fair : P → Type 0) (missing : A) : Type 0 where
      pub item : (w : W) → Item (route.row w) i k inner says fair missing
      pub starts : (t : T) (w : W) (p : P) → Begins t w p → fair p × (inner p ≡ missing)
      pub comes : (m : ℕ) (t : T) (w : W) (p p' : P) {c n : ℕ} {gs left : List Piece} {es : List Entry} → inv m t → q ≡ m + 1 → get t ≡ missing → Begins t w p
          → Went (route.row w) route.halts c n p' left 0 0 p gs es → get (takes t w p') ≡ inner p'

    module _ {i k : ℕ} {inner : P → A} {says : Group → A → Type 0} {fair : P → Type 0} {missing : A} (shelf : Shelf i k inner says fair missing) where
      abbrev Said : T → Origin → Type 0
      Said whole o = Stems (λ g. says g.bytes (get whole)) (get whole ≡ missing) o

      -- part m + 1, and what follows it
      module _ {end rest m : ℕ} {whole t : T} {w : W} {p p' : P} {c n : ℕ} {gs left : List Piece} {es : List Entry} {xs : List Taken}
          (begins : Begins t w p) (v : inv m t) (blank : get t ≡ missing) (went : Went (route.row w) route.halts c n p' left 0 0 p gs es)
          (after : Ahead end rest whole (m + 1) (takes t w p') left xs)
          (rest-said : eqb q (m + 1) ≡ false → Said whole (origin_in q (spot.At i k) xs)) where
        this-part : q ≡ m + 1 → Said whole (origin_in q (spot.At i k) (map (as_taken (m + 1)) es ++ xs))
        this-part e =
            let f = shelf.starts t w p begins in
            let now : get whole ≡ inner p' = after_kept after (beside.next m t w p p' v begins) (omega arith) ∙ shelf.comes m t w p p' v e blank begins went in
            let told : Told (λ g. says g.bytes (get whole)) (get whole ≡ missing) i k es = rw now (item-told (route.row w) route.halts (shelf.item w) went f.0 f.1) in
            rw (sym e) (told-stems q i k es xs (none-later after q (spot.At i k) (omega arith)) told)

        with_part : Said whole (origin_in q (spot.At i k) (map (as_taken (m + 1)) es ++ xs))
        with_part = choose q (m + 1) (eqb q (m + 1)) refl this-part (λ e. rw (past-part q (m + 1) (spot.At i k) es xs e) (rest-said e))

      -- THE ITEM OF A PART is what its place says of its source, or missing.
      pub part-stems : {end rest : ℕ} {whole : T} {m : ℕ} {t : T} {gs : List Piece} {xs : List Taken} → Ahead end rest whole m t gs xs → inv m t → m < q → get t ≡ missing
          → Said whole (origin_in q (spot.At i k) xs)
      unfolding origin_in
      part-stems (over a b) v h blank = absent (ap get b ∙ blank)
      part-stems (stop is a b) v h blank = absent (ap get b ∙ blank)
      part-stems {whole = whole} {m = m} {t = t} (one {w = w} {p = p} {p' = p'} {g = g} {es = es} {xs = xs} is plain went halted after) v h blank =
          subst (Said whole) (sym (skip-opening q (m + 1) i k g (map (as_taken (m + 1)) es ++ xs)))
          (with_part (alone is) v blank went after
          (λ e. part-stems after (beside.next m t w p p' v (alone is)) (omega (arith, eqb-false q (m + 1) e)) (beside.aside m t w p p' v (alone is) e ∙ blank)))
      part-stems {whole = whole} {m = m} {t = t} (two {w = w} {p = p} {p' = p'} {g = g} {h = h'} {es = es} {xs = xs} is joins went halted after) v h blank =
          subst (Said whole)
          (sym (skip-opening q (m + 1) i k g (record { part = m + 1; spot = spot.Joined; piece = h' } ∷ (map (as_taken (m + 1)) es ++ xs))
          ∙ skip-joined q (m + 1) i k h' (map (as_taken (m + 1)) es ++ xs)))
          (with_part (joined is joins) v blank went after
          (λ e. part-stems after (beside.next m t (route.joined w) p p' v (joined is joins)) (omega (arith, eqb-false q (m + 1) e))
          (beside.aside m t (route.joined w) p p' v (joined is joins) e ∙ blank)))

  after-covers : {end rest : ℕ} {whole : T} {m : ℕ} {t : T} {gs : List Piece} {xs : List Taken} → Ahead end rest whole m t gs xs → Covers end rest gs xs
  after-covers (over a b) = record { left = []; all = refl; begins = a }
  after-covers (stop {g = g} {gs = gs} is a b) = record { left = g ∷ gs; all = refl; begins = a }
  after-covers {m = m} (one {w = w} {es = es} {xs = xs} is plain went halted after) =
      cover-more _ (rw (went-pieces (route.row w) route.halts went) (entries-cover (m + 1) es _ xs (after-covers after)))
  after-covers {m = m} (two {w = w} {es = es} {xs = xs} is joins went halted after) =
      cover-more _ (cover-more _ (rw (went-pieces (route.row (route.joined w)) route.halts went) (entries-cover (m + 1) es _ xs (after-covers after))))

  -- EVERY GROUP UP TO THE UNREAD REST IS IN THE TRAIL.
  pub report-covers : {end rest : ℕ} {whole : T} {m : M} {gs : List Piece} {tail : _} (d : Read-on route word main_takes main_lacks takes lacks tail end rest whole (main_of route word main_takes main_lacks takes lacks) 0 m gs)
      → Covers end rest gs (map (as_taken 0) d.entries ++ d.follows.taken)
  report-covers d = rw (went-pieces route.main route.main_halts d.went) (entries-cover 0 d.entries d.left d.follows.taken (after-covers d.follows.after))
