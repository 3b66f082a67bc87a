-- A report of parts that comes to a record, part by part and group by group, and that its trail is the groups so taken.
-- Assumes nothing.
use Rattle.std.specs.Prelude.{Err, None, Ok, Option, Result, Some}
use Prim.Native.Nat.{ℕ, zero, suc, ◌+◌}
use native.Mathlib.Omega.{arith}
use mathlib.Core.Path.{◌≡◌, refl, ap, ◌∙◌}
use mathlib.Core.Bool.{Bool, true, false, ◌&&◌}
use mathlib.Core.List.{List, [], ◌∷◌, ◌++◌, map}
use lib.Dec.{eqb}
use borrow.Author.Tests.{ne_eqb}
use Rattle.figures.proofs.Impossible.{impossible}
use Rattle.text.specs.declared.kinds.Refusal.{Refusal}
use Rattle.text.specs.Groups.{Piece}
use Rattle.places.specs.declared.kinds.Turn.{Turn}
use Rattle.places.specs.declared.kinds.Turn.TheVariants as turn
use Rattle.places.specs.Engine.{Group, Place, place_at, onward, taken, Outcome, Done, finish}
use Rattle.places.specs.Turn.{turn_at}
use Rattle.places.specs.Parts.{carry_to, run_to, Word, Ends, Opens, Bars, Part, Parts, Further, turned, ended, unless, owes, part_exits, part_from, after_first, begins, further, report_of}
use Rattle.places.proofs.Loop.{turn_step, turn-steps}
use Rattle.sources.specs.declared.kinds.Spot.TheVariants as spot
use Rattle.sources.specs.Trail.{Mark, Move, Takes, Joins, Taken, front, after_move, trail}
use Rattle.sources.specs.Trail as walk
use Rattle.sources.specs.Route.{Route, move_on}
use Rattle.sources.proofs.Rows.{Entry, Went, done, on}

module _ {T : Type 0} where
  pub done-same : {a b : ℕ} {r s : T} → Done a r ≡ Done b s → (b ≡ a) × (s ≡ r)
  done-same e = (cc, cc)

  finished : (owing : Bool) (at rest : ℕ) (r t : T) → finish owing at r ≡ Done rest t → (rest ≡ at) × (t ≡ r)
  finished true at rest r t e = impossible (cc)
  finished false at rest r t e = done-same e

  has_ended : (tail : Option ℕ) (end rest : ℕ) (owing : Bool) (r t : T) → ended tail end owing r ≡ Done rest t → (rest ≡ end) × (t ≡ r)
  has_ended (Some at) end rest owing r t e = impossible (cc)
  has_ended None end rest owing r t e = finished owing end rest r t e

  pub lacked-none : (owing : Bool) (at rest : ℕ) (o : Outcome T) (t : T) → unless owing at o ≡ Done rest t → o ≡ Done rest t
  lacked-none true at rest o t e = impossible (cc)
  lacked-none false at rest o t e = e

-- ---- one part

module _ {T P W R : Type 0} (tail : Option ℕ) (end : ℕ) (part : Part T P W R) (more : Further T P W) (rest : ℕ) (t : T) where
  -- where a part ends: the groups are over, or a word follows
  pub data Ending (c k : ℕ) (r : R) : List Piece → Type 0 where
    groups-over : rest ≡ end → t ≡ part.takes r → Ending c k r []
    word-met : {g : Piece} {gs : List Piece} → turn_at part.row part.halts c k g.bytes ≡ turn.Halt
        → turned more (part.takes r) g gs (part.word (part.takes r) g.bytes) ≡ Done rest t → Ending c k r (g ∷ gs)

  pub record PartDone (c k : ℕ) (r : R) (gs : List Piece) : Type 0 where
    pub place : ℕ
    pub count : ℕ
    pub record' : R
    pub left : List Piece
    pub entries : List Entry
    pub went : Went part.row part.halts place count record' left c k r gs entries
    pub ending : Ending place count record' left

  pub part-done : (gs : List Piece) (c k : ℕ) (r : R) → part_from tail end part more c k r gs ≡ Done rest t → PartDone c k r gs
  unfolding run_to
  part-done [] c k r e =
      let (a, b) = has_ended tail end rest (owes part c k r) (part.takes r) t e in
      record { place = c; count = k; record' = r; left = []; entries = []; went = done; ending = groups-over a b }
  part-done (g ∷ gs) c k r e =
      go (turn_at part.row part.halts c k g.bytes) refl (λ c' k' r'. part-done gs c' k' r')
      (rw (turn-steps part.row part.halts c k g.bytes r) at e)
    where
      took : (i n : ℕ) → turn_at part.row part.halts c k g.bytes ≡ turn.At i n
          → ((c' k' : ℕ) (r' : R) → part_from tail end part more c' k' r' gs ≡ Done rest t → PartDone c' k' r' gs)
          → (x : Result R Refusal) → (place_at part.row i).read n g.bytes r ≡ x
          → carry_to (taken (onward part.row i) (n + 1) x) (part_exits tail end part more) c k r g gs (λ c' k' r'. part_from tail end part more c' k' r' gs) ≡ Done rest t
          → PartDone c k r (g ∷ gs)
      took i n is again (Ok r') reads e =
          let d = again (onward part.row i) (n + 1) r' e in
          record { place = d.place; count = d.count; record' = d.record'; left = d.left; entries = _; went = on is reads d.went; ending = d.ending }
      took i n is again (Err f) reads e = impossible (cc)

      go : (u : Turn) → turn_at part.row part.halts c k g.bytes ≡ u
          → ((c' k' : ℕ) (r' : R) → part_from tail end part more c' k' r' gs ≡ Done rest t → PartDone c' k' r' gs)
          → carry_to (turn_step part.row r g.bytes u) (part_exits tail end part more) c k r g gs (λ c' k' r'. part_from tail end part more c' k' r' gs) ≡ Done rest t
          → PartDone c k r (g ∷ gs)
      go (turn.At i n) is again e = took i n is again ((place_at part.row i).read n g.bytes r) refl e
      go turn.Halt is again e =
          record {
            place = c;
            count = k;
            record' = r;
            left = g ∷ gs;
            entries = [];
            went = done;
            ending = word-met is (lacked-none (owes part c k r) g.start rest _ t e);
          }
      go (turn.Refused f) is again e = impossible (cc)

-- ---- a report, by its route: what a word comes to, how the report takes a part in, and what a part lacks

abbrev pub as_taken : ℕ → Entry → Taken
as_taken m e = record { part = m; spot = spot.At e.place e.count; piece = e.piece }

module _ {T M P W : Type 0} (route : Route M P W) (word : T → Group → Word W P) (main_takes : M → T) (main_lacks : M → Bool) (takes : T → W → P → T)
    (lacks : T → W → P → Bool) where
  abbrev pub main_of : Part T P W M
  main_of = record { row = route.main; halts = route.main_halts; lacks = main_lacks; takes = main_takes; word = word }

  abbrev pub parts_of : Parts T P W
  parts_of =
      record {
        part = λ t w. record { row = route.row w; halts = route.halts; lacks = lacks t w; takes = takes t w; word = word };
        joins = route.joins;
        joined = route.joined;
      }

  abbrev pub Opened : T → Piece → W → P → Type 0
  Opened t g w p = word t g.bytes ≡ Opens (Ok (record { kind = w; start = p }))

  -- the group that comes first does not belong to the word before it
  abbrev pub Plain : W → ℕ → ℕ → List Piece → Type 0
  Plain w c k [] = Unit {0}
  Plain w c k (g ∷ gs) = ((eqb c 0 && eqb k 0) && route.joins w g.bytes) ≡ false

  -- the first of the groups left, if any, halts the row
  abbrev pub Halted : {R : Type 0} → List (Place R) → (Group → Bool) → ℕ → ℕ → List Piece → Type 0
  Halted row halts c k [] = Unit {0}
  Halted row halts c k (g ∷ gs) = turn_at row halts c k g.bytes ≡ turn.Halt

  -- FROM THE END OF PART m ON, the report t being read so far: the parts that follow, each from its word on, up to the unread rest and the whole report.
  pub data After (end rest : ℕ) (whole : T) : ℕ → T → List Piece → List Taken → Type 0 where
    over : {m : ℕ} {t : T} → rest ≡ end → whole ≡ t → After end rest whole m t [] []
    stop : {m : ℕ} {t : T} {g : Piece} {gs : List Piece} → word t g.bytes ≡ Ends → rest ≡ g.start → whole ≡ t → After end rest whole m t (g ∷ gs) []
    one : {m c k : ℕ} {t : T} {w : W} {p p' : P} {g : Piece} {gs left : List Piece} {es : List Entry} {xs : List Taken} → Opened t g w p → Plain w 0 0 gs
        → Went (route.row w) route.halts c k p' left 0 0 p gs es → Halted (route.row w) route.halts c k left
        → After end rest whole (m + 1) (takes t w p') left xs
        → After end rest whole m t (g ∷ gs) (record { part = m + 1; spot = spot.Opening; piece = g } ∷ (map (as_taken (m + 1)) es ++ xs))
    two : {m c k : ℕ} {t : T} {w : W} {p p' : P} {g h : Piece} {gs left : List Piece} {es : List Entry} {xs : List Taken} → Opened t g w p
        → route.joins w h.bytes ≡ true
        → Went (route.row (route.joined w)) route.halts c k p' left 0 0 p gs es → Halted (route.row (route.joined w)) route.halts c k left
        → After end rest whole (m + 1) (takes t (route.joined w) p') left xs
        → After end rest whole m t (g ∷ h ∷ gs)
        (record { part = m + 1; spot = spot.Opening; piece = g } ∷ record { part = m + 1; spot = spot.Joined; piece = h } ∷ (map (as_taken (m + 1)) es ++ xs))

  -- ---- what the machine comes to

  module _ (tail : Option ℕ) (end rest : ℕ) (whole : T) where
    abbrev more : ℕ → Further T P W
    more n = further tail end parts_of n

    pub record Follows (m : ℕ) (t : T) (gs : List Piece) : Type 0 where
      pub taken : List Taken
      pub after : After end rest whole m t gs taken

    -- a part that is read, and what follows it
    pub record Read-on {R : Type 0} (part : Part T P W R) (m : ℕ) (r : R) (gs : List Piece) : Type 0 where
      pub place : ℕ
      pub count : ℕ
      pub r₁ : R
      pub left : List Piece
      pub entries : List Entry
      pub went : Went part.row part.halts place count r₁ left 0 0 r gs entries
      pub halted : Halted part.row part.halts place count left
      pub follows : Follows m (part.takes r₁) left

    abbrev Further-done : ℕ → Type 0
    Further-done n = (m : ℕ) (t : T) (g : Piece) (gs : List Piece) → turned (more n) t g gs (word t g.bytes) ≡ Done rest whole → Follows m t (g ∷ gs)

    read-on : {R : Type 0} (part : Part T P W R) → part.word ≡ word → (n m : ℕ) → Further-done n → (r : R) (gs : List Piece)
        → part_from tail end part (more n) 0 0 r gs ≡ Done rest whole → Read-on part m r gs
    read-on part same n m next r gs e = let d = part-done tail end part (more n) rest whole gs 0 0 r e in go d d.left refl d.ending
      where
        go : (d : PartDone tail end part (more n) rest whole 0 0 r gs) (left : List Piece) → left ≡ d.left
            → Ending tail end part (more n) rest whole d.place d.count d.record' left → Read-on part m r gs
        go d [] is (groups-over a b) =
            record {
              place = d.place;
              count = d.count;
              r₁ = d.record';
              left = [];
              entries = d.entries;
              went = rw is d.went;
              halted = tt;
              follows = record { taken = []; after = over a b };
            }
        go d (g ∷ hs) is (word-met h e) =
            record {
              place = d.place;
              count = d.count;
              r₁ = d.record';
              left = g ∷ hs;
              entries = d.entries;
              went = rw is d.went;
              halted = h;
              follows = next m (part.takes d.record') g hs (rw same at e);
            }

    -- the part that a word opens, with the word
    open-one : (n m : ℕ) → Further-done n → (t : T) (g : Piece) (w : W) (p : P) (gs : List Piece) → Opened t g w p → Plain w 0 0 gs
        → part_from tail end (parts_of.part t w) (more n) 0 0 p gs ≡ Done rest whole → Follows m t (g ∷ gs)
    open-one n m next t g w p gs is plain e =
        let d = read-on (parts_of.part t w) refl n (m + 1) next p gs e in
        record { taken = _; after = one is plain d.went d.halted d.follows.after }

    open-two : (n m : ℕ) → Further-done n → (t : T) (g h : Piece) (w : W) (p : P) (gs : List Piece) → Opened t g w p → route.joins w h.bytes ≡ true
        → part_from tail end (parts_of.part t (route.joined w)) (more n) 0 0 p gs ≡ Done rest whole → Follows m t (g ∷ h ∷ gs)
    open-two n m next t g h w p gs is joins e =
        let d = read-on (parts_of.part t (route.joined w)) refl n (m + 1) next p gs e in
        record { taken = _; after = two is joins d.went d.halted d.follows.after }

    first-joins : (n m : ℕ) → Further-done n → (t : T) (g h : Piece) (w : W) (p : P) (gs : List Piece) → Opened t g w p → (b : Bool) → route.joins w h.bytes ≡ b
        → after_first tail end parts_of b (more n) t w p h gs ≡ Done rest whole → Follows m t (g ∷ h ∷ gs)
    first-joins n m next t g h w p gs is true j e = open-two n m next t g h w p gs is j e
    first-joins n m next t g h w p gs is false j e = open-one n m next t g w p (h ∷ gs) is j e

    begun-done : (n m : ℕ) → Further-done n → (t : T) (g : Piece) (w : W) (p : P) (gs : List Piece) → Opened t g w p
        → begins tail end parts_of (more n) t w p gs ≡ Done rest whole → Follows m t (g ∷ gs)
    begun-done n m next t g w p [] is e = open-one n m next t g w p [] is tt e
    begun-done n m next t g w p (h ∷ gs) is e = first-joins n m next t g h w p gs is (route.joins w h.bytes) refl e

    further-done : (n : ℕ) → Further-done n
    unfolding further
    further-done zero m t g gs e = go (word t g.bytes) refl e
      where
        go : (x : Word W P) → word t g.bytes ≡ x → turned (more zero) t g gs x ≡ Done rest whole → Follows m t (g ∷ gs)
        go Ends is e = let (a, b) = done-same e in record { taken = []; after = stop is a b }
        go (Opens x) is e = impossible (cc)
        go (Bars f) is e = impossible (cc)
    further-done (suc n) m t g gs e = go (word t g.bytes) refl (further-done n) e
      where
        go : (x : Word W P) → word t g.bytes ≡ x → Further-done n → turned (more (suc n)) t g gs x ≡ Done rest whole → Follows m t (g ∷ gs)
        go Ends is next e = let (a, b) = done-same e in record { taken = []; after = stop is a b }
        go (Opens (Ok b)) is next e = begun-done n m next t g b.kind b.start gs is e
        go (Opens (Err f)) is next e = impossible (cc)
        go (Bars f) is next e = impossible (cc)

    -- THE REPORT: its main part, and what follows it.
    pub report-done : (n : ℕ) (m : M) (gs : List Piece) → report_of tail end parts_of n main_of m gs ≡ Done rest whole → Read-on main_of 0 m gs
    unfolding report_of
    report-done n m gs e = read-on main_of refl n 0 (further-done n) m gs e

  -- ---- and that its trail is the groups so taken

  module _ (ends : (t : T) (g : Group) → word t g ≡ Ends → route.opens g ≡ walk.Ends)
      (opens : (t : T) (g : Group) (w : W) (p : P) → word t g ≡ Opens (Ok (record { kind = w; start = p })) → route.opens g ≡ walk.Opens w)
      (once : (w : W) (g : Group) → route.joins (route.joined w) g ≡ false) where
    abbrev walked : Mark W → List Piece → List Taken
    walked m gs = trail (move_on route) m gs

    abbrev mark : ℕ → W → ℕ → ℕ → Mark W
    mark m w c k = record { part = m; word = w; place = c; count = k }

    not_first : (m : ℕ) → eqb (m + 1) 0 ≡ false
    not_first m = ne_eqb (m + 1) 0 (omega arith)

    -- one group
    main-takes : (w : W) (c k i n : ℕ) (g : Group) → turn_at route.main route.main_halts c k g ≡ turn.At i n
        → move_on route (mark 0 w c k) g ≡ Takes i n (onward route.main i)
    unfolding move_on
    main-takes w c k i n g e = rw e

    main-word : (w : W) (c k : ℕ) (g : Group) → turn_at route.main route.main_halts c k g ≡ turn.Halt → move_on route (mark 0 w c k) g ≡ route.opens g
    unfolding move_on
    main-word w c k g e = rw e

    part-takes : (m : ℕ) (w : W) (c k i n : ℕ) (g : Group) → ((eqb c 0 && eqb k 0) && route.joins w g) ≡ false
        → turn_at (route.row w) route.halts c k g ≡ turn.At i n → move_on route (mark (m + 1) w c k) g ≡ Takes i n (onward (route.row w) i)
    unfolding move_on
    part-takes m w c k i n g plain e = rw (not_first m, plain, e)

    part-word : (m : ℕ) (w : W) (c k : ℕ) (g : Group) → ((eqb c 0 && eqb k 0) && route.joins w g) ≡ false
        → turn_at (route.row w) route.halts c k g ≡ turn.Halt → move_on route (mark (m + 1) w c k) g ≡ route.opens g
    unfolding move_on
    part-word m w c k g plain e = rw (not_first m, plain, e)

    part-joins : (m : ℕ) (w : W) (g : Group) → route.joins w g ≡ true → move_on route (mark (m + 1) w 0 0) g ≡ Joins (route.joined w)
    unfolding move_on
    part-joins m w g e = rw (not_first m, e)

    not-front : (b : Bool) (c n : ℕ) → ((eqb c 0 && eqb (n + 1) 0) && b) ≡ false
    not-front b c n = rw (not_first n) (go (eqb c 0))
      where
        go : (x : Bool) → ((x && false) && b) ≡ false
        go true = refl
        go false = refl

    -- the groups of a part, and then those left
    main-walked : (w : W) {c₁ k₁ : ℕ} {r₁ : M} {left : List Piece} {c k : ℕ} {r : M} {gs : List Piece} {es : List Entry} → Went route.main route.main_halts c₁ k₁ r₁ left c k r gs es
        → walked (mark 0 w c k) gs ≡ map (as_taken 0) es ++ walked (mark 0 w c₁ k₁) left
    unfolding trail
    main-walked w done = refl
    main-walked w {c} {k} (on {i = i} {n = n} {g = g} t e v) = rw (main-takes w c k i n g.bytes t, main-walked w v)

    plain-after : (w : W) (c n : ℕ) (gs : List Piece) → Plain w c (n + 1) gs
    plain-after w c n [] = tt
    plain-after w c n (g ∷ gs) = not-front (route.joins w g.bytes) c n

    part-walked : (m : ℕ) (w : W) {c₁ k₁ : ℕ} {r₁ : P} {left : List Piece} {c k : ℕ} {r : P} {gs : List Piece} {es : List Entry}
        → Went (route.row w) route.halts c₁ k₁ r₁ left c k r gs es → Plain w c k gs
        → (walked (mark (m + 1) w c k) gs ≡ map (as_taken (m + 1)) es ++ walked (mark (m + 1) w c₁ k₁) left) × Plain w c₁ k₁ left
    unfolding trail
    part-walked m w done plain = (refl, plain)
    part-walked m w {c} {k} (on {i = i} {n = n} {g = g} {gs = gs} t e v) plain =
        let (q, p) = part-walked m w v (plain-after w (onward (route.row w) i) n gs) in
        (rw (part-takes m w c k i n g.bytes plain t, q), p)

    -- what follows the end of part m, from a mark at which the first group left is a word
    abbrev AtWord : Mark W → List Piece → Type 0
    AtWord x [] = Unit {0}
    AtWord x (g ∷ gs) = move_on route x g.bytes ≡ route.opens g.bytes

    part-at-word : (m : ℕ) (w : W) (c k : ℕ) (gs : List Piece) → Plain w c k gs → Halted (route.row w) route.halts c k gs → AtWord (mark (m + 1) w c k) gs
    part-at-word m w c k [] plain h = tt
    part-at-word m w c k (g ∷ gs) plain h = part-word m w c k g.bytes plain h

    main-at-word : (w : W) (c k : ℕ) (gs : List Piece) → Halted route.main route.main_halts c k gs → AtWord (mark 0 w c k) gs
    main-at-word w c k [] h = tt
    main-at-word w c k (g ∷ gs) h = main-word w c k g.bytes h

    plain-once : (w : W) (gs : List Piece) → Plain (route.joined w) 0 0 gs
    plain-once w [] = tt
    plain-once w (g ∷ gs) = once w g.bytes

    after-walked : {end rest : ℕ} {whole : T} {m : ℕ} {t : T} {gs : List Piece} {xs : List Taken} → After end rest whole m t gs xs → (w : W) (c k : ℕ) → AtWord (mark m w c k) gs
        → walked (mark m w c k) gs ≡ xs
    unfolding trail
    after-walked (over a b) w c k at = refl
    after-walked {t = t} (stop {g = g} is a b) w c k at = rw (at, ends t g.bytes is)
    after-walked {m = m} {t = t} (one {c = d} {k = n} {w = v} {p = p} {g = g} {left = left} is plain went halted after) w c k at =
        let (q, plain') = part-walked m v went plain in
        rw (at, opens t g.bytes v p is, q, after-walked after v d n (part-at-word m v d n left plain' halted))
    after-walked {m = m} {t = t} (two {c = d} {k = n} {w = v} {p = p} {g = g} {h = h} {gs = gs} {left = left} is joins went halted after) w c k at =
        let (q, plain') = part-walked m (route.joined v) went (plain-once v gs) in
        rw (at, opens t g.bytes v p is, part-joins m v h.bytes joins, q, after-walked after (route.joined v) d n (part-at-word m (route.joined v) d n left plain' halted))

    -- THE TRAIL OF A REPORT IS THE GROUPS THAT ITS READING TOOK: those of the main part, then those of each part from its word on.
    pub report-walked : {tail : Option ℕ} {end rest : ℕ} {whole : T} {m : M} {gs : List Piece} (d : Read-on tail end rest whole main_of 0 m gs) (w : W)
        → walked (front 0 w) gs ≡ map (as_taken 0) d.entries ++ d.follows.taken
    report-walked d w =
        main-walked w d.went
        ∙ ap (λ (xs : List Taken). map (as_taken 0) d.entries ++ xs)
        (after-walked d.follows.after w d.place d.count (main-at-word w d.place d.count d.left d.halted))
