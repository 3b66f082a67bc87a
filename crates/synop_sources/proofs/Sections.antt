-- SECTIONS 1 AND 3 OF A TEXT WHOSE GROUPS COME TO A RECORD, group by group; and that the walk takes each group where the reader did, whatever iR, ix and ff require.
-- Assumes nothing.
use Rattle.std.specs.Prelude.{Ok, Option}
use Prim.Native.Nat.{ℕ, zero, suc, ◌+◌, ◌<◌}
use native.Mathlib.Omega.{arith}
use mathlib.Core.Path.{◌≡◌, refl, ap, ◌∙◌}
use mathlib.Core.Bool.{Bool, true, false, ◌&&◌, ◌||◌, cond}
use mathlib.Core.List.{List, [], ◌∷◌, ◌++◌, map}
use lib.ListN.{drop}
use lib.Dec.{eqb, leb, ltb}
use borrow.Author.Tests.{ne_eqb, lt-leb}
use Rattle.figures.proofs.Impossible.{impossible}
use Rattle.text.specs.declared.kinds.Refusal.TheVariants as refusal
use Rattle.text.specs.Groups.{Piece}
use Rattle.shapes.specs.Pattern.{has_pattern, has_any}
use Rattle.places.specs.declared.kinds.Found.{Found}
use Rattle.places.specs.declared.kinds.Found.TheVariants.{Take, Skips, Full, Earlier, Unknown}
use Rattle.places.specs.declared.kinds.Turn.{Turn}
use Rattle.places.specs.declared.kinds.Turn.TheVariants as turn
use Rattle.places.specs.Seek.{Stand, seek, anywhere, or_earlier, find_of}
use Rattle.places.specs.Engine.{Group, Place, stands_of, Done}
use Rattle.places.specs.Turn.{turn_by, turn_at}
use Rattle.places.specs.Parts.{Ends, Opens, Further, turned, part_from, begins, further, report_of}
use Rattle.record.specs.declared.surface.Surface.{Surface}
use Rattle.record.specs.declared.surface.Section3.{Section3}
use Rattle.record.specs.declared.surface.Synop.{Synop}
use Rattle.record.specs.Blank.{blank_section3}
use Rattle.record.specs.Set.{set_surface, set_section3}
use Rattle.synop_row.specs.declared.kinds.Needs.{Needs}
use Rattle.synop_row.specs.Row.{needs_of, row, stop_words, section3_word}
use Rattle.synop_row.proofs.Tests.{row-length}
use Rattle.section3.specs.Row as third
use Rattle.section3.specs.Step.{Opened}
use Rattle.section3.proofs.Turns as thirds
use Rattle.synop_section.specs.Answer.{first_part, third_part, parts, section}
use Rattle.synop_section.proofs.SectionSteps as first
use Rattle.sources.specs.declared.kinds.Spot.TheVariants as spot
use Rattle.sources.specs.Trail.{Opens as Begins, Ends as Over, Taken, after_move, trail}
use Rattle.sources.proofs.Rows.{Entry, Went, done, on, went-pieces, turn-within, at-found}
use Rattle.sources.proofs.Parts.{as_taken, done-same, PartDone, Ending, groups-over, word-met, part-done}
use Rattle.sources.proofs.Items.{RestAt, Covers, entries-cover, cover-more}
use Rattle.sources.proofs.Own.{Distinct, Later, went-distinct, distinct_append, later-append, entries-later, beside}
use Rattle.synop_sources.specs.Trail.{wind_place, free, mark_at, move_by, move}

-- ---- the sections

-- the first of the groups left, if any, halts the row
abbrev pub Halts : {R : Type 0} → List (Place R) → (Group → Bool) → ℕ → ℕ → List Piece → Type 0
Halts row halts c k [] = Unit {0}
Halts row halts c k (g ∷ gs) = turn_at row halts c k g.bytes ≡ turn.Halt

-- each group was taken at a place of section 1
abbrev pub EachLow : List Entry → Type 0
EachLow [] = Unit {0}
EachLow (e ∷ es) = (e.place < 10) × EachLow es

-- WHAT FOLLOWS SECTION 1: the groups are over, the unread rest begins, or 333 stands there and section 3 follows, up to the unread rest.
pub data Third (end rest : ℕ) : Section3 → List Piece → List Taken → Type 0 where
  over : rest ≡ end → Third end rest blank_section3 [] []
  stop : {g : Piece} {gs : List Piece} → has_pattern g.bytes section3_word ≡ false → rest ≡ g.start → Third end rest blank_section3 (g ∷ gs) []
  opened : {c k : ℕ} {s : Section3} {g : Piece} {gs left : List Piece} {es : List Entry} → has_pattern g.bytes section3_word ≡ true
      → Went third.row third.halts c k s left 0 0 blank_section3 gs es → Halts third.row third.halts c k left → RestAt end rest left
      → Third end rest s (g ∷ gs) (record { part = 1; spot = spot.Opening; piece = g } ∷ (map (as_taken 1) es ++ []))

-- FROM BEHIND NDDFF ON, the report r being read so far.
pub record Sections (end rest : ℕ) (r whole : Synop) (gs : List Piece) : Type 0 where
  pub place : ℕ
  pub count : ℕ
  pub s₁ : Surface
  pub s₃ : Section3
  pub left : List Piece
  pub entries : List Entry
  pub went : Went (row (needs_of r.surface)) (has_any stop_words) place count s₁ left 0 0 r.surface gs entries
  pub halted : Halts (row (needs_of r.surface)) (has_any stop_words) place count left
  pub taken : List Taken
  pub third : Third end rest s₃ left taken
  pub is : whole ≡ record { ship = r.ship; site = r.site; surface = s₁; section3 = s₃ }

module _ (tail : Option ℕ) (end rest : ℕ) (whole : Synop) where
  abbrev more : ℕ → Further Synop Section3 Opened
  more n = further tail end parts n

  -- section 3 from behind 333 on
  record ThirdRead (t : Synop) (gs : List Piece) : Type 0 where
    place : ℕ
    count : ℕ
    s : Section3
    left : List Piece
    entries : List Entry
    went : Went third.row third.halts place count s left 0 0 blank_section3 gs entries
    halted : Halts third.row third.halts place count left
    begins : RestAt end rest left
    is : whole ≡ set_section3 s t

  third-read : (t : Synop) (gs : List Piece) → part_from tail end (third_part t) (more 0) 0 0 blank_section3 gs ≡ Done rest whole → ThirdRead t gs
  third-read t gs e = let d = part-done tail end (third_part t) (more 0) rest whole gs 0 0 blank_section3 e in go d d.left refl d.ending
    where
      go : (d : PartDone tail end (third_part t) (more 0) rest whole 0 0 blank_section3 gs) (left : List Piece) → left ≡ d.left
          → Ending tail end (third_part t) (more 0) rest whole d.place d.count d.record' left → ThirdRead t gs
      go d [] is (groups-over a b) =
          record { place = d.place; count = d.count; s = d.record'; left = []; entries = d.entries; went = rw is d.went; halted = tt; begins = a; is = b }
      go d (g ∷ hs) is (word-met h e) =
          let (a, b) = done-same e in
          record { place = d.place; count = d.count; s = d.record'; left = g ∷ hs; entries = d.entries; went = rw is d.went; halted = h; begins = a; is = b }

  word_read : (t : Synop) (g : Piece) (gs : List Piece) → has_pattern g.bytes section3_word ≡ true
      → turned (more 1) t g gs (Opens (Ok (record { kind = tt; start = blank_section3 }))) ≡ Done rest whole → ThirdRead t gs
  unfolding further
  word_read t g [] is e = third-read t [] e
  word_read t g (h ∷ gs) is e = third-read t (h ∷ gs) e

  -- THE SECTIONS, of a report with nothing of section 3 yet.
  pub sections-read : (r : Synop) (gs : List Piece) → r.section3 ≡ blank_section3 → section r tail end gs ≡ Done rest whole → Sections end rest r whole gs
  unfolding section report_of
  sections-read r gs none e =
      let d = part-done tail end (first_part (needs_of r.surface) (λ s. set_surface s r)) (more 1) rest whole gs 0 0 r.surface e in
      go d d.left refl d.ending
    where
      go : (d : PartDone tail end (first_part (needs_of r.surface) (λ s. set_surface s r)) (more 1) rest whole 0 0 r.surface gs) (left : List Piece) → left ≡ d.left
          → Ending tail end (first_part (needs_of r.surface) (λ s. set_surface s r)) (more 1) rest whole d.place d.count d.record' left → Sections end rest r whole gs
      go d [] is (groups-over a b) =
          record {
            place = d.place;
            count = d.count;
            s₁ = d.record';
            s₃ = blank_section3;
            left = [];
            entries = d.entries;
            went = rw is d.went;
            halted = tt;
            taken = [];
            third = over a;
            is = rw (← none) b;
          }
      go d (g ∷ hs) is (word-met h e) = word (has_pattern g.bytes section3_word) refl e
        where
          word : (b : Bool) → has_pattern g.bytes section3_word ≡ b
              → turned (more 1) (set_surface d.record' r) g hs (cond b (Opens (Ok (record { kind = tt; start = blank_section3 }))) Ends) ≡ Done rest whole → Sections end rest r whole gs
          word true w e =
              let x = word_read (set_surface d.record' r) g hs w e in
              record {
                place = d.place;
                count = d.count;
                s₁ = d.record';
                s₃ = x.s;
                left = g ∷ hs;
                entries = d.entries;
                went = rw is d.went;
                halted = h;
                taken = _;
                third = opened w x.went x.halted x.begins;
                is = x.is;
              }
          word false w e =
              let (a, b) = done-same e in
              record {
                place = d.place;
                count = d.count;
                s₁ = d.record';
                s₃ = blank_section3;
                left = g ∷ hs;
                entries = d.entries;
                went = rw is d.went;
                halted = h;
                taken = [];
                third = stop w a;
                is = rw (← none) b;
              }

-- ---- where a group of section 1 is taken, whatever is required

abbrev freed : Stand → Stand
freed p = record { has = p.has; most = p.most; must = false }

seek-free : (ps : List Stand) (c k : ℕ) (late : Bool) (i n : ℕ) → seek c k late ps ≡ Take i n → seek c k false (map freed ps) ≡ Take i n
unfolding seek
seek-free [] c k late i n e = impossible (cc)
seek-free (p ∷ ps) c k late i n e = go (p.has && ltb k p.most) (p.has && ltb 1 p.most) late (seek-free ps (c + 1) 0 (late || (p.must && eqb k 0)) i n) e
  where
    go : (fits full l : Bool) → (seek (c + 1) 0 (late || (p.must && eqb k 0)) ps ≡ Take i n → seek (c + 1) 0 false (map freed ps) ≡ Take i n)
        → cond fits (cond l Skips (Take c k)) (cond full Full (seek (c + 1) 0 (late || (p.must && eqb k 0)) ps)) ≡ Take i n
        → cond fits (Take c k) (cond full Full (seek (c + 1) 0 false (map freed ps))) ≡ Take i n
    go true full true more e = impossible (cc)
    go true full false more e = e
    go false true l more e = impossible (cc)
    go false false l more e = more e

drop-freed : (c : ℕ) (ps : List Stand) → drop c (map freed ps) ≡ map freed (drop c ps)
drop-freed zero ps = refl
drop-freed (suc c) [] = refl
drop-freed (suc c) (p ∷ ps) = drop-freed c ps

find-free : (ps : List Stand) (c k i n : ℕ) → find_of ps c k ≡ Take i n → find_of (map freed ps) c k ≡ Take i n
unfolding find_of
find-free ps c k i n e = rw (drop-freed c ps, seek-free (drop c ps) c k false i n (sought (anywhere ps) (seek c k false (drop c ps)) e))
  where
    sought : (b : Bool) (f : Found) → or_earlier b f ≡ Take i n → f ≡ Take i n
    sought b (Take j m) e = e
    sought b Skips e = impossible (cc)
    sought b Full e = impossible (cc)
    sought b Earlier e = impossible (cc)
    sought true Unknown e = impossible (cc)
    sought false Unknown e = impossible (cc)

module _ (n : Needs) (c k : ℕ) (g : Group) where
  stands-free : stands_of (row free) g ≡ map freed (stands_of (row n) g)
  unfolding row
  stands-free = refl

  take-free : (i j : ℕ) → turn_at (row n) (has_any stop_words) c k g ≡ turn.At i j → turn_at (row free) (has_any stop_words) c k g ≡ turn.At i j
  unfolding turn_at
  take-free i j e =
      let found = find-free (stands_of (row n) g) c k i j (at-found (row n) (has_any stop_words) c k g i j e) in
      rw (row-length free, stands-free, found) (go (leb 10 c) (has_any stop_words g) (rw (row-length n) at e))
    where
      go : (past halt : Bool) → cond past (turn.Refused refusal.Shape) (cond halt turn.Halt (turn_by (find_of (stands_of (row n) g) c k))) ≡ turn.At i j
          → cond past (turn.Refused refusal.Shape) (cond halt turn.Halt (turn.At i j)) ≡ turn.At i j
      go true halt e = impossible (cc)
      go false true e = impossible (cc)
      go false false e = refl

  halt-free : turn_at (row n) (has_any stop_words) c k g ≡ turn.Halt → turn_at (row free) (has_any stop_words) c k g ≡ turn.Halt
  unfolding turn_at
  halt-free e = rw (row-length free) (go (leb 10 c) (has_any stop_words g) (find_of (stands_of (row n) g) c k) (rw (row-length n) at e))
    where
      go : (past halt : Bool) (f : Found) → cond past (turn.Refused refusal.Shape) (cond halt turn.Halt (turn_by f)) ≡ turn.Halt
          → cond past (turn.Refused refusal.Shape) (cond halt turn.Halt (turn_by (find_of (stands_of (row free) g) c k))) ≡ turn.Halt
      go true halt f e = impossible (cc)
      go false true f e = refl
      go false false (Take i j) e = impossible (cc)
      go false false Skips e = impossible (cc)
      go false false Full e = impossible (cc)
      go false false Earlier e = impossible (cc)
      go false false Unknown e = impossible (cc)

-- ---- the walk over section 1 takes what the reader took

module _ (ship : Bool) where
  abbrev walked : ℕ → ℕ → ℕ → List Piece → List Taken
  walked part c k gs = trail (move ship) (mark_at part c k) gs

  first-move : (c k : ℕ) (g : Group) (u : Turn) → c < 10 → turn_at (row free) (has_any stop_words) c k g ≡ u → move ship (mark_at 0 c k) g ≡ move_by 0 g u
  unfolding move
  first-move c k g u h e = rw (lt-leb 10 c h, ne_eqb c wind_place (omega arith), e)

  -- section 1 begins behind Nddff
  from-wind : (gs : List Piece) → walked 0 wind_place 1 gs ≡ walked 0 0 0 gs
  unfolding trail move
  from-wind [] = refl
  from-wind (g ∷ gs) = go (turn_at (row free) (has_any stop_words) 0 0 g.bytes)
    where
      word : (b : Bool) → after_move (mark_at 0 wind_place 1) g (λ m. trail (move ship) m gs) (cond b (Begins tt) Over) ≡ after_move (mark_at 0 0 0) g (λ m. trail (move ship) m gs) (cond b (Begins tt) Over)
      word true = refl
      word false = refl

      go : (u : Turn) → after_move (mark_at 0 wind_place 1) g (λ m. trail (move ship) m gs) (move_by 0 g.bytes u) ≡ after_move (mark_at 0 0 0) g (λ m. trail (move ship) m gs) (move_by 0 g.bytes u)
      go (turn.At i n) = refl
      go turn.Halt = word (has_pattern g.bytes section3_word)
      go (turn.Refused f) = refl

  module _ (n : Needs) where
    first-walked : {c₁ k₁ : ℕ} {s₁ : Surface} {left : List Piece} {c k : ℕ} {s : Surface} {gs : List Piece} {es : List Entry} → Went (row n) (has_any stop_words) c₁ k₁ s₁ left c k s gs es → c < 10
        → (walked 0 c k gs ≡ map (as_taken 0) es ++ walked 0 c₁ k₁ left) × (c₁ < 10)
    unfolding trail
    first-walked done h = (refl, h)
    first-walked {c = c} {k = k} (on {i = i} {n = m} {g = g} {gs = gs} t e w) h =
        let low : i < 10 = rw (row-length n) at (turn-within (row n) (has_any stop_words) c k g.bytes i m t).0 in
        let same = first.row-endless n i in
        let (q, last) = first-walked w (rw (← same) low) in
        (rw (first-move c k g.bytes (turn.At i m) h (take-free n c k g.bytes i m t)) (ap (λ (l : List Taken). as_taken 0 (record { place = i; count = m; piece = g }) ∷ l) (ap (λ (x : ℕ). walked 0 x (m + 1) gs) same ∙ q)), last)

  third-move : (c k : ℕ) (g : Group) (u : Turn) → turn_at third.row third.halts c k g ≡ u → move ship (mark_at 1 c k) g ≡ move_by 1 g u
  unfolding move
  third-move c k g u e = rw e

  third-walked : {c₁ k₁ : ℕ} {s₁ : Section3} {left : List Piece} {c k : ℕ} {s : Section3} {gs : List Piece} {es : List Entry} → Went third.row third.halts c₁ k₁ s₁ left c k s gs es
      → walked 1 c k gs ≡ map (as_taken 1) es ++ walked 1 c₁ k₁ left
  unfolding trail
  third-walked done = refl
  third-walked {c = c} {k = k} (on {i = i} {n = m} {g = g} {gs = gs} t e w) =
      rw (third-move c k g.bytes (turn.At i m) t)
      (ap (λ (l : List Taken). as_taken 1 (record { place = i; count = m; piece = g }) ∷ l) (ap (λ (x : ℕ). walked 1 x (m + 1) gs) (thirds.row-endless i) ∙ third-walked w))

  -- a group that halts section 3 ends the walk
  third-ends : (c k : ℕ) (gs : List Piece) → Halts third.row third.halts c k gs → walked 1 c k gs ≡ []
  unfolding trail
  third-ends c k [] h = refl
  third-ends c k (g ∷ gs) h = rw (third-move c k g.bytes turn.Halt h)

  after-walked : {end rest : ℕ} {s₃ : Section3} {left : List Piece} {xs : List Taken} (n : Needs) (c k : ℕ) → Third end rest s₃ left xs → c < 10
      → Halts (row n) (has_any stop_words) c k left → walked 0 c k left ≡ xs
  unfolding trail
  after-walked n c k (over a) h halts = refl
  after-walked n c k (stop {g = g} is a) h halts = rw (first-move c k g.bytes turn.Halt h (halt-free n c k g.bytes halts), is)
  after-walked n c k (opened {c = d} {k = m} {g = g} {left = left} is went halted begins) h halts =
      rw (first-move c k g.bytes turn.Halt h (halt-free n c k g.bytes halts), is, third-walked went, third-ends d m left halted)

  -- THE WALK FROM BEHIND NDDFF ON.
  pub sections-walked : {end rest : ℕ} {r whole : Synop} {gs : List Piece} (d : Sections end rest r whole gs) → walked 0 wind_place 1 gs ≡ map (as_taken 0) d.entries ++ d.taken
  sections-walked {r = r} {gs = gs} d =
      let (q, low) = first-walked (needs_of r.surface) d.went (omega arith) in
      from-wind gs ∙ q ∙ ap (λ (l : List Taken). map (as_taken 0) d.entries ++ l) (after-walked (needs_of r.surface) d.place d.count d.third low d.halted)

-- ---- no group is left out, and none has the spot of another

third-covers : {end rest : ℕ} {s₃ : Section3} {left : List Piece} {xs : List Taken} → Third end rest s₃ left xs → Covers end rest left xs
third-covers (over a) = record { left = []; all = refl; begins = a }
third-covers (stop {g = g} {gs = gs} is a) = record { left = g ∷ gs; all = refl; begins = a }
third-covers (opened {left = left} {es = es} is went halted begins) =
    cover-more _ (rw (went-pieces third.row third.halts went) (entries-cover 1 es left [] (record { left = left; all = refl; begins = begins })))

pub sections-cover : {end rest : ℕ} {r whole : Synop} {gs : List Piece} (d : Sections end rest r whole gs) → Covers end rest gs (map (as_taken 0) d.entries ++ d.taken)
sections-cover {r = r} d = rw (went-pieces (row (needs_of r.surface)) (has_any stop_words) d.went) (entries-cover 0 d.entries d.left d.taken (third-covers d.third))

third-distinct : {end rest : ℕ} {s₃ : Section3} {left : List Piece} {xs : List Taken} → Third end rest s₃ left xs → Distinct xs × Later 0 xs
third-distinct (over a) = (tt, tt)
third-distinct (stop is a) = (tt, tt)
third-distinct (opened {g = g} {es = es} is went halted begins) = (
  (beside 0 spot.Opening g es [] tt (λ i k. refl), distinct_append 1 es [] (went-distinct third.row third.halts 1 went) tt tt),
  (omega arith, later-append 0 (map (as_taken 1) es) [] (entries-later 0 es) tt),
)

pub sections-distinct : {end rest : ℕ} {r whole : Synop} {gs : List Piece} (d : Sections end rest r whole gs)
    → Distinct (map (as_taken 0) d.entries ++ d.taken) × Later 0 d.taken
sections-distinct {r = r} d =
    let (x, l) = third-distinct d.third in
    (distinct_append 0 d.entries d.taken (went-distinct (row (needs_of r.surface)) (has_any stop_words) 0 d.went) x l, l)

-- the groups of section 1 stand at places of its row
pub sections-low : {end rest : ℕ} {r whole : Synop} {gs : List Piece} (d : Sections end rest r whole gs) → EachLow d.entries
sections-low {r = r} d = low (needs_of r.surface) d.went
  where
    low : (n : Needs) {c₁ k₁ : ℕ} {s₁ : Surface} {left : List Piece} {c k : ℕ} {s : Surface} {gs : List Piece} {es : List Entry} → Went (row n) (has_any stop_words) c₁ k₁ s₁ left c k s gs es → EachLow es
    low n done = tt
    low n {c = c} {k = k} (on {i = i} {n = m} {g = g} t e w) = (rw (row-length n) at (turn-within (row n) (has_any stop_words) c k g.bytes i m t).0, low n w)
