-- WHERE THE ITEMS OF A TREND WERE READ FROM: the report takes each change in at its slot, and no other part touches it.
-- Assumes nothing.
use Rattle.std.specs.Prelude.{Ok}
use Prim.Native.Nat.{ℕ, zero, suc, ◌+◌, ◌-◌, ◌≤◌, ◌<◌}
use native.Mathlib.Omega.{arith}
use mathlib.Core.Path.{◌≡◌, refl, sym, ap, subst, ◌∙◌}
use mathlib.Core.Bool.{Bool, true, false, ◌&&◌, cond, false≢true}
use mathlib.Core.List.{List}
use lib.ListN.{length, get_or, set, replicate, length-set}
use lib.Seq.{get_or-set_same, get_or-set_other}
use lib.Dec.{eqb, leb, ltb}
use borrow.Author.Tests.{eqb-false, ltb-true, ltb-false, lt-ltb, leb-true, leb-false, eq-eqb, ne_eqb}
use Rattle.text.specs.Groups.{Piece, groups_from}
use Rattle.text.specs.Text.{tail_of}
use Rattle.shapes.specs.Pattern.{has_any}
use Rattle.places.specs.Engine.{Group, Done, place_at}
use Rattle.places.specs.Parts.{Opens}
use Rattle.record.specs.declared.aerodrome.TrendChange.{TrendChange}
use Rattle.record.specs.declared.aerodrome.Metar.{Metar}
use Rattle.record.specs.Trend.{blank_trend_change}
use Rattle.metar_row.specs.Row.{words}
use Rattle.trend_row.specs.declared.kinds.Word.{Word}
use Rattle.trend_row.specs.declared.kinds.Word.TheVariants as word
use Rattle.trend_row.specs.Row.{is_change, row}
use Rattle.trend.specs.Read.{tendency_of, start_of, with_change}
use Rattle.metar.specs.Read.{groups_read}
use Rattle.sources.specs.declared.kinds.Spot.TheVariants as spot
use Rattle.sources.specs.Trail.{Taken, origin_in, source_of}
use Rattle.sources.proofs.Rows.{Entry, Went, done, on, turn-within}
use Rattle.sources.proofs.Items.{Stems, Begins, alone, joined, Beside, Shelf, part-stems, Opener, word-stems, past-part}
use Rattle.sources.proofs.Texts.{ReadFrom, read-from}
use Rattle.metar_sources.specs.declared.kinds.ChangeElement.{ChangeElement}
use Rattle.metar_sources.specs.declared.kinds.ChangeElement.TheVariants as element
use Rattle.metar_sources.specs.Trail.{route, trail_of}
use Rattle.metar_sources.specs.Changes.{place_of, most_of, Value, value_in, Said, change_at, WordItem, word_in, no_word, WordSaid}
use Rattle.metar_sources.proofs.Changes.{times-done, fair_in, change-item}
use Rattle.metar_sources.proofs.Sources.{coming, begun, none-lacks, takes, lacks, word-opens, nosig-first, went, walked, trail-covers}

-- ---- what is known of a report into which m parts were taken

-- three changes may stand
abbrev cap : ℕ → ℕ
cap m = cond (leb 3 m) 3 m

abbrev Known : ℕ → Metar → Type 0
Known m r = (length r.trend.items ≡ 3) × (r.trend.nosig ≡ false → r.trend.count ≡ cap m)

cap-next : (m n : ℕ) → n ≡ cap m → n < 3 → n + 1 ≡ cap (m + 1)
cap-next m n e h = go (leb 3 m) refl (leb 3 (m + 1)) refl e
  where
    go : (a : Bool) → leb 3 m ≡ a → (b : Bool) → leb 3 (m + 1) ≡ b → n ≡ cond a 3 m → n + 1 ≡ cond b 3 (m + 1)
    go true p b q e = absurd (omega arith)
    go false p true q e = omega (arith, leb-false 3 m p, leb-true 3 (m + 1) q)
    go false p false q e = omega arith

cap-full : (m n : ℕ) → n ≡ cap m → 3 ≤ n → n ≡ cap (m + 1)
cap-full m n e h = go (leb 3 m) refl (leb 3 (m + 1)) refl e
  where
    go : (a : Bool) → leb 3 m ≡ a → (b : Bool) → leb 3 (m + 1) ≡ b → n ≡ cond a 3 m → n ≡ cond b 3 (m + 1)
    go true p true q e = e
    go true p false q e = absurd (omega (arith, leb-true 3 m p, leb-false 3 (m + 1) q))
    go false p b q e = absurd (omega (arith, leb-false 3 m p))

cap-is : (m n : ℕ) → n ≡ cap m → n < 3 → n ≡ m
cap-is m n e h = go (leb 3 m) e
  where
    go : (a : Bool) → n ≡ cond a 3 m → n ≡ m
    go true e = absurd (omega arith)
    go false e = e

-- what opens a part: NOSIG has not stood, and the part begins as the word leaves it
begun-by : (r : Metar) (w : Word) (p : TrendChange) → Begins route coming begun none-lacks takes lacks r w p → (p ≡ start_of w) × (r.trend.nosig ≡ false)
begun-by r w p (alone {g} is) = let x = word-opens r g w p is in (x.1, x.2)
begun-by r w p (joined is joins) = absurd (false≢true joins)

change-next : (m : ℕ) (r : Metar) (c : TrendChange) → Known m r → r.trend.nosig ≡ false → Known (m + 1) (record { observation = r.observation; trend = with_change r.trend c })
change-next m r c (fair, many) is = go (ltb r.trend.count 3) refl
  where
    go : (b : Bool) → ltb r.trend.count 3 ≡ b
        → Known (m + 1) (record { observation = r.observation; trend = cond b (record { items = set r.trend.items r.trend.count c; count = r.trend.count + 1; nosig = r.trend.nosig }) r.trend })
    go true l = (length-set r.trend.items r.trend.count c ∙ fair, λ e. cap-next m r.trend.count (many is) (ltb-true r.trend.count 3 l))
    go false l = (fair, λ e. cap-full m r.trend.count (many is) (ltb-false r.trend.count 3 l))

known_next : (m : ℕ) (r : Metar) (w : Word) (p p' : TrendChange) → Known m r → Begins route coming begun none-lacks takes lacks r w p → Known (m + 1) (takes r w p')
known_next m r word.Nosig p p' (fair, many) b = (fair, λ e. absurd (false≢true (sym e)))
known_next m r word.Becoming p p' known b = change-next m r p' known (begun-by r word.Becoming p b).1
known_next m r word.Temporary p p' known b = change-next m r p' known (begun-by r word.Temporary p b).1

module _ (q : ℕ) (some : 0 < q) (few : q < 4) where
  -- another part's change goes to another slot
  other-slot : (m : ℕ) (r : Metar) (c : TrendChange) → Known m r → r.trend.nosig ≡ false → eqb q (m + 1) ≡ false
      → change_at q (record { observation = r.observation; trend = with_change r.trend c }) ≡ change_at q r
  other-slot m r c (fair, many) is o = go (ltb r.trend.count 3) refl
    where
      go : (b : Bool) → ltb r.trend.count 3 ≡ b
          → get_or (cond b (record { items = set r.trend.items r.trend.count c; count = r.trend.count + 1; nosig = r.trend.nosig }) r.trend).items (q - 1) blank_trend_change
          ≡ get_or r.trend.items (q - 1) blank_trend_change
      go true l =
          let n = cap-is m r.trend.count (many is) (ltb-true r.trend.count 3 l) in
          get_or-set_other r.trend.items r.trend.count (q - 1) c blank_trend_change (λ e. eqb-false q (m + 1) o (omega arith))
      go false l = refl

  own-slot : (m : ℕ) (r : Metar) (c : TrendChange) → Known m r → r.trend.nosig ≡ false → q ≡ m + 1
      → change_at q (record { observation = r.observation; trend = with_change r.trend c }) ≡ c
  own-slot m r c (fair, many) is o =
      let n : r.trend.count ≡ m = many is ∙ low (leb 3 m) refl in
      let l : r.trend.count < 3 = omega arith in
      let at : q - 1 ≡ r.trend.count = omega arith in
      rw (lt-ltb r.trend.count 3 l, at) (get_or-set_same r.trend.items r.trend.count c blank_trend_change (rw fair l))
    where
      low : (a : Bool) → leb 3 m ≡ a → cond a 3 m ≡ m
      low true p = absurd (omega (arith, leb-true 3 m p))
      low false p = refl

  slot-aside : (m : ℕ) (r : Metar) (w : Word) (p p' : TrendChange) → Known m r → Begins route coming begun none-lacks takes lacks r w p → eqb q (m + 1) ≡ false
      → change_at q (takes r w p') ≡ change_at q r
  slot-aside m r word.Nosig p p' known b o = refl
  slot-aside m r word.Becoming p p' known b o = other-slot m r p' known (begun-by r word.Becoming p b).1 o
  slot-aside m r word.Temporary p p' known b o = other-slot m r p' known (begun-by r word.Temporary p b).1 o

  -- after NOSIG no group is taken
  none-taken : {c n : ℕ} {p p' : TrendChange} {gs left : List Piece} {es : List Entry} → Went (row false) (has_any words) c n p' left 0 0 p gs es → p' ≡ p
  unfolding row
  none-taken done = refl
  none-taken (on {c = c} {k = k} {i = i} {n = n} {g = g} t e w) =
      absurd (shut i n (turn-within (row false) (has_any words) c k g.bytes i n t).1)
    where
      shut : (i n : ℕ) → n < (place_at (row false) i).most → ⊥
      shut zero n h = absurd (omega arith)
      shut (suc zero) n h = absurd (omega arith)
      shut (suc (suc zero)) n h = absurd (omega arith)
      shut (suc (suc (suc zero))) n h = absurd (omega arith)
      shut (suc (suc (suc (suc zero)))) n h = absurd (omega arith)
      shut (suc (suc (suc (suc (suc zero))))) n h = absurd (omega arith)
      shut (suc (suc (suc (suc (suc (suc zero)))))) n h = absurd (omega arith)
      shut (suc (suc (suc (suc (suc (suc (suc zero))))))) n h = absurd (omega arith)
      shut (suc (suc (suc (suc (suc (suc (suc (suc i)))))))) n h = absurd (omega arith)

  module _ (e : ChangeElement) (k : ℕ) (fits : k < most_of e) where
    abbrev get : Metar → Value e
    get r = value_in e k (change_at q r)

    beside : Beside route coming begun none-lacks takes lacks q get Known
    beside = record { next = known_next; aside = λ m r w p p' known b o. ap (value_in e k) (slot-aside m r w p p' known b o) }

    start-fair : (e : ChangeElement) (w : Word) → fair_in e (start_of w)
    start-fair element.From w = tt
    start-fair element.Until w = tt
    start-fair element.At w = tt
    start-fair element.Wind w = tt
    start-fair element.Visibility w = tt
    start-fair element.Weather w = refl
    start-fair element.Clouds w = refl

    start-blank : (e : ChangeElement) (k : ℕ) (w : Word) → value_in e k (start_of w) ≡ value_in e k blank_trend_change
    start-blank element.From k w = refl
    start-blank element.Until k w = refl
    start-blank element.At k w = refl
    start-blank element.Wind k w = refl
    start-blank element.Visibility k w = refl
    start-blank element.Weather k w = refl
    start-blank element.Clouds k w = refl

    comes-in : (m : ℕ) (r : Metar) (w : Word) (p p' : TrendChange) {c n : ℕ} {gs left : List Piece} {es : List Entry} → Known m r → q ≡ m + 1
        → get r ≡ value_in e k blank_trend_change → Begins route coming begun none-lacks takes lacks r w p
        → Went (row (is_change w)) (has_any words) c n p' left 0 0 p gs es → get (takes r w p') ≡ value_in e k p'
    comes-in m r word.Nosig p p' known is blank b went =
        blank ∙ sym (ap (value_in e k) (none-taken went ∙ (begun-by r word.Nosig p b).0) ∙ start-blank e k word.Nosig)
    comes-in m r word.Becoming p p' known is blank b went = ap (value_in e k) (own-slot m r p' known (begun-by r word.Becoming p b).1 is)
    comes-in m r word.Temporary p p' known is blank b went = ap (value_in e k) (own-slot m r p' known (begun-by r word.Temporary p b).1 is)

    shelf : Shelf route coming begun none-lacks takes lacks beside (place_of e) k (value_in e k) (Said e) (fair_in e) (value_in e k blank_trend_change)
    shelf =
        record {
          item = λ w. change-item (is_change w) e k fits;
          starts = λ r w p b. let (is, o) = begun-by r w p b in (subst (fair_in e) (sym is) (start-fair e w), ap (value_in e k) is ∙ start-blank e k w);
          comes = comes-in;
        }

    -- EACH ITEM OF PART q OF THE TREND is what the definition of its group says of the bytes that it was read from, or, with no such group, it is missing.
    pub change-source : (t : List ℕ) (rest : ℕ) (r : Metar) → groups_read (tail_of t) (length t) (groups_from t 0) ≡ Done rest r
        → ReadFrom t (λ g. Said e g (get r)) (get r ≡ value_in e k blank_trend_change) (source_of (origin_in q (spot.At (place_of e) k) (trail_of t)))
    change-source t rest r reads =
        let d = went t rest r reads in
        read-from t q (spot.At (place_of e) k) (trail_of t) (trail-covers t rest r reads)
        (subst (λ (xs : List Taken). Stems (λ g. Said e g.bytes (get r)) (get r ≡ value_in e k blank_trend_change) (origin_in q (spot.At (place_of e) k) xs)) (sym (walked t rest r reads))
        (subst (Stems (λ g. Said e g.bytes (get r)) (get r ≡ value_in e k blank_trend_change)) (sym (past-part q 0 (spot.At (place_of e) k) d.entries d.follows.taken (ne_eqb q 0 (omega arith))))
        (part-stems route coming begun none-lacks takes lacks beside shelf d.follows.after (refl, λ e. refl) some (ap (value_in e k) (blank-slot (q - 1))))))
      where
        blank-slot : (i : ℕ) → get_or (replicate 3 blank_trend_change) i blank_trend_change ≡ blank_trend_change
        blank-slot zero = refl
        blank-slot (suc zero) = refl
        blank-slot (suc (suc zero)) = refl
        blank-slot (suc (suc (suc i))) = refl

-- ---- the word of a part

-- the row's groups do not touch it
tendency-kept : (free : Bool) {c₁ k₁ : ℕ} {left : List Piece} {p' : TrendChange} {c n : ℕ} {p : TrendChange} {gs : List Piece} {es : List Entry} → Went (row free) (has_any words) c₁ k₁ p' left c n p gs es
    → p'.tendency ≡ p.tendency
tendency-kept free done = refl
tendency-kept free {p = p} (on {i = i} {n = m} {r' = r} {g = g} t e w) = tendency-kept free w ∙ (times-done free i m g.bytes p r e).1

module _ (q : ℕ) (some : 0 < q) (few : q < 4) where
  nosig-kept : (r : Metar) (c : TrendChange) → (with_change r.trend c).nosig ≡ r.trend.nosig
  nosig-kept r c = go (ltb r.trend.count 3)
    where
      go : (b : Bool) → (cond b (record { items = set r.trend.items r.trend.count c; count = r.trend.count + 1; nosig = r.trend.nosig }) r.trend).nosig ≡ r.trend.nosig
      go true = refl
      go false = refl

  -- NOSIG opens part 1 alone
  nosig-part : (m : ℕ) (r : Metar) (p : TrendChange) → Known m r → Begins route coming begun none-lacks takes lacks r word.Nosig p → m ≡ 0
  nosig-part m r p (fair, many) b = at word.Nosig b refl
    where
      low : (a : Bool) → leb 3 m ≡ a → cond a 3 m ≡ 0 → m ≡ 0
      low true x e = absurd (omega arith)
      low false x e = e

      at : (w : Word) → Begins route coming begun none-lacks takes lacks r w p → w ≡ word.Nosig → m ≡ 0
      at w (alone {g} is) e =
          let opened = rw e at is in
          let none = ltb-false 0 r.trend.count (nosig-first r g p opened) in
          let n : r.trend.count ≡ cap m = many (word-opens r g word.Nosig p opened).2 in
          low (leb 3 m) refl (sym n ∙ omega arith)
      at w (joined is joins) e = absurd (false≢true joins)

  word-aside : (m : ℕ) (r : Metar) (w : Word) (p p' : TrendChange) → Known m r → Begins route coming begun none-lacks takes lacks r w p → eqb q (m + 1) ≡ false
      → word_in q (takes r w p') ≡ word_in q r
  word-aside m r word.Nosig p p' known b o =
      let z = nosig-part m r p known b in
      let not-one : eqb q 1 ≡ false = ne_eqb q 1 (λ e. eqb-false q (m + 1) o (omega arith)) in
      rw not-one
  word-aside m r word.Becoming p p' known b o = rw (nosig-kept r p', slot-aside q some few m r word.Becoming p p' known b o)
  word-aside m r word.Temporary p p' known b o = rw (nosig-kept r p', slot-aside q some few m r word.Temporary p p' known b o)

  word-beside : Beside route coming begun none-lacks takes lacks q (word_in q) Known
  word-beside = record { next = known_next; aside = word-aside }

  changes-word : (m : ℕ) (r : Metar) (w : Word) (p p' : TrendChange) → Known m r → q ≡ m + 1 → r.trend.nosig ≡ false → p ≡ start_of w → p'.tendency ≡ p.tendency
      → ◌≡◌ {A = WordItem}
      (record { nosig = eqb q 1 && (with_change r.trend p').nosig; tendency = (change_at q (record { observation = r.observation; trend = with_change r.trend p' })).tendency })
      (record { nosig = false; tendency = tendency_of w })
  changes-word m r w p p' known is free starts kept = rw (own-slot q some few m r p' known free is, nosig-kept r p', free, kept, starts) (go (eqb q 1))
    where
      go : (b : Bool) → ◌≡◌ {A = WordItem} (record { nosig = b && false; tendency = tendency_of w }) (record { nosig = false; tendency = tendency_of w })
      go true = refl
      go false = refl

  word-opened : (m : ℕ) (r : Metar) (g : Group) (w : Word) (p p' : TrendChange) {c n : ℕ} {gs left : List Piece} {es : List Entry} → Known m r → q ≡ m + 1
      → word_in q r ≡ no_word → coming r g ≡ Opens (Ok (record { kind = w; start = p })) → Went (row (is_change w)) (has_any words) c n p' left 0 0 p gs es
      → WordSaid g (word_in q (takes r w p'))
  word-opened m r g word.Nosig p p' known is blank opens went =
      let z = nosig-part m r p known (alone opens) in
      let one : eqb q 1 ≡ true = eq-eqb q 1 (omega arith) in
      record { word = word.Nosig; is = (word-opens r g word.Nosig p opens).0; value = rw (one, ap (λ (v : WordItem). v.tendency) blank) }
  word-opened m r g word.Becoming p p' known is blank opens went =
      let x = word-opens r g word.Becoming p opens in
      record { word = word.Becoming; is = x.0; value = changes-word m r word.Becoming p p' known is x.2 x.1 (tendency-kept true went) }
  word-opened m r g word.Temporary p p' known is blank opens went =
      let x = word-opens r g word.Temporary p opens in
      record { word = word.Temporary; is = x.0; value = changes-word m r word.Temporary p p' known is x.2 x.1 (tendency-kept true went) }

  word-opener : Opener route coming begun none-lacks takes lacks word-beside WordSaid no_word
  word-opener = record { opens = word-opened; joins = λ m r g h w p p' known is blank opens joins went. absurd (false≢true joins) }

  -- THE WORD OF PART q: NOSIG, or the change's BECMG or TEMPO, is what the group is that the part was opened by; with no such group there is no such part.
  pub opening-source : (t : List ℕ) (rest : ℕ) (r : Metar) → groups_read (tail_of t) (length t) (groups_from t 0) ≡ Done rest r
      → ReadFrom t (λ g. WordSaid g (word_in q r)) (word_in q r ≡ no_word) (source_of (origin_in q spot.Opening (trail_of t)))
  opening-source t rest r reads =
      let d = went t rest r reads in
      read-from t q spot.Opening (trail_of t) (trail-covers t rest r reads)
      (subst (λ (xs : List Taken). Stems (λ g. WordSaid g.bytes (word_in q r)) (word_in q r ≡ no_word) (origin_in q spot.Opening xs)) (sym (walked t rest r reads))
      (subst (Stems (λ g. WordSaid g.bytes (word_in q r)) (word_in q r ≡ no_word)) (sym (past-part q 0 spot.Opening d.entries d.follows.taken (ne_eqb q 0 (omega arith))))
      (word-stems route coming begun none-lacks takes lacks word-beside word-opener
      d.follows.after (refl, λ e. refl) some (start (eqb q 1) (q - 1)))))
    where
      start : (b : Bool) (i : ℕ) → ◌≡◌ {A = WordItem} (record { nosig = b && false; tendency = (get_or (replicate 3 blank_trend_change) i blank_trend_change).tendency }) no_word
      start true zero = refl
      start true (suc zero) = refl
      start true (suc (suc zero)) = refl
      start true (suc (suc (suc i))) = refl
      start false zero = refl
      start false (suc zero) = refl
      start false (suc (suc zero)) = refl
      start false (suc (suc (suc i))) = refl
