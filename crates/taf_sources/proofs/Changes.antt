-- WHERE THE ITEMS OF A TAF'S CHANGE GROUPS WERE READ FROM: the report takes each change in at its slot, and no other part touches it.
-- Assumes nothing.
use Rattle.std.specs.Prelude.{None, Ok, Some}
use Prim.Native.Nat.{ℕ, zero, suc, ◌+◌, ◌-◌, ◌≤◌, ◌<◌}
use native.Mathlib.Omega.{arith}
use mathlib.Core.Path.{◌≡◌, refl, sym, ap, subst, ◌∙◌}
use mathlib.Core.Bool.{Bool, true, false, cond}
use mathlib.Core.List.{List}
use lib.ListN.{length, get_or, set, replicate, length-set}
use lib.Seq.{get_or-set_same, get_or-set_other}
use lib.Dec.{eqb, ltb}
use borrow.Author.Tests.{eqb-false, ltb-true, ltb-false, lt-ltb, ne_eqb}
use Rattle.text.specs.Groups.{Piece, groups_from}
use Rattle.text.specs.Text.{tail_of}
use Rattle.shapes.specs.Pattern.{has_any}
use Rattle.places.specs.Engine.{Group, Done, place_at}
use Rattle.places.specs.Parts.{Begun}
use Rattle.record.specs.declared.aerodrome.Opening.{Opening}
use Rattle.record.specs.declared.aerodrome.Opening.TheVariants as opening
use Rattle.record.specs.declared.aerodrome.Period.{Period}
use Rattle.record.specs.declared.aerodrome.Leg.{Leg}
use Rattle.record.specs.declared.aerodrome.Change.{Change}
use Rattle.record.specs.declared.aerodrome.Edition.{Edition}
use Rattle.record.specs.declared.aerodrome.Taf.{Taf}
use Rattle.record.specs.Taf.{blank_instant, blank_leg, blank_change, set_period}
use Rattle.body_sources.specs.Items.{weather_at, sky_at}
use Rattle.taf_row.specs.declared.kinds.Part.{Part}
use Rattle.taf_row.specs.declared.kinds.Part.TheVariants as part
use Rattle.taf_row.specs.Row.{is_main, own_form, change_form, row, change_words}
use Rattle.taf_row.specs.Tests.{joins}
use Rattle.taf.specs.Read.{after_probable, part_of, change_of, with_change, groups_read}
use Rattle.sources.specs.declared.kinds.Spot.{Spot}
use Rattle.sources.specs.declared.kinds.Spot.TheVariants as spot
use Rattle.sources.specs.Trail.{Taken, origin_in, source_of}
use Rattle.sources.proofs.Rows.{Entry, Went, done, on, turn-within, Item, first}
use Rattle.sources.proofs.Items.{Stems, Begins, alone, joined, Beside, Shelf, part-stems, Opener, word-stems, Joiner, joined-stems, past-part}
use Rattle.sources.proofs.Texts.{ReadFrom, read-from}
use Rattle.taf_sources.specs.declared.kinds.ChangeElement.{ChangeElement}
use Rattle.taf_sources.specs.declared.kinds.ChangeElement.TheVariants as element
use Rattle.taf_sources.specs.Trail.{route, trail_of}
use Rattle.taf_sources.specs.Changes.{is_from, period_of, beginning_of, place_of, most_of, Value, value_in, Said, change_at, first_word, is_joined, word_of, no_word, WordSaid, TempoSaid}
use Rattle.taf_sources.proofs.Known.{reads_so}
use Rattle.taf_sources.proofs.Items.{wind-item, visibility-item, weather-item, clouds-item, PeriodDone, with-own, with-change, with_none, period-done, own_hours, hours-own, no-minute, hours-item}
use Rattle.taf_sources.proofs.Words.{OpenedSo, becoming, temporary, probable, from, opened-so, JoinedSo, probably, joined-so}
use Rattle.taf_sources.proofs.Sources.{coming, begun, main_lacks, takes, lacks, word-opens, went, walked, trail-covers}

-- ---- what is known of a report into which m parts were taken: sixteen changes may stand

below : {A : Type 0} (m n : ℕ) → (m < n → A) → (n ≤ m → A) → A
below {A} m n f h = go (ltb m n) refl
  where
    go : (b : Bool) → ltb m n ≡ b → A
    go true e = f (ltb-true m n e)
    go false e = h (ltb-false m n e)

abbrev Known : ℕ → Taf → Type 0
Known m t = (length t.changes.items ≡ 16) × (m < 16 → t.changes.count ≡ m) × (16 ≤ m → 16 ≤ t.changes.count)

-- the report with one change more
abbrev with-one : Taf → Change → Taf
with-one t c = record { edition = t.edition; leg = t.leg; changes = with_change t.changes c }

abbrev stored : Bool → Taf → Change → Taf
stored b t c =
    record { edition = t.edition; leg = t.leg; changes = cond b (record { items = set t.changes.items t.changes.count c; count = t.changes.count + 1 }) t.changes }

known_next : (m : ℕ) (t : Taf) (c : Change) → Known m t → Known (m + 1) (with-one t c)
known_next m t c (fair, low, high) = go (ltb t.changes.count 16) refl
  where
    go : (b : Bool) → ltb t.changes.count 16 ≡ b → Known (m + 1) (stored b t c)
    go true l = (
      length-set t.changes.items t.changes.count c ∙ fair,
      λ h. let n = low (omega arith) in omega arith,
      λ h. below m 16 (λ k. let n = low k in omega arith) (λ k. let n = high k in omega arith),
    )
    go false l =
        let full = ltb-false t.changes.count 16 l in
        (fair, λ h. let n = low (omega arith) in absurd (omega arith), λ h. full)

-- before any change is taken in
blank-slot : (n i : ℕ) → get_or (replicate n blank_change) i blank_change ≡ blank_change
blank-slot zero i = refl
blank-slot (suc n) zero = refl
blank-slot (suc n) (suc i) = blank-slot n i

module _ (q : ℕ) (some : 0 < q) (few : q < 17) where
  -- another part's change goes to another slot
  other-slot : (m : ℕ) (t : Taf) (c : Change) → Known m t → eqb q (m + 1) ≡ false → change_at q (with-one t c) ≡ change_at q t
  other-slot m t c (fair, low, high) o = go (ltb t.changes.count 16) refl
    where
      go : (b : Bool) → ltb t.changes.count 16 ≡ b → change_at q (stored b t c) ≡ change_at q t
      go true l =
          let room = ltb-true t.changes.count 16 l in
          let n : t.changes.count ≡ m = below m 16 low (λ k. let f = high k in absurd (omega arith)) in
          get_or-set_other t.changes.items t.changes.count (q - 1) c blank_change (λ e. eqb-false q (m + 1) o (omega arith))
      go false l = refl

  own-slot : (m : ℕ) (t : Taf) (c : Change) → Known m t → q ≡ m + 1 → change_at q (with-one t c) ≡ c
  own-slot m t c (fair, low, high) is =
      let n : t.changes.count ≡ m = low (omega arith) in
      let l : t.changes.count < 16 = omega arith in
      let at : q - 1 ≡ t.changes.count = omega arith in
      rw (lt-ltb t.changes.count 16 l, at) (get_or-set_same t.changes.items t.changes.count c blank_change (rw fair l))

-- ---- what a part begins with, and its period

-- as a word, or a word with TEMPO, leaves it
data StartedSo : Opening → Leg → Type 0 where
  hourly : {w : Opening} → is_from w ≡ false → StartedSo w blank_leg
  timed : {d : _} {h m : ℕ} → StartedSo opening.From (set_period (record { from = record { day = d; hour = Some h; minute = Some m }; to = blank_instant }) blank_leg)

after-main : (w : Opening) → is_main (part_of w) ≡ false
after-main opening.None = refl
after-main opening.Becoming = refl
after-main opening.Temporary = refl
after-main (opening.Probable n) = refl
after-main (opening.ProbablyTemporary n) = refl
after-main opening.From = refl

module _ (e : Edition) where
  started : (t : Taf) (w : Opening) (p : Leg) → Begins (route e) (coming e) (begun e) main_lacks takes lacks t w p → StartedSo w p
  started t w p (alone {g} is) = go w p (opened-so e g w p (word-opens e t g w p is))
    where
      go : (w : Opening) (p : Leg) → OpenedSo w p → StartedSo w p
      go _ _ becoming = hourly refl
      go _ _ temporary = hourly refl
      go _ _ probable = hourly refl
      go _ _ from = timed
  started t _ p (joined {g} {h} {v} is joins) = go v p (opened-so e g v p (word-opens e t g v p is)) (joined-so v h joins).0
    where
      go : (v : Opening) (p : Leg) → OpenedSo v p → JoinedSo v → StartedSo (after_probable v) p
      go _ _ becoming x5 = elim x5 [ ]
      go _ _ temporary x6 = elim x6 [ ]
      go _ _ probable probably = hourly refl
      go _ _ (from {d = d} {m = m}) x7 = elim x7 [ ]

  -- a group's period has no minutes
  no-minute-read : (w : Part) {c₁ k₁ : ℕ} {p' : Leg} {left : List Piece} {c n : ℕ} {p : Leg} {gs : List Piece} {es : List Entry} → Went (row e w) (has_any (change_words e)) c₁ k₁ p' left c n p gs es
      → p.period.from.minute ≡ None → p'.period.from.minute ≡ None
  no-minute-read w done none = none
  no-minute-read w {p = p} (on {i = i} {n = m} {r' = r} {g = g} t is v) none = no-minute-read w v (go i p.period r.period none (period-done e w i m g.bytes p r is))
    where
      go : (i : ℕ) (x y : Period) → x.from.minute ≡ None → PeriodDone e w g.bytes x i y → y.from.minute ≡ None
      go _ x _ none (with-own reads) = reads_so (no-minute (own_form e) g.bytes) reads
      go _ x _ none (with-change reads) = reads_so (no-minute (change_form e) g.bytes) reads
      go i x _ none (with_none five six) = none

  -- under FM no group says one
  period-kept : {c₁ k₁ : ℕ} {p' : Leg} {left : List Piece} {c n : ℕ} {p : Leg} {gs : List Piece} {es : List Entry} → Went (row e part.From) (has_any (change_words e)) c₁ k₁ p' left c n p gs es
      → p'.period ≡ p.period
  unfolding row
  period-kept done = refl
  period-kept {c = c} {n = n} {p = p} (on {i = i} {n = m} {r' = r} {g = g} t is v) =
      period-kept v ∙ go i p.period r.period (turn-within (row e part.From) (has_any (change_words e)) c n g.bytes i m t).1 (period-done e part.From i m g.bytes p r is)
    where
      go : (i : ℕ) (x y : Period) → m < (place_at (row e part.From) i).most → PeriodDone e part.From g.bytes x i y → y ≡ x
      go _ x _ few (with-own reads) = absurd (omega arith)
      go _ x _ few (with-change reads) = absurd (omega arith)
      go i x _ few (with_none five six) = refl

  period-so : (w : Opening) (p p' : Leg) {c n : ℕ} {gs left : List Piece} {es : List Entry} → StartedSo w p → Went (row e (part_of w)) (has_any (change_words e)) c n p' left 0 0 p gs es
      → period_of (change_of w p') ≡ own_hours p'.period
  period-so w _ p' (hourly is) v = rw is (sym (hours-own p'.period (no-minute-read (part_of w) v refl)))
  period-so _ _ p' timed v = sym (ap own_hours (period-kept v))

-- ---- the items at the places of a change's row

abbrev inner_of : (x : ChangeElement) → ℕ → Leg → Value x
inner_of element.Period k r = own_hours r.period
inner_of element.Wind k r = r.body.wind
inner_of element.Visibility k r = r.body.visibility
inner_of element.Weather k r = weather_at k r.body
inner_of element.Clouds k r = sky_at k r.body

-- the arrays have their lengths
abbrev fair_in : ChangeElement → Leg → Type 0
fair_in element.Period r = Unit {0}
fair_in element.Wind r = Unit {0}
fair_in element.Visibility r = Unit {0}
fair_in element.Weather r = length r.body.weathers.items ≡ 3
fair_in element.Clouds r = length r.body.sky.layers ≡ 4

module _ (e : Edition) where
  -- EACH ITEM OF A CHANGE IS WHAT ITS GROUP SAYS, and no other group touches it.
  pub change-item : (w : Opening) (x : ChangeElement) (k : ℕ) → k < most_of x → Item (row e (part_of w)) (place_of x) k (inner_of x k) (Said e x) (fair_in x) (value_in x k blank_change)
  change-item w element.Period k h = first 6 k _ _ h (hours-item e (part_of w) (after-main w))
  change-item w element.Wind k h = first 8 k _ _ h (wind-item e (part_of w))
  change-item w element.Visibility k h = first 9 k _ _ h (visibility-item e (part_of w))
  change-item w element.Weather k h = weather-item e (part_of w) k h
  change-item w element.Clouds k h = clouds-item e (part_of w) k h

  start-so : (x : ChangeElement) (k : ℕ) (w : Opening) (p : Leg) → StartedSo w p → fair_in x p × (inner_of x k p ≡ value_in x k blank_change)
  start-so element.Period k w _ (hourly is) = (tt, refl)
  start-so element.Period k _ _ timed = (tt, refl)
  start-so element.Wind k w _ (hourly is) = (tt, refl)
  start-so element.Wind k _ _ timed = (tt, refl)
  start-so element.Visibility k w _ (hourly is) = (tt, refl)
  start-so element.Visibility k _ _ timed = (tt, refl)
  start-so element.Weather k w _ (hourly is) = (refl, refl)
  start-so element.Weather k _ _ timed = (refl, refl)
  start-so element.Clouds k w _ (hourly is) = (refl, refl)
  start-so element.Clouds k _ _ timed = (refl, refl)

  value-so : (x : ChangeElement) (k : ℕ) (w : Opening) (p p' : Leg) {c n : ℕ} {gs left : List Piece} {es : List Entry} → StartedSo w p
      → Went (row e (part_of w)) (has_any (change_words e)) c n p' left 0 0 p gs es → value_in x k (change_of w p') ≡ inner_of x k p'
  value-so element.Period k w p p' s v = period-so e w p p' s v
  value-so element.Wind k w p p' s v = refl
  value-so element.Visibility k w p p' s v = refl
  value-so element.Weather k w p p' s v = refl
  value-so element.Clouds k w p p' s v = refl

  module _ (q : ℕ) (some : 0 < q) (few : q < 17) where
    -- what only part q touches
    beside : {A : Type 0} (get : Change → A) → Beside (route e) (coming e) (begun e) main_lacks takes lacks q (λ t. get (change_at q t)) Known
    beside get =
        record {
          next = λ m t w p p' known b. known_next m t (change_of w p') known;
          aside = λ m t w p p' known b o. ap get (other-slot q some few m t (change_of w p') known o);
        }

    -- of the source at a spot of part q, where each part after the main one says this of it
    part-source : {A : Type 0} (get : Change → A) (says : Group → A → Type 0) (s : Spot) (t : List ℕ) (rest : ℕ) (r : Taf) (reads : groups_read e (tail_of t) (length t) (groups_from t 0) ≡ Done rest r)
        → Stems (λ g. says g.bytes (get (change_at q r))) (get (change_at q r) ≡ get blank_change) (origin_in q s (went e t rest r reads).follows.taken)
        → ReadFrom t (λ g. says g (get (change_at q r))) (get (change_at q r) ≡ get blank_change) (source_of (origin_in q s (trail_of e t)))
    part-source get says s t rest r reads stems =
        let d = went e t rest r reads in
        read-from t q s (trail_of e t) (trail-covers e t rest r reads)
        (subst (λ (xs : List Taken). Stems (λ g. says g.bytes (get (change_at q r))) (get (change_at q r) ≡ get blank_change) (origin_in q s xs)) (sym (walked e t rest r reads))
        (subst (Stems (λ g. says g.bytes (get (change_at q r))) (get (change_at q r) ≡ get blank_change)) (sym (past-part q 0 s d.entries d.follows.taken (ne_eqb q 0 (omega arith)))) stems))

    none-known : (r : Leg) → Known 0 (begun e r)
    none-known r = (refl, (λ h. refl), λ h. absurd (omega arith))

    module _ (x : ChangeElement) (k : ℕ) (fits : k < most_of x) where
      shelf : Shelf (route e) (coming e) (begun e) main_lacks takes lacks (beside (value_in x k)) (place_of x) k (inner_of x k) (Said e x) (fair_in x) (value_in x k blank_change)
      shelf =
          record {
            item = λ w. change-item w x k fits;
            starts = λ t w p b. start-so x k w p (started e t w p b);
            comes = λ m t w p p' known is blank b v. ap (value_in x k) (own-slot q some few m t (change_of w p') known is) ∙ value-so x k w p p' (started e t w p b) v;
          }

      -- EACH ITEM OF CHANGE q is what the definition of its group says of the bytes that it was read from, or, with no such group, it is missing.
      pub change-source : (t : List ℕ) (rest : ℕ) (r : Taf) → groups_read e (tail_of t) (length t) (groups_from t 0) ≡ Done rest r
          → ReadFrom t (λ g. Said e x g (value_in x k (change_at q r))) (value_in x k (change_at q r) ≡ value_in x k blank_change) (source_of (origin_in q (spot.At (place_of x) k) (trail_of e t)))
      change-source t rest r reads =
          part-source (value_in x k) (Said e x) (spot.At (place_of x) k) t rest r reads
          (part-stems (route e) (coming e) (begun e) main_lacks takes lacks (beside (value_in x k)) shelf (went e t rest r reads).follows.after (none-known (went e t rest r reads).r₁) some
          (ap (value_in x k) (blank-slot 16 (q - 1))))

    -- ---- its word, and TEMPO where it belongs to the word

    word-so : (w : Opening) (p p' : Leg) {c n : ℕ} {gs left : List Piece} {es : List Entry} → OpenedSo w p → Went (row e (part_of w)) (has_any (change_words e)) c n p' left 0 0 p gs es
        → ◌≡◌ {A = Begun Opening Leg} (record { kind = w; start = p }) (record { kind = first_word w; start = set_period (beginning_of (change_of w p')) blank_leg })
    word-so _ _ p' becoming v = refl
    word-so _ _ p' temporary v = refl
    word-so _ _ p' probable v = refl
    word-so _ _ p' from v = ap (λ (x : Period). record { kind = opening.From; start = set_period x blank_leg }) (sym (period-kept e v))

    both_so : (w : Opening) (p p' : Leg) → OpenedSo w p → JoinedSo w
        → ◌≡◌ {A = Begun Opening Leg} (record { kind = w; start = p }) (record { kind = first_word (after_probable w); start = set_period (beginning_of (change_of (after_probable w) p')) blank_leg })
    both_so _ _ p' becoming x4 = elim x4 [ ]
    both_so _ _ p' temporary x5 = elim x5 [ ]
    both_so _ _ p' probable probably = refl
    both_so _ _ p' (from {d = d} {h = h} {m = m}) x6 = elim x6 [ ]

    word-opener : Opener (route e) (coming e) (begun e) main_lacks takes lacks (beside word_of) (WordSaid e) no_word
    word-opener =
        record {
          opens = λ m t g w p p' known is blank opens v.
              let so = word-opens e t g w p opens in
              subst (λ (c : Change). WordSaid e g (word_of c)) (sym (own-slot q some few m t (change_of w p') known is)) (so ∙ ap Ok (word-so w p p' (opened-so e g w p so) v));
          joins = λ m t g h w p p' known is blank opens joins v.
              let so = word-opens e t g w p opens in
              subst (λ (c : Change). WordSaid e g (word_of c)) (sym (own-slot q some few m t (change_of (after_probable w) p') known is)) (so ∙ ap Ok (both_so w p p' (opened-so e g w p so) (joined-so w h joins).0));
        }

    -- THE WORD OF CHANGE q, with the time of FM, is what the word's definition says of the group that the change was opened by; with no such group there is no such change.
    pub opening-source : (t : List ℕ) (rest : ℕ) (r : Taf) → groups_read e (tail_of t) (length t) (groups_from t 0) ≡ Done rest r
        → ReadFrom t (λ g. WordSaid e g (word_of (change_at q r))) (word_of (change_at q r) ≡ no_word) (source_of (origin_in q spot.Opening (trail_of e t)))
    opening-source t rest r reads =
        part-source word_of (WordSaid e) spot.Opening t rest r reads
        (word-stems (route e) (coming e) (begun e) main_lacks takes lacks (beside word_of) word-opener (went e t rest r reads).follows.after (none-known (went e t rest r reads).r₁) some
        (ap word_of (blank-slot 16 (q - 1))))

    alone-so : (w : Opening) (p : Leg) → OpenedSo w p → is_joined w ≡ false
    alone-so _ _ becoming = refl
    alone-so _ _ temporary = refl
    alone-so _ _ probable = refl
    alone-so _ _ from = refl

    tempo-so : (w : Opening) → JoinedSo w → is_joined (after_probable w) ≡ true
    tempo-so _ probably = refl

    tempo-joiner : Joiner (route e) (coming e) (begun e) main_lacks takes lacks (beside (λ c. is_joined c.opening)) TempoSaid false
    tempo-joiner =
        record {
          alone = λ m t g w p p' known is opens.
              ap (λ (c : Change). is_joined c.opening) (own-slot q some few m t (change_of w p') known is) ∙ alone-so w p (opened-so e g w p (word-opens e t g w p opens));
          joins = λ m t g h w p p' known is opens joins.
              let (so, tempo) = joined-so w h joins in
              record { is = tempo; value = ap (λ (c : Change). is_joined c.opening) (own-slot q some few m t (change_of (after_probable w) p') known is) ∙ tempo-so w so };
        }

    -- WHETHER TEMPO BELONGS TO IT is what the group TEMPO says that stands at once after the word; with no such group it does not.
    pub joined-source : (t : List ℕ) (rest : ℕ) (r : Taf) → groups_read e (tail_of t) (length t) (groups_from t 0) ≡ Done rest r
        → ReadFrom t (λ g. TempoSaid g (is_joined (change_at q r).opening)) (is_joined (change_at q r).opening ≡ false) (source_of (origin_in q spot.Joined (trail_of e t)))
    joined-source t rest r reads =
        part-source (λ c. is_joined c.opening) TempoSaid spot.Joined t rest r reads
        (joined-stems (route e) (coming e) (begun e) main_lacks takes lacks (beside (λ c. is_joined c.opening)) tempo-joiner (went e t rest r reads).follows.after (none-known (went e t rest r reads).r₁) some
        (ap (λ (c : Change). is_joined c.opening) (blank-slot 16 (q - 1))))
