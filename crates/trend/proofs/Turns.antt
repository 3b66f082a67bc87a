-- The laws of a trend's parts: what a word comes to, how a part is read from group to group, and how the trend is read from part to part.
-- Assumes nothing.
use Rattle.std.specs.Prelude.{Ok, Result}
use Prim.Native.Nat.{ℕ, ◌+◌, ◌-◌, ◌≤◌, ◌<◌}
use native.Mathlib.Omega.{arith}
use mathlib.Core.Path.{◌≡◌, refl, sym, ap, ◌∙◌}
use mathlib.Core.Bool.{Bool, true, false, cond, not, ◌||◌, or-false, false≢true}
use mathlib.Core.List.{List, [], ◌∷◌}
use lib.ListN.{length, set, length-set}
use lib.Dec.{ltb}
use borrow.Author.Tests.{lt-ltb, ltb-false, leb-true, leb-false, not-false}
use Rattle.text.specs.declared.kinds.Refusal.{Refusal}
use Rattle.text.specs.declared.kinds.Refusal.TheVariants as refusal
use Rattle.text.specs.declared.kinds.Refused.{Refused}
use Rattle.text.specs.Groups.{Piece, groups_from, part_of as bytes_of}
use Rattle.text.specs.Text.{tail_of}
use Rattle.figures.specs.Quote.{bytes}
use Rattle.figures.proofs.Impossible.{impossible}
use Rattle.shapes.specs.Pattern.{has_pattern, has_any}
use Rattle.places.specs.Engine.{Group}
use Rattle.places.specs.Answer.{end_verdict}
use Rattle.places.specs.Parts.{Bars, owes, part_from, begins}
use Rattle.places.proofs.Seek.{none_left}
use Rattle.places.proofs.Turns.{comes, within, no_room, one_more}
use Rattle.record.specs.declared.aerodrome.TrendChange.{TrendChange}
use Rattle.record.specs.declared.aerodrome.Trend.{Trend}
use Rattle.record.specs.declared.aerodrome.Observation.{Observation}
use Rattle.record.specs.declared.aerodrome.Metar.{Metar}
use Rattle.record.specs.Trend.{blank_trend}
use Rattle.body.specs.declared.kinds.Met.{Met}
use Rattle.body.specs.declared.kinds.Met.TheVariants as met
use Rattle.body.specs.Met.{Meets}
use Rattle.body.proofs.Parts.{Reached as PartReached, reads_over, reads_word, word-ahead, reads-fault}
use Rattle.metar_row.specs.Row.{stop_words, words}
use Rattle.trend_row.specs.declared.kinds.Word.{Word}
use Rattle.trend_row.specs.declared.kinds.Word.TheVariants as word
use Rattle.trend_row.specs.Row.{is_change, row}
use Rattle.trend_row.specs.Tests.{lacks_in, is_full}
use Rattle.trend_row.proofs.Rows.{none-must}
use Rattle.trend.specs.declared.kinds.Next.{Next}
use Rattle.trend.specs.declared.kinds.Next.TheVariants as next
use Rattle.trend.specs.declared.kinds.PartRead.{PartRead}
use Rattle.trend.specs.Said.{change_said}
use Rattle.trend.specs.Read.{start_of, opens, comes_to, taking, part_in, part_after, parts}
use Rattle.trend.specs.Step.{more_after, part_by, refused_at, after_part, nosig_met, change_met, Holds, MetWord, PartDone, TrendRead}

-- ---- a word

pub stop_is : (g : Group) {a b : Bool} → a ≡ has_pattern g (bytes "WS") → b ≡ has_pattern g (bytes "RMK") → (a || b) ≡ has_any stop_words g
unfolding has_any
stop_is g {a} {b} p q = rw (← p, ← q) (ap (λ (x : Bool). a || x) (sym (or-false b)))

-- BECMG, or else TEMPO
abbrev change_word : Group → Word
change_word g = cond (has_pattern g (bytes "BECMG")) word.Becoming word.Temporary

-- behind its word a part begins at once
begins-there : (text : List ℕ) (n : ℕ) (r : Metar) (w : Word) (at : ℕ)
    → begins (tail_of text) (length text) parts (more_after text n) r w (start_of w) (groups_from text at) ≡ part_by text w (part_after r w).takes n at
unfolding part_by
begins-there text n r w at = go (groups_from text at)
  where
    go : (gs : List Piece) → begins (tail_of text) (length text) parts (more_after text n) r w (start_of w) gs
        ≡ part_from (tail_of text) (length text) (part_after r w) (more_after text n) 0 0 (start_of w) gs
    go [] = refl
    go (g ∷ gs) = refl

module _ (g : Group) (start end n : ℕ) where
  -- an absence comes first
  pub meets-lacking : (nosig : Bool) → MetWord g start end n nosig true (refused_at refusal.Absence start)
  meets-lacking nosig = record { reads = λ text r h. refl; ahead = λ w to e. impossible (cc) }

  pub meets-stop : (nosig : Bool) → has_any stop_words g ≡ true → MetWord g start end n nosig false (next.End (Ok start))
  unfolding comes_to
  meets-stop nosig is = record { reads = λ text r h. rw is; ahead = λ w to e. impossible (cc) }

  -- a word that may not stand there, one for which there is no room, and one that opens a part
  barred : {nosig : Bool} {f : Refusal} → ((r : Metar) → Holds n nosig r → comes_to r.trend g ≡ Bars f) → MetWord g start end n nosig false (refused_at f start)
  barred is = record { reads = λ text r h. rw (is r h); ahead = λ w to e. impossible (cc) }

  module _ {w : Word} (is : (r : Metar) → Holds n false r → comes_to r.trend g ≡ opens w) where
    full : 3 ≤ n → MetWord g start end n false false (refused_at refusal.Limit start)
    full h =
        record {
          reads = λ text r held. rw (is r held) (no_room (tail_of text) (length text) parts 3 n r _ _ (groups_from text end) h);
          ahead = λ w to e. impossible (cc);
        }

    opened : n < 3 → MetWord g start end n false false (next.Part w end)
    opened few =
        record {
          reads = λ text r held. rw (is r held) (one_more (tail_of text) (length text) parts 3 n r _ _ (groups_from text end) few ∙ begins-there text (n + 1) r w end);
          ahead = λ v to e. let same : end ≡ to = cc in (sym same, few, refl);
        }

  module _ (on : has_any stop_words g ≡ false) where
    pub meets-nosig : (nosig : Bool) {x : Next} → has_pattern g (bytes "NOSIG") ≡ true → x ≡ nosig_met start end n nosig → MetWord g start end n nosig false x
    unfolding comes_to
    meets-nosig true is e = rw e (barred (λ r h. rw (on, is, h.alone)))
    meets-nosig false is e = rw e (go (ltb 0 n) refl)
      where
        go : (b : Bool) → ltb 0 n ≡ b → MetWord g start end n false false (cond b (refused_at refusal.Disagreement start) (next.Part word.Nosig end))
        go true some = barred (λ r h. rw (on, is, h.alone, h.many refl, some))
        go false none = opened (λ r h. rw (on, is, h.alone, h.many refl, none)) (omega (arith, ltb-false 0 n none))

    pub meets-change : (nosig : Bool) {x : Next} → has_pattern g (bytes "NOSIG") ≡ false → x ≡ change_met g start end n nosig → MetWord g start end n nosig false x
    unfolding comes_to
    meets-change true is e = rw e (barred (λ r h. rw (on, is, h.alone)))
    meets-change false is e = rw e (go (is_full n) refl)
      where
        go : (b : Bool) → is_full n ≡ b → MetWord g start end n false false (cond b (refused_at refusal.Limit start) (next.Part (change_word g) end))
        go true all = full {w = change_word g} (λ r h. rw (on, is, h.alone)) (leb-true 3 n all)
        go false room = opened (λ r h. rw (on, is, h.alone)) (omega (arith, leb-false 3 n room))

-- ---- a part, from group to group

-- no place must have a group: a part owes what it lacks
owes-lacks : (w : Word) (takes : TrendChange → Metar) (c k : ℕ) (r : TrendChange) → owes (part_in w takes) c k r ≡ lacks_in w r.body
owes-lacks w takes c k r = rw (← none-must (is_change w), none_left 8 c k)

-- a part has been read from behind its word on, the n-th that the report takes in; free or not, as its word says
abbrev pub Reached : List ℕ → Bool → Word → ℕ → ℕ → ℕ → ℕ → TrendChange → ℕ → Type 0
Reached text free w n start c k r at = PartReached parts text (part_in w) (row free) (has_any words) (3 - n) 0 (start_of w) start c k r at

-- a change with the times and the body that the loop sees
abbrev Like : TrendChange → TrendChange → Type 0
Like r a = (a.times ≡ r.times) × (a.body ≡ r.body)

-- and ends with the next group, as the part with these times and this body meets it
module _ (free : Bool) {text : List ℕ} {w : Word} {n start c k : ℕ} {r : TrendChange} {at : ℕ} (reached : Reached text free w n start c k r at)
    {m : Met} (meets : Meets (row free) (has_any words) change_said c k (Like r) text at m) where
  pub part-over : {x : PartRead} → m ≡ met.Over → x ≡ record { next = next.End (end_verdict (tail_of text) (length text) (lacks_in w r.body)); change = r }
      → PartDone text w n start x
  unfolding part_by within comes
  part-over is e =
      record {
        reads = λ takes held. reads_over reached change_said (Like r) meets (refl, refl) is takes ∙ rw (e, owes-lacks w takes c k r);
        ahead = λ v to z. impossible (let y = rw e at z in cc);
      }

  pub part-word : {from to : ℕ} {x : PartRead} → m ≡ met.Halt from to
      → (x.change ≡ r) × MetWord (bytes_of text from to) from to n (not (is_change w)) (lacks_in w r.body) x.next → PartDone text w n start x
  unfolding part_by within comes
  part-word is (same, word) =
      let (before, inside) = word-ahead reached change_said (Like r) meets (refl, refl) is in
      record {
        reads = λ takes held.
            reads_word reached change_said (Like r) meets (refl, refl) is takes ∙ rw (owes-lacks w takes c k r, same) (word.reads text (takes r) (rw same at held));
        ahead = λ v at' z. let h = word.ahead v at' z in rw h.0 (before, inside, h.1, not-false (is_change w) h.2);
      }

  pub part-fault : {f : Refusal} {from : ℕ} {x : PartRead} → m ≡ met.Refused f from → x.next ≡ refused_at f from → PartDone text w n start x
  unfolding part_by within comes
  part-fault is e =
      record {
        reads = λ takes held. reads-fault reached change_said (Like r) meets (refl, refl) is takes ∙ rw e;
        ahead = λ v at' z. impossible (let y = sym e ∙ z in cc);
      }

-- ---- the trend, from part to part

-- the trend so far, n changes, and a part behind its word: the text is read as from there on
pub record Stands (text : List ℕ) (first : Word) (at : ℕ) (t : Trend) (w : Word) (n from : ℕ) : Type 0 where
  pub same : (o : Observation) → part_by text first (part_after (record { observation = o; trend = blank_trend }) first).takes 1 at
      ≡ part_by text w (part_after (record { observation = o; trend = t }) w).takes (n + 1) from
  pub count : t.count ≡ n
  pub plain : t.nosig ≡ false
  pub room : length t.items ≡ 3
  pub few : n < 3

pub stands-first : (text : List ℕ) (first : Word) (at : ℕ) → Stands text first at blank_trend first 0 at
stands-first text first at = record { same = λ o. refl; count = refl; plain = refl; room = refl; few = omega arith }

-- the trend with NOSIG, or with one change more
abbrev pub stored : Bool → Trend → ℕ → TrendChange → Trend
stored true t n c = record { items = set t.items n c; count = n + 1; nosig = t.nosig }
stored false t n c = record { items = t.items; count = t.count; nosig = true }

module _ {text : List ℕ} {first : Word} {at : ℕ} {t : Trend} {w : Word} {n from : ℕ} (stands : Stands text first at t w n from) (c : TrendChange) where
  takes-it : taking w t c ≡ stored (is_change w) t n c
  takes-it = go w
    where
      go : (v : Word) → taking v t c ≡ stored (is_change v) t n c
      go word.Nosig = refl
      go word.Becoming = rw (stands.count, lt-ltb n 3 stands.few)
      go word.Temporary = rw (stands.count, lt-ltb n 3 stands.few)

  holds : (o : Observation) → Holds (n + 1) (not (is_change w)) (record { observation = o; trend = stored (is_change w) t n c })
  holds o = go (is_change w)
    where
      go : (b : Bool) → Holds (n + 1) (not b) (record { observation = o; trend = stored b t n c })
      go true = record { alone = stands.plain; many = λ e. refl }
      go false = record { alone = refl; many = λ e. absurd (false≢true (sym e)) }

-- the part is read, and the trend has it
module _ {text : List ℕ} {first : Word} {at : ℕ} {t : Trend} {w : Word} {n from : ℕ} (stands : Stands text first at t w n from)
    {read : PartRead} (done : PartDone text w (n + 1) from read) {t' : Trend} (with_it : t' ≡ stored (is_change w) t n read.change) where
  goes_by : (o : Observation) → part_by text first (part_after (record { observation = o; trend = blank_trend }) first).takes 1 at
      ≡ after_part text (n + 1) (record { observation = o; trend = t' }) read.next
  goes_by o =
      let taken = takes-it stands read.change in
      stands.same o
      ∙ done.reads (part_after (record { observation = o; trend = t }) w).takes (rw taken (holds stands read.change o))
      ∙ rw (taken, with_it)

  pub trend-ends : {v : Result ℕ Refused} → read.next ≡ next.End v → TrendRead text first at (record { verdict = v; trend = t' })
  trend-ends ends o = rw ends at (goes_by o)

  pub trend-goes : {v : Word} {to : ℕ} → read.next ≡ next.Part v to → Stands text first at t' v (n + 1) to
  trend-goes goes =
      let h = done.ahead _ _ goes in
      record {
        same = λ o. rw goes at (goes_by o);
        count = rw (with_it, h.3);
        plain = rw (with_it, h.3) stands.plain;
        room = rw (with_it, h.3) (length-set t.items n read.change ∙ stands.room);
        few = h.2;
      }
