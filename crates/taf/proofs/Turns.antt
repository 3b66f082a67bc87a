-- The laws of a TAF's parts: what a change word opens, how a part is read from group to group, what is read from a change on, and the groups behind the name.
-- Assumes nothing.
use Rattle.std.specs.Prelude.{Option, Result, Err, Ok}
use Prim.Native.Nat.{ℕ, suc, ◌+◌, ◌-◌, ◌≤◌, ◌<◌}
use native.Mathlib.Omega.{arith}
use native.Mathlib.Numerals.{add-one}
use mathlib.Core.Path.{◌≡◌, refl, sym, ap, ◌∙◌}
use mathlib.Core.Bool.{true, false}
use mathlib.Core.List.{List, [], ◌∷◌}
use lib.ListN.{length, set}
use lib.Seq.{sets, set_comm}
use borrow.Author.Tests.{lt-ltb}
use Rattle.text.specs.declared.kinds.Refusal.{Refusal}
use Rattle.text.specs.declared.kinds.Refusal.TheVariants as refusal
use Rattle.text.specs.declared.kinds.Refused.{Refused}
use Rattle.text.specs.Groups.{Piece, groups_from, part_of as bytes_of}
use Rattle.text.specs.Text.{tail_of}
use Rattle.text.proofs.Groups.{Follows}
use Rattle.figures.specs.Quote.{bytes}
use Rattle.figures.proofs.Impossible.{impossible}
use Rattle.shapes.specs.Pattern.{low, high, fits, has_any, clash, clash_each}
use Rattle.shapes.proofs.Patterns.{excluded-each}
use Rattle.places.specs.Engine.{Group, On, step, Outcome}
use Rattle.places.specs.Answer.{outcome_of}
use Rattle.places.specs.Parts.{run_to, step_by, opened, report_of}
use Rattle.places.proofs.Going.{step-first}
use Rattle.places.proofs.Turns.{comes, within, no_room, one_more}
use Rattle.record.specs.declared.aerodrome.Opening.{Opening}
use Rattle.record.specs.declared.aerodrome.Opening.TheVariants as kind
use Rattle.record.specs.declared.aerodrome.Period.{Period}
use Rattle.record.specs.declared.aerodrome.Leg.{Leg}
use Rattle.record.specs.declared.aerodrome.Change.{Change}
use Rattle.record.specs.declared.aerodrome.Edition.{Edition}
use Rattle.record.specs.declared.aerodrome.Edition.TheVariants as edition
use Rattle.record.specs.declared.aerodrome.Taf.{Taf}
use Rattle.record.specs.Taf.{blank_period, blank_leg, blank_taf, set_period}
use Rattle.body.specs.declared.kinds.Met.{Met}
use Rattle.body.specs.declared.kinds.Met.TheVariants as met
use Rattle.body.specs.Met.{Meets}
use Rattle.body.proofs.Parts.{Reached as PartReached, reads_over, reads_word, word-ahead, reads-fault}
use Rattle.taf_row.specs.declared.kinds.Part.{Part}
use Rattle.taf_row.specs.declared.kinds.Part.TheVariants as part
use Rattle.taf.specs.declared.kinds.Opened.{Opened}
use Rattle.taf.specs.declared.kinds.Next.TheVariants as next
use Rattle.taf.specs.declared.kinds.PartRead.{PartRead}
use Rattle.taf.specs.declared.kinds.Ahead.{Ahead}
use Rattle.taf.specs.declared.kinds.Reading.{Reading}
use Rattle.taf_row.specs.Row.{word, row, change_words}
use Rattle.taf_row.specs.Tests.{joins, owes_in}
use Rattle.taf.specs.Said.{part_said}
use Rattle.taf.specs.Read.{probable_group, from_group, opened_by, after_probable, part_of, change_of, part_in, change_part, changes, groups_read, behind_name, answer}
use Rattle.taf.specs.Step.{begun_by, BeginsIn, EndedPart, more_after, part_by, change_from, body_from, refused_at, after_part, MetWord, PartDone, none_ahead, ReadAhead, opened_with}

-- ---- what a change word opens

module _ (e : Edition) (g : Group) where
  pub opens-becoming : word "BECMG" g ≡ true → begun_by (Ok (opened_with kind.Becoming blank_period)) ≡ opened_by e g
  unfolding opened_by
  opens-becoming a = rw a

  module _ (a : word "BECMG" g ≡ false) where
    pub opens-temporary : word "TEMPO" g ≡ true → begun_by (Ok (opened_with kind.Temporary blank_period)) ≡ opened_by e g
    unfolding opened_by
    opens-temporary b = rw (a, b)

    module _ (b : word "TEMPO" g ≡ false) where
      pub opens-probable : word "PROB##" g ≡ true → probable_group g ≡ opened_by e g
      unfolding opened_by
      opens-probable c = rw (a, b, c)

      pub opens-from : word "PROB##" g ≡ false → from_group e g ≡ opened_by e g
      unfolding opened_by
      opens-from c = rw (a, b, c)

-- behind the word
module _ (text : List ℕ) (o : Opening) (at : ℕ) where
  pub begins-last : groups_from text at ≡ [] → BeginsIn text o at (record { opening = o; at = at })
  begins-last none e = record { reads = λ more t p. rw none; later = omega arith }

  module _ {start end : ℕ} {g : Group} (follows : Follows text at start end) (cut : g ≡ bytes_of text start end) where
    pub begins-joined : {b : Opening} → joins o g ≡ true → b ≡ after_probable o → BeginsIn text o at (record { opening = b; at = end })
    begins-joined j is e =
        record { reads = λ more t p. rw (is, follows.groups, ← cut, j); later = omega (arith, follows.after, follows.some) }

    pub begins-other : joins o g ≡ false → BeginsIn text o at (record { opening = o; at = at })
    begins-other j e = record { reads = λ more t p. rw (follows.groups, ← cut, j); later = omega arith }

-- ---- a change word ends a part

module _ (e : Edition) (g : Group) (start end n : ℕ) where
  pub meets-full : 16 ≤ n → MetWord e g start end n false (refused_at refusal.Limit start)
  meets-full h = record { reads = λ text t. no_room (tail_of text) (length text) (changes e) 16 n t _ (opened_by e g) (groups_from text end) h; ahead = λ o q to z. impossible (cc) }

  module _ (few : n < 16) (x : Result Opened Refusal) (begun : begun_by x ≡ opened_by e g) where
    abbrev opens : List ℕ → Taf → Outcome Taf
    opens text t = opened (tail_of text) (length text) (changes e) (more_after e text (n + 1)) t (record { start = start; bytes = g }) (begun_by x) (groups_from text end)

    room : (text : List ℕ) (t : Taf) → more_after e text n t (record { start = start; bytes = g }) (opened_by e g) (groups_from text end) ≡ opens text t
    room text t = rw begun (one_more (tail_of text) (length text) (changes e) 16 n t _ (opened_by e g) (groups_from text end) few)

    pub meets-good : (o : Opening) (p : Period) → x ≡ Ok (opened_with o p) → MetWord e g start end n false (next.Change o p end)
    unfolding change_from
    meets-good o p is = record { reads = λ text t. rw is at (room text t); ahead = λ o' q to z. let same : end ≡ to = cc in (sym same, few) }

    pub meets-bad : {f : Refusal} → x ≡ Err f → MetWord e g start end n false (refused_at f start)
    meets-bad is = record { reads = λ text t. rw is at (room text t); ahead = λ o q to z. impossible (cc) }

-- ---- a part, from group to group

-- a part has been read from a position on, n changes in the report that takes it in
abbrev pub Reached : Edition → List ℕ → Part → ℕ → ℕ → Leg → ℕ → ℕ → ℕ → Leg → ℕ → Type 0
Reached e text w n first r₀ start c k r at = PartReached (changes e) text (part_in e w) (row e w) (has_any (change_words e)) (16 - n) first r₀ start c k r at

-- a part with the body that the loop sees
abbrev Like : Leg → Leg → Type 0
Like r a = a.body ≡ r.body

-- and ends with the next group, as the part with this body meets it
module _ {e : Edition} {text : List ℕ} {w : Part} {n first : ℕ} {r₀ : Leg} {start c k : ℕ} {r : Leg} {at : ℕ} (reached : Reached e text w n first r₀ start c k r at)
    {m : Met} (meets : Meets (row e w) (has_any (change_words e)) part_said c k (Like r) text at m) where
  pub part-over : {x : PartRead} → m ≡ met.Over → EndedPart text w c k r x → PartDone e text w n first r₀ start x
  unfolding part_by within comes
  part-over is ended =
      record { reads = λ takes. rw (ended e) (reads_over reached part_said (Like r) meets refl is takes); ahead = λ o q to z. impossible (let y = rw (ended e) at z in cc) }

  pub part-word : {from to : ℕ} {x : PartRead} → m ≡ met.Halt from to
      → (x.leg ≡ r) × MetWord e (bytes_of text from to) from to n (owes_in e w c k r) x.next → PartDone e text w n first r₀ start x
  unfolding part_by within comes
  part-word is (same, word) =
      let (before, inside) = word-ahead reached part_said (Like r) meets refl is in
      record {
        reads = λ takes. reads_word reached part_said (Like r) meets refl is takes ∙ rw same (word.reads text (takes r));
        ahead = λ o q at' z. let h = word.ahead o q at' z in rw h.0 (before, inside, h.1);
      }

  pub part-fault : {f : Refusal} {from : ℕ} {x : PartRead} → m ≡ met.Refused f from → x.next ≡ refused_at f from → PartDone e text w n first r₀ start x
  unfolding part_by within comes
  part-fault is at-fault =
      record { reads = λ takes. reads-fault reached part_said (Like r) meets refl is takes ∙ rw at-fault; ahead = λ o q at' z. impossible (let y = sym at-fault ∙ z in cc) }

-- ---- what is read from a change on

-- a store before a run of stores
set_before : (xs : List Change) (n m : ℕ) (c : Change) (cs : List Change) → n < m → set (sets xs m cs) n c ≡ sets (set xs n c) m cs
set_before xs n m c [] h = refl
set_before xs n m c (d ∷ cs) h =
    set_before (set xs m d) n (suc m) c cs (omega arith) ∙ ap (λ (l : List Change). sets l (suc m) cs) (set_comm xs m n d c (omega arith))

module _ (e : Edition) (text : List ℕ) (n : ℕ) (o : Opening) (p : Period) (at : ℕ) (few : n < 16) {w : Part} (held : w ≡ part_of o) {read : PartRead}
    (done : PartDone e text w (n + 1) 0 (set_period p blank_leg) at read) {c : Change} (made : c ≡ change_of o read.leg) where
  -- the part is taken in, and what follows it
  abbrev takes : Taf → Taf
  takes t = record { edition = t.edition; leg = t.leg; changes = record { items = set t.changes.items n c; count = n + 1 } }

  follows-body : (t : Taf) → t.changes.count ≡ n → body_from e text n o p at t ≡ after_part e text (n + 1) (takes t) read.next
  unfolding body_from part_by
  follows-body t q =
      let with_it : (change_part e t o).takes read.leg ≡ takes t = rw (q, lt-ltb n 16 few, made) in
      (rw held at (done.reads (λ r. (change_part e t o).takes r))) ∙ ap (λ (x : Taf). after_part e text (n + 1) x read.next) with_it

  pub body-ends : {v : Result ℕ Refused} {a : Ahead} → read.next ≡ next.End v → a ≡ none_ahead v (n + 1)
      → ReadAhead n (body_from e text n o p at) (record { verdict = a.verdict; items = set a.items n c; count = a.count })
  body-ends is none =
      record {
        more = c ∷ [];
        items = rw none;
        count = rw none;
        says = λ t q. follows-body t q ∙ rw (is, none);
      }

  pub body-goes : {o' : Opening} {p' : Period} {to : ℕ} {a : Ahead} → read.next ≡ next.Change o' p' to → ReadAhead (n + 1) (change_from e text (n + 1) o' p' to) a
      → ReadAhead n (body_from e text n o p at) (record { verdict = a.verdict; items = set a.items n c; count = a.count })
  body-goes is next =
      let many : n + 1 + length next.more ≡ n + length (c ∷ next.more) = omega arith in
      record {
        more = c ∷ next.more;
        items = rw next.items (set_before blank_taf.changes.items n (n + 1) c next.more (omega arith) ∙ rw (add-one n));
        count = next.count ∙ many;
        says = λ t q. (rw is at (follows-body t q)) ∙ next.says (takes t) refl ∙ rw (many, add-one n);
      }

-- behind the word, from where its part begins
pub change-goes : (e : Edition) (text : List ℕ) (n : ℕ) (o b : Opening) (p : Period) (at to : ℕ) {a : Ahead} → BeginsIn text o at (record { opening = b; at = to })
    → ReadAhead n (body_from e text n b p to) a → ReadAhead n (change_from e text n o p at) a
unfolding change_from body_from
change-goes e text n o b p at to begins ahead =
    record { more = ahead.more; items = ahead.items; count = ahead.count; says = λ t q. (begins e).reads (more_after e text (n + 1)) t (set_period p blank_leg) ∙ ahead.says t q }

-- ---- the main part, from behind the name on

module _ {e : Edition} {text : List ℕ} {at : ℕ} {read : PartRead} (done : PartDone e text part.Main 0 1 blank_leg at read) where
  abbrev whole : Reading
  whole = answer (behind_name e (tail_of text) (length text) (groups_from text at))

  main-reads : behind_name e (tail_of text) (length text) (groups_from text at) ≡ after_part e text 0 (record { edition = e; leg = read.leg; changes = blank_taf.changes }) read.next
  unfolding behind_name part_by
  main-reads = done.reads (λ r. record { edition = e; leg = r; changes = blank_taf.changes })

  pub main-ends : {v : Result ℕ Refused} → read.next ≡ next.End v → answer (outcome_of v (record { edition = e; leg = read.leg; changes = blank_taf.changes })) ≡ whole
  main-ends is = ap answer (sym (rw is at main-reads))

  pub main-goes : {o : Opening} {p : Period} {to : ℕ} {a : Ahead} → read.next ≡ next.Change o p to → ReadAhead 0 (change_from e text 0 o p to) a
      → answer (outcome_of a.verdict (record { edition = e; leg = read.leg; changes = record { items = a.items; count = a.count } })) ≡ whole
  main-goes is ahead =
      let t : Taf = record { edition = e; leg = read.leg; changes = blank_taf.changes } in
      sym (ap answer (rw (← ahead.items, ← ahead.count) at ((rw is at main-reads) ∙ ahead.says t refl)))

-- ---- the name, at the main row's first place

no_change : (e : Edition) (g : Group) → word "TAF" g ≡ true → has_any (change_words e) g ≡ false
unfolding change_words clash_each clash fits low high
no_change edition.Present g is = excluded-each g (bytes "TAF") (change_words edition.Present) refl is
no_change edition.Of2005 g is = excluded-each g (bytes "TAF") (change_words edition.Of2005) refl is

module _ (e : Edition) (g : Group) (is : word "TAF" g ≡ true) where
  stands-first : step (row e part.Main) (change_words e) 0 0 blank_leg g ≡ On 0 1 blank_leg
  unfolding row
  stands-first = step-first _ _ (change_words e) blank_leg g is (omega arith) (no_change e g is)

  taken-first : step_by (row e part.Main) (has_any (change_words e)) 0 0 blank_leg g ≡ On 0 1 blank_leg
  unfolding step
  taken-first = stands-first

-- BEHIND THE NAME the groups come to what all groups come to.
pub past-name : (e : Edition) (tail : Option ℕ) (end : ℕ) (g : Piece) (gs : List Piece) → word "TAF" g.bytes ≡ true
    → groups_read e tail end (g ∷ gs) ≡ behind_name e tail end gs
unfolding groups_read behind_name report_of run_to
past-name e tail end g gs is = rw (taken-first e g.bytes is)
