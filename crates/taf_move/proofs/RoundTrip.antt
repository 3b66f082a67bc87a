-- "With one month length, old to new to old gives the same text, and new to old to new the same moments, hour 00 at an end becoming 24 of the day before."
-- Assumes nothing.
use Rattle.std.specs.Prelude.{⊤, Err, Ok, Result}
use Rattle.text.specs.declared.kinds.Refusal.{Refusal}
use Prim.Native.Nat.{ℕ}
use mathlib.Core.Path.{◌≡◌, refl, sym, ap, ◌∙◌}
use mathlib.Core.Bool.{true}
use mathlib.Core.List.{map}
use lib.ListN.{length, length-map}
use lib.Seq.{length_front}
use Rattle.figures.proofs.Impossible.{impossible}
use Rattle.text.specs.Judge.{judge, and_then}
use Rattle.text.proofs.Judging.{fine, and-then}
use Rattle.record.specs.declared.aerodrome.Edition.{Edition}
use Rattle.record.specs.declared.aerodrome.Edition.TheVariants as edition
use Rattle.record.specs.declared.aerodrome.Taf.{Taf}
use Rattle.record.specs.SilentAerodrome.{is_same_edition}
use Rattle.record.proofs.AerodromeBlanks.{edition-same, same-edition}
use Rattle.taf.specs.Write.{judge_of, judge_in}
use Rattle.taf_times.specs.declared.kinds.MovedTaf.{MovedTaf}
use Rattle.taf_times.specs.Move.{counted, judge_times, moments_of, whole_of, moved_change, moved_changes, times_in, moved_by}
use Rattle.taf_times.specs.Midnight.{midnights_before}
use Rattle.taf_times.proofs.Moves.{Timely, judged-fine, MovedBack, moved_back, old-stays}
use Rattle.taf_move.specs.Move.{other, judge_move, taf_moved}
use Rattle.taf_move.proofs.Again.{is-taken, taken-judged, taken-timely, comes-taken}

-- a TAF that is moved, and what comes
abbrev pub moved : Taf → MovedTaf
moved s = record { judged = Ok tt; forecast = s }

moved-fine : (j : Result ⊤ Refusal) (x s : Taf) → moved_by j x ≡ moved s → (j ≡ Ok tt) × (x ≡ s)
moved-fine (Ok tt) x s e = (refl, ap (λ (m : MovedTaf). m.forecast) e)
moved-fine (Err f) x s e = let b : Err f ≡ Ok tt = ap (λ (m : MovedTaf). m.judged) e in impossible (cc)

other-twice : (e : Edition) → other (other e) ≡ e
other-twice edition.Present = refl
other-twice edition.Of2005 = refl

-- what is judged of a TAF that is moved
record Judged-fine (to : Edition) (days : ℕ) (t : Taf) : Type 0 where
  edition : t.edition ≡ other to
  writer : judge_of t ≡ Ok tt
  times : judge_times days t ≡ Ok tt

judge-parts : (to : Edition) (days : ℕ) (t : Taf) → judge_move to days t ≡ Ok tt → Judged-fine to days t
unfolding judge_move judge_in
judge-parts to days t e =
    let a = and-then (and_then (judge (is_same_edition (other to) t.edition) true) (judge_of t)) (judge_times days t) e in
    let b = and-then (judge (is_same_edition (other to) t.edition) true) (judge_of t) a.0 in
    record { edition = sym (edition-same (other to) t.edition (fine _ true b.0).0); writer = b.1; times = a.1 }

parts-judge : (to : Edition) (days : ℕ) (t : Taf) → Judged-fine to days t → judge_move to days t ≡ Ok tt
unfolding judge_move judge_in
parts-judge to days t j =
    let same : is_same_edition (other to) t.edition ≡ true = rw j.edition (same-edition (other to)) in
    rw (same, j.writer) j.times

its-edition : (to : Edition) (days : ℕ) (t : Taf) → (times_in to days t).edition ≡ to
unfolding times_in
its-edition to days t = refl

its-slots : (to : Edition) (days : ℕ) (t : Taf) → length (times_in to days t).changes.items ≡ length t.changes.items
unfolding times_in moved_changes
its-slots to days t =
    let f = moved_change t.edition to days (whole_of days t) in
    length_front t.changes.items (map f (counted t.changes)) t.changes.count (length-map (counted t.changes) f)

module _ (to : Edition) (days : ℕ) (t s : Taf) (all : length t.changes.items ≡ 16) (m : taf_moved to days t ≡ moved s) where
  comes : (judge_move to days t ≡ Ok tt) × (times_in to days t ≡ s)
  unfolding taf_moved
  comes = moved-fine (judge_move to days t) (times_in to days t) s m

  parts : Judged-fine to days t
  parts = judge-parts to days t comes.0

  timely : Timely days t
  timely = taken-timely days t all (is-taken t parts.writer) (judged-fine days t parts.times).0

  turned : MovedBack days t s
  turned = rw comes.1 at (moved_back days t to timely parts.times)

  -- THE WRITER OF ITS EDITION TAKES WHAT COMES,
  pub moved-taken : judge_of s ≡ Ok tt
  moved-taken = rw comes.1 at (taken-judged (times_in to days t) (comes-taken days t all (is-taken t parts.writer) parts.times to))

  pub moved-edition : s.edition ≡ to
  moved-edition = sym (ap (λ (u : Taf). u.edition) comes.1) ∙ its-edition to days t

  moved-slots : length s.changes.items ≡ 16
  moved-slots = rw comes.1 at (its-slots to days t ∙ all)

  -- EVERY MOMENT STAYS,
  pub moved-moments : moments_of days s ≡ moments_of days t
  moved-moments = turned.moments

  -- AND MOVED BACK IT IS WHAT IT WAS, but that every end at hour 00 is 24 of the day before.
  pub moved-there-and-back : taf_moved (other to) days s ≡ moved (midnights_before days t)
  unfolding taf_moved
  moved-there-and-back =
      let own : s.edition ≡ other (other to) = moved-edition ∙ sym (other-twice to) in
      let back : times_in (other to) days s ≡ midnights_before days t = ap (λ (e : Edition). times_in e days s) (sym parts.edition) ∙ turned.back in
      rw (parts-judge (other to) days s (record { edition = own; writer = moved-taken; times = turned.judged }), back)

-- a record of 2005 has no end at hour 00
pub old-whole : (days : ℕ) (t s : Taf) → length t.changes.items ≡ 16 → taf_moved edition.Present days t ≡ moved s → midnights_before days t ≡ t
old-whole days t s all m = old-stays days t (parts edition.Present days t s all m).edition (timely edition.Present days t s all m)

-- OLD TO NEW TO OLD: the same record, and so the same text.
pub old-new-old : (days : ℕ) (t s : Taf) → length t.changes.items ≡ 16 → taf_moved edition.Present days t ≡ moved s → taf_moved edition.Of2005 days s ≡ moved t
old-new-old days t s all m = moved-there-and-back edition.Present days t s all m ∙ ap moved (old-whole days t s all m)

-- NEW TO OLD TO NEW: the same moments, and the record with each end at hour 00 as 24 of the day before.
pub new-old-new : (days : ℕ) (t s : Taf) → length t.changes.items ≡ 16 → taf_moved edition.Of2005 days t ≡ moved s
    → (taf_moved edition.Present days s ≡ moved (midnights_before days t)) × (moments_of days (midnights_before days t) ≡ moments_of days t)
new-old-new days t s all m =
    let back = moved-there-and-back edition.Of2005 days t s all m in
    (back, moved-moments edition.Present days s (midnights_before days t) (moved-slots edition.Of2005 days t s all m) back ∙ moved-moments edition.Of2005 days t s all m)
