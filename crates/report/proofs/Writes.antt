-- A record's own part is written where the parts of the other kinds are blank; a record without a kind is refused, and the lent buffer stays as it came.
-- Assumes nothing.
use Rattle.std.specs.Prelude.{⊤, Err, Result}
use Rattle.text.specs.declared.kinds.Refusal.{Refusal}
use Prim.Native.Nat.{ℕ}
use mathlib.Core.Path.{◌≡◌, refl, sym, ap, ◌∙◌}
use mathlib.Core.Bool.{Bool, true, ◌&&◌}
use mathlib.Core.List.{List}
use lib.ListN.{length}
use Rattle.text.specs.declared.kinds.Refusal.TheVariants as refusal
use Rattle.text.specs.Write.{answer_by, buffer_by}
use Rattle.record.specs.declared.aerodrome.Edition.{Edition}
use Rattle.report_record.specs.declared.kinds.Kind.{Kind}
use Rattle.report_record.specs.declared.kinds.Kind.TheVariants as kind
use Rattle.report_record.specs.declared.kinds.Report.{Report}
use Rattle.report.specs.Write.{after_foreign, written_by, buffer_after, written_in, buffer_in}

module _ (own : Result ⊤ Refusal) (text b : List ℕ) {x y : Bool} (m n : Bool) (p : x ≡ m) (q : y ≡ n) where
  pub own-written : (x && y) ≡ true → {w : Result ℕ Refusal} {e : List ℕ} → (w ≡ answer_by own text (length b)) × (e ≡ buffer_by own text b)
      → (w ≡ answer_by (after_foreign (m && n) own) text (length b)) × (e ≡ buffer_by (after_foreign (m && n) own) text b)
  own-written t d = rw (← p, ← q, t) d

-- a record is written by its kind; without one it is refused
module _ (e : Edition) (r : Report) (b : List ℕ) where
  pub by_kind : (k : Kind) → r.kind ≡ k → {w : Result ℕ Refusal} {l : List ℕ} → (w ≡ written_by e k r (length b)) × (l ≡ buffer_after e k r b)
      → (w ≡ written_in e r (length b)) × (l ≡ buffer_in e r b)
  unfolding written_in buffer_in
  by_kind k is (p, q) = (p ∙ ap (λ (j : Kind). written_by e j r (length b)) (sym is), q ∙ ap (λ (j : Kind). buffer_after e j r b) (sym is))

  pub no_kind : r.kind ≡ kind.Missing → (Err refusal.Value ≡ written_in e r (length b)) × (b ≡ buffer_in e r b)
  no_kind is = by_kind kind.Missing is (refl, refl)
