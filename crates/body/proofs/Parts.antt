-- How a part of a report is read from group to group, as the loop of its reader meets them: for any report, part, row and limit.
-- Assumes nothing.
use Prim.Native.Nat.{ℕ, ◌+◌, ◌≤◌, ◌<◌}
use native.Mathlib.Omega.{arith}
use mathlib.Core.Path.{◌≡◌, refl, ◌∙◌}
use mathlib.Core.Bool.{Bool}
use mathlib.Core.List.{List}
use lib.ListN.{length}
use Rattle.text.specs.declared.kinds.Refusal.{Refusal}
use Rattle.text.specs.Groups.{groups_from, part_of}
use Rattle.text.specs.Text.{tail_of}
use Rattle.places.specs.Engine.{Group, Place, onward, Fault}
use Rattle.places.specs.Answer.{outcome_of, end_verdict}
use Rattle.places.specs.Parts.{Part, Parts, turned, unless, owes}
use Rattle.places.proofs.Turns.{comes, within, within-over, within_on, within-fault, within-halt, ends_so}
use Rattle.elements.specs.declared.kinds.Said.{Said}
use Rattle.body.specs.declared.kinds.Saying.{Saying}
use Rattle.body.specs.declared.kinds.Met.{Met}
use Rattle.body.specs.declared.kinds.Met.TheVariants as met
use Rattle.body.specs.Met.{Meets}

module _ {T P W R X : Type 0} where
  -- A part that any of `X` takes in has been read from a position on, so many parts to come after it: the text is read as from where reading stands.
  pub record Reached (parts : Parts T P W) (text : List ℕ) (part : X → Part T P W R) (row : List (Place R)) (halts : Group → Bool) (n first : ℕ) (r₀ : R) (start : ℕ)
      (c k : ℕ) (r : R) (at : ℕ) : Type 0 where
    pub held : (x : X) → ((part x).row ≡ row) × ((part x).halts ≡ halts)
    pub same : (x : X) → within parts text (part x) n 0 first r₀ start ≡ within parts text (part x) n c k r at
    pub later : start ≤ at

  pub starts : (parts : Parts T P W) (text : List ℕ) (part : X → Part T P W R) {row : List (Place R)} {halts : Group → Bool} (n first : ℕ) (r : R) (at : ℕ)
      → ((x : X) → ((part x).row ≡ row) × ((part x).halts ≡ halts)) → Reached parts text part row halts n first r at 0 first r at
  starts parts text part n first r at held = record { held = held; same = λ x. refl; later = omega arith }

  -- by the next group, as a reader meets it that sees this much of what was read
  module _ {parts : Parts T P W} {text : List ℕ} {part : X → Part T P W R} {row : List (Place R)} {halts : Group → Bool} {n first : ℕ} {r₀ : R} {start c k : ℕ} {r : R} {at : ℕ}
      (reached : Reached parts text part row halts n first r₀ start c k r at)
      (put : ℕ → Group → Said → R → R) (seen : R → Type 0) {m : Met} (meets : Meets row halts put c k seen text at m) (here : seen r) where
    met-as : {v : Met} → m ≡ v → Meets row halts put c k seen text at v
    met-as is = rw is at meets

    pub reads_over : m ≡ met.Over → (x : X) → within parts text (part x) n 0 first r₀ start ≡ outcome_of (end_verdict (tail_of text) (length text) (owes (part x) c k r)) ((part x).takes r)
    reads_over is x =
        reached.same x
        ∙ within-over parts text (part x) n c k r at (met-as is)
        ∙ ends_so (tail_of text) (length text) (owes (part x) c k r) ((part x).takes r)

    pub reads-fault : {f : Refusal} {from : ℕ} → m ≡ met.Refused f from → (x : X) → within parts text (part x) n 0 first r₀ start ≡ Fault f from
    reads-fault {f} {from} is x =
        let (to, lies, stops) = met-as is in
        reached.same x ∙ within-fault parts text (part x) n c k r at from to _ lies.groups f (rw ((reached.held x).0, (reached.held x).1) (stops r here))

    -- a word
    module _ {from to : ℕ} (is : m ≡ met.Halt from to) where
      pub reads_word : (x : X) → within parts text (part x) n 0 first r₀ start
          ≡ unless (owes (part x) c k r) from
          (turned (comes parts text n) ((part x).takes r) (record { start = from; bytes = part_of text from to }) (groups_from text to) ((part x).word ((part x).takes r) (part_of text from to)))
      reads_word x =
          let (lies, halt) = met-as is in
          reached.same x ∙ within-halt parts text (part x) n c k r at from to _ lies.groups (rw ((reached.held x).0, (reached.held x).1) (halt r here))

      pub word-ahead : (start < to) × (to ≤ length text)
      word-ahead = let (lies, halt) = met-as is in (omega (arith, reached.later, lies.ahead), lies.within)

    -- the group is taken
    module _ {s : Saying} (is : m ≡ met.Says s) where
      pub group-ahead : (at < s.end) × (s.end ≤ length text) × (s.count < 4)
      group-ahead = let (lies, few, goes) = met-as is in (lies.ahead, lies.within, few)

      pub reads_on : {c' : ℕ} {y : Said} {r' : R} → c' ≡ onward row s.place → s.said ≡ y → r' ≡ put s.count (part_of text s.start s.end) y r
          → Reached parts text part row halts n first r₀ start c' (s.count + 1) r' s.end
      reads_on past tells put-it =
          let (lies, few, goes) = met-as is in
          record {
            held = reached.held;
            same = λ x.
                reached.same x
                ∙ rw (past, put-it, ← tells) (within_on parts text (part x) n c k r at s.start s.end _ lies.groups _ _ _ (rw ((reached.held x).0, (reached.held x).1) (goes r here)));
            later = omega (arith, reached.later, lies.ahead);
          }
