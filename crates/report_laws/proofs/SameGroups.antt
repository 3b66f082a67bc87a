-- WHAT A READING DEPENDS ON: the bytes of a text's groups. How the groups are parted (blanks, CR, LF), and where they stand, decides no more than the
-- place that the answer names (`groups-decide`). So a text is read as its groups in canonical spacing are (`spacing-free`), and the part that `standing`
-- hands back, read alone, says what the text said (`trimmed-alone`, `standing-alone`). It is so because every reader goes by the bytes of a group and
-- hands on where it stands: of any row, any parts and any record, and so of each kind.
-- Assumes nothing.
use Rattle.std.specs.Prelude.{Err, None, Ok, Option, Result, Some}
use Prim.Native.Nat.{ℕ, zero, suc, ◌+◌, ◌-◌, ◌≤◌, ◌<◌}
use native.Mathlib.Omega.{arith}
use mathlib.Core.Path.{◌≡◌, refl, sym, ap, subst, ◌∙◌}
use mathlib.Core.Bool.{Bool, true, false, false≢true, cond, ◌&&◌, ◌||◌}
use mathlib.Core.List.{List, [], ◌∷◌, ◌++◌, map}
use lib.ListN.{length, take, drop, take-append-drop, length-drop, length-append}
use lib.Seq.{take_all, take-append-le, length-take-le}
use lib.Dec.{eqb, leb, ltb}
use borrow.Author.Tests.{eqb-true, ltb-true, ltb-false, leb-true, leb-false}
use denote.Ref.{Bor}
use Rattle.figures.proofs.Impossible.{impossible}
use Rattle.text.specs.declared.kinds.Refusal.{Refusal}
use Rattle.text.specs.declared.kinds.Refusal.TheVariants as refusal
use Rattle.text.specs.declared.kinds.Bytes.TheVariants as judgement
use Rattle.text.specs.Numbers.{verdict_numbers}
use Rattle.text.specs.Bytes.{parting, inner, other, allowed, lead, last_end}
use Rattle.text.specs.Groups.{Piece, groups_in, groups_from, spaced, parted, join, Every, Everywhere, Whole, Wholes}
use Rattle.text.specs.Text.{equals_at, bytes_of, tail_of, is_bare, trimmed_of, TrimmedPart}
use Rattle.text.proofs.Leads.{lead-cons-yes, lead-cons-no, lead-le, last-le}
use Rattle.text.proofs.Groups.{part-is, part-nothing, past_end, inner-not-parting, from-parting}
use Rattle.text.proofs.Texts.{bytes-sound, junk-none, trimmed-start, trimmed-equals, trimmed-last}
use Rattle.text.proofs.Joins.{round-trip-bytes, length-join, join-tail, join-sound}
use Rattle.text.specs.Refusals.{refused_with}
use Rattle.shapes.specs.Pattern.{Pattern}
use Rattle.places.specs.Engine.{Group, Place, Step, On, Halt, Stop, Outcome, Done, Fault, finish}
use Rattle.places.specs.Parts.{Exits, step_by, carry_to, run_to, Begun, Word, Ends, Opens, Bars, Part, Parts, Further, turned, ended, unless, owes, part_exits, part_from, after_first, begins, further, report_of}
use Rattle.record.specs.declared.surface.Synop.{Synop}
use Rattle.record.specs.Set.{set_surface}
use Rattle.record.specs.Observation.{blank_observation}
use Rattle.record.specs.declared.aerodrome.Edition.{Edition}
use Rattle.record.specs.declared.aerodrome.Edition.TheVariants as edition
use Rattle.record.specs.Taf.{blank_leg}
use Rattle.synop_row.specs.Row as synop-row
use Rattle.synop_section.specs.Answer as section
use Rattle.synop_section.specs.Answer.{begun}
use Rattle.synop.specs.Read as synop
use Rattle.trend.specs.Read as trend
use Rattle.metar.specs.Read as metar
use Rattle.taf.specs.Read as taf
use Rattle.report_record.specs.declared.kinds.Kind.{Kind}
use Rattle.report_record.specs.declared.kinds.Kind.TheVariants as kind
use Rattle.report_record.specs.declared.kinds.Name.{Name}
use Rattle.report_record.specs.declared.kinds.Name.TheVariants as name
use Rattle.report_record.specs.declared.kinds.Report.{Report}
use Rattle.report_record.specs.declared.kinds.Reading.{Reading}
use Rattle.report_record.specs.declared.kinds.Stands.{Stands}
use Rattle.report_record.specs.declared.kinds.Stands.TheVariants as stands
use Rattle.report_record.specs.Kinship.{is_observed, is_forecast, metar_corrects, taf_corrects, corrects, judge_standing}
use Rattle.report_record.specs.Record.{blank_report, surface_report, observed_report, forecast_report, accepted, refused}
use Rattle.report.specs.Read.{word, name_by, first_name, name_of, answered, read_as, read_in, read_of}
use Rattle.report.specs.Standing.{stands_of, PartStanding}
use Rattle.report.proofs.Names.{behind-first}
use Rattle.report_laws.proofs.ByName.{Named, AcceptedAs, a-surface, an-observed, a-forecast, accepted-as, same-fault}
use Rattle.report_laws.proofs.Demands.{Answered, yes, no, every-text, Exactly}

-- ---- groups with the same bytes, wherever they stand

abbrev piece : ℕ → Group → Piece
piece at g = record { start = at; bytes = g }

data Same : List Piece → List Piece → Type 0 where
  none : Same [] []
  more : (g : Group) (p q : ℕ) (gs hs : List Piece) → Same gs hs → Same (piece p g ∷ gs) (piece q g ∷ hs)

-- the bytes of the groups of a text, in their order
abbrev pub group_bytes : List Piece → List Group
group_bytes gs = map (λ (g : Piece). g.bytes) gs

same_bytes : (gs hs : List Piece) → group_bytes gs ≡ group_bytes hs → Same gs hs
same_bytes [] [] e = none
same_bytes [] (h ∷ hs) e = impossible (cc)
same_bytes (g ∷ gs) [] e = impossible (cc)
same_bytes (g ∷ gs) (h ∷ hs) e =
    let here : g.bytes ≡ h.bytes = cc in
    let behind : group_bytes gs ≡ group_bytes hs = cc in
    subst (λ (x : Group). Same (g ∷ gs) (piece h.start x ∷ hs)) here (more g.bytes g.start h.start gs hs (same_bytes gs hs behind))

-- ---- two readings of them: the same record, or the same refusal. `J` holds where something may follow the "=" of the first text and nothing follows that
-- of the second: then the first may be refused 4 for it.

data Tails (J : Type 0) : Option ℕ → Option ℕ → Type 0 where
  clear : Tails J None None
  junk : (a b : ℕ) → Tails J (Some a) (Some b)
  freed : J → (a : ℕ) → Tails J (Some a) None

data Alike {R : Type 0} (J : Type 0) : Outcome R → Outcome R → Type 0 where
  both-done : (a b : ℕ) (r : R) → Alike J (Done a r) (Done b r)
  both-fault : (f : Refusal) (a b : ℕ) → Alike J (Fault f a) (Fault f b)
  trailing : J → (a : ℕ) (o : Outcome R) → Alike J (Fault refusal.Shape a) o

module _ {R : Type 0} (J : Type 0) where
  finish-alike : (owes : Bool) (a b : ℕ) (r : R) → Alike J (finish owes a r) (finish owes b r)
  finish-alike true a b r = both-fault refusal.Absence a b
  finish-alike false a b r = both-done a b r

  unless-alike : (owes : Bool) (a b : ℕ) {o o' : Outcome R} → Alike J o o' → Alike J (unless owes a o) (unless owes b o')
  unless-alike true a b s = both-fault refusal.Absence a b
  unless-alike false a b s = s

  ended-alike : {u v : Option ℕ} → Tails J u v → (m n : ℕ) (owes : Bool) (r : R) → Alike J (ended u m owes r) (ended v n owes r)
  ended-alike clear m n owes r = finish-alike owes m n r
  ended-alike (junk a b) m n owes r = both-fault refusal.Shape a b
  ended-alike (freed j a) m n owes r = trailing j a (finish owes n r)

-- ---- a row, up to wherever it ends
module _ {R X : Type 0} (Q : X → X → Type 0) (row : List (Place R)) (halts : Group → Bool) (x y : Exits R X)
    (at-end : (c k : ℕ) (r : R) → Q (x.over c k r) (y.over c k r))
    (at-halt : (c k : ℕ) (r : R) (g : Group) (p q : ℕ) (gs hs : List Piece) → Same gs hs → Q (x.halt c k r (piece p g) gs) (y.halt c k r (piece q g) hs))
    (at-fault : (f : Refusal) (p q : ℕ) → Q (x.fault f p) (y.fault f q)) where
  runs-alike : {gs hs : List Piece} → Same gs hs → (c k : ℕ) (r : R) → Q (run_to row halts x c k r gs) (run_to row halts y c k r hs)
  unfolding run_to
  runs-alike none c k r = at-end c k r
  runs-alike (more g p q gs hs s) c k r = go (step_by row halts c k r g) (λ c' k' r'. runs-alike s c' k' r')
    where
      go : (e : Step R) → ((c k : ℕ) (r : R) → Q (run_to row halts x c k r gs) (run_to row halts y c k r hs))
          → Q (carry_to e x c k r (piece p g) gs (λ c' k' r'. run_to row halts x c' k' r' gs))
          (carry_to e y c k r (piece q g) hs (λ c' k' r'. run_to row halts y c' k' r' hs))
      go (On c' k' r') ih = ih c' k' r'
      go Halt ih = at-halt c k r g p q gs hs s
      go (Stop f) ih = at-fault f p q

module _ (J : Type 0) {u v : Option ℕ} (tails : Tails J u v) (m n : ℕ) where
  -- ---- a report of parts
  module _ {T P W : Type 0} where
    abbrev AlikeFurther : Further T P W → Further T P W → Type 0
    AlikeFurther f h =
        (t : T) (g : Group) (p q : ℕ) (x : Result (Begun W P) Refusal) (gs hs : List Piece) → Same gs hs → Alike J (f t (piece p g) x gs) (h t (piece q g) x hs)

    module _ (f h : Further T P W) (after : AlikeFurther f h) where
      turned-alike : (t : T) (g : Group) (p q : ℕ) (gs hs : List Piece) → Same gs hs → (x : Word W P)
          → Alike J (turned f t (piece p g) gs x) (turned h t (piece q g) hs x)
      turned-alike t g p q gs hs s Ends = both-done p q t
      turned-alike t g p q gs hs s (Opens x) = after t g p q x gs hs s
      turned-alike t g p q gs hs s (Bars e) = both-fault e p q

      part-alike : {R : Type 0} (part : Part T P W R) {gs hs : List Piece} → Same gs hs → (c k : ℕ) (r : R)
          → Alike J (part_from u m part f c k r gs) (part_from v n part h c k r hs)
      part-alike part s c k r =
          runs-alike (Alike J) part.row part.halts (part_exits u m part f) (part_exits v n part h)
          (λ c k r. ended-alike J tails m n (owes part c k r) (part.takes r))
          (λ c k r g p q gs hs s. unless-alike J (owes part c k r) p q (turned-alike (part.takes r) g p q gs hs s (part.word (part.takes r) g)))
          (λ e p q. both-fault e p q) s c k r

      begins-alike : (parts : Parts T P W) (t : T) (w : W) (a : P) {gs hs : List Piece} → Same gs hs → Alike J (begins u m parts f t w a gs) (begins v n parts h t w a hs)
      begins-alike parts t w a none = part-alike (parts.part t w) none 0 0 a
      begins-alike parts t w a (more g p q gs hs s) = go (parts.joins w g)
        where
          go : (b : Bool) → Alike J (after_first u m parts b f t w a (piece p g) gs) (after_first v n parts b h t w a (piece q g) hs)
          go true = part-alike (parts.part t (parts.joined w)) s 0 0 a
          go false = part-alike (parts.part t w) (more g p q gs hs s) 0 0 a

    module _ (parts : Parts T P W) where
      further-alike : (limit : ℕ) → AlikeFurther (further u m parts limit) (further v n parts limit)
      unfolding further
      further-alike zero t g p q x gs hs s = both-fault refusal.Limit p q
      further-alike (suc limit) t g p q (Ok b) gs hs s =
          begins-alike (λ t' g' x' gs'. further u m parts limit t' g' x' gs') (λ t' g' x' gs'. further v n parts limit t' g' x' gs')
          (further-alike limit) parts t b.kind b.start s
      further-alike (suc limit) t g p q (Err f) gs hs s = both-fault f p q

      report-alike : {M : Type 0} (limit : ℕ) (main : Part T P W M) (r : M) {gs hs : List Piece} → Same gs hs
          → Alike J (report_of u m parts limit main r gs) (report_of v n parts limit main r hs)
      unfolding report_of
      report-alike limit main r s = part-alike (further u m parts limit) (further v n parts limit) (further-alike limit) main s 0 0 r

  -- ---- METAR and SPECI, TAF
  observed-alike : {gs hs : List Piece} → Same gs hs → Alike J (metar.groups_read u m gs) (metar.groups_read v n hs)
  unfolding metar.groups_read
  observed-alike s = report-alike trend.parts 3 metar.main_part blank_observation s

  forecast-alike : (chosen : Edition) {gs hs : List Piece} → Same gs hs → Alike J (taf.groups_read chosen u m gs) (taf.groups_read chosen v n hs)
  unfolding taf.groups_read
  forecast-alike chosen s = report-alike (taf.changes chosen) 16 (taf.main_part chosen) blank_leg s

  -- ---- SYNOP and SHIP
  section-alike : (r : Synop) {gs hs : List Piece} → Same gs hs → Alike J (section.section r u m gs) (section.section r v n hs)
  unfolding section.section
  section-alike r s = report-alike section.parts 1 (section.first_part (synop-row.needs_of r.surface) (λ u. set_surface u r)) r.surface s

  short-alike : {u v : Option ℕ} → Tails J u v → Alike J (synop.cut_short u m) (synop.cut_short v n)
  short-alike clear = both-fault refusal.Absence m n
  short-alike (junk a b) = both-fault refusal.Shape a b
  short-alike (freed j a) = trailing j a (synop.cut_short None n)

  nil-alike : {u v : Option ℕ} → Tails J u v → (r : Synop) {gs hs : List Piece} → Same gs hs → Alike J (synop.after_nil u m r gs) (synop.after_nil v n r hs)
  nil-alike clear r none = both-done m n _
  nil-alike clear r (more g p q gs hs s) = both-fault refusal.Shape p q
  nil-alike (junk a b) r none = both-fault refusal.Shape a b
  nil-alike (junk a b) r (more g p q gs hs s) = both-fault refusal.Shape p q
  nil-alike (freed j a) r none = trailing j a (synop.after_nil None n r [])
  nil-alike (freed j a) r (more g p q gs hs s) = both-fault refusal.Shape p q

  either-alike : (b : Bool) {x y x' y' : Outcome Synop} → Alike J x x' → Alike J y y' → Alike J (cond b x y) (cond b x' y')
  either-alike true p q = p
  either-alike false p q = q

  walk-alike : (ps : List synop.Post) (r : Synop) {gs hs : List Piece} → Same gs hs → Alike J (synop.walk ps r u m gs) (synop.walk ps r v n hs)
  unfolding synop.walk
  walk-alike [] r s = section-alike r s
  walk-alike (p ∷ ps) r none = short-alike tails
  walk-alike (p ∷ ps) r (more g a b gs hs s) =
      either-alike (p.nil && synop.is_nil g) (nil-alike tails r s)
      (either-alike (p.has g) (go (p.read g r) (λ r'. walk-alike ps r' s)) (both-fault refusal.Shape a b))
    where
      go : (x : Result Synop Refusal) → ((r : Synop) → Alike J (synop.walk ps r u m gs) (synop.walk ps r v n hs))
          → Alike J (synop.onward x a (λ r'. synop.walk ps r' u m gs)) (synop.onward x b (λ r'. synop.walk ps r' v n hs))
      go (Ok r') k = k r'
      go (Err f) k = both-fault f a b

  surface-alike : (ship : Bool) {gs hs : List Piece} → Same gs hs → Alike J (synop.groups_read ship u m gs) (synop.groups_read ship v n hs)
  unfolding synop.groups_read
  surface-alike ship s = walk-alike (synop.posts ship) (begun ship) s

-- ---- a text of any kind

data Answers (J : Type 0) : Reading → Reading → Type 0 where
  yes_both : (a b : ℕ) (r : Report) → Answers J (accepted a r) (accepted b r)
  no_both : (f : Refusal) (a b : ℕ) → Answers J (refused f a) (refused f b)
  no-first : J → (a : ℕ) (x : Reading) → Answers J (refused refusal.Shape a) x

answers : {R J : Type 0} (within : R → Report) {o o' : Outcome R} → Alike J o o' → Answers J (answered within o) (answered within o')
answers within (both-done a b r) = yes_both a b (within r)
answers within (both-fault f a b) = no_both f a b
answers within (trailing j a o) = no-first j a (answered within o)

-- the name by which of the five words the first group is
abbrev named : ℕ → ℕ → Bool → Bool → Bool → Bool → Bool → Name
named start end a b c d e =
    cond a (name.Surface false end)
    (cond b (name.Surface true end) (cond c (name.Observed false end) (cond d (name.Observed true end) (cond e (name.Forecast end) (name.Refused refusal.Kind start)))))

module _ (chosen : Edition) (J : Type 0) (t u : List ℕ) (tails : Tails J (tail_of t) (tail_of u)) where
  -- by the word that the first group is
  by_word : (g : Group) (p q : ℕ) (gs hs : List Piece) → Same gs hs → groups_from t 0 ≡ piece p g ∷ gs → groups_from u 0 ≡ piece q g ∷ hs
      → Answers J (read_as chosen t (name_by g p (p + length g))) (read_as chosen u (name_by g q (q + length g)))
  by_word g p q gs hs s here there = go (word "AAXX" g) (word "BBXX" g) (word "METAR" g) (word "SPECI" g) (word "TAF" g)
    where
      all : Same (groups_from t 0) (groups_from u 0)
      all = rw (here, there) (more g p q gs hs s)

      behind : Same (groups_from t (p + length g)) (groups_from u (q + length g))
      behind = rw (behind-first t (piece p g) gs here, behind-first u (piece q g) hs there) s

      go : (a b c d e : Bool) → Answers J (read_as chosen t (named p (p + length g) a b c d e)) (read_as chosen u (named q (q + length g) a b c d e))
      go true b c d e = answers surface_report (surface-alike J tails (length t) (length u) false behind)
      go false true c d e = answers surface_report (surface-alike J tails (length t) (length u) true behind)
      go false false true d e = answers observed_report (observed-alike J tails (length t) (length u) all)
      go false false false true e = answers observed_report (observed-alike J tails (length t) (length u) all)
      go false false false false true = answers forecast_report (forecast-alike J tails (length t) (length u) chosen all)
      go false false false false false = no_both refusal.Kind p q

  same-answers : bytes_of t ≡ judgement.Sound → bytes_of u ≡ judgement.Sound
      → group_bytes (groups_from t 0) ≡ group_bytes (groups_from u 0) → Answers J (read_in chosen t) (read_in chosen u)
  unfolding read_in name_of
  same-answers sound sound' same = rw (sound, sound') (go (groups_from t 0) (groups_from u 0) refl refl (same_bytes (groups_from t 0) (groups_from u 0) same))
    where
      go : (gs hs : List Piece) → groups_from t 0 ≡ gs → groups_from u 0 ≡ hs → Same gs hs → Answers J (read_as chosen t (first_name gs)) (read_as chosen u (first_name hs))
      go _ _ here there none = no_both refusal.Kind 0 0
      go _ _ here there (more g p q gs hs s) = by_word g p q gs hs s here there

-- ==== TWO TEXTS WITH THE SAME GROUPS ARE READ ALIKE: both are accepted, with the same record, or both refused, by the same number. Only the places, where the
-- unread rest begins or the fault stands, are each text's own.
pub data ReadAlike : Reading → Reading → Type 0 where
  both-accepted : (rest rest' : ℕ) (r : Report) → ReadAlike (accepted rest r) (accepted rest' r)
  both-refused : (f : Refusal) (at at' : ℕ) → ReadAlike (refused f at) (refused f at')

-- a text is accepted with that record, refused for that cause, wherever the rest begins or the fault stands
abbrev pub AcceptedWith : Report → Reading → Type 0
AcceptedWith r a = (rest : ℕ) × (a ≡ accepted rest r)

abbrev pub RefusedFor : Refusal → Reading → Type 0
RefusedFor f a = (at : ℕ) × (a ≡ refused f at)

turn : {a b : Reading} → ReadAlike a b → ReadAlike b a
turn (both-accepted rest rest' r) = both-accepted rest' rest r
turn (both-refused f at at') = both-refused f at' at

accepted-too : {a b : Reading} → ReadAlike a b → (r : Report) → AcceptedWith r a → AcceptedWith r b
accepted-too (both-accepted rest rest' q) r (at, e) = (rest', ap (accepted rest') (ap (λ (x : Reading). x.report) e))
accepted-too (both-refused f p p') r (at, e) = let v : Err (refused_with f p) ≡ Ok at = ap (λ (x : Reading). x.verdict) e in impossible (cc)

refused-too : {a b : Reading} → ReadAlike a b → (f : Refusal) → RefusedFor f a → RefusedFor f b
refused-too (both-accepted rest rest' q) f (at, e) = let v : Ok rest ≡ Err (refused_with f at) = ap (λ (x : Reading). x.verdict) e in impossible (cc)
refused-too (both-refused g p p') f (at, e) =
    (p', ap (λ (x : Refusal). refused x p') (same-fault (ap (λ (x : Reading). x.verdict) e)).0)

-- Of both the length and the bytes are those that a text may have, so that neither is refused 1 or 2; group by group they have the same bytes; and something
-- other than parting bytes follows the "=" of both or of neither. What stands between the groups, before them and behind them is free: space, CR, LF.
module _ (chosen : Edition) (t u : List ℕ) (sound : bytes_of t ≡ judgement.Sound) (sound' : bytes_of u ≡ judgement.Sound)
    (same : group_bytes (groups_from t 0) ≡ group_bytes (groups_from u 0)) where
  pub alike-anyway : Exactly (tail_of t ≡ None) (tail_of u ≡ None) → ReadAlike (read_in chosen t) (read_in chosen u)
  alike-anyway both = go (same-answers chosen ⊥ t u (tails (tail_of t) (tail_of u) both.only both.all) sound sound' same)
    where
      tails : (v w : Option ℕ) → (v ≡ None → w ≡ None) → (w ≡ None → v ≡ None) → Tails ⊥ v w
      tails None None f h = clear
      tails None (Some b) f h = let e : Some b ≡ None = f refl in impossible (cc)
      tails (Some a) None f h = let e : Some a ≡ None = h refl in impossible (cc)
      tails (Some a) (Some b) f h = junk a b

      go : {a b : Reading} → Answers ⊥ a b → ReadAlike a b
      go (yes_both a b r) = both-accepted a b r
      go (no_both f a b) = both-refused f a b
      go (no-first j a x) = absurd j

  -- nothing follows the "=" of either
  module _ (clean : tail_of t ≡ None) (clean' : tail_of u ≡ None) where
    pub groups-decide : ReadAlike (read_in chosen t) (read_in chosen u)
    groups-decide = alike-anyway (record { only = λ e. clean'; all = λ e. clean })

    -- the records are equal
    pub records-equal : (read_in chosen t).report ≡ (read_in chosen u).report
    records-equal = go groups-decide
      where
        go : {a b : Reading} → ReadAlike a b → a.report ≡ b.report
        go (both-accepted rest rest' r) = refl
        go (both-refused f at at') = refl

    -- the one is accepted, with a record, exactly when the other is, and refused for a cause exactly when the other is
    pub accepted-both : (r : Report) → Exactly (AcceptedWith r (read_in chosen t)) (AcceptedWith r (read_in chosen u))
    accepted-both r = record { only = accepted-too groups-decide r; all = accepted-too (turn groups-decide) r }

    pub refused-both : (f : Refusal) → Exactly (RefusedFor f (read_in chosen t)) (RefusedFor f (read_in chosen u))
    refused-both f = record { only = refused-too groups-decide f; all = refused-too (turn groups-decide) f }

    -- in the paper's numbers, 0 of an accepted text
    pub numbers-equal : (verdict_numbers (read_in chosen t).verdict).refusal ≡ (verdict_numbers (read_in chosen u).verdict).refusal
    numbers-equal = go groups-decide
      where
        go : {a b : Reading} → ReadAlike a b → (verdict_numbers a.verdict).refusal ≡ (verdict_numbers b.verdict).refusal
        go (both-accepted rest rest' r) = refl
        go (both-refused f at at') = refl

-- ==== THE TRIMMED PART, READ ALONE, SAYS WHAT THE TEXT SAYS

-- ---- how far a run of bytes, and the last byte that is no parting byte, reach into a part
module _ (P : ℕ → Bool) where
  -- past bytes that pass
  lead-behind : (s : ℕ) (l : List ℕ) → s ≤ lead P l → lead P l ≡ s + lead P (drop s l)
  unfolding lead
  lead-behind zero l h = omega arith
  lead-behind (suc s) [] h = absurd (omega arith)
  lead-behind (suc s) (x ∷ xs) h = go (P x) refl (lead-behind s xs)
    where
      go : (b : Bool) → P x ≡ b → (s ≤ lead P xs → lead P xs ≡ s + lead P (drop s xs)) → lead P (x ∷ xs) ≡ suc s + lead P (drop s xs)
      go true e ih = let here = lead-cons-yes P x xs e in omega (arith, ih (omega arith))
      go false e ih = let here = lead-cons-no P x xs e in absurd (omega arith)

  -- in the front of a list
  lead-front : (k n : ℕ) (l : List ℕ) → k ≤ n → k ≤ lead P l → k ≤ lead P (take n l)
  unfolding lead
  lead-front zero n l h i = omega arith
  lead-front (suc k) zero l h i = absurd (omega arith)
  lead-front (suc k) (suc n) [] h i = i
  lead-front (suc k) (suc n) (x ∷ xs) h i = go (P x) refl (lead-front k n xs (omega arith))
    where
      go : (b : Bool) → P x ≡ b → (k ≤ lead P xs → k ≤ lead P (take n xs)) → suc k ≤ lead P (x ∷ take n xs)
      go true e ih = let here = lead-cons-yes P x xs e in let there = lead-cons-yes P x (take n xs) e in omega (arith, ih (omega arith))
      go false e ih = let here = lead-cons-no P x xs e in absurd (omega arith)

  lead-less : (k x : ℕ) (xs : List ℕ) → suc k ≤ lead P (x ∷ xs) → k ≤ lead P xs
  lead-less k x xs h = go (P x) refl
    where
      go : (b : Bool) → P x ≡ b → k ≤ lead P xs
      go true e = omega (arith, lead-cons-yes P x xs e)
      go false e = absurd (omega (arith, lead-cons-no P x xs e))

module _ (x : ℕ) (xs : List ℕ) where
  -- where a list ends: all of it is blank, or one byte further than behind its first
  data Last : ℕ → Type 0 where
    blank : parting x ≡ true → last_end xs ≡ 0 → Last 0
    further-on : Last (suc (last_end xs))

  last : Last (last_end (x ∷ xs))
  unfolding last_end
  last = go (parting x) (eqb (last_end xs) 0) refl refl
    where
      go : (a b : Bool) → parting x ≡ a → eqb (last_end xs) 0 ≡ b → Last (cond (a && b) 0 (suc (last_end xs)))
      go true true p e = blank p (eqb-true (last_end xs) 0 e)
      go true false p e = further-on
      go false b p e = further-on

last-behind : (s : ℕ) (l : List ℕ) → s ≤ last_end l → last_end l ≡ s + last_end (drop s l)
unfolding last_end
last-behind zero l h = omega arith
last-behind (suc s) [] h = absurd (omega arith)
last-behind (suc s) (x ∷ xs) h = go (last_end (x ∷ xs)) (last x xs) h (last-behind s xs)
  where
    go : (n : ℕ) → Last x xs n → suc s ≤ n → (s ≤ last_end xs → last_end xs ≡ s + last_end (drop s xs)) → n ≡ suc s + last_end (drop s xs)
    go _ (blank p e) h ih = absurd (omega arith)
    go _ further-on h ih = omega (arith, ih (omega arith))

-- a byte that is no parting byte stands before the end
blanks-before : (l : List ℕ) → lead parting l < length l → lead parting l < last_end l
unfolding lead last_end
blanks-before [] h = absurd (omega arith)
blanks-before (x ∷ xs) h = go (last_end (x ∷ xs)) (last x xs) (parting x) refl (blanks-before xs)
  where
    go : (n : ℕ) → Last x xs n → (b : Bool) → parting x ≡ b → (lead parting xs < length xs → lead parting xs < last_end xs) → lead parting (x ∷ xs) < n
    go _ (blank p e) true q ih = let here = lead-cons-yes parting x xs q in absurd (omega (arith, ih (omega arith)))
    go _ (blank p e) false q ih = absurd (false≢true (sym q ∙ p))
    go _ further-on true q ih = let here = lead-cons-yes parting x xs q in omega (arith, ih (omega arith))
    go _ further-on false q ih = let here = lead-cons-no parting x xs q in omega arith

blank-all : (l : List ℕ) → last_end l ≡ 0 → Every parting l
unfolding last_end
blank-all [] h = tt
blank-all (x ∷ xs) h = go (last_end (x ∷ xs)) (last x xs) h (blank-all xs)
  where
    go : (n : ℕ) → Last x xs n → n ≡ 0 → (last_end xs ≡ 0 → Every parting xs) → Every parting (x ∷ xs)
    go _ (blank p e) h ih = (p, ih e)
    go _ further-on h ih = absurd (omega arith)

-- ---- bytes behind which no further group stands: they have an "=", or only parting bytes follow
data Complete : List ℕ → List ℕ → Type 0 where
  only-blanks : (r : List ℕ) → Every parting r → Complete [] r
  equals : (m r : List ℕ) → Complete (61 ∷ m) r
  next : (x : ℕ) (m r : List ℕ) → Complete m r → Complete (x ∷ m) r

equals-in : (l : List ℕ) → lead other l < length l → Complete (take (suc (lead other l)) l) (drop (suc (lead other l)) l)
unfolding lead
equals-in [] h = absurd (omega arith)
equals-in (x ∷ xs) h = go (eqb x 61) refl (equals-in xs)
  where
    go : (b : Bool) → eqb x 61 ≡ b → (lead other xs < length xs → Complete (take (suc (lead other xs)) xs) (drop (suc (lead other xs)) xs))
        → Complete (take (suc (lead other (x ∷ xs))) (x ∷ xs)) (drop (suc (lead other (x ∷ xs))) (x ∷ xs))
    go true e ih = rw (lead-cons-no other x xs (rw e)) (rw (eqb-true x 61 e) (equals [] xs))
    go false e ih =
        let here = lead-cons-yes other x xs (rw e) in
        rw here (next x _ _ (ih (omega arith)))

blanks-in : (l : List ℕ) → Complete (take (last_end l) l) (drop (last_end l) l)
unfolding last_end
blanks-in [] = only-blanks [] tt
blanks-in (x ∷ xs) = go (last_end (x ∷ xs)) (last x xs) (blanks-in xs)
  where
    go : (n : ℕ) → Last x xs n → Complete (take (last_end xs) xs) (drop (last_end xs) xs) → Complete (take n (x ∷ xs)) (drop n (x ∷ xs))
    go _ (blank p e) ih = only-blanks (x ∷ xs) (p, blank-all xs e)
    go _ further-on ih = next x _ _ ih

-- ---- so that the groups of those bytes are all the groups

-- by what the first byte is: it parts groups, or a group begins with it, or the groups are over
at_byte : (p q : ℕ) (a b : Bool) (g g' : Group) (us us' vs vs' : List Piece)
    → g ≡ g' → group_bytes us ≡ group_bytes us' → group_bytes vs ≡ group_bytes vs'
    → group_bytes (elim a [ true ↦ us | false ↦ elim b [ true ↦ piece p g ∷ vs | false ↦ [] ] ])
    ≡ group_bytes (elim a [ true ↦ us' | false ↦ elim b [ true ↦ piece q g' ∷ vs' | false ↦ [] ] ])
at_byte p q true b g g' us us' vs vs' e u v = u
at_byte p q false true g g' us us' vs vs' e u v = cc
at_byte p q false false g g' us us' vs vs' e u v = refl

-- groups that stand elsewhere have the same bytes
elsewhere : (p q s : ℕ) (l : List ℕ) → group_bytes (groups_in p s l) ≡ group_bytes (groups_in q s l)
unfolding groups_in
elsewhere p q s [] = refl
elsewhere p q zero (x ∷ xs) =
    let g = take (lead inner (x ∷ xs)) (x ∷ xs) in
    at_byte p q (parting x) (inner x) g g (groups_in (suc p) zero xs) (groups_in (suc q) zero xs)
    (groups_in (suc p) (lead inner xs) xs) (groups_in (suc q) (lead inner xs) xs) refl
    (elsewhere (suc p) (suc q) zero xs) (elsewhere (suc p) (suc q) (lead inner xs) xs)
elsewhere p q (suc s) (x ∷ xs) = elsewhere (suc p) (suc q) s xs

blanks-only : (p s : ℕ) (r : List ℕ) → Every parting r → groups_in p s r ≡ []
unfolding groups_in
blanks-only p s [] a = refl
blanks-only p zero (x ∷ xs) a = rw (a.0, groups_in) (blanks-only (suc p) zero xs a.1)
blanks-only p (suc s) (x ∷ xs) a = blanks-only (suc p) s xs a.1

parting-outer : (x : ℕ) → parting x ≡ true → inner x ≡ false
parting-outer x e = rw e

-- the first group reaches no further
as_long : {m r : List ℕ} → Complete m r → lead inner (m ++ r) ≡ lead inner m
unfolding lead
as_long (only-blanks [] a) = refl
as_long (only-blanks (x ∷ r) a) = lead-cons-no inner x r (parting-outer x a.0)
as_long (equals m r) = refl
as_long (next x m r c) = go (inner x) refl (as_long c)
  where
    go : (b : Bool) → inner x ≡ b → lead inner (m ++ r) ≡ lead inner m → lead inner (x ∷ (m ++ r)) ≡ lead inner (x ∷ m)
    go true e ih = lead-cons-yes inner x (m ++ r) e ∙ ap suc ih ∙ sym (lead-cons-yes inner x m e)
    go false e ih = lead-cons-no inner x (m ++ r) e ∙ sym (lead-cons-no inner x m e)

no_more : (p s : ℕ) {m r : List ℕ} → Complete m r → s ≤ lead inner m → group_bytes (groups_in p s (m ++ r)) ≡ group_bytes (groups_in p s m)
unfolding groups_in lead
no_more p s (only-blanks r a) h = ap group_bytes (blanks-only p s r a)
no_more p zero (equals m r) h = refl
no_more p (suc s) (equals m r) h = absurd (omega arith)
no_more p zero (next x m r c) h =
    at_byte p p (parting x) (inner x) _ _ (groups_in (suc p) zero (m ++ r)) (groups_in (suc p) zero m)
    (groups_in (suc p) (lead inner (m ++ r)) (m ++ r)) (groups_in (suc p) (lead inner m) m) first
    (no_more (suc p) zero c (omega arith))
    (ap (λ (k : ℕ). group_bytes (groups_in (suc p) k (m ++ r))) (as_long c) ∙ no_more (suc p) (lead inner m) c (omega arith))
  where
    first : take (lead inner (x ∷ (m ++ r))) (x ∷ (m ++ r)) ≡ take (lead inner (x ∷ m)) (x ∷ m)
    first = ap (λ (k : ℕ). take k (x ∷ (m ++ r))) (as_long (next x m r c)) ∙ take-append-le (lead inner (x ∷ m)) (x ∷ m) r (lead-le inner (x ∷ m))
no_more p (suc s) (next x m r c) h = no_more (suc p) s c (lead-less inner s x m h)

-- no group where an "=" or the end comes first
bare-none : (p : ℕ) (l : List ℕ) → lead other l ≤ lead parting l → groups_in p 0 l ≡ []
unfolding groups_in lead
bare-none p [] h = refl
bare-none p (x ∷ xs) h = go (parting x) refl (eqb x 61) refl (bare-none (suc p) xs)
  where
    go : (a : Bool) → parting x ≡ a → (b : Bool) → eqb x 61 ≡ b → (lead other xs ≤ lead parting xs → groups_in (suc p) 0 xs ≡ [])
        → groups_in p 0 (x ∷ xs) ≡ []
    go true q true e ih = let is = eqb-true x 61 e in absurd (false≢true (rw is at q))
    go true q false e ih =
        let here = lead-cons-yes parting x xs q in
        let there = lead-cons-yes other x xs (rw e) in
        rw (q, groups_in) (ih (omega arith))
    go false q true e ih = rw (eqb-true x 61 e)
    go false q false e ih =
        let here = lead-cons-no parting x xs q in
        let there = lead-cons-yes other x xs (rw e) in
        absurd (omega arith)

-- ---- the part from the first group through the "=" or the last group: the same groups, nothing behind its "=", and bytes that a text may hold
record Trim (t m : List ℕ) : Type 0 where
  groups : group_bytes (groups_from m 0) ≡ group_bytes (groups_from t 0)
  clean : tail_of m ≡ None
  sound : bytes_of t ≡ judgement.Sound → bytes_of m ≡ judgement.Sound

sound-told : (t : List ℕ) → bytes_of t ≡ judgement.Sound → (length t ≤ 2048) × (length t ≤ lead allowed t)
unfolding bytes_of
sound-told t e = go (eqb (length t) 0) (ltb 2048 (length t)) (ltb (lead allowed t) (length t)) refl refl e
  where
    go : (a b c : Bool) → ltb 2048 (length t) ≡ b → ltb (lead allowed t) (length t) ≡ c
        → cond (a || b) judgement.Length (cond c (judgement.Byte (lead allowed t)) judgement.Sound) ≡ judgement.Sound
        → (length t ≤ 2048) × (length t ≤ lead allowed t)
    go true b c f h e = impossible (cc)
    go false true c f h e = impossible (cc)
    go false false true f h e = impossible (cc)
    go false false false f h e = (ltb-false 2048 (length t) f, ltb-false (lead allowed t) (length t) h)

module _ (t : List ℕ) where
  -- where the first group begins, and the text from there on
  abbrev from : ℕ
  from = lead parting t

  abbrev onward : List ℕ
  onward = drop from t

  -- n bytes from the first group on
  front-trim : (n : ℕ) → 0 < n → from + n ≤ length t → n ≤ suc (lead other onward) → Complete (take n onward) (drop n onward) → Trim t (take n onward)
  unfolding groups_from tail_of equals_at
  front-trim n some fits few complete =
      record {
        groups = elsewhere 0 from 0 (take n onward) ∙ sym (no_more from 0 complete (omega arith)) ∙ rw take-append-drop (ap group_bytes (sym (from-parting t 0 from (omega arith))));
        clean = junk-none (take n onward) (lead other (take n onward) + 1) (length (take n onward)) (past_end (take n onward) (lead other (take n onward) + 1) ends) (omega arith);
        sound = λ e.
            let told = sound-told t e in
            let behind = lead-behind allowed from t (omega arith) in
            let all = lead-front allowed n n onward (omega arith) (omega arith) in
            bytes-sound (take n onward) (λ z. omega (arith, size)) (omega (arith, size)) (lead allowed (take n onward)) refl (omega (arith, size));
      }
    where
      size : length (take n onward) ≡ n
      size = length-take-le n onward (omega (arith, length-drop from t))

      ends : length (take n onward) ≤ lead other (take n onward) + 1
      ends = omega (arith, size, lead-front other (n - 1) n onward (omega arith) (omega arith))

  module _ (h : from < lead other t) where
    behind : lead other t ≡ from + lead other onward
    behind = lead-behind other from t (omega arith)

    inside : from < length t
    inside = omega (arith, lead-le other t)

    last-from : last_end t ≡ from + last_end onward
    last-from = last-behind from t (omega (arith, blanks-before t inside))

    -- through the first "="
    through-equals : lead other t < length t → trimmed_of t ≡ take (suc (lead other onward)) onward
    unfolding trimmed_of equals_at
    through-equals k =
        let size : lead other t + 1 - from ≡ suc (lead other onward) = omega (arith, behind) in
        rw (trimmed-start t (lead other t) refl from refl h, trimmed-equals t (lead other t) refl from refl h k)
        (part-is t from (lead other t + 1) (omega arith) (omega arith) ∙ ap (λ (i : ℕ). take i onward) size)

    -- through the last group
    through-last : length t ≤ lead other t → trimmed_of t ≡ take (last_end onward) onward
    unfolding trimmed_of equals_at
    through-last k =
        let size : last_end t - from ≡ last_end onward = omega (arith, last-from) in
        rw (trimmed-start t (lead other t) refl from refl h, trimmed-last t (lead other t) refl from refl h k)
        (part-is t from (last_end t) (omega (arith, last-from)) (last-le t) ∙ ap (λ (i : ℕ). take i onward) size)

    by_end : (b : Bool) → ltb (lead other t) (length t) ≡ b → Trim t (trimmed_of t)
    by_end true e =
        let k = ltb-true (lead other t) (length t) e in
        rw (through-equals k)
        (front-trim (suc (lead other onward)) (omega arith) (omega (arith, behind)) (omega arith) (equals-in onward (omega (arith, behind, length-drop from t, inside))))
    by_end false e =
        let k = ltb-false (lead other t) (length t) e in
        rw (through-last k)
        (front-trim (last_end onward) (omega (arith, last-from, blanks-before t inside)) (omega (arith, last-from, last-le t))
        (omega (arith, last-from, last-le t, behind)) (blanks-in onward))

  trim : from < equals_at t → Trim t (trimmed_of t)
  unfolding equals_at
  trim h = by_end h (ltb (lead other t) (length t)) refl

  not-bare : is_bare t ≡ false → from < equals_at t
  unfolding is_bare
  not-bare e = leb-false (equals_at t) from e

  some-group : (g : Piece) (gs : List Piece) → groups_from t 0 ≡ g ∷ gs → is_bare t ≡ false
  unfolding is_bare groups_from equals_at
  some-group g gs e = go (leb (lead other t) from) refl
    where
      go : (b : Bool) → leb (lead other t) from ≡ b → b ≡ false
      go true h = let over = bare-none 0 t (leb-true (lead other t) from h) in impossible (cc)
      go false h = refl

-- A text that has a group and nothing but parting bytes behind its "=", and its trimmed part, are read alike.
pub trimmed-alike : (chosen : Edition) (t : List ℕ) → bytes_of t ≡ judgement.Sound → tail_of t ≡ None → is_bare t ≡ false → ReadAlike (read_in chosen t) (read_in chosen (trimmed_of t))
trimmed-alike chosen t sound clean some =
    let m = trim t (not-bare t some) in
    groups-decide chosen t (trimmed_of t) sound (m.sound sound) (sym m.groups) clean m.clean

-- OF EVERY ACCEPTED TEXT, whatever its kind and whatever follows its "=" in an unread rest, the trimmed part is accepted too, with the same record.
pub trimmed-alone : (chosen : Edition) (t : List ℕ) (r : Report) → AcceptedWith r (read_in chosen t) → AcceptedWith r (read_in chosen (trimmed_of t))
trimmed-alone chosen t r (rest, e) = by_kind r (accepted-as chosen t rest r e) e
  where
    freely : (v w : Option ℕ) → w ≡ None → Tails (Unit {0}) v w
    freely None w e = rw e clear
    freely (Some a) w e = rw e (freed tt a)

    given : {a b : Reading} → Answers (Unit {0}) a b → (q : Report) → a ≡ accepted rest q → AcceptedWith q b
    given (yes_both a b w) q e = (b, ap (accepted b) (ap (λ (x : Reading). x.report) e))
    given (no_both f a b) q e = let v : Err (refused_with f a) ≡ Ok rest = ap (λ (x : Reading). x.verdict) e in impossible (cc)
    given (no-first j a x) q e = let v : Err (refused_with refusal.Shape a) ≡ Ok rest = ap (λ (x : Reading). x.verdict) e in impossible (cc)

    by_name : {w : Pattern} → Named t w → (q : Report) → read_in chosen t ≡ accepted rest q → AcceptedWith q (read_in chosen (trimmed_of t))
    by_name n q e =
        let m = trim t (not-bare t (some-group t n.first n.others n.groups)) in
        given (same-answers chosen (Unit {0}) t (trimmed_of t) (freely (tail_of t) (tail_of (trimmed_of t)) m.clean) n.sound (m.sound n.sound) (sym m.groups)) q e

    by_kind : (q : Report) → AcceptedAs chosen t rest q → read_in chosen t ≡ accepted rest q → AcceptedWith q (read_in chosen (trimmed_of t))
    by_kind _ (a-surface s x) e = by_name x.named (surface_report s) e
    by_kind _ (an-observed s x) e = by_name x.named (observed_report s) e
    by_kind _ (a-forecast s x) e = by_name x.named (forecast_report s) e

-- ---- which of two texts stands: one that was accepted

not_first : (b : Report) → judge_standing blank_report b ≡ stands.First → ⊥
unfolding judge_standing corrects
not_first b e = impossible (cc)

not-second : (a : Report) → judge_standing a blank_report ≡ stands.Second → ⊥
unfolding judge_standing corrects
not-second a e = go a.kind (metar_corrects a.observed blank_report.observed) (taf_corrects a.forecast blank_report.forecast) e
  where
    go : (k : Kind) (x y : Bool)
        → cond ((is_observed k && is_observed kind.Missing && x) || (is_forecast k && is_forecast kind.Missing && y)) stands.Second
        (cond (is_observed k || is_forecast k) stands.First stands.Neither) ≡ stands.Second → ⊥
    go kind.Missing x y e = impossible (cc)
    go kind.Surface x y e = impossible (cc)
    go kind.Observed x y e = impossible (cc)
    go kind.Forecast x y e = impossible (cc)

-- the text is accepted, and its part, read alone, with the same record
abbrev pub SaysAgain : List ℕ → List ℕ → Type 0
SaysAgain t part = (r : Report) × AcceptedWith r (read_of t) × AcceptedWith r (read_of part)

pub says-again : (t part : List ℕ) → SaysAgain t part → (read_of part).report ≡ (read_of t).report
says-again t part (r, (rest, e), (rest', f)) = ap (λ (a : Reading). a.report) f ∙ sym (ap (λ (a : Reading). a.report) e)

again : (t : List ℕ) (rest : ℕ) (r : Report) → read_of t ≡ accepted rest r → SaysAgain t (trimmed_of t)
again t rest r e = (r, (rest, e), trimmed-alone edition.Present t r (rest, e))

-- a refused text has a blank record, by which it does not stand
module _ (t : List ℕ) (q : Report) where
  if-accepted : ((judge_standing blank_report q ≡ stands.First) → ⊥) → judge_standing (read_of t).report q ≡ stands.First → SaysAgain t (trimmed_of t)
  if-accepted never e = go (read_of t) refl (every-text edition.Present t) e
    where
      go : (a : Reading) → read_of t ≡ a → Answered a → judge_standing a.report q ≡ stands.First → SaysAgain t (trimmed_of t)
      go _ is (yes rest r) e = again t rest r is
      go _ is (no f at) e = absurd (never e)

  if-corrected : ((judge_standing q blank_report ≡ stands.Second) → ⊥) → judge_standing q (read_of t).report ≡ stands.Second → SaysAgain t (trimmed_of t)
  if-corrected never e = go (read_of t) refl (every-text edition.Present t) e
    where
      go : (a : Reading) → read_of t ≡ a → Answered a → judge_standing q a.report ≡ stands.Second → SaysAgain t (trimmed_of t)
      go _ is (yes rest r) e = again t rest r is
      go _ is (no f at) e = absurd (never e)

first-again : (t u : List ℕ) → stands_of t u ≡ stands.First → SaysAgain t (trimmed_of t)
unfolding stands_of
first-again t u e = if-accepted t (read_of u).report (not_first (read_of u).report) e

second-again : (t u : List ℕ) → stands_of t u ≡ stands.Second → SaysAgain u (trimmed_of u)
unfolding stands_of
second-again t u e = if-corrected u (read_of t).report (not-second (read_of t).report) e

trimmed-bytes : (t part : Bor (List ℕ)) → TrimmedPart t part → part.now ≡ trimmed_of t.now
unfolding trimmed_of
trimmed-bytes t part p = p.bytes

abbrev pub ReadAlone : Stands → List ℕ → List ℕ → List ℕ → Type 0
ReadAlone stands.First first second part = SaysAgain first part
ReadAlone stands.Second first second part = SaysAgain second part
ReadAlone stands.Neither first second part = part ≡ []

-- THE PART THAT `standing` HANDS BACK (its contract is `PartStanding`), read alone, is accepted with the record of the text that stands; where neither stands
-- it is empty.
pub standing-alone : (first second part : Bor (List ℕ)) → PartStanding (stands_of first.now second.now) first second part
    → ReadAlone (stands_of first.now second.now) first.now second.now part.now
standing-alone first second part handed = go (stands_of first.now second.now) refl handed
  where
    go : (x : Stands) → stands_of first.now second.now ≡ x → PartStanding x first second part → ReadAlone x first.now second.now part.now
    go stands.First e p = subst (SaysAgain first.now) (sym (trimmed-bytes first part p)) (first-again first.now second.now e)
    go stands.Second e p = subst (SaysAgain second.now) (sym (trimmed-bytes second part p)) (second-again first.now second.now e)
    go stands.Neither e p = p.bytes ∙ part-nothing first.now (length first.now)

-- ==== PARTING BYTES DO NOT MATTER: a text is read as its groups in canonical spacing are, single spaces and "=" at once after the last group

-- ---- the groups that a text is cut into can be joined, and have the text's bytes
module _ (P : ℕ → Bool) where
  every_front : (n : ℕ) (l : List ℕ) → Every P l → Every P (take n l)
  every_front zero l a = tt
  every_front (suc n) [] a = tt
  every_front (suc n) (x ∷ xs) a = (a.0, every_front n xs a.1)

  every-lead : (l : List ℕ) → Every P (take (lead P l) l)
  unfolding lead
  every-lead [] = tt
  every-lead (x ∷ xs) = go (P x) refl (every-lead xs)
    where
      go : (b : Bool) → P x ≡ b → Every P (take (lead P xs) xs) → Every P (take (lead P (x ∷ xs)) (x ∷ xs))
      go true e ih = rw (lead-cons-yes P x xs e) (e, ih)
      go false e ih = rw (lead-cons-no P x xs e) tt

  every-all : (l : List ℕ) → length l ≤ lead P l → Every P l
  every-all l h = rw (take_all (lead P l) l h) at (every-lead l)

  cut-everywhere : (p s : ℕ) (l : List ℕ) → Every P l → Everywhere P (group_bytes (groups_in p s l))
  unfolding groups_in
  cut-everywhere p s [] a = tt
  cut-everywhere p zero (x ∷ xs) a =
      go (parting x) (inner x) (groups_in (suc p) zero xs) (groups_in (suc p) (lead inner xs) xs)
      (cut-everywhere (suc p) zero xs a.1) (cut-everywhere (suc p) (lead inner xs) xs a.1)
    where
      first : Every P (take (lead inner (x ∷ xs)) (x ∷ xs))
      first = every_front (lead inner (x ∷ xs)) (x ∷ xs) a

      go : (b c : Bool) (us vs : List Piece) → Everywhere P (group_bytes us) → Everywhere P (group_bytes vs)
          → Everywhere P (group_bytes (elim b [ true ↦ us | false ↦ elim c [ true ↦ piece p (take (lead inner (x ∷ xs)) (x ∷ xs)) ∷ vs | false ↦ [] ] ]))
      go true c us vs u v = u
      go false true us vs u v = (first, v)
      go false false us vs u v = tt
  cut-everywhere p (suc s) (x ∷ xs) a = cut-everywhere (suc p) s xs a.1

cut-wholes : (p s : ℕ) (l : List ℕ) → Wholes (group_bytes (groups_in p s l))
unfolding groups_in
cut-wholes p s [] = tt
cut-wholes p zero (x ∷ xs) =
    go (parting x) (inner x) refl (groups_in (suc p) zero xs) (groups_in (suc p) (lead inner xs) xs) (cut-wholes (suc p) zero xs) (cut-wholes (suc p) (lead inner xs) xs)
  where
    first : inner x ≡ true → Whole (take (lead inner (x ∷ xs)) (x ∷ xs))
    first e = rw (lead-cons-yes inner x xs e) (tt, (e, every-lead inner xs))

    go : (b c : Bool) → inner x ≡ c → (us vs : List Piece) → Wholes (group_bytes us) → Wholes (group_bytes vs)
        → Wholes (group_bytes (elim b [ true ↦ us | false ↦ elim c [ true ↦ piece p (take (lead inner (x ∷ xs)) (x ∷ xs)) ∷ vs | false ↦ [] ] ]))
    go true c e us vs u v = u
    go false true e us vs u v = (first e, v)
    go false false e us vs u v = tt
cut-wholes p (suc s) (x ∷ xs) = cut-wholes (suc p) s xs

-- ---- and their canonical spacing is no longer than the text, but for the "="
spaced-length : (gs : List Group) → length (spaced gs) ≤ suc (length (parted gs))
unfolding spaced parted
spaced-length [] = omega arith
spaced-length (g ∷ gs) = omega arith

-- of a text, and of what follows a group
module _ (p x : ℕ) (xs : List ℕ) where
  past-blank : parting x ≡ true → groups_in p 0 (x ∷ xs) ≡ groups_in (suc p) 0 xs
  unfolding groups_in
  past-blank e = rw (e, groups_in)

  past-group : inner x ≡ true → groups_in p 0 (x ∷ xs) ≡ piece p (take (lead inner (x ∷ xs)) (x ∷ xs)) ∷ groups_in (suc p) (lead inner xs) xs
  unfolding groups_in
  past-group e = rw (inner-not-parting x e, groups_in) (rw e)

  past_all : parting x ≡ false → inner x ≡ false → groups_in p 0 (x ∷ xs) ≡ []
  unfolding groups_in
  past_all e f = rw (e, groups_in) (rw f)

parted-length : (p : ℕ) (l : List ℕ)
    → (length (parted (group_bytes (groups_in p 0 l))) ≤ length l) × (length (spaced (group_bytes (groups_in p (lead inner l) l))) + lead inner l ≤ length l)
unfolding parted spaced groups_in lead
parted-length p [] = (omega arith, omega arith)
parted-length p (x ∷ xs) = go (parting x) (inner x) refl refl (parted-length (suc p) xs)
  where
    go : (a b : Bool) → parting x ≡ a → inner x ≡ b
        → (length (parted (group_bytes (groups_in (suc p) 0 xs))) ≤ length xs)
        × (length (spaced (group_bytes (groups_in (suc p) (lead inner xs) xs))) + lead inner xs ≤ length xs)
        → (length (parted (group_bytes (groups_in p 0 (x ∷ xs)))) ≤ suc (length xs))
        × (length (spaced (group_bytes (groups_in p (lead inner (x ∷ xs)) (x ∷ xs)))) + lead inner (x ∷ xs) ≤ suc (length xs))
    go true b e f ih =
        let one = spaced-length (group_bytes (groups_in (suc p) 0 xs)) in
        rw (lead-cons-no inner x xs (parting-outer x e), past-blank p x xs e) (omega (arith, ih.0), omega (arith, ih.0))
    go false true e f ih =
        let size = length-take-le (lead inner xs) xs (lead-le inner xs) in
        rw (past-group p x xs f, lead-cons-yes inner x xs f)
        (rw length-append (omega (arith, ih.1)), omega (arith, ih.1))
    go false false e f ih = rw (lead-cons-no inner x xs f, past_all p x xs e f) (omega arith, omega arith)

-- a text's groups in canonical spacing
abbrev pub respaced : List ℕ → List ℕ
respaced t = join (group_bytes (groups_from t 0))

-- at most one byte longer than the text, the "="
pub respaced-length : (t : List ℕ) → length (respaced t) ≤ length t + 1
unfolding groups_from
respaced-length t = omega (arith, length-join (group_bytes (groups_from t 0)), (parted-length 0 t).0)

-- A text and its groups in canonical spacing are read alike, if those have room in a text: they have where it has less than 2,048 bytes.
pub spacing-free : (chosen : Edition) (t : List ℕ) → bytes_of t ≡ judgement.Sound → tail_of t ≡ None → length (respaced t) ≤ 2048 → ReadAlike (read_in chosen t) (read_in chosen (respaced t))
unfolding groups_from
spacing-free chosen t sound clean fits =
    let gs = group_bytes (groups_from t 0) in
    let whole = cut-wholes 0 0 t in
    let fine = join-sound gs (cut-everywhere allowed 0 0 t (every-all allowed t (sound-told t sound).1)) fits in
    groups-decide chosen t (join gs) sound fine (sym (round-trip-bytes gs whole)) clean (join-tail gs whole)
