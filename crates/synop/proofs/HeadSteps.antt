-- The laws of the groups known by position: call signs, and how reading goes on from post to post of the text.
-- Assumes nothing.
use Rattle.std.specs.Prelude.{Err, Ok}
use Prim.Native.Nat.{ℕ, ◌+◌, ◌≤◌, ◌<◌}
use native.Mathlib.Omega.{arith}
use native.Mathlib.Numerals.{add-one}
use mathlib.Core.Path.{◌≡◌, refl, ◌∙◌}
use mathlib.Core.Bool.{Bool, true, false, cond, ◌&&◌}
use mathlib.Core.List.{List, [], ◌∷◌, ◌++◌, map}
use lib.ListN.{length, take, drop, get_or, replicate, drop_of_length-le}
use lib.Seq.{drop-cons}
use types.Run.{OneOf}
use denote.Enum.Declared.{tag_of}
use Rattle.text.specs.declared.kinds.Refusal.{Refusal}
use Rattle.text.specs.declared.kinds.Refusal.TheVariants as refusal
use Rattle.text.specs.Groups.{groups_from, part_of}
use Rattle.text.specs.Text.{tail_of}
use Rattle.text.proofs.Groups.{Follows}
use Rattle.places.specs.Engine.{Group, Fault}
use Rattle.record.specs.declared.surface.Site.{Site}
use Rattle.record.specs.declared.surface.Surface.{Surface}
use Rattle.record.specs.declared.surface.Synop.{Synop}
use Rattle.synop_groups.specs.declared.kinds.Said.{Said}
use Rattle.synop_groups.specs.declared.kinds.Said.TheVariants as said
use Rattle.synop_groups.specs.contracts.kinds.Said as saids
use Rattle.synop_row.specs.Row.{with_said}
use Rattle.synop_section.specs.declared.kinds.Reading.{Reading}
use Rattle.synop_section.specs.Section.{said_onto}
use Rattle.synop_section.specs.Answer.{section, answer}
use Rattle.synop_section.proofs.SectionSteps.{right, added}
use Rattle.synop.specs.declared.kinds.Post.{Post as Name}
use Rattle.synop.specs.declared.kinds.Post.TheVariants as name
use Rattle.synop.specs.Read.{site_onto, with_head, is_nil, cut_short, after_nil, onward, walk}
use Rattle.synop.specs.Head.{named, post_of, said_by, synop_of}

-- ---- call signs

-- the nine bytes of a call sign, 0 past its end
pub nine-bytes : (g : List ℕ)
    → get_or g 0 0 ∷ get_or g 1 0 ∷ get_or g 2 0 ∷ get_or g 3 0 ∷ get_or g 4 0 ∷ get_or g 5 0 ∷ get_or g 6 0 ∷ get_or g 7 0 ∷ get_or g 8 0 ∷ [] ≡ take 9 (g ++ replicate 9 0)
nine-bytes [] = refl
nine-bytes (a ∷ []) = refl
nine-bytes (a ∷ b ∷ []) = refl
nine-bytes (a ∷ b ∷ c ∷ []) = refl
nine-bytes (a ∷ b ∷ c ∷ d ∷ []) = refl
nine-bytes (a ∷ b ∷ c ∷ d ∷ e ∷ []) = refl
nine-bytes (a ∷ b ∷ c ∷ d ∷ e ∷ f ∷ []) = refl
nine-bytes (a ∷ b ∷ c ∷ d ∷ e ∷ f ∷ h ∷ []) = refl
nine-bytes (a ∷ b ∷ c ∷ d ∷ e ∷ f ∷ h ∷ i ∷ []) = refl
nine-bytes (a ∷ b ∷ c ∷ d ∷ e ∷ f ∷ h ∷ i ∷ j ∷ g) = refl

-- ---- what a group says at its post

says-post : (p : Name) (g : Group) (r : Synop) → (post_of p).read g r ≡ with_head (said_by p r.site.position g) r
says-post name.Time g r = refl
says-post name.Station g r = refl
says-post name.Latitude g r = refl
says-post name.Longitude g r = refl
says-post (name.Indicators land) g r = refl
says-post name.Wind g r = refl

module _ (p : Name) (g : Group) (r : Synop) (x : Said) (is : x ≡ said_by p r.site.position g) where
  says : (post_of p).read g r ≡ with_head x r
  says = says-post p g r ∙ rw is

  post-bad : {f : Refusal} → x ≡ said.Refused f → (post_of p).read g r ≡ Err f
  unfolding with_head with_said
  post-bad e = says ∙ rw e

  post-good : {s : Site} {u : Surface} → OneOf right (tag_of saids.the_type x) → s ≡ site_onto x r.site → u ≡ said_onto x r.surface
      → (post_of p).read g r ≡ Ok (synop_of r.ship s u r.section3)
  unfolding with_head
  post-good told a b = says ∙ rw (added x told r.surface, a, b)

-- ---- the posts in order

pub few-posts : (ship : Bool) → length (named ship) ≤ 5
few-posts false = omega arith
few-posts true = omega arith

-- ---- from post to post

-- what the text is read as from a position on, the posts from number n on still to come
unfoldable pub walks : Bool → ℕ → Synop → List ℕ → ℕ → Reading
walks ship n r t at = answer (walk (map post_of (drop n (named ship))) r (tail_of t) (length t) (groups_from t at))

module _ (ship : Bool) (n : ℕ) (r : Synop) (t : List ℕ) (at : ℕ) where
  pub walks-past : length (named ship) ≤ n → walks ship n r t at ≡ answer (section r (tail_of t) (length t) (groups_from t at))
  unfolding walks walk
  walks-past h = rw (drop_of_length-le (named ship) {i = n} h)

  module _ (here : n < length (named ship)) where
    next : drop n (named ship) ≡ get_or (named ship) n name.Wind ∷ drop (n + 1) (named ship)
    next = rw (add-one n) (drop-cons (named ship) n name.Wind here)

    pub walks-over : groups_from t at ≡ [] → walks ship n r t at ≡ answer (cut_short (tail_of t) (length t))
    unfolding walks walk
    walks-over none = rw (next, none)

    -- a group from a position to another, at its post
    module _ {from to : ℕ} {g : Group} {p : Name} (follows : Follows t at from to) (cut : g ≡ part_of t from to) (is : p ≡ get_or (named ship) n name.Wind) where
      goes : walks ship n r t at
          ≡ answer (cond ((post_of p).nil && is_nil g) (after_nil (tail_of t) (length t) r (groups_from t to))
          (cond ((post_of p).has g) (onward ((post_of p).read g r) from (λ r'. walk (map post_of (drop (n + 1) (named ship))) r' (tail_of t) (length t) (groups_from t to))) (Fault refusal.Shape from)))
      unfolding walks walk
      goes = rw (next, follows.groups, is, cut)

      pub walks-nil : ((post_of p).nil && is_nil g) ≡ true → walks ship n r t at ≡ answer (after_nil (tail_of t) (length t) r (groups_from t to))
      walks-nil a = goes ∙ rw a

      module _ (a : ((post_of p).nil && is_nil g) ≡ false) where
        pub walks-other : (post_of p).has g ≡ false → walks ship n r t at ≡ answer (Fault refusal.Shape from)
        walks-other b = goes ∙ rw (a, b)

        module _ (b : (post_of p).has g ≡ true) {x : Said} (told : x ≡ said_by p r.site.position g) where
          pub walks-bad : {f : Refusal} → x ≡ said.Refused f → walks ship n r t at ≡ answer (Fault f from)
          walks-bad e = goes ∙ rw (a, b, post-bad p g r x told e)

          pub walks-on : {s : Site} {u : Surface} → OneOf right (tag_of saids.the_type x) → s ≡ site_onto x r.site → u ≡ said_onto x r.surface
              → walks ship n r t at ≡ walks ship (n + 1) (synop_of r.ship s u r.section3) t to
          unfolding walks
          walks-on one d e = goes ∙ rw (a, b, post-good p g r x told one d e)
