-- `read::read_posts` meets its contract: the reading from post to post stays what the text is read as.
-- Assumes nothing.
use borrow.Author.Rules.{rules}
use Prim.Native.Nat.{◌-◌, ◌<◌}
use native.Mathlib.Omega.{arith}
use mathlib.Core.Path.{◌≡◌, refl, sym, ◌∙◌}
use mathlib.Core.List.{map}
use lib.ListN.{length}
use Rattle.text.specs.Text.{tail_of}
use Rattle.text.specs.Groups.{groups_from}
use Rattle.text.proofs.Groups.{Follows, when-group, when-end}
use Rattle.synop_section.specs.Answer.{answer}
use Rattle.synop.specs.Read.{walk}
use Rattle.synop.specs.Head.{named, post_of, synop_of}
use Rattle.synop.proofs.HeadSteps.{few-posts, walks, walks-past, walks-over, walks-nil, walks-other, walks-bad, walks-on}
use Rattle.synop.proofs.read.read_posts.Statement.{statement}
use Rattle.synop.proofs.read.read_posts.Tie as tie

abbrev Inv : tie.invariant-loop-number
Inv text at ship site₀ surface₀ section3 count number₀ from₀ site surface number from =
    (answer (walk (map post_of (named ship)) (synop_of ship site₀ surface₀ section3) (tail_of text) (length text) (groups_from text at))
    ≡ walks ship number (synop_of ship site surface section3) text from)
    × (count ≡ length (named ship))

abbrev μ : tie.decreases-loop-number
μ text at ship site₀ surface₀ section3 count number₀ from₀ site surface number from = count - number

-- in the loop a post is still to come
here : (c : tie.In-loop-number Inv μ) → c.loop-number.number < length (named c.args.report.ship)
here c = rw c.loop-number.invariant.1 at c.loop-number-test.true

-- past the next group's cut
follows : (c : tie.In-Group Inv μ) → Follows c.args.text.now c.loop-number.from c.in-Group.start c.in-Group.end
follows c = when-group _ _ _ _ (sym c.in-Group.is ∙ c.next_group.ensures)

pub read_posts_spec : {M : Type 1} → statement M
read_posts_spec =
    tie.close
    (tie.spec Inv μ
    (λ c κs. search rules)
    (λ c. (unfold walks in refl, c.count_of-count.ensures))
    (λ c κs. search rules) (λ c. search rules) (λ c. search rules) (λ c κs. search rules)
    (λ c. c.end_short.ensures ∙ sym (c.loop-number.invariant.0 ∙ walks-over _ _ _ _ _ (here c.before.before.before) (when-end _ _ _ (sym c.in_default.is ∙ c.next_group.ensures))))
    (λ c κs. search rules) (λ c κs. search rules) (λ c κs. search rules) (λ c κs. search rules) (λ c κs. search rules)
    (λ c.
    (rw c.synop_of.ensures at c.read_nil.ensures)
    ∙ sym (c.loop-number.invariant.0 ∙ walks-nil _ _ _ _ _ (here c.before.before.before.before.before.before.before.before) (follows c.before.before.before.before.before.before) c.part-g.ensures c.post_at-post.ensures (sym c.is_nil.ensures ∙ c.if-is_nil.true)))
    (λ c κs. search rules) (λ c κs. search rules) (λ c. search rules) (λ c κs. search rules)
    (λ c.
    c.refuse.ensures
    ∙ sym (c.loop-number.invariant.0 ∙ walks-bad _ _ _ _ _ (here c.before.before.before.before.before.before.before.before.before.before.before.before) (follows c.before.before.before.before.before.before.before.before.before.before) c.part-g.ensures c.post_at-post.ensures (sym c.is_nil.ensures ∙ c.if-is_nil.false) (sym c.has_shape.ensures ∙ c.if-has_shape.true) c.said_by-said.ensures c.in-Refused.is))
    (λ c κs. search rules) (λ c κs. search rules)
    (λ c. omega (arith, here c.before.before.before.before.before.before.before.before.before.before.before.before.before, few-posts c.args.report.ship))
    (λ c. omega (arith, c.loop-number-test.true))
    (λ c. (
      c.loop-number.invariant.0
          ∙ walks-on _ _ _ _ _ (here c.before.before.before.before.before.before.before.before.before.before.before.before.before) (follows c.before.before.before.before.before.before.before.before.before.before.before) c.part-g.ensures c.post_at-post.ensures (sym c.is_nil.ensures ∙ c.if-is_nil.false) (sym c.has_shape.ensures ∙ c.if-has_shape.true) c.said_by-said.ensures c.in_default-said.in_default-said-own.keys2 c.with_site-site.ensures c.with_said-surface.ensures,
      c.loop-number.invariant.1,
    ))
    (λ c κs. search rules)
    (λ c.
    c.refuse-else-has_shape.ensures
    ∙ sym (c.loop-number.invariant.0 ∙ walks-other _ _ _ _ _ (here c.before.before.before.before.before.before.before.before.before) (follows c.before.before.before.before.before.before.before) c.part-g.ensures c.post_at-post.ensures (sym c.is_nil.ensures ∙ c.if-is_nil.false) (sym c.has_shape.ensures ∙ c.if-has_shape.false)))
    (λ c κs. search rules) (λ c κs. search rules)
    (λ c. (rw c.synop_of-2.ensures at c.read_section.ensures) ∙ sym (c.loop-number.invariant.0 ∙ walks-past _ _ _ _ _ (rw c.loop-number.invariant.1 at c.loop-number-test.false))))
