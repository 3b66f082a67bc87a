-- `metar_sources::find` meets its contract: the source that is looked for from a position on stays the one that the whole trail has.
-- Assumes nothing.
use borrow.Author.Rules.{rules}
use Prim.Native.Nat.{◌-◌, ◌≤◌}
use native.Mathlib.Omega.{arith}
use mathlib.Core.Path.{◌≡◌, refl, ◌∙◌}
use lib.ListN.{length}
use Rattle.sources.specs.Trail.{front}
use Rattle.sources.specs.Route.{move_on}
use Rattle.sources.proofs.Walks.{looked, takes-found, takes-on, opens-found, opens-on}
use Rattle.trend_row.specs.declared.kinds.Word.TheVariants as word
use Rattle.metar_sources.specs.Trail.{route, trail_of, mark_at}
use Rattle.metar_sources.proofs.Steps.{was-over, was-taken, was-opened}
use Rattle.metar_sources.proofs.find.Statement.{statement}
use Rattle.metar_sources.proofs.find.Tie as tie

abbrev Inv : tie.invariant-loop-place
Inv text part spot here₀ word₀ place₀ count₀ from₀ here w place count from =
    (looked (move_on route) part spot text (mark_at here w place count) from ≡ looked (move_on route) part spot text (front 0 word.Nosig) 0) × (here ≤ from)

abbrev μ : tie.decreases-loop-place
μ text part spot here₀ word₀ place₀ count₀ from₀ here w place count from = length text - from

pub find_spec : {M : Type 1} → statement M
find_spec =
    tie.close
    (tie.spec Inv μ
    (λ c. (refl, omega arith))
    (λ c κs. search rules) (λ c. search rules)
    (λ c.
    let l = c.loop-place in
    unfold trail_of looked in
    was-over _ _ _ _ _ _ c.meet-met.ensures c.in-Over.is _ _ ∙ l.invariant.0)
    (λ c. search rules) (λ c κs. search rules)
    (λ c.
    let l = c.loop-place in
    let took = was-taken _ _ _ _ _ _ c.meet-met.ensures c.in-Takes.is in
    unfold trail_of looked in
    takes-found (move_on route) _ _ _ _ _ took.follows took.moves (rw (← c.is_same.ensures) c.if-part-here.true) ∙ l.invariant.0)
    (λ c.
    let took = was-taken _ _ _ _ _ _ c.meet-met.ensures c.in-Takes.is in
    omega (arith, took.few))
    (λ c.
    let took = was-taken _ _ _ _ _ _ c.meet-met.ensures c.in-Takes.is in
    omega (arith, took.follows.after, took.follows.some, took.follows.within))
    (λ c.
    let l = c.loop-place in
    let took = was-taken _ _ _ _ _ _ c.meet-met.ensures c.in-Takes.is in
    (takes-on (move_on route) _ _ _ _ _ took.follows took.moves (rw (← c.is_same.ensures) c.if-part-here.false) ∙ l.invariant.0, omega (arith, l.invariant.1, took.follows.after, took.follows.some)))
    (λ c. search rules)
    (λ c.
    let l = c.loop-place in
    let began = was-opened _ _ _ _ _ _ c.meet-met.ensures c.in-Opens.is in
    omega (arith, l.invariant.1, began.follows.after, began.follows.some, began.follows.within))
    (λ c κs. search rules)
    (λ c.
    let l = c.loop-place in
    let began = was-opened _ _ _ _ _ _ c.meet-met.ensures c.in-Opens.is in
    unfold trail_of looked in
    opens-found (move_on route) _ _ _ _ _ began.follows began.moves (rw (← c.is_same-in-Opens.ensures) c.if-part-here-2.true) ∙ l.invariant.0)
    (λ c.
    let began = was-opened _ _ _ _ _ _ c.meet-met.ensures c.in-Opens.is in
    omega (arith, began.follows.after, began.follows.some, began.follows.within))
    (λ c.
    let l = c.loop-place in
    let began = was-opened _ _ _ _ _ _ c.meet-met.ensures c.in-Opens.is in
    (opens-on (move_on route) _ _ _ _ _ began.follows began.moves (rw (← c.is_same-in-Opens.ensures) c.if-part-here-2.false) ∙ l.invariant.0, omega (arith, l.invariant.1, began.follows.after, began.follows.some))))
