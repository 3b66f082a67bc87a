-- The proof of the cycle of calls {put_figures}. The measure is the width; the last figure is put after those before it.
-- Assumes nothing.
use mathlib.Core.Path.{◌≡◌}
use Prim.Native.Nat.{ℕ, suc, ◌-◌, ◌<◌}
use native.Mathlib.Omega.{arith}
use borrow.Author.Rules.{rules}
use borrow.Fn.Kinds.{In}
use borrow.Fn.PlainCycle.{Measures, is, falls, and}
use Rattle.figures.specs.Figures.{figures}
use Rattle.figures.proofs.Puts.{put-none, then, length-put}
use Rattle.figures.proofs.put.put_byte.Reads as byte
use Rattle.figures.proofs.put.put_figures.Reads as f
use Rattle.figures.proofs.put.put_figures.Kinds as kinds
use Rattle.figures.proofs.put.+put_figures.Lts-put_figures as lts
use Rattle.figures.proofs.put.+put_figures.{statement}
use Rattle.figures.proofs.put.+put_figures.Tie.{close}

abbrev μ : Measures 1 kinds.ps ℕ
μ κs a = a.1.1.0

abbrev at : ℕ → In 1 kinds.ps
at t = and 1 kinds.ps (is 1 kinds.ps μ t) f.Pre

abbrev below : ℕ → In 1 kinds.ps
below t = and 1 kinds.ps (falls 1 kinds.ps ◌<◌ μ t) f.Pre

returns : (t : ℕ) → lts.Need-returns-then-width-eq0 (below t, f.Post, byte.Asked, byte.Learnt) (at t) f.Post
unfolding figures
returns t c = rw c.if-width-eq0.true (put-none _ _)

returns-2 : (t : ℕ) → lts.Need-returns (below t, f.Post, byte.Asked, byte.Learnt) (at t) f.Post
unfolding figures
returns-2 t c =
    let a = c.args in
    let e : a.width ≡ suc (a.width - 1) = omega arith in
    rw e (then c.put_figures-last.ensures c.put_byte.ensures)

pub +put_figures_spec : {M : Type 1} → statement M
+put_figures_spec =
    close μ
    (λ t.
    lts.spec (below t, f.Post, byte.Asked, byte.Learnt) (at t) f.Post (returns t)
    (λ c. omega arith)
    (λ c κs. (omega arith, tt))
    (λ c. search rules) (λ c. search rules) (λ c κs. search rules)
    (λ c. length-put (returns-2 t c))
    (returns-2 t))
