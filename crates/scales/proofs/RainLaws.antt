-- Rain by its bands, and its laws: how far off, the order, and what is written reads back.
-- Assumes nothing.
use Rattle.std.specs.Prelude.{None, Some}
use mathlib.Core.Path.{◌≡◌, refl, sym, ap, ◌∙◌}
use mathlib.Core.Logic.{◌⊎◌, inl, inr, ⊎_elim}
use Prim.Native.Nat.{ℕ, ◌+◌, ◌-◌, ◌*◌, ◌/◌, ◌≤◌, ◌<◌}
use native.Mathlib.Omega.{arith}
use mathlib.Core.Bool.{true, and-eq-true_iff}
use lib.Dec.{leb}
use borrow.Author.Tests.{lt-ltb, le-ltb, le-leb, lt-leb, leb-true, ne_eqb}
use Rattle.figures.proofs.Impossible.{impossible}
use Rattle.scales.specs.Rounded.{rain_fits, rain_figure, rain_reading, rounded_rain, rain_rank}
use Rattle.scales.specs.declared.kinds.Rain.{Rain}
use Rattle.scales.specs.declared.kinds.Rain.TheVariants as rain
use Rattle.scales.proofs.Laws.{reached}
use Rattle.scales.proofs.Rounds.{Rounds, rounds}

-- ---- the figure of an amount
pub trace-written : Some 990 ≡ rain_figure rain.Trace
unfolding rain_figure
trace-written = refl

module _ (t : ℕ) where
  pub tenths-written : 0 < t → t < 10 → Some (990 + t) ≡ rain_figure (rain.Tenths t)
  unfolding rain_figure
  tenths-written l h = rw (ne_eqb t 0 (λ e. omega arith), le-ltb 99999 t (omega arith), lt-ltb t 10 h)

  pub whole-written : 10 ≤ t → t < 9885 → Some ((t + 5) / 10) ≡ rain_figure (rain.Tenths t)
  unfolding rain_figure
  whole-written l h =
      rw (ne_eqb t 0 (λ e. omega arith), le-ltb 99999 t (omega arith), le-ltb t 10 l, lt-ltb t 9885 h)

  pub most-written : 9885 ≤ t → t ≤ 99999 → Some 989 ≡ rain_figure (rain.Tenths t)
  unfolding rain_figure
  most-written l h =
      rw (ne_eqb t 0 (λ e. omega arith), le-ltb 99999 t h, le-ltb t 10 (omega arith), le-ltb t 9885 l)

  pub none_written : (t ≡ 0) ⊎ (99999 < t) → None ≡ rain_figure (rain.Tenths t)
  unfolding rain_figure
  none_written h = ⊎_elim (λ e. rw e) (λ w. rw (ne_eqb t 0 (λ e. omega arith), lt-ltb 99999 t w)) h

-- ---- the reading of a figure
module _ (f : ℕ) where
  pub whole-read : 0 < f → f ≤ 989 → Some (rain.Tenths (f * 10)) ≡ rain_reading f
  unfolding rain_reading
  whole-read l h = rw (ne_eqb f 0 (λ e. omega arith), le-ltb 999 f (omega arith), le-leb f 989 h)

  pub trace-read : f ≡ 990 → Some rain.Trace ≡ rain_reading f
  unfolding rain_reading
  trace-read e = rw e

  pub tenths-read : 990 < f → f ≤ 999 → Some (rain.Tenths (f - 990)) ≡ rain_reading f
  unfolding rain_reading
  tenths-read l h =
      rw (ne_eqb f 0 (λ e. omega arith), le-ltb 999 f h, lt-leb f 989 (omega arith), ne_eqb f 990 (λ e. omega arith))

  pub none_read : (f ≡ 0) ⊎ (999 < f) → None ≡ rain_reading f
  unfolding rain_reading
  none_read h = ⊎_elim (λ e. rw e) (λ w. rw (ne_eqb f 0 (λ e. omega arith), lt-ltb 999 f w)) h

-- ---- what is written reads back

-- the bands of amounts, with what each is read as
data Band (t : ℕ) : Type 0 where
  tenth : t < 10 → rounded_rain (rain.Tenths t) ≡ rain.Tenths t → Band t
  whole : 10 ≤ t → t < 9885 → rounded_rain (rain.Tenths t) ≡ rain.Tenths ((t + 5) / 10 * 10) → Band t
  most : 9885 ≤ t → rounded_rain (rain.Tenths t) ≡ rain.Tenths 9890 → Band t

band : (t : ℕ) → Band t
unfolding rounded_rain
band t =
    ⊎_elim
    (λ m. most m (rw (le-ltb t 10 (omega arith), le-ltb t 9885 m)))
    (λ h. ⊎_elim (λ l. whole l h (rw (le-ltb t 10 l, lt-ltb t 9885 h))) (λ k. tenth k (rw (lt-ltb t 10 k))) (reached 10 t))
    (reached 9885 t)

module _ (t f : ℕ) (w : rain_figure (rain.Tenths t) ≡ Some f) where
  in-range : (1 ≤ t) × (t ≤ 99999)
  in-range =
      ⊎_elim
      (λ l. ⊎_elim (λ h. (l, h)) (λ h. out (none_written t (inr h))) (reached t 99999))
      (λ h. out (none_written t (inl (omega arith))))
      (reached 1 t)
    where
      out : None ≡ rain_figure (rain.Tenths t) → (1 ≤ t) × (t ≤ 99999)
      out e = impossible (cc)

  back-tenths : Band t → rain_reading f ≡ Some (rounded_rain (rain.Tenths t))
  back-tenths (tenth h e) =
      let i : Some (990 + t) ≡ rain_figure (rain.Tenths t) = tenths-written t in-range.0 h in
      let j : 990 + t ≡ f = cc in
      let k : f - 990 ≡ t = omega arith in
      rw (e, ← tenths-read f (omega (arith, in-range)) (omega arith), k)
  back-tenths (whole l h e) =
      let i : Some ((t + 5) / 10) ≡ rain_figure (rain.Tenths t) = whole-written t l h in
      let j : (t + 5) / 10 ≡ f = cc in
      rw (e, j, ← whole-read f (omega arith) (omega arith))
  back-tenths (most l e) =
      let i : Some 989 ≡ rain_figure (rain.Tenths t) = most-written t l in-range.1 in
      let j : 989 ≡ f = cc in
      rw (e, ← j, ← whole-read 989 (omega arith) (omega arith))

back : (r : Rain) (f : ℕ) → rain_figure r ≡ Some f → rain_reading f ≡ Some (rounded_rain r)
unfolding rounded_rain
back rain.Trace f w = let i : Some 990 ≡ rain_figure rain.Trace = trace-written in let j : 990 ≡ f = cc in sym (trace-read f (sym j))
back (rain.Tenths t) f w = unfold rounded_rain in back-tenths t f w (band t)

module _ (f : ℕ) (r : Rain) (e : rain_reading f ≡ Some r) where
  own-whole : 1 ≤ f → f ≤ 989 → rain_figure r ≡ Some f
  own-whole l h =
      let i : Some (rain.Tenths (f * 10)) ≡ rain_reading f = whole-read f l h in
      let j : rain.Tenths (f * 10) ≡ r = cc in
      let k : (f * 10 + 5) / 10 ≡ f = omega arith in
      rw (← j)
      (⊎_elim
      (λ m. let n : 989 ≡ f = omega arith in sym (most-written (f * 10) m (omega arith)) ∙ ap Some n)
      (λ m. sym (whole-written (f * 10) (omega arith) m) ∙ ap Some k)
      (reached 9885 (f * 10)))

  own-tenth : 990 < f → f ≤ 999 → rain_figure r ≡ Some f
  own-tenth l h =
      let i : Some (rain.Tenths (f - 990)) ≡ rain_reading f = tenths-read f l h in
      let j : rain.Tenths (f - 990) ≡ r = cc in
      let k : 990 + (f - 990) ≡ f = omega arith in
      rw (← j) (sym (tenths-written (f - 990) (omega arith) (omega arith)) ∙ ap Some k)

  own-trace : f ≡ 990 → rain_figure r ≡ Some f
  own-trace g =
      let i : Some rain.Trace ≡ rain_reading f = trace-read f g in
      let j : rain.Trace ≡ r = cc in
      rw (← j, g) (sym trace-written)

  own-none : (f ≡ 0) ⊎ (999 < f) → rain_figure r ≡ Some f
  own-none h =
      let i : None ≡ rain_reading f = none_read f h in
      impossible (cc)

  own : rain_figure r ≡ Some f
  own =
      ⊎_elim
      (λ h. ⊎_elim (λ l. own-whole l h) (λ l. own-none (inl (omega arith))) (reached 1 f))
      (λ l. ⊎_elim (λ m. ⊎_elim (λ h. own-tenth m h) (λ h. own-none (inr h)) (reached f 999)) (λ m. own-trace (omega arith)) (reached 991 f))
      (reached f 989)

pub rain-rounds : Rounds (λ r f. rain_figure r ≡ Some f) (λ f r. rain_reading f ≡ Some r) (λ f. rain_reading f ≡ None) rounded_rain
rain-rounds = rounds back own (λ f r u e. impossible (cc))

-- what may be written has three figures
pub rain-written : (r : Rain) → rain_fits r ≡ true → (f : ℕ) × (rain_figure r ≡ Some f) × (f ≤ 999)
rain-written rain.Trace e = (990, sym trace-written, omega arith)
rain-written (rain.Tenths t) e =
    let r = (and-eq-true_iff (leb 1 t) (leb t 99999)).0 e in
    let least = leb-true 1 t r.0 in
    let greatest = leb-true t 99999 r.1 in
    elim (band t) [
      | tenth h i ↦ (990 + t, sym (tenths-written t least h), omega arith)
      | whole l h i ↦ ((t + 5) / 10, sym (whole-written t l h), omega arith)
      | most l i ↦ (989, sym (most-written t l greatest), omega arith)
    ]

-- and its reading may be written, with the same figure
pub rain-again : (r : Rain) → rain_fits r ≡ true → rain_figure (rounded_rain r) ≡ rain_figure r
rain-again r h = let w = rain-written r h in rain-rounds.again r w.0 w.1 ∙ sym w.1

pub rain-classed : (r : Rain) → rain_fits r ≡ true → rain_fits (rounded_rain r) ≡ true
rain-classed rain.Trace e = unfold rounded_rain in refl
rain-classed (rain.Tenths t) e =
    elim (band t) [
      | tenth h i ↦ rw i e
      | whole l h i ↦ rw (i, le-leb 1 ((t + 5) / 10 * 10) (omega arith), le-leb ((t + 5) / 10 * 10) 99999 (omega arith))
      | most l i ↦ rw i
    ]

-- ---- how far off, in tenths, and the order

-- an amount and its reading: "Value less reading, in tenths: .. -5 to 4; 989 (from 988.5 mm) is open and is read 989.0"; below 1.0 mm, and trace,
-- exact
pub data RainNear : Rain → Rain → Type 0 where
  trace-near : RainNear rain.Trace rain.Trace
  tenth-near : {t : ℕ} → t < 10 → RainNear (rain.Tenths t) (rain.Tenths t)
  whole-near : {t u : ℕ} → 10 ≤ t → t < 9885 → u ≤ t + 5 → t ≤ u + 4 → RainNear (rain.Tenths t) (rain.Tenths u)
  most-near : {t : ℕ} → 9885 ≤ t → RainNear (rain.Tenths t) (rain.Tenths 9890)

pub rain-kept : (r : Rain) → RainNear r (rounded_rain r)
rain-kept rain.Trace = unfold rounded_rain in trace-near
rain-kept (rain.Tenths t) =
    elim (band t) [
      | tenth h e ↦ rw e (tenth-near h)
      | whole l h e ↦ rw e (whole-near {u = (t + 5) / 10 * 10} l h (omega arith) (omega arith))
      | most l e ↦ rw e (most-near l)
    ]

-- -5 to 4, and below 1.0 mm nothing
pub rain-near : (t : ℕ) → t < 9885 → (rain_rank (rounded_rain (rain.Tenths t)) ≤ t + 5) × (t ≤ rain_rank (rounded_rain (rain.Tenths t)) + 4)
unfolding rain_rank
rain-near t h =
    elim (band t) [ tenth l e ↦ rw e (omega arith, omega arith) | whole l g e ↦ rw e (omega arith, omega arith) | most l e ↦ absurd (omega arith) ]

pub rain-exact : (t : ℕ) → t < 10 → rounded_rain (rain.Tenths t) ≡ rain.Tenths t
unfolding rounded_rain
rain-exact t h = rw (lt-ltb t 10 h)

pub trace-exact : rounded_rain rain.Trace ≡ rain.Trace
unfolding rounded_rain
trace-exact = refl

-- 989 is open: it is written from 988.5 mm on, and read 989.0
pub rain-open : (t : ℕ) → rain_figure (rain.Tenths t) ≡ Some 989 → 9885 ≤ t
rain-open t w =
    elim (band t) [
      | tenth h e ↦
          let i : Some (990 + t) ≡ rain_figure (rain.Tenths t) = tenths-written t (in-range t 989 w).0 h in
          let j : 990 + t ≡ 989 = cc in
          absurd (omega arith)
      | whole l h e ↦
          let i : Some ((t + 5) / 10) ≡ rain_figure (rain.Tenths t) = whole-written t l h in
          let j : (t + 5) / 10 ≡ 989 = cc in
          absurd (omega arith)
      | most l e ↦ l
    ]

pub rain-most : (t : ℕ) → 9885 ≤ t → rounded_rain (rain.Tenths t) ≡ rain.Tenths 9890
unfolding rounded_rain
rain-most t h = rw (le-ltb t 10 (omega arith), le-ltb t 9885 h)

-- the greater amount never reads smaller; trace is least
order-tenths : (t u : ℕ) → Band t → Band u → t ≤ u → rain_rank (rounded_rain (rain.Tenths t)) ≤ rain_rank (rounded_rain (rain.Tenths u))
unfolding rain_rank
order-tenths t u (tenth h e) (tenth k g) l = rw (e, g) l
order-tenths t u (tenth h e) (whole j k g) l = rw (e, g) (omega arith)
order-tenths t u (tenth h e) (most k g) l = rw (e, g) (omega arith)
order-tenths t u (whole m h e) (tenth k g) l = absurd (omega arith)
order-tenths t u (whole m h e) (whole j k g) l = rw (e, g) (omega arith)
order-tenths t u (whole m h e) (most k g) l = rw (e, g) (omega arith)
order-tenths t u (most h e) (tenth k g) l = absurd (omega arith)
order-tenths t u (most h e) (whole j k g) l = absurd (omega arith)
order-tenths t u (most h e) (most k g) l = rw (e, g) (omega arith)

pub rain-order : (a b : Rain) → rain_rank a ≤ rain_rank b → rain_rank (rounded_rain a) ≤ rain_rank (rounded_rain b)
rain-order rain.Trace b h = unfold rain_rank rounded_rain in omega arith
rain-order (rain.Tenths t) rain.Trace h =
    let k : t ≡ 0 = unfold rain_rank in omega arith in
    rw k (unfold rain_rank rounded_rain in omega arith)
rain-order (rain.Tenths t) (rain.Tenths u) h = order-tenths t u (band t) (band u) (unfold rain_rank in h)
