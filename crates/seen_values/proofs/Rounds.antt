-- What may have been seen where Q, rain or a direction is read: exactly the values that come back so.
-- Assumes nothing.
use Rattle.std.specs.Prelude.{None, Some}
use mathlib.Core.Path.{◌≡◌, refl, sym, ap, ◌∙◌}
use mathlib.Core.Bool.{true, false, and-eq-true_iff}
use mathlib.Core.Logic.{◌↔◌, ◌⊎◌, inl, inr, ⊎_elim}
use Prim.Native.Nat.{ℕ, ◌+◌, ◌-◌, ◌*◌, ◌/◌, ◌%◌, ◌≤◌, ◌<◌}
use native.Mathlib.Omega.{arith}
use lib.Dec.{leb, eqb}
use borrow.Author.Tests.{lt-ltb, le-ltb, leb-true, eq-eqb, ne_eqb, eqb-true, eqb-false}
use Rattle.figures.proofs.Impossible.{impossible}
use Rattle.scales.specs.Rounded.{rounded_pressure, rain_fits, rounded_rain, rounded_direction}
use Rattle.scales.specs.declared.kinds.Rain.{Rain}
use Rattle.scales.specs.declared.kinds.Rain.TheVariants as rain
use Rattle.scales.proofs.Laws.{reached}
use Rattle.scales.proofs.RainLaws.{rain-exact, rain-most}
use Rattle.seen_values.specs.Seen.{Within}
use Rattle.seen_values.specs.Rounded.{seen_pressure, seen_tenths, seen_rain, WithinRain, seen_direction, WithinArc, arc_of}
use Rattle.seen_values.specs.declared.kinds.Seen.{Seen}
use Rattle.seen_values.specs.declared.kinds.Seen.TheVariants as seen

-- two numbers are one or not
pub one-or-not : (a b : ℕ) → (a ≡ b) ⊎ (a ≡ b → ⊥)
one-or-not a b = elim (eqb a b) as (λ c. eqb a b ≡ c → (a ≡ b) ⊎ (a ≡ b → ⊥)) [ true ↦ λ e. inl (eqb-true a b e) | false ↦ λ e. inr (eqb-false a b e) ] refl

-- ---- Q
module _ (t : ℕ) where
  pub pressure-whole : t ≤ 99999 → t % 10 ≡ 0 → seen.Between t (t + 9) ≡ seen_pressure t
  unfolding seen_pressure
  pressure-whole h e = rw (le-ltb 99999 t h, eq-eqb (t % 10) 0 e)

  pub pressure-part : t ≤ 99999 → (t % 10 ≡ 0 → ⊥) → seen.Nothing ≡ seen_pressure t
  unfolding seen_pressure
  pressure-part h n = rw (le-ltb 99999 t h, ne_eqb (t % 10) 0 n)

  pub pressure-far : 99999 < t → seen.Nothing ≡ seen_pressure t
  unfolding seen_pressure
  pressure-far h = rw (lt-ltb 99999 t h)

pub pressure-seen : (m v : ℕ) → v ≤ 99999 → (rounded_pressure v ≡ m) ↔ Within (seen_pressure m) v
unfolding rounded_pressure
pressure-seen m v h =
    ⊎_elim
    (λ l.
    ⊎_elim
    (λ z. rw (← pressure-whole m l z) (omega arith))
    (λ n. rw (← pressure-part m l n) (λ e. absurd (n (omega arith)), λ x. absurd x))
    (one-or-not (m % 10) 0))
    (λ l. rw (← pressure-far m l) (λ e. absurd (omega arith), λ x. absurd x))
    (reached m 99999)

-- ---- a direction
module _ (d : ℕ) where
  pub direction-tens : d ≤ 359 → d % 10 ≡ 0 → Some (arc_of ((d + 355) % 360) (d + 4)) ≡ seen_direction d
  unfolding seen_direction
  direction-tens h e = rw (le-ltb 359 d h, eq-eqb (d % 10) 0 e)

  pub direction-part : d ≤ 359 → (d % 10 ≡ 0 → ⊥) → None ≡ seen_direction d
  unfolding seen_direction
  direction-part h n = rw (le-ltb 359 d h, ne_eqb (d % 10) 0 n)

  pub direction-out : 359 < d → None ≡ seen_direction d
  unfolding seen_direction
  direction-out h = rw (lt-ltb 359 d h)

-- ten degrees from the first on
circle : (d v : ℕ) → d ≤ 359 → d % 10 ≡ 0 → v ≤ 359 → ((v + 5) / 10 * 10 % 360 ≡ d) ↔ ((v + 360 - (d + 355) % 360) % 360 ≤ (d + 4 + 360 - (d + 355) % 360) % 360)
circle d v h z k = ⊎_elim tens north (reached 10 d)
  where
    north-west : 355 ≤ v → ((v + 5) / 10 * 10 % 360 ≡ 0) ↔ ((v + 360 - 355) % 360 ≤ 9)
    north-west g = omega arith

    north-east : v < 5 → ((v + 5) / 10 * 10 % 360 ≡ 0) ↔ ((v + 360 - 355) % 360 ≤ 9)
    north-east g = omega arith

    elsewhere : 5 ≤ v → v < 355 → ((v + 5) / 10 * 10 % 360 ≡ 0) ↔ ((v + 360 - 355) % 360 ≤ 9)
    elsewhere i g =
        let read : (v + 5) / 10 * 10 % 360 ≡ (v + 5) / 10 * 10 = omega arith in
        let past : (v + 360 - 355) % 360 ≡ v + 5 = omega arith in
        (λ e. absurd (omega arith), λ w. absurd (omega arith))

    tens : 10 ≤ d → ((v + 5) / 10 * 10 % 360 ≡ d) ↔ ((v + 360 - (d + 355) % 360) % 360 ≤ (d + 4 + 360 - (d + 355) % 360) % 360)
    tens l =
        let first : (d + 355) % 360 ≡ d - 5 = omega arith in
        let last : (d + 4 + 360 - (d - 5)) % 360 ≡ 9 = omega arith in
        rw (first, last) (omega arith)

    north : d < 10 → ((v + 5) / 10 * 10 % 360 ≡ d) ↔ ((v + 360 - (d + 355) % 360) % 360 ≤ (d + 4 + 360 - (d + 355) % 360) % 360)
    north l =
        let n : d ≡ 0 = omega arith in
        rw n (⊎_elim north-west (λ g. ⊎_elim (λ i. elsewhere i g) north-east (reached 5 v)) (reached 355 v))

pub direction-seen : (d v : ℕ) → v ≤ 359 → (rounded_direction v ≡ d) ↔ WithinArc (seen_direction d) v
unfolding rounded_direction
direction-seen d v h =
    ⊎_elim
    (λ l.
    ⊎_elim
    (λ z. rw (← direction-tens d l z) (circle d v l z h))
    (λ n. rw (← direction-part d l n) (λ e. absurd (n (omega arith)), λ x. absurd x))
    (one-or-not (d % 10) 0))
    (λ l. rw (← direction-out d l) (λ e. absurd (omega arith), λ x. absurd x))
    (reached d 359)

-- ---- rain
module _ (t : ℕ) where
  pub rain-zero : t ≡ 0 → seen.Nothing ≡ seen_tenths t
  unfolding seen_tenths
  rain-zero e = rw e

  pub rain-tenth : 0 < t → t < 10 → seen.Between t t ≡ seen_tenths t
  unfolding seen_tenths
  rain-tenth l h = rw (ne_eqb t 0 (λ e. omega arith), lt-ltb t 10 h)

  pub rain-one : t ≡ 10 → seen.Between 10 14 ≡ seen_tenths t
  unfolding seen_tenths
  rain-one e = rw e

  pub rain-last : t ≡ 9890 → seen.From 9885 ≡ seen_tenths t
  unfolding seen_tenths
  rain-last e = rw e

  pub rain-beyond : 9890 < t → seen.Nothing ≡ seen_tenths t
  unfolding seen_tenths
  rain-beyond h =
      rw (ne_eqb t 0 (λ e. omega arith), le-ltb t 10 (omega arith), ne_eqb t 10 (λ e. omega arith), ne_eqb t 9890 (λ e. omega arith), lt-ltb 9890 t h)

  pub rain-whole : 10 < t → t < 9890 → t % 10 ≡ 0 → seen.Between (t - 5) (t + 4) ≡ seen_tenths t
  unfolding seen_tenths
  rain-whole l h z =
      rw (ne_eqb t 0 (λ e. omega arith), le-ltb t 10 (omega arith), ne_eqb t 10 (λ e. omega arith), ne_eqb t 9890 (λ e. omega arith), le-ltb 9890 t (omega arith), eq-eqb (t % 10) 0 z)

  pub rain-part : 10 < t → t < 9890 → (t % 10 ≡ 0 → ⊥) → seen.Nothing ≡ seen_tenths t
  unfolding seen_tenths
  rain-part l h n =
      rw (ne_eqb t 0 (λ e. omega arith), le-ltb t 10 (omega arith), ne_eqb t 10 (λ e. omega arith), ne_eqb t 9890 (λ e. omega arith), le-ltb 9890 t (omega arith), ne_eqb (t % 10) 0 n)

-- what u is read as, by its band
data Band (u n : ℕ) : Type 0 where
  tenth : u < 10 → n ≡ u → Band u n
  whole : 10 ≤ u → u < 9885 → n ≡ (u + 5) / 10 * 10 → Band u n
  most : 9885 ≤ u → n ≡ 9890 → Band u n

by-band : {u n : ℕ} {P : Type 0} → Band u n → (u < 10 → n ≡ u → P) → (10 ≤ u → u < 9885 → n ≡ (u + 5) / 10 * 10 → P) → (9885 ≤ u → n ≡ 9890 → P) → P
by-band (tenth h e) a b c = a h e
by-band (whole l h e) a b c = b l h e
by-band (most l e) a b c = c l e

rounded-whole : (u : ℕ) → 10 ≤ u → u < 9885 → rounded_rain (rain.Tenths u) ≡ rain.Tenths ((u + 5) / 10 * 10)
unfolding rounded_rain
rounded-whole u l h = rw (le-ltb u 10 l, lt-ltb u 9885 h)

in-band : (u : ℕ) → (n : ℕ) × (rounded_rain (rain.Tenths u) ≡ rain.Tenths n) × Band u n
in-band u =
    ⊎_elim
    (λ l. (9890, rain-most u l, most l refl))
    (λ h.
    ⊎_elim
    (λ l. ((u + 5) / 10 * 10, rounded-whole u l h, whole l h refl))
    (λ k. (u, rain-exact u k, tenth k refl))
    (reached 10 u))
    (reached 9885 u)

module _ (u n t : ℕ) (p : 1 ≤ u) (b : Band u n) where
  abbrev Same : Seen → Type 0
  Same s = (n ≡ t) ↔ Within s u

  in-class : {s : Seen} → s ≡ seen_tenths t → (u < 10 → n ≡ u → Same s) → (10 ≤ u → u < 9885 → n ≡ (u + 5) / 10 * 10 → Same s) → (9885 ≤ u → n ≡ 9890 → Same s)
      → Same (seen_tenths t)
  in-class e low middle high = rw (← e) (by-band b low middle high)

  in-none : seen.Nothing ≡ seen_tenths t → (u < 10 → n ≡ u → n ≡ t → ⊥) → (10 ≤ u → u < 9885 → n ≡ (u + 5) / 10 * 10 → n ≡ t → ⊥) → (9885 ≤ u → n ≡ 9890 → n ≡ t → ⊥)
      → Same (seen_tenths t)
  in-none e low middle high = rw (← e) (λ f. by-band b (λ h g. low h g f) (λ l h g. middle l h g f) (λ l g. high l g f), λ x. absurd x)

  from-eleven : 10 < t → t < 9890 → Same (seen_tenths t)
  from-eleven l h =
      ⊎_elim
      (λ (z : t % 10 ≡ 0). in-class (rain-whole t l h z) (λ i e. omega arith) (λ j i e. omega arith) (λ j e. omega arith))
      (λ (z : t % 10 ≡ 0 → ⊥). in-none (rain-part t l h z) (λ i e f. omega arith) (λ j i e f. z (omega arith)) (λ j e f. omega arith))
      (one-or-not (t % 10) 0)

  from-ten : 10 ≤ t → Same (seen_tenths t)
  from-ten l =
      ⊎_elim
      (λ (z : t ≡ 10). in-class (rain-one t z) (λ i e. omega arith) (λ j i e. omega arith) (λ j e. omega arith))
      (λ (z : t ≡ 10 → ⊥).
      ⊎_elim
      (λ (y : t ≡ 9890). in-class (rain-last t y) (λ i e. omega arith) (λ j i e. omega arith) (λ j e. omega arith))
      (λ (y : t ≡ 9890 → ⊥).
      ⊎_elim
      (λ (x : 9890 ≤ t). in-none (rain-beyond t (omega arith)) (λ i e f. omega arith) (λ j i e f. omega arith) (λ j e f. omega arith))
      (λ (x : t < 9890). from-eleven (omega arith) x)
      (reached 9890 t))
      (one-or-not t 9890))
      (one-or-not t 10)

  same : Same (seen_tenths t)
  same =
      ⊎_elim
      (λ (z : t ≡ 0). in-none (rain-zero t z) (λ i e f. omega arith) (λ j i e f. omega arith) (λ j e f. omega arith))
      (λ (z : t ≡ 0 → ⊥).
      ⊎_elim
      (λ (l : 10 ≤ t). from-ten l)
      (λ (h : t < 10). in-class (rain-tenth t (omega arith) h) (λ i e. omega arith) (λ j i e. omega arith) (λ j e. omega arith))
      (reached 10 t))
      (one-or-not t 0)

pub rain-seen : (m v : Rain) → rain_fits v ≡ true → (rounded_rain v ≡ m) ↔ WithinRain (seen_rain m) v
unfolding seen_rain
rain-seen rain.Trace rain.Trace h = (λ e. refl, λ e. unfold rounded_rain in refl)
rain-seen (rain.Tenths t) rain.Trace h = (λ e. let f : rain.Trace ≡ rain.Tenths t = unfold rounded_rain in e in impossible (cc), λ x. absurd x)
rain-seen rain.Trace (rain.Tenths u) h =
    let (n, e, b) = in-band u in
    (λ f. let g : rain.Tenths n ≡ rain.Trace = sym e ∙ f in impossible (cc), λ f. impossible (cc))
rain-seen (rain.Tenths t) (rain.Tenths u) h =
    let (n, e, b) = in-band u in
    let p = leb-true 1 u ((and-eq-true_iff (leb 1 u) (leb u 99999)).0 h).0 in
    let s = same u n t p b in
    (λ f. let g : rain.Tenths n ≡ rain.Tenths t = sym e ∙ f in s.0 (cc), λ w. e ∙ ap rain.Tenths (s.1 w))
