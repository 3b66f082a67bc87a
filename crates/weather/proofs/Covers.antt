-- Every group of the shape fits one of the patterns of its cover.
-- Assumes nothing.
use mathlib.Core.Path.{◌≡◌, refl, sym, ◌∙◌}
use mathlib.Core.Bool.{Bool, true, false, cond, ◌&&◌, ◌||◌, or_assoc, false≢true}
use mathlib.Core.List.{List, [], ◌∷◌, ◌++◌, append_assoc}
use Prim.Native.Nat.{ℕ}
use lib.ListN.{length}
use lib.Dec.{ltb, eqb}
use native.Mathlib.Omega.{arith}
use borrow.Author.Tests.{eqb-true, lt-ltb}
use Rattle.figures.specs.Quote.{bytes}
use Rattle.figures.specs.Figures.{every}
use Rattle.shapes.specs.Pattern.{Pattern, more, fits, low, high, has_pattern, has_any}
use Rattle.shapes.proofs.Patterns.{both, or_cases, or_right}
use Rattle.places.specs.Engine.{Group}
use Rattle.elements.specs.Weather.{codes_of, same, among, is_code, is_sign, are_codes, some_codes, signed_codes, has_weather, has_recent, covering, all_codes, codes_but_snow, unsigned_cover, all_among, weather_cover}
use Rattle.weather.proofs.Table.{same-eq, in_table, code-among}

-- ---- patterns that stand for themselves

-- a byte that fits itself as a pattern
abbrev pub itself : ℕ → Bool
itself p = fits p p

own-pattern : (s rest : List ℕ) → every itself s ≡ true → has_pattern (s ++ rest) (s ++ bytes "*") ≡ true
unfolding has_pattern
own-pattern [] [] h = refl
own-pattern [] (x ∷ rest) h = refl
own-pattern (p ∷ s) rest h =
    let t = both (itself p) (every itself s) h in
    or_right (more p) _ (rw t.0 (own-pattern s rest t.1))

pub any_append : (ps qs : List Pattern) (g : Group) → has_any (ps ++ qs) g ≡ (has_any ps g || has_any qs g)
unfolding has_any
any_append [] qs g = refl
any_append (p ∷ ps) qs g = rw (any_append ps qs g) (sym (or_assoc (has_pattern g p) (has_any ps g) (has_any qs g)))

-- what begins with bytes and a code fits the code's pattern after the same bytes
pub covered-by : (before c rest : List ℕ) (cs : List (List ℕ)) → all_among (λ d. every itself (before ++ d)) cs ≡ true → among c cs ≡ true
    → has_any (covering before cs) ((before ++ c) ++ rest) ≡ true
unfolding has_any
covered-by before c rest [] a h = absurd (false≢true h)
covered-by before c rest (d ∷ cs) a h =
    let t = both (every itself (before ++ d)) (all_among (λ d. every itself (before ++ d)) cs) a in
    or_cases (same c d) (among c cs) h
    (λ e. rw (same-eq c d e, own-pattern (before ++ d) rest t.0))
    (λ e. or_right (has_pattern ((before ++ c) ++ rest) ((before ++ d) ++ bytes "*")) _ (covered-by before c rest cs t.1 e))

-- ---- codes after a sign, or after SN

-- a text of codes begins with one, and codes follow
begin-codes : (a b : ℕ) (s : List ℕ) → some_codes (a ∷ b ∷ s) ≡ true → (among (a ∷ b ∷ []) all_codes ≡ true) × (are_codes s ≡ true)
unfolding are_codes
begin-codes a b s h =
    let t = both (is_code (a ∷ b ∷ [])) (are_codes s) (both (ltb 0 (length (a ∷ b ∷ s))) _ h).1 in
    (code-among (a ∷ b ∷ []) ∙ t.0, t.1)

-- a single byte is no text of codes
no-half : (a : ℕ) → some_codes (a ∷ []) ≡ true → ⊥
unfolding are_codes
no-half a h = false≢true (both (ltb 0 1) false h).1

module _ (before : List ℕ) (own : all_among (λ d. every itself (before ++ d)) all_codes ≡ true) where
  begins : (s : List ℕ) → some_codes s ≡ true → has_any (covering before all_codes) (before ++ s) ≡ true
  begins [] h = absurd (false≢true h)
  begins (a ∷ []) h = absurd (no-half a h)
  begins (a ∷ b ∷ s) h = rw (append_assoc before (a ∷ b ∷ []) s) at (covered-by before (a ∷ b ∷ []) s all_codes own (begin-codes a b s h).0)

-- ---- codes without a sign

module _ (g : Group) where
  alone : has_pattern g (bytes "SN") ≡ true → has_any unsigned_cover g ≡ true
  unfolding has_any
  alone e = rw e

  joined : (has_any (covering (bytes "SN") all_codes) g || has_any (covering [] codes_but_snow) g) ≡ true → has_any unsigned_cover g ≡ true
  unfolding has_any
  joined e = or_right (has_pattern g (bytes "SN")) _ (rw (any_append (covering (bytes "SN") all_codes) (covering [] codes_but_snow) g) e)

-- SN, where codes follow or none
after-snow : (s : List ℕ) → are_codes s ≡ true → has_any unsigned_cover (83 ∷ 78 ∷ s) ≡ true
after-snow [] h = alone (bytes "SN") (unfold has_pattern fits low high in refl)
after-snow (x ∷ s) h =
    joined (83 ∷ 78 ∷ x ∷ s)
    (rw (begins (bytes "SN") (unfold codes_of fits low high in refl) (x ∷ s) (rw (lt-ltb 0 (length (x ∷ s)) (omega arith)) h)))

unsigned-covered : (s : List ℕ) → some_codes s ≡ true → has_any unsigned_cover s ≡ true
unsigned-covered [] h = absurd (false≢true h)
unsigned-covered (a ∷ []) h = absurd (no-half a h)
unsigned-covered (a ∷ b ∷ s) h =
    let t = begin-codes a b s h in
    or_cases (same (a ∷ b ∷ []) (bytes "SN")) (among (a ∷ b ∷ []) codes_but_snow)
    (in_table (λ d. same d (bytes "SN") || among d codes_but_snow) all_codes (unfold codes_of in refl) (a ∷ b ∷ []) t.0)
    (λ e.
    let u = both (eqb a 83) (eqb b 78 && true) e in
    rw (eqb-true a 83 u.0, eqb-true b 78 (both (eqb b 78) true u.1).0) (after-snow s t.1))
    (λ e. joined (a ∷ b ∷ s) (or_right (has_any (covering (bytes "SN") all_codes) (a ∷ b ∷ s)) _ (covered-by [] (a ∷ b ∷ []) s codes_but_snow (unfold codes_of fits low high in refl) e)))

-- ---- a sign or none

signed-covered : (g : Group) → signed_codes g ≡ true → (has_any unsigned_cover g || (has_any (covering (bytes "+") all_codes) g || has_any (covering (bytes "-") all_codes) g)) ≡ true
unfolding signed_codes
signed-covered [] h = absurd (false≢true h)
signed-covered (b ∷ g) h = go (is_sign b) refl h
  where
    Fitting : Group → Type 0
    Fitting g = (has_any unsigned_cover g || (has_any (covering (bytes "+") all_codes) g || has_any (covering (bytes "-") all_codes) g)) ≡ true

    signed : some_codes g ≡ true → is_sign b ≡ true → Fitting (b ∷ g)
    signed s t =
        or_right (has_any unsigned_cover (b ∷ g)) _
        (or_cases (eqb b 43) (eqb b 45) t
        (λ e. rw (eqb-true b 43 e, begins (bytes "+") (unfold codes_of fits low high in refl) g s))
        (λ e. or_right (has_any (covering (bytes "+") all_codes) (b ∷ g)) _ (rw (eqb-true b 45 e) (begins (bytes "-") (unfold codes_of fits low high in refl) g s))))

    go : (t : Bool) → is_sign b ≡ t → cond t (some_codes g) (some_codes (b ∷ g)) ≡ true → Fitting (b ∷ g)
    go true t s = signed s t
    go false t s = rw (unsigned-covered (b ∷ g) s)

pub weather-covered : (g : Group) → has_weather g ≡ true → has_any weather_cover g ≡ true
unfolding has_weather has_any
weather-covered g h =
    or_cases (has_pattern g (bytes "//")) (signed_codes g) h
    (λ e. rw e)
    (λ e. or_right (has_pattern g (bytes "//")) _
    (rw (any_append unsigned_cover (covering (bytes "+") all_codes ++ covering (bytes "-") all_codes) g, any_append (covering (bytes "+") all_codes) (covering (bytes "-") all_codes) g)
    (signed-covered g e)))

pub recent-covered : (g : Group) → has_recent g ≡ true → has_any (bytes "RE*" ∷ []) g ≡ true
unfolding has_recent has_any has_pattern fits low high
recent-covered [] h = absurd (false≢true h)
recent-covered (r ∷ []) h = absurd (false≢true h)
recent-covered (r ∷ e ∷ g) h =
    let t = both (eqb r 82 && eqb e 69) (signed_codes g) h in
    let u = both (eqb r 82) (eqb e 69) t.0 in
    rw (eqb-true r 82 u.0, eqb-true e 69 u.1) (last g)
  where
    last : (g : Group) → (has_pattern g (bytes "*") || false) ≡ true
    last [] = refl
    last (x ∷ g) = refl
