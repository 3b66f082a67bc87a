-- A weather group that is read is judged fine: its codes are joined as they are read, two letters each and no more than the record holds.
-- Assumes nothing.
use Rattle.std.specs.Prelude.{Ok, Result}
use Rattle.text.specs.declared.kinds.Refusal.{Refusal}
use Prim.Native.Nat.{ℕ, ◌≤◌}
use native.Mathlib.Omega.{arith}
use mathlib.Core.Path.{◌≡◌, refl}
use mathlib.Core.Bool.{Bool, true, false, cond, not, ◌&&◌, ◌||◌, or-true}
use mathlib.Core.List.{List, [], ◌∷◌}
use lib.ListN.{length, get_or}
use lib.Dec.{leb, eqb}
use borrow.Author.Tests.{leb-true, eqb-true}
use Rattle.figures.specs.Quote.{bytes}
use Rattle.shapes.specs.Pattern.{has_pattern}
use Rattle.shapes.proofs.Patterns.{both, or_cases}
use Rattle.places.specs.Engine.{Group}
use Rattle.record.specs.declared.aerodrome.Intensity.{Intensity}
use Rattle.record.specs.declared.aerodrome.Intensity.TheVariants as intensity
use Rattle.record.specs.declared.aerodrome.Weather.{Weather}
use Rattle.elements.specs.Weather.{codes_of, one, is_descriptor, is_precipitation, is_phenomenon, all_among, precipitations, single, suits, Joined, Bare, Under, joined, right, in_vicinity, signed, code_at, weather_of, unsigned, with_sign, said_weather, has_unknown, unless_unknown, read_weather, is_plain, only_plain, read_recent, gapless, listed, intensity_fits, phenomena_fit, judge_weather, judge_recent}
use Rattle.accepted_laws.proofs.Gives.{Gives, good, bad, gives_more, gives-cond, gives-provided, gives-agreeing}

-- ---- codes of two letters

abbrev Paired : List (List ℕ) → Type 0
Paired [] = Unit {0}
Paired (c ∷ cs) = (c ≡ get_or c 0 0 ∷ get_or c 1 0 ∷ []) × Paired cs

codes-paired : (g : List ℕ) → Paired (codes_of g)
unfolding codes_of
codes-paired [] = tt
codes-paired (a ∷ []) = tt
codes-paired (a ∷ b ∷ g) = (refl, codes-paired g)

-- ---- what is joined rightly has three codes at most, beside a descriptor

single-few : (test : List ℕ → Bool) (cs : List (List ℕ)) → single test cs ≡ true → length cs ≤ 3
single-few test cs e = let n = eqb-true (length cs) 1 (both (eqb (length cs) 1) (all_among test cs) e).0 in omega (arith, n)

falling-few : (cs : List (List ℕ)) → precipitations cs ≡ true → length cs ≤ 3
falling-few cs e =
    let t = (both (leb 1 (length cs) && leb (length cs) 3 && all_among is_precipitation cs) _ e).0 in
    let u = (both (leb 1 (length cs) && leb (length cs) 3) (all_among is_precipitation cs) t).0 in
    leb-true (length cs) 3 (both (leb 1 (length cs)) (leb (length cs) 3) u).1

none-few : (a : Bool) (cs : List (List ℕ)) → (a && eqb (length cs) 0) ≡ true → length cs ≤ 3
none-few a cs e = let n = eqb-true (length cs) 0 (both a (eqb (length cs) 0) e).1 in omega (arith, n)

suits-few : (d : List ℕ) (cs : List (List ℕ)) → suits d cs ≡ true → length cs ≤ 3
suits-few d cs e = go (one "MIBCPR" d) (one "DRBL" d) (one "SHTS" d) e
  where
    go : (a b c : Bool)
        → cond a (single (one "FG") cs) (cond b (single (one "DUSASN") cs) (cond c (precipitations cs && all_among (one "RASNPLGSGR") cs) (single (one "FG") cs || (precipitations cs && all_among (one "DZRA") cs)))) ≡ true
        → length cs ≤ 3
    go true b c e = single-few (one "FG") cs e
    go false true c e = single-few (one "DUSASN") cs e
    go false false true e = falling-few cs (both (precipitations cs) _ e).0
    go false false false e = or_cases (single (one "FG") cs) _ e (single-few (one "FG") cs) (λ h. falling-few cs (both (precipitations cs) _ h).0)

abbrev Few : Joined → Type 0
Few (Bare cs) = length cs ≤ 3
Few (Under d cs) = length cs ≤ 3

right-few : (j : Joined) → right j ≡ true → Few j
right-few (Bare cs) e = or_cases (single is_phenomenon cs) (precipitations cs) e (single-few is_phenomenon cs) (falling-few cs)
right-few (Under d cs) e = or_cases (one "TS" d && eqb (length cs) 0) (suits d cs) e (none-few (one "TS" d) cs) (suits-few d cs)

near-few : (j : Joined) → in_vicinity j ≡ true → Few j
near-few (Bare cs) e = single-few (one "DSSSFGFCPOVA") cs e
near-few (Under d cs) e =
    or_cases (one "SHTS" d && eqb (length cs) 0) (one "BL" d && single (one "DUSASN") cs) e (none-few (one "SHTS" d) cs)
    (λ h. single-few (one "DUSASN") cs (both (one "BL" d) (single (one "DUSASN") cs) h).1)

fits-few : (i : Intensity) (j : Joined) → intensity_fits i j ≡ true → Few j
fits-few intensity.None j e = right-few j e
fits-few intensity.Light j e = right-few j (both (right j) (signed false j) e).0
fits-few intensity.Heavy j e = right-few j (both (right j) (signed true j) e).0
fits-few intensity.Vicinity j e = near-few j e

-- ---- what is joined is put into the record as it is

record Put (cs : List (List ℕ)) : Type 0 where
  same : listed (code_at cs 0) (listed (code_at cs 1) (listed (code_at cs 2) [])) ≡ cs
  close : gapless (code_at cs 0) (code_at cs 1) (code_at cs 2) ≡ true

put : (cs : List (List ℕ)) → Paired cs → length cs ≤ 3 → Put cs
put [] p h = record { same = refl; close = refl }
put (a ∷ []) (p, _) h = record { same = rw (← p); close = refl }
put (a ∷ b ∷ []) (p, (q, _)) h = record { same = rw (← p, ← q); close = refl }
put (a ∷ b ∷ c ∷ []) (p, (q, (r, _))) h = record { same = rw (← p, ← q, ← r); close = refl }
put (a ∷ b ∷ c ∷ d ∷ cs) p h = absurd (omega arith)

abbrev Coded : Joined → Type 0
Coded (Bare cs) = Paired cs
Coded (Under d cs) = (d ≡ get_or d 0 0 ∷ get_or d 1 0 ∷ []) × (is_descriptor d ≡ true) × Paired cs

joined-coded : (cs : List (List ℕ)) → Paired cs → Coded (joined cs)
joined-coded [] p = tt
joined-coded (c ∷ cs) p = go (is_descriptor c) refl
  where
    go : (b : Bool) → is_descriptor c ≡ b → Coded (cond b (Under c cs) (Bare (c ∷ cs)))
    go true e = (p.0, e, p.1)
    go false e = p

joined-fits : (i : Intensity) (j : Joined) → Coded j → intensity_fits i j ≡ true → phenomena_fit (weather_of i j).is ≡ true
joined-fits i (Bare cs) p e = let q = put cs p (fits-few i (Bare cs) e) in rw (q.same, q.close) e
joined-fits i (Under d cs) (two, is, p) e = let q = put cs p (fits-few i (Under d cs) e) in rw (q.same, q.close, ← two, is) e

-- ---- what is said

abbrev Fitting : Weather → Type 0
Fitting w = phenomena_fit w.is ≡ true

said-as : (i : Intensity) (cs : List (List ℕ)) → Paired cs → intensity_fits i (joined cs) ≡ true → Gives Fitting (Ok (weather_of i (joined cs)))
said-as i cs p e = good (joined-fits i (joined cs) (joined-coded cs p) e)

sign_fits : (heavy : Bool) (j : Joined) → (right j && signed heavy j) ≡ true → intensity_fits (cond heavy intensity.Heavy intensity.Light) j ≡ true
sign_fits true j e = e
sign_fits false j e = e

signed-said : (heavy : Bool) (cs : List (List ℕ)) → Paired cs → Gives Fitting (with_sign heavy cs)
signed-said heavy cs p = gives-provided (right (joined cs) && signed heavy (joined cs)) (λ e. said-as (cond heavy intensity.Heavy intensity.Light) cs p (sign_fits heavy (joined cs) e))

unsigned-said : (cs : List (List ℕ)) → Paired cs → Gives Fitting (unsigned cs)
unsigned-said [] p = bad
unsigned-said (c ∷ cs) p =
    gives-cond (one "VC" c) (λ v. gives-provided (in_vicinity (joined cs)) (said-as intensity.Vicinity cs p.1))
    (λ v. gives-provided (right (joined (c ∷ cs))) (said-as intensity.None (c ∷ cs) p))

weather-said : (g : Group) → Gives Fitting (said_weather g)
unfolding said_weather
weather-said [] = bad
weather-said (b ∷ g) =
    gives-cond (eqb b 43) (λ e. signed-said true (codes_of g) (codes-paired g))
    (λ e. gives-cond (eqb b 45) (λ f. signed-said false (codes_of g) (codes-paired g)) (λ f. unsigned-said (codes_of (b ∷ g)) (codes-paired (b ∷ g))))

-- ---- PRESENT AND RECENT WEATHER

unless-unknown : (automatic : Bool) {P : Weather → Type 0} {x : Result Weather Refusal} → Gives P x
    → Gives (λ w. P w × ((automatic || not (has_unknown w.is)) ≡ true)) (unless_unknown automatic x)
unless-unknown automatic (good {a = w} p) = gives-agreeing (automatic || not (has_unknown w.is)) (λ e. good (p, e))
unless-unknown automatic bad = bad

pub weather-read : (forecast automatic : Bool) (g : Group) → Gives (λ w. judge_weather forecast automatic false w ≡ Ok tt) (read_weather forecast automatic g)
unfolding read_weather judge_weather
weather-read forecast automatic g =
    gives-cond (has_pattern g (bytes "//")) (λ m. gives-provided (not forecast) (λ n. good (rw (n, or-true automatic))))
    (λ m. gives_more (unless-unknown automatic (weather-said g)) (λ w f. rw (f.0, f.1)))

only-plain : {P : Weather → Type 0} {x : Result Weather Refusal} → Gives P x → Gives (λ w. P w × (is_plain w.is ≡ true)) (only_plain x)
only-plain (good {a = w} p) = gives-provided (is_plain w.is) (λ e. good (p, e))
only-plain bad = bad

pub recent-read : (automatic : Bool) (g : Group) → Gives (λ w. judge_recent automatic w ≡ Ok tt) (read_recent automatic g)
unfolding read_recent judge_recent
recent-read automatic [] = bad
recent-read automatic (r ∷ []) = bad
recent-read automatic (r ∷ e ∷ g) = gives_more (unless-unknown automatic (only-plain (weather-said g))) (λ w f. rw (f.0.0, f.0.1, f.1))
