-- Periods and the times of FM: what is in range and written has its shape, and is read back as it was.
-- Assumes nothing.
use Rattle.std.specs.Prelude.{None, Ok, Option, Some}
use Prim.Native.Nat.{ℕ, ◌≤◌}
use native.Mathlib.Omega.{arith}
use mathlib.Core.Path.{◌≡◌, refl, ◌∙◌}
use mathlib.Core.Bool.{Bool, true, false, ◌&&◌, false≢true}
use mathlib.Core.List.{List, [], ◌∷◌, ◌++◌, append_assoc, append-nil}
use lib.Dec.{leb, eqb}
use borrow.Author.Tests.{leb-true, eqb-true}
use Rattle.figures.specs.Quote.{bytes}
use Rattle.figures.specs.declared.kinds.Field.TheVariants as field
use Rattle.figures.specs.Figures.{figures, scan, field_at, field_text, number_text}
use Rattle.shapes.specs.Pattern.{low, high, fits, has_pattern, clash}
use Rattle.shapes.proofs.Patterns.{both, or_cases, excluded}
use Rattle.places.specs.Engine.{Group}
use Rattle.places.proofs.Laid.{Spot, laid, Narrow, Stands, laid-shaped, laid-stands}
use Rattle.record.specs.declared.aerodrome.Instant.{Instant}
use Rattle.record.specs.declared.aerodrome.Period.{Period}
use Rattle.record.specs.declared.aerodrome.Opening.TheVariants as opening
use Rattle.record.specs.declared.aerodrome.Edition.{Edition}
use Rattle.record.specs.declared.aerodrome.Edition.TheVariants as edition
use Rattle.record.specs.Taf.{blank_instant, blank_leg, set_period}
use Rattle.aerodrome_groups.specs.Head.{is_day, is_hour, is_minute}
use Rattle.record.specs.Missing.{present, is_missing, between}
use Rattle.record.proofs.Blanks.{none-said}
use Rattle.record.specs.SilentAerodrome.{no_instant}
use Rattle.record.proofs.AerodromeBlanks.{instant-blank}
use Rattle.taf_row.specs.declared.kinds.Form.{Form}
use Rattle.taf_row.specs.declared.kinds.Form.TheVariants as form
use Rattle.taf_row.specs.Row.{period_shape, is_end_hour, hour_of, hour_alone, read_period, show_period, from_shape}
use Rattle.taf.specs.Read.{opened_by, opened, from_group, is_chance}
use Rattle.taf.specs.Write.{is_hour_of, is_hour_alone, period_fits, from_fits, show_chance, show_from}

abbrev text : ℕ → List ℕ
text n = field_text 2 (field.Number n)

-- ---- what is in range

present-is : (ok : ℕ → Bool) (x : Option ℕ) → present ok x ≡ true → (n : ℕ) × (x ≡ Some n) × (ok n ≡ true)
present-is ok None e = absurd (false≢true e)
present-is ok (Some n) e = (n, refl, e)

hour-alone-is : (hour : ℕ → Bool) (t : Instant) → is_hour_alone hour t ≡ true → (h : ℕ) × (t ≡ hour_alone h) × (hour h ≡ true)
hour-alone-is hour t e =
    let m = both (is_missing t.day && present hour t.hour) (is_missing t.minute) e in
    let s = both (is_missing t.day) (present hour t.hour) m.0 in
    let h = present-is hour t.hour s.1 in
    (h.0, (λ i. record { day = none-said t.day s.0 i; hour = h.1 i; minute = none-said t.minute m.1 i }), h.2)

hour-is : (hour : ℕ → Bool) (t : Instant) → is_hour_of hour t ≡ true → (d : ℕ) × (h : ℕ) × (t ≡ hour_of d h) × (is_day d ≡ true) × (hour h ≡ true)
hour-is hour t e =
    let m = both (present is_day t.day && present hour t.hour) (is_missing t.minute) e in
    let s = both (present is_day t.day) (present hour t.hour) m.0 in
    let d = present-is is_day t.day s.0 in
    let h = present-is hour t.hour s.1 in
    (d.0, h.0, rw (← d.1, ← h.1, ← none-said t.minute m.1), d.2, h.2)

day-few : (d : ℕ) → is_day d ≡ true → d ≤ 31
day-few d e = leb-true d 31 (both (leb 1 d) (leb d 31) e).1

-- an end's hour has two figures
end-few : (f : Form) (h : ℕ) → is_end_hour f h ≡ true → h ≤ 74
end-few form.BothDays h e = let few = leb-true h 24 e in omega arith
end-few form.FirstDay h e =
    or_cases (between 1 24 h) (between 51 74 h) e (λ t. let few = leb-true h 24 (both (leb 1 h) (leb h 24) t).1 in omega arith)
    (λ t. leb-true h 74 (both (leb 51 h) (leb h 74) t).1)
end-few form.NoDay h e = let few = leb-true h 24 (both (leb 1 h) (leb h 24) e).1 in omega arith

-- under FM there is no end
pub no_end : (p : Period) → no_instant p.to ≡ true → record { from = p.from; to = blank_instant } ≡ p
no_end p e = rw (← instant-blank p.to e)

-- ---- the period, in each of its forms

-- the days and hours that a form has
data Hours : Form → Period → Type 0 where
  both-days : (a b c d : ℕ) → is_day a ≡ true → is_hour b ≡ true → is_day c ≡ true → is_end_hour form.BothDays d ≡ true
      → Hours form.BothDays (record { from = hour_of a b; to = hour_of c d })
  first-day : (a b d : ℕ) → is_day a ≡ true → is_hour b ≡ true → is_end_hour form.FirstDay d ≡ true
      → Hours form.FirstDay (record { from = hour_of a b; to = hour_alone d })
  no-day : (b d : ℕ) → is_hour b ≡ true → is_end_hour form.NoDay d ≡ true → Hours form.NoDay (record { from = hour_alone b; to = hour_alone d })

-- of a period with these ends
as-they-are : {f : Form} {a b a' b' : Instant} → a ≡ a' → b ≡ b' → Hours f (record { from = a'; to = b' }) → Hours f (record { from = a; to = b })
as-they-are e g h = rw (e, g) h

hours-of : (f : Form) (p : Period) → period_fits f p ≡ true → Hours f p
hours-of form.BothDays p e =
    let t = both (is_hour_of is_hour p.from) (is_hour_of (is_end_hour form.BothDays) p.to) e in
    let f = hour-is is_hour p.from t.0 in
    let l = hour-is (is_end_hour form.BothDays) p.to t.1 in
    as-they-are f.2 l.2 (both-days f.0 f.1 l.0 l.1 f.3 f.4 l.3 l.4)
hours-of form.FirstDay p e =
    let t = both (is_hour_of is_hour p.from) (is_hour_alone (is_end_hour form.FirstDay) p.to) e in
    let f = hour-is is_hour p.from t.0 in
    let l = hour-alone-is (is_end_hour form.FirstDay) p.to t.1 in
    as-they-are f.2 l.1 (first-day f.0 f.1 l.0 f.3 f.4 l.2)
hours-of form.NoDay p e =
    let t = both (is_hour_alone is_hour p.from) (is_hour_alone (is_end_hour form.NoDay) p.to) e in
    let f = hour-alone-is is_hour p.from t.0 in
    let l = hour-alone-is (is_end_hour form.NoDay) p.to t.1 in
    as-they-are f.1 l.1 (no-day f.0 l.0 f.2 l.2)

-- as they are laid out
abbrev spots : {f : Form} {p : Period} → Hours f p → List Spot
spots (both-days a b c d ea eb ec ed) = ([], field.Number a) ∷ ([], field.Number b) ∷ (bytes "/", field.Number c) ∷ ([], field.Number d) ∷ []
spots (first-day a b d ea eb ed) = ([], field.Number a) ∷ ([], field.Number b) ∷ ([], field.Number d) ∷ []
spots (no-day b d eb ed) = ([], field.Number b) ∷ ([], field.Number d) ∷ []

narrow : {f : Form} {p : Period} (h : Hours f p) → Narrow (spots h)
narrow (both-days a b c d ea eb ec ed) =
    let few : (a ≤ 31) × (b ≤ 23) × (c ≤ 31) × (d ≤ 74) = (day-few a ea, leb-true b 23 eb, day-few c ec, end-few form.BothDays d ed) in
    (omega arith, (omega arith, (omega arith, (omega arith, tt))))
narrow (first-day a b d ea eb ed) =
    let few : (a ≤ 31) × (b ≤ 23) × (d ≤ 74) = (day-few a ea, leb-true b 23 eb, end-few form.FirstDay d ed) in
    (omega arith, (omega arith, (omega arith, tt)))
narrow (no-day b d eb ed) =
    let few : (b ≤ 23) × (d ≤ 74) = (leb-true b 23 eb, end-few form.NoDay d ed) in
    (omega arith, (omega arith, tt))

four-laid : (a b c d : List ℕ) → a ++ b ++ bytes "/" ++ (c ++ d) ≡ a ++ (b ++ (bytes "/" ++ (c ++ (d ++ []))))
four-laid a b c d = rw (append-nil d) (append_assoc (a ++ b) (bytes "/") (c ++ d) ∙ append_assoc a b (bytes "/" ++ (c ++ d)))

three-laid : (a b c : List ℕ) → a ++ b ++ c ≡ a ++ (b ++ (c ++ []))
three-laid a b c = rw (append-nil c) (append_assoc a b c)

two-laid : (a b : List ℕ) → a ++ b ≡ a ++ (b ++ [])
two-laid a b = rw (append-nil b)

shown : {f : Form} {p : Period} (h : Hours f p) → show_period f p ≡ laid (spots h)
unfolding show_period
shown (both-days a b c d ea eb ec ed) = four-laid (text a) (text b) (text c) (text d)
shown (first-day a b d ea eb ed) = three-laid (text a) (text b) (text d)
shown (no-day b d eb ed) = two-laid (text b) (text d)

shaped : {f : Form} {p : Period} (h : Hours f p) → has_pattern (laid (spots h)) (period_shape f) ≡ true
unfolding has_pattern fits low high
shaped (both-days a b c d ea eb ec ed) = let h = both-days a b c d ea eb ec ed in laid-shaped (spots h) (narrow h) refl
shaped (first-day a b d ea eb ed) = let h = first-day a b d ea eb ed in laid-shaped (spots h) (narrow h) refl
shaped (no-day b d eb ed) = let h = no-day b d eb ed in laid-shaped (spots h) (narrow h) refl

back : {f : Form} {p : Period} (h : Hours f p) → Stands (laid (spots h)) 0 (spots h) → read_period f (laid (spots h)) ≡ Ok p
unfolding read_period
back (both-days a b c d ea eb ec ed) k = rw (k.0, k.1.0, k.1.1.0, k.1.1.1.0, ea, eb, ec, ed)
back (first-day a b d ea eb ed) k = rw (k.0, k.1.0, k.1.1.0, ea, eb, ed)
back (no-day b d eb ed) k = rw (k.0, k.1.0, eb, ed)

module _ (f : Form) (p : Period) (e : period_fits f p ≡ true) where
  pub period-shaped : has_pattern (show_period f p) (period_shape f) ≡ true
  period-shaped = let h = hours-of f p e in rw (shown h) (shaped h)

  pub period-back : read_period f (show_period f p) ≡ Ok p
  period-back = let h = hours-of f p e in rw (shown h) (back h (laid-stands (spots h) (narrow h)))

-- ---- FMYYGGgg and FMGGgg

-- the time that an edition has there
data Times : Edition → Instant → Type 0 where
  dated : (d h m : ℕ) → is_day d ≡ true → is_hour h ≡ true → is_minute m ≡ true
      → Times edition.Present (record { day = Some d; hour = Some h; minute = Some m })
  undated : (h m : ℕ) → is_hour h ≡ true → is_minute m ≡ true → Times edition.Of2005 (record { day = None; hour = Some h; minute = Some m })

at-time : {e : Edition} {d d' h h' m m' : Option ℕ} → d ≡ d' → h ≡ h' → m ≡ m' → Times e (record { day = d'; hour = h'; minute = m' }) → Times e (record { day = d; hour = h; minute = m })
at-time ed eh em x = rw (ed, eh, em) x

times-of : (e : Edition) (t : Instant) → from_fits e t ≡ true → Times e t
times-of edition.Present t fair =
    let r = both (present is_day t.day && present is_hour t.hour) (present is_minute t.minute) fair in
    let s = both (present is_day t.day) (present is_hour t.hour) r.0 in
    let d = present-is is_day t.day s.0 in
    let h = present-is is_hour t.hour s.1 in
    let m = present-is is_minute t.minute r.1 in
    at-time d.1 h.1 m.1 (dated d.0 h.0 m.0 d.2 h.2 m.2)
times-of edition.Of2005 t fair =
    let r = both (is_missing t.day && present is_hour t.hour) (present is_minute t.minute) fair in
    let s = both (is_missing t.day) (present is_hour t.hour) r.0 in
    let h = present-is is_hour t.hour s.1 in
    let m = present-is is_minute t.minute r.1 in
    at-time (none-said t.day s.0) h.1 m.1 (undated h.0 m.0 h.2 m.2)

-- as it is laid out
abbrev time-spots : {e : Edition} {t : Instant} → Times e t → List Spot
time-spots (dated d h m ed eh em) = (bytes "FM", field.Number d) ∷ ([], field.Number h) ∷ ([], field.Number m) ∷ []
time-spots (undated h m eh em) = (bytes "FM", field.Number h) ∷ ([], field.Number m) ∷ []

time-narrow : {e : Edition} {t : Instant} (x : Times e t) → Narrow (time-spots x)
time-narrow (dated d h m ed eh em) =
    let few : (d ≤ 31) × (h ≤ 23) × (m ≤ 59) = (day-few d ed, leb-true h 23 eh, leb-true m 59 em) in
    (omega arith, (omega arith, (omega arith, tt)))
time-narrow (undated h m eh em) =
    let few : (h ≤ 23) × (m ≤ 59) = (leb-true h 23 eh, leb-true m 59 em) in
    (omega arith, (omega arith, tt))

time-shown : {e : Edition} {t : Instant} (x : Times e t) → show_from e t ≡ laid (time-spots x)
time-shown (dated d h m ed eh em) =
    rw (append-nil (text m)) (append_assoc (bytes "FM" ++ text d) (text h) (text m) ∙ append_assoc (bytes "FM") (text d) (text h ++ text m))
time-shown (undated h m eh em) = three-laid (bytes "FM") (text h) (text m)

time-shaped : {e : Edition} {t : Instant} (x : Times e t) → has_pattern (laid (time-spots x)) (from_shape e) ≡ true
unfolding has_pattern fits low high
time-shaped (dated d h m ed eh em) = let x = dated d h m ed eh em in laid-shaped (time-spots x) (time-narrow x) refl
time-shaped (undated h m eh em) = let x = undated h m eh em in laid-shaped (time-spots x) (time-narrow x) refl

time-back : {e : Edition} {t : Instant} (x : Times e t) → Stands (laid (time-spots x)) 0 (time-spots x)
    → from_group e (laid (time-spots x)) ≡ opened opening.From (set_period (record { from = t; to = blank_instant }) blank_leg)
time-back (dated d h m ed eh em) k = rw (k.0, k.1.0, k.1.1.0, ed, eh, em)
time-back (undated h m eh em) k = rw (k.0, k.1.0, eh, em)

-- it is none of the other words
from-apart : (e : Edition) (g : Group) → has_pattern g (from_shape e) ≡ true
    → (has_pattern g (bytes "BECMG") ≡ false) × (has_pattern g (bytes "TEMPO") ≡ false) × (has_pattern g (bytes "PROB##") ≡ false)
unfolding low high clash
from-apart edition.Present g s = (excluded g (bytes "FM######") (bytes "BECMG") refl s, excluded g (bytes "FM######") (bytes "TEMPO") refl s, excluded g (bytes "FM######") (bytes "PROB##") refl s)
from-apart edition.Of2005 g s = (excluded g (bytes "FM####") (bytes "BECMG") refl s, excluded g (bytes "FM####") (bytes "TEMPO") refl s, excluded g (bytes "FM####") (bytes "PROB##") refl s)

module _ (e : Edition) (t : Instant) (fair : from_fits e t ≡ true) where
  pub from-shaped : has_pattern (show_from e t) (from_shape e) ≡ true
  from-shaped = let x = times-of e t fair in rw (time-shown x) (time-shaped x)

  -- FM opens its part with its time
  pub from-opened : opened_by e (show_from e t) ≡ opened opening.From (set_period (record { from = t; to = blank_instant }) blank_leg)
  unfolding opened_by
  from-opened =
      let x = times-of e t fair in
      let a = from-apart e (show_from e t) from-shaped in
      rw (a.0, a.1, a.2, time-shown x) (time-back x (laid-stands (time-spots x) (time-narrow x)))

-- ---- PROB30 and PROB40

module _ (n : ℕ) (fair : is_chance n ≡ true) where
  pub chance-shaped : has_pattern (show_chance n) (bytes "PROB##") ≡ true
  unfolding has_pattern fits low high number_text figures
  chance-shaped = or_cases (eqb n 30) (eqb n 40) fair (λ h. rw (eqb-true n 30 h)) (λ h. rw (eqb-true n 40 h))

  pub chance-opened : (e : Edition) → opened_by e (show_chance n) ≡ opened (opening.Probable n) blank_leg
  unfolding opened_by has_pattern fits low high number_text figures field_at scan
  chance-opened e = or_cases (eqb n 30) (eqb n 40) fair (λ h. rw (eqb-true n 30 h)) (λ h. rw (eqb-true n 40 h))
