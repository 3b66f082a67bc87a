-- Patterns: "A shape is the fixed characters, with any figures or slashes where figures go." A pattern is a text in which '#' stands for a figure
-- or slash, '@' for a letter, '?' for any byte, '*' at the end for any bytes more or none, and every other character for itself.
-- Assumes nothing: these are definitions.
use Rattle.std.specs.Prelude.{ℕ, Bool, true, false, cond, not, ◌&&◌, ◌||◌, List, [], ◌∷◌, leb, ltb, eqb}

abbrev pub Pattern : Type 0
Pattern = List ℕ

-- the bytes that may stand where a pattern has p run from `low p` to `high p`: '#' is 35, '/' 47, '9' 57; '@' is 64, 'A' 65, 'Z' 90; '?' is 63
unfoldable pub low : ℕ → ℕ
low p = cond (eqb p 35) 47 (cond (eqb p 64) 65 (cond (eqb p 63) 0 p))

unfoldable pub high : ℕ → ℕ
high p = cond (eqb p 35) 57 (cond (eqb p 64) 90 (cond (eqb p 63) 255 p))

unfoldable pub fits : ℕ → ℕ → Bool
fits p b = leb (low p) b && leb b (high p)

-- '*'
abbrev pub more : ℕ → Bool
more p = eqb p 42

-- the whole group fits the pattern
unfoldable pub has_pattern : List ℕ → Pattern → Bool
has_pattern [] [] = true
has_pattern [] (p ∷ ps) = more p
has_pattern (b ∷ bs) [] = false
has_pattern (b ∷ bs) (p ∷ ps) = more p || fits p b && has_pattern bs ps

-- it fits one of the patterns
unfoldable pub has_any : List Pattern → List ℕ → Bool
has_any [] g = false
has_any (p ∷ ps) g = has_pattern g p || has_any ps g

-- Apartness, computed from the patterns alone: no byte may stand at both, no group fits both, no group fits one of each.
abbrev pub apart : ℕ → ℕ → Bool
apart p q = ltb (high p) (low q) || ltb (high q) (low p)

unfoldable pub clash : Pattern → Pattern → Bool
clash [] [] = false
clash [] (q ∷ qs) = not (more q)
clash (p ∷ ps) [] = not (more p)
clash (p ∷ ps) (q ∷ qs) = not (more p || more q) && (apart p q || clash ps qs)

unfoldable pub clash_each : Pattern → List Pattern → Bool
clash_each p [] = true
clash_each p (q ∷ qs) = clash p q && clash_each p qs

unfoldable pub all_apart : List Pattern → List Pattern → Bool
all_apart [] qs = true
all_apart (p ∷ ps) qs = clash_each p qs && all_apart ps qs
