-- Up to three weathers: written one after the other and read one after the other they are as they were; and how many they are, each judged fine.
-- Assumes nothing.
use Rattle.std.specs.Prelude.{⊤, Ok, Result}
use Rattle.text.specs.declared.kinds.Refusal.{Refusal}
use mathlib.Core.Path.{◌≡◌}
use mathlib.Core.Bool.{true, ◌&&◌}
use mathlib.Core.List.{List, [], ◌∷◌, map}
use Prim.Native.Nat.{ℕ, zero, suc, ◌+◌, ◌≤◌}
use native.Mathlib.Omega.{arith}
use lib.ListN.{length, take, drop, length-map}
use lib.Seq.{length-take-le}
use lib.Dec.{leb}
use borrow.Author.Tests.{leb-true}
use Rattle.text.specs.Judge.{judge}
use Rattle.text.proofs.Judging.{fine, and-then}
use Rattle.shapes.proofs.Patterns.{both}
use Rattle.places.specs.Engine.{Group}
use Rattle.places.proofs.ReadBack.{All}
use Rattle.record.specs.declared.aerodrome.Weather.{Weather}
use Rattle.record.specs.declared.aerodrome.Weathers.{Weathers}
use Rattle.record.specs.Body.{blank_weather, blank_weathers}
use Rattle.elements.specs.Parts.{then}
use Rattle.elements.specs.Weather.{judge_each, judge_weathers, with_weather}
use Rattle.record.specs.SilentAerodrome.{is_blank_weather}
use Rattle.record.proofs.AerodromeBlanks.{weather-blank}
use Rattle.figures.specs.Figures.{every}

-- groups read one after the other, where k weathers stand
abbrev pub add_each : (Group → Result Weather Refusal) → ℕ → List Group → Weathers → Result Weathers Refusal
add_each read k [] ws = Ok ws
add_each read k (g ∷ gs) ws = then (read g) (λ w. add_each read (k + 1) gs (with_weather k ws w))

-- each is judged fine
abbrev pub EachFine : (Weather → Result ⊤ Refusal) → List Weather → Type 0
EachFine test [] = Unit {0}
EachFine test (w ∷ ws) = (test w ≡ Ok tt) × EachFine test ws

module _ (test : Weather → Result ⊤ Refusal) where
  each-fine : (l : List Weather) → judge_each test l ≡ Ok tt → EachFine test l
  each-fine [] h = tt
  each-fine (w ∷ l) h = let t = and-then (test w) (judge_each test l) h in (t.0, each-fine l t.1)

  -- the count, what stands past it, and what stands before it
  parts : (ws : Weathers) → judge_weathers test ws ≡ Ok tt
      → (ws.count ≤ 3) × (every is_blank_weather (drop ws.count ws.items) ≡ true) × EachFine test (take ws.count ws.items)
  unfolding judge_weathers
  parts ws h =
      let within = leb ws.count 3 && every is_blank_weather (drop ws.count ws.items) in
      let t = and-then (judge within true) (judge_each test (take ws.count ws.items)) h in
      let u = both (leb ws.count 3) (every is_blank_weather (drop ws.count ws.items)) (fine within true t.0).0 in
      (leb-true ws.count 3 u.0, u.1, each-fine (take ws.count ws.items) t.1)

  pub weathers-each : (ws : Weathers) → judge_weathers test ws ≡ Ok tt → EachFine test (take ws.count ws.items)
  weathers-each ws h = (parts ws h).2

  pub weathers-few : (ws : Weathers) → judge_weathers test ws ≡ Ok tt → length ws.items ≡ 3
      → (ws.count ≤ 3) × (length (take ws.count ws.items) ≡ ws.count)
  weathers-few ws h e = let n = (parts ws h).0 in (n, length-take-le ws.count ws.items (omega arith))

-- missing ones, first by first
missing-first : (w : Weather) (l : List Weather) → every is_blank_weather (w ∷ l) ≡ true → (w ≡ blank_weather) × (every is_blank_weather l ≡ true)
missing-first w l m = let t = both (is_blank_weather w) (every is_blank_weather l) m in (weather-blank w t.0, t.1)

module _ (read : Group → Result Weather Refusal) (show : Weather → Group) (test : Weather → Result ⊤ Refusal) (back : (w : Weather) → test w ≡ Ok tt → read (show w) ≡ Ok w) where
  three_back : (items : List Weather) (n : ℕ) → length items ≡ 3 → n ≤ 3 → every is_blank_weather (drop n items) ≡ true → EachFine test (take n items)
      → add_each read 0 (map show (take n items)) blank_weathers ≡ Ok (record { items = items; count = n })
  three_back (x ∷ y ∷ z ∷ []) zero e le m f =
      let p = missing-first x (y ∷ z ∷ []) m in
      let q = missing-first y (z ∷ []) p.1 in
      rw (p.0, q.0, (missing-first z [] q.1).0)
  three_back (x ∷ y ∷ z ∷ []) (suc zero) e le m f = let q = missing-first y (z ∷ []) m in rw (back x f.0, q.0, (missing-first z [] q.1).0)
  three_back (x ∷ y ∷ z ∷ []) (suc (suc zero)) e le m f = rw (back x f.0, back y f.1.0, (missing-first z [] m).0)
  three_back (x ∷ y ∷ z ∷ []) (suc (suc (suc zero))) e le m f = rw (back x f.0, back y f.1.0, back z f.1.1.0)
  three_back (x ∷ y ∷ z ∷ []) (suc (suc (suc (suc n)))) e le m f = absurd (omega arith)
  three_back [] n e le m f = absurd (omega arith)
  three_back (x ∷ []) n e le m f = absurd (omega arith)
  three_back (x ∷ y ∷ []) n e le m f = absurd (omega arith)
  three_back (x ∷ y ∷ z ∷ u ∷ items) n e le m f = absurd (omega arith)

pub weathers-back : (ws : Weathers) → length ws.items ≡ 3 → (read : Group → Result Weather Refusal) (show : Weather → Group) (test : Weather → Result ⊤ Refusal)
    → ((w : Weather) → test w ≡ Ok tt → read (show w) ≡ Ok w)
    → judge_weathers test ws ≡ Ok tt
    → add_each read 0 (map show (take ws.count ws.items)) blank_weathers ≡ Ok ws
weathers-back ws e read show test back h = let t = parts test ws h in three_back read show test back ws.items ws.count e t.0 t.1 t.2

-- ---- what holds of each group of weather that is judged fine, and how many there are

all_shown : (P : Group → Type 0) (show : Weather → Group) (test : Weather → Result ⊤ Refusal) → ((w : Weather) → test w ≡ Ok tt → P (show w))
    → (ws : List Weather) → EachFine test ws → All P (map show ws)
all_shown P show test f [] e = tt
all_shown P show test f (w ∷ ws) e = (f w e.0, all_shown P show test f ws e.1)

module _ (show : Weather → Group) (test : Weather → Result ⊤ Refusal) (ws : Weathers) (e : judge_weathers test ws ≡ Ok tt) where
  pub weathers-all : (P : Group → Type 0) → ((w : Weather) → test w ≡ Ok tt → P (show w)) → All P (map show (take ws.count ws.items))
  weathers-all P f = all_shown P show test f (take ws.count ws.items) (weathers-each test ws e)

  pub weathers-three : length ws.items ≡ 3 → length (map show (take ws.count ws.items)) ≤ 3
  weathers-three three = let n = weathers-few test ws e three in rw (length-map (take ws.count ws.items) show, n.1) n.0
