-- A reading on a scale that rounds down, by the value: which number it is and how far off. It is what the kinds' promises say of each such number.
-- Assumes nothing.
use Prim.Native.Nat.{ℕ, ◌+◌, ◌≤◌, ◌<◌}
use mathlib.Core.Path.{◌≡◌, refl}
use mathlib.Core.Bool.{Bool}
use Rattle.scales.specs.Scale.{Scale, Of, Open, class_of, length_of, foot_of, last_in}
use Rattle.scales.proofs.Laws.{Lawful}

-- A value and its reading, which is that of its class: "Classes; read as the foot", the last class too, of which no distance can be stated. "the value less its
-- reading is 0 or more and smaller than the class's length. .. the last class is open above."
pub record Down {F : Type 0} (s : Scale F) (value read : ℕ) : Type 0 where
  pub class : read ≡ foot_of s value
  pub not-above : read ≤ value
  pub within : (l : ℕ) → length_of s value ≡ Of l → value < read + l
  pub open-last : length_of s value ≡ Open → class_of s value ≡ last_in s.lowest s.above

pub down : {F : Type 0} (same : F → F → Bool) (s : Scale F) → Lawful same s → (v : ℕ) → Down s v (foot_of s v)
down same s l v = record { class = refl; not-above = l.not-above v; within = l.within v; open-last = l.open-last v }
