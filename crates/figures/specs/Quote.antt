-- Quoted text in definitions: `bytes "COR"` is the list of its bytes.
-- Assumes nothing: these are definitions.
use Rattle.std.specs.Prelude.{ℕ, List, [], ◌∷◌}
use Prim.Native.String.{String, [] as ε, ◌∷◌ as ◌∷ˢ◌}
use Prim.Native.Char.{code}

abbrev pub bytes : String → List ℕ
bytes ε = []
bytes (c ∷ˢ s) = code c ∷ bytes s
