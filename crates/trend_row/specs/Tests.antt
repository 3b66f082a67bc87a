-- What the tests in the code that decide at a word or at a change's end say.
-- Assumes nothing: these are definitions.
use Rattle.std.specs.Prelude.{ℕ, Bool, not, ◌&&◌, leb}
use Rattle.record.specs.declared.aerodrome.Body.{Body}
use Rattle.elements.specs.Body.{has_element}
use Rattle.trend_row.specs.declared.kinds.Word.{Word}
use Rattle.trend_row.specs.Row.{is_change}

-- "A change body needs one element"; after NOSIG nothing is needed
abbrev pub lacks_in : Word → Body → Bool
lacks_in w b = is_change w && not (has_element b)

-- "up to three of BECMG and TEMPO": there is no room for one more
abbrev pub is_full : ℕ → Bool
is_full n = leb 3 n
