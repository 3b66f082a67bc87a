-- What may be missing and has more than one part, put together from its parts.
-- Assumes nothing: these are definitions.
use Rattle.std.specs.Prelude.{ℕ, ℤ, Option}
use Rattle.scales.specs.declared.kinds.Rain.{Rain}
use Rattle.record.specs.declared.aerodrome.Extremes.{Extremes}
use Rattle.record.specs.declared.aerodrome.Code.{Code}
use Rattle.record.specs.declared.aerodrome.Intensity.{Intensity}
use Rattle.record.specs.declared.aerodrome.Phenomena.{Phenomena}
use Rattle.record.specs.declared.surface.PressureChange.{PressureChange}
use Rattle.record.specs.declared.surface.Fall.{Fall}
use Rattle.record.specs.declared.surface.Observed.{Observed}

abbrev pub extremes_of : ℕ → ℕ → Extremes
extremes_of from to = record { from = from; to = to }

abbrev pub code_of : ℕ → ℕ → Code
code_of first second = record { first = first; second = second }

abbrev pub phenomena_of : Intensity → Option Code → Option Code → Option Code → Option Code → Phenomena
phenomena_of i d a b c = record { intensity = i; descriptor = d; first = a; second = b; third = c }

abbrev pub change_of : ℕ → ℤ → PressureChange
change_of tendency change = record { tendency = tendency; change = change }

abbrev pub fall_of : Rain → Option ℕ → Fall
fall_of amount period = record { amount = amount; period = period }

abbrev pub observed_of : ℕ → ℕ → Observed
observed_of hour minute = record { hour = hour; minute = minute }
