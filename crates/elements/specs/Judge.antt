-- What the writer judges of a number of metres: "0 to 99,999 may be written", in a TAF not missing.
-- Assumes nothing: these are definitions.
use Rattle.std.specs.Prelude.{ℕ, Bool, not, leb, None, Option, Some}

abbrev pub metres_fit : Bool → Option ℕ → Bool
metres_fit forecast None = not forecast
metres_fit forecast (Some m) = leb m 99999
