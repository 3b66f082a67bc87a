-- What the printers' texts are in the definitions' words: the figure of a sign, a group that is written where it is required or says something.
-- Assumes nothing.
use mathlib.Core.Path.{◌≡◌, refl}
use mathlib.Core.Bool.{Bool, true, false, cond, not, ◌||◌}
use mathlib.Core.List.{[], ◌∷◌}
use Rattle.figures.specs.Quote.{bytes}
use Rattle.figures.specs.Figures.{figures, number_text}
use Rattle.synop_groups.specs.Reads.{Group}
use Rattle.synop_groups.specs.Shows.{if_required}

pub sign-figure : (minus : Bool) → number_text 1 (cond minus 1 0) ≡ cond minus (bytes "1") (bytes "0")
unfolding figures number_text
sign-figure true = refl
sign-figure false = refl

pub group-if : (required silent : Bool) (g : Group) → cond silent (if_required required g) (g ∷ []) ≡ if_required (required || not silent) g
group-if true true g = refl
group-if true false g = refl
group-if false true g = refl
group-if false false g = refl
