-- Walking a text gives its groups, one after another: what stands at a position is the first of the groups from there on, and the others are those
-- from where the walk goes on.
-- Assumes nothing.
use mathlib.Core.Path.{◌≡◌, refl}
use mathlib.Core.List.{List}
use Prim.Native.Nat.{ℕ}
use Rattle.figures.specs.Quote.{bytes}
use Rattle.text.specs.Bytes.{lead}
use Rattle.text.specs.Groups.{groups_from, cut_at, past_parting, next_of}
use Rattle.text.specs.declared.kinds.Cut.{Cut}
use Rattle.text.specs.declared.kinds.Cut.TheVariants.{Group, End}
use Rattle.text.proofs.Groups.{NextLaw, next-law}
use Rattle.walker.specs.Walk.{after_of, given_from}

pub walked : (t : List ℕ) (at : ℕ) → groups_from t at ≡ given_from t (next_of t at) (groups_from t (after_of (next_of t at)))
walked t at = go (next_of t at) (next-law t at)
  where
    go : (cut : Cut) → NextLaw t at cut → groups_from t at ≡ given_from t cut (groups_from t (after_of cut))
    go (Group s e) law = law.groups
    go (End e) law = law

-- a walker that always says End is shut out: here a group stands
pub gives-a-group : next_of (bytes " AAXX 24124=") 0 ≡ Group 1 5
unfolding next_of past_parting cut_at lead
gives-a-group = refl
