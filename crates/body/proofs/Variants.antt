-- A law of all that a group may say, by its variants: said once, so that each such law is one line.
-- Assumes nothing.
use Prim.Native.Nat.{ℕ}
use mathlib.Core.Path.{◌≡◌, refl}
use mathlib.Core.Bool.{Bool, true, false}
use mathlib.Core.List.{List}
use lib.Dec.{T}
use mir.Val.{has_key}
use types.Run.{OneOf, miss}
use denote.Enum.Declared.{tag_of}
use Rattle.elements.specs.declared.kinds.Said.{Said}
use Rattle.elements.specs.declared.kinds.Said.TheVariants as said
use Rattle.elements.specs.contracts.kinds.Said as says

pub record Each (F : Said → Type 0) : Type 0 where
  pub special : (x : _) → F (said.Special x)
  pub corrected : F said.Corrected
  pub correction : (x : _) → F (said.Correction x)
  pub station : F said.Station
  pub time : (x : _) → F (said.Time x)
  pub nil : F said.Nil
  pub automatic : F said.Automatic
  pub period : (x : _) → F (said.Period x)
  pub cancelled : F said.Cancelled
  pub wind : (x : _) → F (said.Wind x)
  pub variation : (x : _) → F (said.Variation x)
  pub visibility : (x : _) → F (said.Visibility x)
  pub runway : (x : _) → F (said.Runway x)
  pub weather : (x : _) → F (said.Weather x)
  pub nsw : F said.Nsw
  pub layer : (x : _) → F (said.Layer x)
  pub cover : (x : _) → F (said.Cover x)
  pub temperatures : (x : _) → F (said.Temperatures x)
  pub qnh : (x : _) → F (said.Qnh x)
  pub recent : (x : _) → F (said.Recent x)
  pub nothing : F said.Nothing
  pub refused : (x : _) → F (said.Refused x)
  pub times : (x : _) → F (said.Times x)
  pub state : (x : _) → F (said.State x)
  pub snoclo : F said.Snoclo

pub each : (F : Said → Type 0) → Each F → (x : Said) → F x
each F e (said.Special x) = e.special x
each F e said.Corrected = e.corrected
each F e (said.Correction x) = e.correction x
each F e said.Station = e.station
each F e (said.Time x) = e.time x
each F e said.Nil = e.nil
each F e said.Automatic = e.automatic
each F e (said.Period x) = e.period x
each F e said.Cancelled = e.cancelled
each F e (said.Wind x) = e.wind x
each F e (said.Variation x) = e.variation x
each F e (said.Visibility x) = e.visibility x
each F e (said.Runway x) = e.runway x
each F e (said.Weather x) = e.weather x
each F e said.Nsw = e.nsw
each F e (said.Layer x) = e.layer x
each F e (said.Cover x) = e.cover x
each F e (said.Temperatures x) = e.temperatures x
each F e (said.Qnh x) = e.qnh x
each F e (said.Recent x) = e.recent x
each F e said.Nothing = e.nothing
each F e (said.Refused x) = e.refused x
each F e (said.Times x) = e.times x
each F e (said.State x) = e.state x
each F e said.Snoclo = e.snoclo

-- of those whose tag is one of these, as an arm of a `match` has it
pub by-tag : (ks : List ℕ) (F : Said → Type 0) → Each (λ x. T (has_key ks (tag_of says.the_type x)) → F x) → (x : Said) → OneOf ks (tag_of says.the_type x) → F x
by-tag ks F e x told = each (λ x. T (has_key ks (tag_of says.the_type x)) → F x) e x (go (has_key ks (tag_of says.the_type x)) refl)
  where
    go : (b : Bool) → has_key ks (tag_of says.the_type x) ≡ b → T b
    go true e = tt
    go false e = absurd (miss ks (tag_of says.the_type x) (rw e tt) told)

-- a variant that is none of these
pub never : {A : Type 0} → ⊥ → A
never h = absurd h
