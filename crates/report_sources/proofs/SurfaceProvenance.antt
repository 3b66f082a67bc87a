-- PROVENANCE OF SYNOP AND SHIP: for every accepted one and every item of its record, the part of the text that it was read from. The contracts of
-- `report_sources::surface::item`, `layer` and `opened` are equations with `surface_at` and `surface_layer`: the part that each hands back is the source that these
-- theorems speak of.
-- Assumes nothing.
use Rattle.std.specs.Prelude.{Err, None}
use Prim.Native.Nat.{ℕ, ◌<◌}
use mathlib.Core.Path.{◌≡◌, sym, ap, subst, ◌∙◌}
use mathlib.Core.Bool.{true}
use mathlib.Core.List.{List}
use lib.ListN.{length}
use Rattle.text.specs.declared.kinds.Refusal.{Refusal}
use Rattle.text.specs.Groups.{groups_from}
use Rattle.text.specs.Refusals.{refused_with}
use Rattle.shapes.specs.Pattern.{has_pattern}
use Rattle.places.specs.Engine.{Done}
use Rattle.record.specs.declared.aerodrome.Edition.TheVariants as edition
use Rattle.record.specs.declared.surface.Synop.{Synop}
use Rattle.record.specs.Blank.{blank_layer, blank_section3, blank_synop}
use Rattle.synop_row.specs.Row.{section3_word}
use Rattle.report_record.specs.Record.{surface_report, accepted}
use Rattle.report.specs.Read.{read_of}
use Rattle.report_laws.proofs.ByName.{SurfaceText}
use Rattle.report_laws.proofs.Demands.{surface-exactly, refused-blank}
use Rattle.sources.specs.declared.kinds.Spot.{Spot}
use Rattle.sources.specs.declared.kinds.Spot.TheVariants as spot
use Rattle.sources.specs.Trail.{group, origin_in, source_of}
use Rattle.sources.proofs.Items.{Covers}
use Rattle.sources.proofs.Own.{EachTaken, each_map}
use Rattle.sources.proofs.Texts.{ReadFrom}
use Rattle.synop_sources.specs.declared.kinds.Element.{Element}
use Rattle.synop_sources.specs.Trail.{trail_of}
use Rattle.synop_sources.specs.Items.{part_of, spot_of, value_of, Said, layer_in, layer_of, LayerSaid}
use Rattle.synop_sources.proofs.Sources.{surface-source, layer-source, opening-source, trail-covers, trail-own}
use Rattle.report_sources.specs.Surface.{surface_at, surface_layer}

-- A REFUSED TEXT HAS NO ITEMS.
pub refused_none : (t : List ℕ) (f : Refusal) (at : ℕ) → (read_of t).verdict ≡ Err (refused_with f at) → (part : ℕ) (s : Spot) → surface_at t part s ≡ None
unfolding surface_at
refused_none t f at e part s = rw (refused-blank edition.Present t f at e).0

pub refused-layer : (t : List ℕ) (f : Refusal) (at : ℕ) → (read_of t).verdict ≡ Err (refused_with f at) → (k : ℕ) → surface_layer t k ≡ None
unfolding surface_layer
refused-layer t f at e k = rw (refused-blank edition.Present t f at e).0

module _ (t : List ℕ) (rest : ℕ) (r : Synop) (reads : read_of t ≡ accepted rest (surface_report r)) where
  found : (part : ℕ) (s : Spot) → surface_at t part s ≡ source_of (origin_in part s (trail_of t))
  unfolding surface_at
  found part s = rw reads

  layer-found : (k : ℕ) → surface_layer t k ≡ source_of (layer_in k (trail_of t))
  unfolding surface_layer
  layer-found k = rw reads

  -- its name, and what the groups behind it come to
  text : SurfaceText t (Done rest r)
  text = (surface-exactly edition.Present t rest r).only reads

  -- AN ITEM: its value in the record is what the definition of its group says of just the bytes of its source; with no group it is missing, as in a blank record.
  pub item-source : (e : Element) → ReadFrom t (λ g. Said e g (value_of e r)) (value_of e r ≡ value_of e blank_synop) (surface_at t (part_of e) (spot_of e))
  item-source e =
      subst (ReadFrom t (λ g. Said e g (value_of e r)) (value_of e r ≡ value_of e blank_synop)) (sym (found (part_of e) (spot_of e)))
      (surface-source t rest r text.ship text.named.first text.named.others text.named.groups text.named.named text.comes e)

  -- THE SAME OF A LAYER OF SECTION 3.
  pub layer-read : (k : ℕ) → k < 4 → ReadFrom t (λ g. LayerSaid g (layer_of k r)) (layer_of k r ≡ blank_layer) (surface_layer t k)
  layer-read k few =
      subst (ReadFrom t (λ g. LayerSaid g (layer_of k r)) (layer_of k r ≡ blank_layer)) (sym (layer-found k))
      (layer-source t rest r text.ship text.named.first text.named.others text.named.groups text.named.named text.comes k few)

  -- 333 IS THE SOURCE OF SECTION 3; without it the section is blank.
  pub section-source : ReadFrom t (λ g. has_pattern g section3_word ≡ true) (r.section3 ≡ blank_section3) (surface_at t 1 spot.Opening)
  section-source =
      subst (ReadFrom t (λ g. has_pattern g section3_word ≡ true) (r.section3 ≡ blank_section3)) (sym (found 1 spot.Opening))
      (opening-source t rest r text.ship text.named.first text.named.others text.named.groups text.named.named text.comes)

  -- EVERY GROUP UP TO THE UNREAD REST IS IN THE TRAIL: those taken, in their order, and those left, which begin where the rest does.
  pub every-group : Covers (length t) rest (groups_from t 0) (trail_of t)
  every-group = trail-covers t rest r text.ship text.named.first text.named.others text.named.groups text.named.named text.comes

  -- EACH OF THEM IS THE SOURCE OF WHAT WAS TAKEN AT ITS SPOT.
  pub own-source : EachTaken (λ x. surface_at t x.part x.spot ≡ source_of (group x.piece)) (trail_of t)
  own-source =
      each_map (λ x e. found x.part x.spot ∙ ap source_of e) (trail_of t)
      (trail-own t rest r text.ship text.named.first text.named.others text.named.groups text.named.named text.comes)
