-- PROVENANCE LEAVES NO GROUP OUT of an accepted SYNOP or SHIP either: every group up to the unread rest is the source of some item, so that `surface::item`,
-- `layer` or `opened` hands it back, or it is 8////, which reads as absent: "8//// is no layer".
-- Assumes nothing.
use Prim.Native.Nat.{ℕ, ◌<◌}
use mathlib.Core.Path.{◌≡◌, refl, ap, ◌∙◌}
use mathlib.Core.Bool.{true}
use mathlib.Core.List.{List}
use lib.ListN.{length}
use Rattle.figures.specs.Quote.{bytes}
use Rattle.text.specs.Groups.{Piece, groups_from}
use Rattle.shapes.specs.Pattern.{has_pattern}
use Rattle.places.specs.Engine.{Done}
use Rattle.record.specs.declared.aerodrome.Edition.TheVariants as edition
use Rattle.record.specs.declared.surface.Synop.{Synop}
use Rattle.report_record.specs.Record.{surface_report, accepted}
use Rattle.report.specs.Read.{read_of}
use Rattle.report_laws.proofs.ByName.{SurfaceText}
use Rattle.report_laws.proofs.Demands.{surface-exactly}
use Rattle.sources.specs.declared.kinds.Spot.{Spot}
use Rattle.sources.specs.declared.kinds.Spot.TheVariants as spot
use Rattle.sources.specs.Trail.{group, source_of}
use Rattle.sources.proofs.Own.{EachTaken, each_both}
use Rattle.sources.proofs.Every.{EachBefore, each-before, ItemSource, all-sources}
use Rattle.synop_sources.specs.declared.kinds.Element.{Element}
use Rattle.synop_sources.specs.Trail.{trail_of}
use Rattle.synop_sources.specs.Items.{part_of, spot_of, layers_place, at_layers, layer_in}
use Rattle.synop_sources.proofs.Every.{IsItem, of-element, of_word, of-layers, trail-items}
use Rattle.synop_sources.proofs.EveryLayer.{LayerSource, says_none, says-layer, trail-layers}
use Rattle.report_sources.specs.Surface.{surface_at, surface_layer}
use Rattle.report_sources.proofs.SurfaceProvenance.{every-group, own-source}

-- A GROUP THAT IS ACCOUNTED FOR: it is the source of an element, of section 3 as a whole (333), or of one of its layers; or it is 8//// among them.
pub data Accounted (t : List ℕ) (g : Piece) : Type 0 where
  element-from : (e : Element) → surface_at t (part_of e) (spot_of e) ≡ source_of (group g) → Accounted t g
  section-from : surface_at t 1 spot.Opening ≡ source_of (group g) → Accounted t g
  layer-from : (k : ℕ) → k < 4 → surface_layer t k ≡ source_of (group g) → Accounted t g
  no-layer : (n : ℕ) → surface_at t 1 (spot.At layers_place n) ≡ source_of (group g) → has_pattern g.bytes (bytes "8////") ≡ true → Accounted t g

module _ (t : List ℕ) (rest : ℕ) (r : Synop) (reads : read_of t ≡ accepted rest (surface_report r)) where
  -- EVERY GROUP THAT BEGINS BEFORE THE UNREAD REST IS THE SOURCE OF WHAT WAS TAKEN AT THE SPOT OF AN ITEM: of an element, of 333, or among the layers.
  pub every-surface : EachBefore rest (ItemSource IsItem (surface_at t)) (groups_from t 0)
  every-surface = all-sources IsItem (surface_at t) t (trail_of t) (every-group t rest r reads) (trail-items t) (own-source t rest r reads)

  layer-at : (k : ℕ) → surface_layer t k ≡ source_of (layer_in k (trail_of t))
  unfolding surface_layer
  layer-at k = rw reads

  among-layers : EachTaken (λ x. x.part ≡ 1 → at_layers x.spot ≡ true → LayerSource (trail_of t) x.piece) (trail_of t)
  among-layers =
      let text : SurfaceText t (Done rest r) = (surface-exactly edition.Present t rest r).only reads in
      trail-layers t rest r text.ship text.named.first text.named.others text.named.groups text.named.named text.comes

  by-layer : {g : Piece} (n : ℕ) → surface_at t 1 (spot.At layers_place n) ≡ source_of (group g) → LayerSource (trail_of t) g → Accounted t g
  by-layer n own (says_none is) = no-layer n own is
  by-layer n own (says-layer k few is) = layer-from k few (layer-at k ∙ ap source_of is)

  by-item : {part : ℕ} {s : Spot} {g : Piece} → IsItem part s → surface_at t part s ≡ source_of (group g)
      → (part ≡ 1 → at_layers s ≡ true → LayerSource (trail_of t) g) → Accounted t g
  by-item (of-element e) own layers = element-from e own
  by-item of_word own layers = section-from own
  by-item (of-layers n) own layers = by-layer n own (layers refl refl)

  by-spot : EachTaken (λ x. IsItem x.part x.spot → Accounted t x.piece) (trail_of t)
  by-spot = each_both (λ x own layers i. by-item i own layers) (trail_of t) (own-source t rest r reads) among-layers

  -- EVERY GROUP THAT BEGINS BEFORE THE UNREAD REST IS ACCOUNTED FOR: of those taken among the layers, each is the source of one, or it is 8////.
  pub every-accounted : EachBefore rest (Accounted t) (groups_from t 0)
  every-accounted =
      each-before (length t) rest (Accounted t) t (trail_of t) (every-group t rest r reads)
      (each_both (λ x i (told : IsItem x.part x.spot → Accounted t x.piece). told i) (trail_of t) (trail-items t) by-spot)
