-- What an element that is read back says as the element did: CAVOK is CAVOK, and what was said of visibility or sky is said still.
-- Assumes nothing.
use mathlib.Core.Path.{◌≡◌, refl}
use Rattle.record.specs.declared.aerodrome.View.{View}
use Rattle.record.specs.declared.aerodrome.View.TheVariants as view
use Rattle.record.specs.declared.aerodrome.Cover.{Cover}
use Rattle.record.specs.declared.aerodrome.Cover.TheVariants as cover
use Rattle.elements.specs.Visibility.{is_cavok, class_view}
use Rattle.record.specs.SilentAerodrome.{no_view, is_layers}
use Rattle.elements.specs.Sky.{class_cover}

pub cavok-classed : (v : View) → is_cavok (record { is = class_view v }) ≡ is_cavok (record { is = v })
cavok-classed view.Missing = refl
cavok-classed view.Cavok = refl
cavok-classed (view.Metres m) = refl

pub view-classed : (v : View) → no_view (class_view v) ≡ no_view v
view-classed view.Missing = refl
view-classed view.Cavok = refl
view-classed (view.Metres m) = refl

pub cover-classed : (c : Cover) → is_layers (class_cover c) ≡ is_layers c
cover-classed cover.Layers = refl
cover-classed cover.Clear = refl
cover-classed cover.NoneSignificant = refl
cover-classed cover.NoneDetected = refl
cover-classed (cover.Vertical h) = refl
