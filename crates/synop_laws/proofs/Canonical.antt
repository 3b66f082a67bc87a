-- THE ROUND TRIP OF SYNOP AND SHIP, at the level of the text: the canonical text of a record that the writer accepts is read back whole, as the record
-- with each rounded number the reading of its class; written again it is the same text.
-- Assumes nothing.
use Rattle.std.specs.Prelude.{⊤, Err, None, Ok, Result}
use Prim.Native.Nat.{ℕ, ◌≤◌}
use native.Mathlib.Omega.{arith}
use mathlib.Core.Path.{◌≡◌, refl, sym, ap, ◌∙◌}
use mathlib.Core.Bool.{Bool, true, false, not, cond, ◌&&◌, ◌||◌, false≢true}
use mathlib.Core.List.{List, [], ◌∷◌, ◌++◌, map}
use lib.ListN.{length, take, drop}
use borrow.Author.Tests.{not-true}
use Rattle.figures.proofs.Impossible.{impossible}
use Rattle.figures.specs.Quote.{bytes}
use Rattle.text.specs.declared.kinds.Refusal.{Refusal}
use Rattle.text.specs.declared.kinds.Refusal.TheVariants as refusal
use Rattle.text.specs.Groups.{Piece, groups_from, join}
use Rattle.text.proofs.Judging.{and-then}
use Rattle.text.specs.Text.{tail_of}
use Rattle.text.proofs.Joins.{round-trip-bytes, join-tail}
use Rattle.shapes.specs.Pattern.{low, high, fits, has_pattern}
use Rattle.shapes.proofs.Patterns.{both}
use Rattle.places.specs.Engine.{Group, Done, written}
use Rattle.places.proofs.ReadBack.{groups_of as piece_groups}
use Rattle.places.proofs.Sizes.{Sized, sized-sign, Sizes, sizes-none, sizes-cons, sizes-append, sizes-more, join-room}
use Rattle.record.specs.declared.surface.Surface.{Surface}
use Rattle.record.specs.declared.surface.Synop.{Synop}
use Rattle.record.specs.Arrays.{SynopArrays}
use Rattle.record.specs.Blank.{blank_surface, blank_section3}
use Rattle.record.specs.Set.{set_nil, set_surface, set_section3}
use Rattle.record.specs.Missing.{is_missing}
use Rattle.record.proofs.Blanks.{none-said}
use Rattle.record.specs.SilentSurface.{no_sign, no_position, no_surface, no_section3}
use Rattle.record.proofs.SurfaceBlanks.{sign-blank, position-blank, surface-blank, section3-blank}
use Rattle.text.specs.Judge.{and_then}
use Rattle.section3.specs.Write.{judge_section3, show_section3, class_section3}
use Rattle.section3.proofs.Section3Back.{section3-sizes, section3-again, section3-classed, layers-taken}
use Rattle.synop_groups.specs.Classes.{class_layer}
use Rattle.synop_groups.specs.Judge.{judge_indicators, judge_wind, wind_fits}
use Rattle.synop_groups.proofs.RoundTripHead.{wind-fine, indicators-again, indicators-classed, wind-again, wind-classed}
use Rattle.synop_row.specs.Row.{needs_of, row}
use Rattle.synop_section.specs.Answer.{begun}
use Rattle.synop.specs.Read.{walk, groups_read}
use Rattle.synop.specs.Write.{foreign_blank, judge_site, judge_section, judge_surface, judge_of, site_groups, surface_groups, groups_of, canonical_of, classed_of}
use Rattle.synop_laws.proofs.Sections.{classed_surface, section-back, section-sizes, section-again, section-classed}
use Rattle.synop_laws.proofs.Heads.{shown, put_posts, walk-stood, site_posts, surface_posts, posts-are, site-stood, surface-stood, site-sizes, surface-sizes}

-- ---- what is judged fine

-- a record whose foreign fields are blank, whose site is judged fine, and whose surface and section 3 too unless the report is NIL
record Fair (r : Synop) : Type 0 where
  blank : foreign_blank r ≡ true
  site : judge_site r ≡ Ok tt
  rest : cond r.site.nil (Ok tt) (and_then (judge_surface r.surface) (judge_section3 r.section3)) ≡ Ok tt

blank-fine : (b : Bool) → ◌≡◌ {A = Result ⊤ Refusal} (cond b (Ok tt) (Err refusal.Value)) (Ok tt) → b ≡ true
blank-fine true e = refl
blank-fine false e = impossible (cc)

fair : (r : Synop) → judge_of r ≡ Ok tt → Fair r
unfolding judge_of
fair r e =
    let f = and-then (cond (foreign_blank r) (Ok tt) (Err refusal.Value)) _ e in
    let s = and-then (judge_site r) _ f.1 in
    record { blank = blank-fine (foreign_blank r) f.0; site = s.0; rest = s.1 }

-- what is judged fine of a surface
record FairSurface (s : Surface) : Type 0 where
  indicators : judge_indicators s.indicators ≡ Ok tt
  wind : judge_wind s.wind ≡ Ok tt
  section : judge_section (needs_of s) s ≡ Ok tt

fair-surface : (s : Surface) → judge_surface s ≡ Ok tt → FairSurface s
unfolding judge_surface
fair-surface s e =
    let i = and-then (judge_indicators s.indicators) _ e in
    let w = and-then (judge_wind s.wind) _ i.1 in
    record { indicators = i.0; wind = w.0; section = w.1 }

-- after the site of a report that is not NIL
rest-fair : (r : Synop) → r.site.nil ≡ false → Fair r → FairSurface r.surface × (judge_section3 r.section3 ≡ Ok tt)
rest-fair r n f = let j = and-then (judge_surface r.surface) (judge_section3 r.section3) (rw n at f.rest) in (fair-surface r.surface j.0, j.1)

-- the fields that are foreign to each kind and to NIL
module _ (r : Synop) (e : foreign_blank r ≡ true) where
  foreign-parts : (cond r.ship (is_missing r.site.station && not r.site.nil) (no_sign r.site.sign && no_position r.site.position) ≡ true)
      × ((not r.site.nil || (no_surface r.surface && no_section3 r.section3)) ≡ true)
  unfolding foreign_blank
  foreign-parts =
      both (cond r.ship (is_missing r.site.station && not r.site.nil) (no_sign r.site.sign && no_position r.site.position))
      (not r.site.nil || (no_surface r.surface && no_section3 r.section3)) e

  foreign-land : r.ship ≡ false → (no_sign r.site.sign ≡ true) × (no_position r.site.position ≡ true)
  foreign-land is = both (no_sign r.site.sign) (no_position r.site.position) (rw is at foreign-parts.0)

  foreign-ship : r.ship ≡ true → (is_missing r.site.station ≡ true) × (r.site.nil ≡ false)
  foreign-ship is =
      let t = both (is_missing r.site.station) (not r.site.nil) (rw is at foreign-parts.0) in
      (t.0, not-true r.site.nil t.1)

  foreign-nil : r.site.nil ≡ true → (no_surface r.surface ≡ true) × (no_section3 r.section3 ≡ true)
  foreign-nil is = both (no_surface r.surface) (no_section3 r.section3) (rw is at foreign-parts.1)

-- the wind of such a record is in range, or missing
pub wind-fits : (r : Synop) → judge_of r ≡ Ok tt → wind_fits r.surface.wind.direction r.surface.wind.speed ≡ true
wind-fits r e = go r.site.nil refl
  where
    go : (nil : Bool) → r.site.nil ≡ nil → wind_fits r.surface.wind.direction r.surface.wind.speed ≡ true
    go true n = rw (surface-blank r.surface (foreign-nil r (fair r e).blank n).0)
    go false n = (wind-fine r.surface.wind (rest-fair r n (fair r e)).0.wind).1

-- the layers that count are read back as their classes
pub layers-back : (r : Synop) → SynopArrays r → judge_of r ≡ Ok tt
    → take r.section3.layers.count (class_section3 r.section3).layers.items ≡ map class_layer (take r.section3.layers.count r.section3.layers.items)
layers-back r arrays e = go r.site.nil refl
  where
    go : (nil : Bool) → r.site.nil ≡ nil
        → take r.section3.layers.count (class_section3 r.section3).layers.items ≡ map class_layer (take r.section3.layers.count r.section3.layers.items)
    go true n = rw (section3-blank r.section3 arrays.layers (foreign-nil r (fair r e).blank n).1)
    go false n = layers-taken r.section3 arrays.layers (rest-fair r n (fair r e)).1

-- ---- the groups of the site

-- the word that begins a report of the kind
abbrev pub word : Bool → Group
word false = bytes "AAXX"
word true = bytes "BBXX"

site-groups : (ship : Bool) (r : Synop) → r.ship ≡ ship → site_groups r ≡ word ship ∷ shown (site_posts ship) r
unfolding site_groups
site-groups false r is = rw is
site-groups true r is = rw is

-- the record as they leave it
abbrev site_read : Synop → Synop
site_read r = record { ship = r.ship; site = set_nil false r.site; surface = blank_surface; section3 = blank_section3 }

site-put : (ship : Bool) (r : Synop) → r.ship ≡ ship → length r.site.sign.letters ≡ 9 → foreign_blank r ≡ true
    → put_posts (site_posts ship) r (begun ship) ≡ site_read r
site-put false r is nine e =
    let f = foreign-land r e is in
    rw (is, sign-blank r.site.sign nine f.0, position-blank r.site.position f.1)
site-put true r is nine e = rw (is, none-said r.site.station (foreign-ship r e is).0)

-- ---- the report as a whole

-- what a report of the kind has after its site
abbrev pub rest_groups : Synop → List Group
rest_groups r = cond r.site.nil (bytes "NIL" ∷ []) (surface_groups r.surface ++ show_section3 r.section3)

pub groups-are : (ship : Bool) (r : Synop) → r.ship ≡ ship → groups_of r ≡ word ship ∷ (shown (site_posts ship) r ++ rest_groups r)
unfolding groups_of
groups-are ship r is = rw (site-groups ship r is)

-- NIL ends a land report
nil-back : (r : Synop) (end : ℕ) (gs : List Piece) → piece_groups gs ≡ bytes "NIL" ∷ []
    → walk (surface_posts false) (site_read r) None end gs ≡ Done end (record { ship = r.ship; site = set_nil true r.site; surface = blank_surface; section3 = blank_section3 })
unfolding walk has_pattern fits low high
nil-back r end [] are = impossible (cc)
nil-back r end (g ∷ []) are = let here : g.bytes ≡ bytes "NIL" = cc in rw here
nil-back r end (g ∷ h ∷ gs) are = impossible (cc)

surface-back : (ship : Bool) (r : Synop) (end : ℕ) (gs : List Piece) → length r.section3.layers.items ≡ 4 → FairSurface r.surface → judge_section3 r.section3 ≡ Ok tt
    → piece_groups gs ≡ surface_groups r.surface ++ show_section3 r.section3
    → walk (surface_posts ship) (site_read r) None end gs ≡ Done end (set_section3 (class_section3 r.section3) (set_surface (classed_surface r.surface) (site_read r)))
unfolding surface_groups walk
surface-back ship r end gs four f e are =
    walk-stood (surface_posts ship) [] r (site_read r) None end gs (written (row (needs_of r.surface)) r.surface ++ show_section3 r.section3) _
    (surface-stood ship r (site_read r) f.indicators f.wind) are
    (λ hs rest. section-back r.surface r.section3 (site_read r) end hs refl f.wind f.section four e rest)

-- after the site
rest_back : (ship : Bool) (r : Synop) (end : ℕ) (gs : List Piece) → SynopArrays r → r.ship ≡ ship → Fair r → piece_groups gs ≡ rest_groups r
    → walk (surface_posts ship) (site_read r) None end gs ≡ Done end (classed_of r)
unfolding classed_of
rest_back ship r end gs arrays is f are = go r.site.nil refl ship is
  where
    go : (nil : Bool) → r.site.nil ≡ nil → (ship : Bool) → r.ship ≡ ship → walk (surface_posts ship) (site_read r) None end gs ≡ Done end (classed_of r)
    go true n true is = absurd (false≢true (sym (foreign-ship r f.blank is).1 ∙ n))
    go true n false is =
        let b = foreign-nil r f.blank n in
        nil-back r end gs (rw n at are) ∙ rw (n, surface-blank r.surface b.0, section3-blank r.section3 arrays.layers b.1)
    go false n ship is = let g = rest-fair r n f in surface-back ship r end gs arrays.layers g.0 g.1 (rw n at are) ∙ rw n

-- THE GROUPS OF A RECORD ARE READ BACK, from any pieces that hold those behind the first.
pub pieces-back : (r : Synop) (end : ℕ) (gs : List Piece) → SynopArrays r → judge_of r ≡ Ok tt
    → piece_groups gs ≡ shown (site_posts r.ship) r ++ rest_groups r → groups_read r.ship None end gs ≡ Done end (classed_of r)
unfolding groups_read
pieces-back r end gs arrays e are =
    let f = fair r e in
    let ship = r.ship in
    let nine = arrays.letters in
    rw (posts-are ship)
    (walk-stood (site_posts ship) (surface_posts ship) r (begun ship) None end gs (rest_groups r) (Done end (classed_of r)) (site-stood ship r refl nine f.site) are
    (λ hs rest. rw (site-put ship r refl nine f.blank) (rest_back ship r end hs arrays refl f rest)))

-- ---- the text

word-sized : (ship : Bool) → Sized 4 (word ship)
word-sized false = sized-sign 4 (bytes "AAXX") refl
word-sized true = sized-sign 4 (bytes "BBXX") refl

rest-sizes : (r : Synop) → length r.section3.layers.items ≡ 4 → Fair r → Sizes 112 (rest_groups r)
unfolding surface_groups
rest-sizes r four f = go r.site.nil refl
  where
    go : (nil : Bool) → r.site.nil ≡ nil → Sizes 112 (rest_groups r)
    go true n = rw n (sizes-more (omega arith) (sizes-cons (sized-sign 3 (bytes "NIL") refl) sizes-none))
    go false n =
        let g = rest-fair r n f in
        let s = g.0 in
        rw n
        (sizes-append (surface_groups r.surface) (show_section3 r.section3)
        (sizes-append (shown (surface_posts r.ship) r) (written (row (needs_of r.surface)) r.surface)
        (surface-sizes r.ship r (site_read r) (surface-stood r.ship r (site_read r) s.indicators s.wind))
        (section-sizes r.surface s.wind s.section))
        (section3-sizes r.section3 four g.1))

report-sizes : (r : Synop) → SynopArrays r → judge_of r ≡ Ok tt
    → Sizes 145 (word r.ship ∷ (shown (site_posts r.ship) r ++ rest_groups r))
report-sizes r arrays e =
    let f = fair r e in
    let ship = r.ship in
    sizes-cons (word-sized ship)
    (sizes-append (shown (site_posts ship) r) (rest_groups r) (site-sizes ship r (begun ship) (site-stood ship r refl arrays.letters f.site)) (rest-sizes r arrays.layers f))

-- The groups of a record can be joined and cut, and hold only bytes that a text may hold.
pub groups-sizes : (r : Synop) → SynopArrays r → judge_of r ≡ Ok tt → Sizes 145 (groups_of r)
groups-sizes r arrays e = rw (groups-are r.ship r refl) (report-sizes r arrays e)

-- HOW LONG THE CANONICAL TEXT IS, at most: a ship's, with a call sign of nine and every group of both sections.
pub length-canonical : (r : Synop) → SynopArrays r → judge_of r ≡ Ok tt → length (canonical_of r) ≤ 145
unfolding canonical_of
length-canonical r arrays e =
    rw (groups-are r.ship r refl, join-room (word r.ship) (shown (site_posts r.ship) r ++ rest_groups r)) (report-sizes r arrays e).short

-- the groups behind the first
behind : (gs : List Piece) (h : Group) (hs : List Group) → piece_groups gs ≡ h ∷ hs → piece_groups (drop 1 gs) ≡ hs
behind [] h hs are = let z : ◌≡◌ {A = ℕ} 0 1 = cc in absurd (omega arith)
behind (g ∷ gs) h hs are = cc

-- THE GROUPS OF THE CANONICAL TEXT, those behind AAXX or BBXX, COME TO THE RECORD'S CLASSES, with no unread rest.
pub read-canonical : (r : Synop) → SynopArrays r → judge_of r ≡ Ok tt
    → groups_read r.ship (tail_of (canonical_of r)) (length (canonical_of r)) (drop 1 (groups_from (canonical_of r) 0)) ≡ Done (length (canonical_of r)) (classed_of r)
unfolding canonical_of
read-canonical r arrays e =
    let wholes = (groups-sizes r arrays e).wholes in
    let text = join (groups_of r) in
    rw (join-tail (groups_of r) wholes)
    (pieces-back r (length text) (drop 1 (groups_from text 0)) arrays e
    (behind (groups_from text 0) (word r.ship) (shown (site_posts r.ship) r ++ rest_groups r) (round-trip-bytes (groups_of r) wholes ∙ groups-are r.ship r refl)))

-- ---- written again

surface-again : (s : Surface) → FairSurface s → surface_groups (classed_surface s) ≡ surface_groups s
unfolding surface_groups
surface-again s f = rw (indicators-again s.indicators f.indicators, wind-again s.wind f.wind, section-again s f.section)

-- THE RECORD THAT IS READ BACK IS WRITTEN AS THE SAME TEXT.
pub written-again : (r : Synop) → SynopArrays r → judge_of r ≡ Ok tt → canonical_of (classed_of r) ≡ canonical_of r
unfolding canonical_of groups_of site_groups classed_of
written-again r arrays e = ap (λ (gs : List Group). join (site_groups r ++ gs)) (go r.site.nil refl)
  where
    go : (nil : Bool) → r.site.nil ≡ nil → rest_groups (classed_of r) ≡ rest_groups r
    go true n = rw n
    go false n = let g = rest-fair r n (fair r e) in rw (n, surface-again r.surface g.0, section3-again r.section3 arrays.layers g.1)

surface-classed : (s : Surface) → FairSurface s → judge_surface (classed_surface s) ≡ Ok tt
unfolding judge_surface
surface-classed s f = rw (indicators-classed s.indicators f.indicators, wind-classed s.wind f.wind, section-classed s f.section)

foreign-classed : (r : Synop) → SynopArrays r → foreign_blank r ≡ true → foreign_blank (classed_of r) ≡ true
unfolding foreign_blank classed_of no_surface
foreign-classed r arrays b = rw (foreign-parts r b).0 (go r.site.nil refl)
  where
    go : (nil : Bool) → r.site.nil ≡ nil → (not r.site.nil || (no_surface (classed_surface r.surface) && no_section3 (class_section3 r.section3))) ≡ true
    go true n = let f = foreign-nil r b n in rw (n, surface-blank r.surface f.0, section3-blank r.section3 arrays.layers f.1)
    go false n = rw n

-- AND THE WRITER ACCEPTS IT.
pub classed-fine : (r : Synop) → SynopArrays r → judge_of r ≡ Ok tt → judge_of (classed_of r) ≡ Ok tt
unfolding judge_of judge_site classed_of
classed-fine r arrays e = let f = fair r e in rw (foreign-classed r arrays f.blank, f.site, go r.site.nil refl)
  where
    go : (nil : Bool) → r.site.nil ≡ nil
        → cond r.site.nil (Ok tt) (and_then (judge_surface (classed_surface r.surface)) (judge_section3 (class_section3 r.section3))) ≡ Ok tt
    go true n = rw n
    go false n = let g = rest-fair r n (fair r e) in rw (n, surface-classed r.surface g.0, section3-classed r.section3 arrays.layers g.1)
