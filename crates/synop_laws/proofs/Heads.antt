-- The groups through Nddff as a whole: what is written of a record that is judged fine has the shape of its position and is read back.
-- Assumes nothing.
use Rattle.std.specs.Prelude.{Ok, Option}
use Prim.Native.Nat.{ℕ}
use native.Mathlib.Omega.{arith}
use mathlib.Core.Path.{◌≡◌, refl}
use mathlib.Core.Bool.{Bool, true, false, not, ◌&&◌, and-false}
use mathlib.Core.List.{List, [], ◌∷◌, ◌++◌}
use lib.ListN.{length}
use Rattle.figures.proofs.Impossible.{impossible}
use Rattle.figures.specs.Quote.{bytes}
use Rattle.text.specs.Groups.{Piece}
use Rattle.text.proofs.Judging.{and-then}
use Rattle.shapes.specs.Pattern.{Pattern, low, high, has_pattern, clash}
use Rattle.shapes.proofs.Patterns.{excluded}
use Rattle.places.specs.Engine.{Group, Outcome}
use Rattle.places.proofs.ReadBack.{one-pattern, groups_of}
use Rattle.places.proofs.Sizes.{Sized, sized-sign, measured, sized-any, Sizes, sizes-none, sizes-cons, sizes-more}
use Rattle.record.specs.declared.surface.Synop.{Synop}
use Rattle.synop_groups.specs.declared.kinds.Said.{Said}
use Rattle.synop_groups.specs.Reads.{said_time, said_station, said_latitude, said_longitude, said_indicators, said_wind}
use Rattle.synop_groups.specs.Judge.{judge_time, judge_station, judge_sign, judge_position, judge_indicators, judge_wind}
use Rattle.synop_groups.proofs.RoundTripHead.{Stands, time-back, station-back, sign-back, latitude-back, longitude-back, indicators-back, wind-back}
use Rattle.synop_row.specs.Row.{with_said}
use Rattle.synop_section.specs.Answer.{begun}
use Rattle.synop.specs.Read.{Post, with_head, time_post, station_post, sign_of, sign_post, latitude_post, longitude_post, indicators_post, wind_post, posts, is_nil, walk}
use Rattle.synop.specs.Write.{judge_site}

-- ---- a row of positions

-- The group that is written at a position is no NIL where NIL may stand, has the shape, and read into acc makes what is put.
pub record Stood (p : Post) (r acc : Synop) : Type 0 where
  pub unlike : (p.nil && is_nil (p.show r)) ≡ false
  pub shaped : p.has (p.show r) ≡ true
  pub reads : p.read (p.show r) acc ≡ Ok (p.put r acc)

abbrev pub StoodAll : List Post → Synop → Synop → Type 0
StoodAll [] r acc = Unit {0}
StoodAll (p ∷ ps) r acc = Stood p r acc × StoodAll ps r (p.put r acc)

abbrev pub shown : List Post → Synop → List Group
shown [] r = []
shown (p ∷ ps) r = p.show r ∷ shown ps r

abbrev pub put_posts : List Post → Synop → Synop → Synop
put_posts [] r acc = acc
put_posts (p ∷ ps) r acc = put_posts ps r (p.put r acc)

-- Such groups are read, from any pieces that hold them, and reading goes on with the positions after them.
pub walk-stood : (ps qs : List Post) (r acc : Synop) (tail : Option ℕ) (end : ℕ) (gs : List Piece) (after : List Group) (x : Outcome Synop) → StoodAll ps r acc
    → groups_of gs ≡ shown ps r ++ after → ((hs : List Piece) → groups_of hs ≡ after → walk qs (put_posts ps r acc) tail end hs ≡ x)
    → walk (ps ++ qs) acc tail end gs ≡ x
unfolding walk
walk-stood [] qs r acc tail end gs after x s are f = f gs are
walk-stood (p ∷ ps) qs r acc tail end [] after x s are f = impossible (cc)
walk-stood (p ∷ ps) qs r acc tail end (g ∷ gs) after x s are f =
    let here : g.bytes ≡ p.show r = cc in
    let rest : groups_of gs ≡ shown ps r ++ after = cc in
    rw (here, s.0.unlike, s.0.shaped, s.0.reads) (walk-stood ps qs r (p.put r acc) tail end gs after x s.1 rest f)

-- a position whose group has a pattern
abbrev post_of : Pattern → Bool → (Synop → Group → Said) → (Synop → Group) → (Synop → Synop → Synop) → Post
post_of shape nil says show put = record { has = λ g. has_pattern g shape; nil = nil; read = λ g r. with_head (says r g) r; show = show; put = put }

stand : (says : Synop → Group → Said) {shape : Pattern} {nil : Bool} {show : Synop → Group} {put : Synop → Synop → Synop} {meant : Said} {r acc : Synop}
    → Stands shape (says acc) meant (show r) → clash shape (bytes "NIL") ≡ true → with_head meant acc ≡ Ok (put r acc)
    → Stood (post_of shape nil says show put) r acc
stand says {shape} {nil} {show} {put} {meant} {r} {acc} s c e =
    record {
      unlike = rw (excluded (show r) shape (bytes "NIL") c s.shaped) (and-false nil);
      shaped = s.shaped;
      reads = rw s.said e;
    }

-- ---- the positions of a land report and of a ship's: those of its site, then iRixhVV and Nddff

abbrev pub site_posts : Bool → List Post
site_posts false = time_post ∷ station_post ∷ []
site_posts true = sign_post ∷ time_post ∷ latitude_post ∷ longitude_post ∷ []

abbrev pub surface_posts : Bool → List Post
surface_posts ship = indicators_post (not ship) ∷ wind_post ∷ []

pub posts-are : (ship : Bool) → posts ship ≡ site_posts ship ++ surface_posts ship
unfolding posts
posts-are false = refl
posts-are true = refl

sign-stood : (r acc : Synop) → length r.site.sign.letters ≡ 9 → judge_sign r.site.sign ≡ Ok tt → Stood sign_post r acc
unfolding sign_of
sign-stood r acc nine e =
    let b = sign-back r.site.sign nine e in
    record { unlike = refl; shaped = b.0; reads = rw (b.1, b.2) }

pub site-stood : (ship : Bool) (r : Synop) → r.ship ≡ ship → length r.site.sign.letters ≡ 9 → judge_site r ≡ Ok tt
    → StoodAll (site_posts ship) r (begun ship)
unfolding judge_site with_head with_said low high clash
site-stood false r is nine e =
    let t = and-then (judge_time r.site.time) (judge_station r.site.station) (rw is at e) in
    let station = station-back r.site.station t.1 in
    (stand (λ acc. said_time) (time-back r.site.time t.0) refl refl, (stand (λ acc. said_station) station.2 refl (rw (← station.1)), tt))
site-stood true r is nine e =
    let s = and-then (judge_sign r.site.sign) _ (rw is at e) in
    let t = and-then (judge_time r.site.time) (judge_position r.site.position) s.1 in (
      sign-stood r _ nine s.0,
      (
        stand (λ acc. said_time) (time-back r.site.time t.0) refl refl,
        (stand (λ acc. said_latitude) (latitude-back r.site.position t.1) refl refl, (stand (λ acc. said_longitude acc.site.position) (longitude-back r.site.position t.1) refl refl, tt)),
      ),
    )

pub surface-stood : (ship : Bool) (r acc : Synop) → judge_indicators r.surface.indicators ≡ Ok tt → judge_wind r.surface.wind ≡ Ok tt
    → StoodAll (surface_posts ship) r acc
unfolding with_head with_said low high clash
surface-stood ship r acc i w =
    (stand (λ acc. said_indicators) (indicators-back r.surface.indicators i) refl refl, (stand (λ acc. said_wind) (wind-back r.surface.wind w) refl refl, tt))

-- ---- how long they are

five-sized : (p : Pattern) (g : Group) → measured 5 (p ∷ []) ≡ true → has_pattern g p ≡ true → Sized 5 g
five-sized p g e h = sized-any 5 (p ∷ []) g e (one-pattern p g h)

-- They take at most 28 bytes.
pub site-sizes : (ship : Bool) (r acc : Synop) → StoodAll (site_posts ship) r acc → Sizes 28 (shown (site_posts ship) r)
unfolding low high
site-sizes false r acc s =
    sizes-more (omega arith)
    (sizes-cons (five-sized (bytes "#####") _ refl s.0.shaped) (sizes-cons (five-sized (bytes "#####") _ refl s.1.0.shaped) sizes-none))
site-sizes true r acc s =
    sizes-cons (sized-sign 9 _ s.0.shaped)
    (sizes-cons (five-sized (bytes "#####") _ refl s.1.0.shaped)
    (sizes-cons (five-sized (bytes "99###") _ refl s.1.1.0.shaped) (sizes-cons (five-sized (bytes "#####") _ refl s.1.1.1.0.shaped) sizes-none)))

pub surface-sizes : (ship : Bool) (r acc : Synop) → StoodAll (surface_posts ship) r acc → Sizes 12 (shown (surface_posts ship) r)
unfolding low high
surface-sizes ship r acc s =
    sizes-cons (five-sized (bytes "#####") _ refl s.0.shaped) (sizes-cons (five-sized (bytes "#####") _ refl s.1.0.shaped) sizes-none)
