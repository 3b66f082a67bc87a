-- WHERE THE ITEMS OF A METAR OR SPECI WERE READ FROM, in a text whose groups come to a record.
-- Assumes nothing.
use Rattle.std.specs.Prelude.{Ok}
use Prim.Native.Nat.{ℕ, ◌<◌}
use mathlib.Core.Path.{◌≡◌, refl, sym, ap, subst, ◌∙◌}
use mathlib.Core.Bool.{Bool, true, false, cond}
use mathlib.Core.List.{List, ◌++◌, map}
use lib.ListN.{length}
use lib.Dec.{ltb}
use Rattle.figures.specs.Quote.{bytes}
use Rattle.figures.proofs.Impossible.{impossible}
use Rattle.text.specs.declared.kinds.Refusal.TheVariants as refusal
use Rattle.text.specs.Groups.{groups_from}
use Rattle.text.specs.Text.{tail_of}
use Rattle.shapes.specs.Pattern.{has_pattern, has_any}
use Rattle.places.specs.Engine.{Group, Done}
use Rattle.places.specs.Parts.{Begun, Word as Coming, Ends, Opens, Bars}
use Rattle.record.specs.declared.aerodrome.Observation.{Observation}
use Rattle.record.specs.declared.aerodrome.TrendChange.{TrendChange}
use Rattle.record.specs.declared.aerodrome.Metar.{Metar}
use Rattle.record.specs.Observation.{blank_observation}
use Rattle.record.specs.Trend.{blank_trend}
use Rattle.metar_row.specs.Row.{stop_words}
use Rattle.trend_row.specs.declared.kinds.Word.{Word}
use Rattle.trend_row.specs.declared.kinds.Word.TheVariants as word
use Rattle.trend_row.specs.Tests.{lacks_in}
use Rattle.trend.specs.Read.{start_of, comes_to, taking}
use Rattle.metar.specs.Read.{groups_read}
use Rattle.sources.specs.declared.kinds.Spot.TheVariants as spot
use Rattle.sources.specs.Trail.{Taken, group, origin_in, source_of}
use Rattle.sources.specs.Trail as walk
use Rattle.sources.proofs.Parts.{as_taken, main_of, Read-on, report-done, report-walked}
use Rattle.sources.proofs.Own.{EachTaken, report-own}
use Rattle.sources.proofs.Items.{Stems, main-stems, Covers, report-covers}
use Rattle.sources.proofs.Texts.{ReadFrom, read-from}
use Rattle.metar_sources.specs.declared.kinds.Element.{Element}
use Rattle.metar_sources.specs.declared.kinds.Element.TheVariants as element
use Rattle.metar_sources.specs.Trail.{word_move, route, trail_of}
use Rattle.metar_sources.specs.Items.{place_of, most_of, value_of, Said}
use Rattle.metar_sources.proofs.Items.{fair_of, observed-item}

-- ---- the report as its route: what a word comes to, and how a part is taken in

abbrev pub coming : Metar → Group → Coming Word TrendChange
coming r g = comes_to r.trend g

abbrev pub begun : Observation → Metar
begun o = record { observation = o; trend = blank_trend }

abbrev pub none-lacks : Observation → Bool
none-lacks o = false

abbrev pub takes : Metar → Word → TrendChange → Metar
takes r w c = record { observation = r.observation; trend = taking w r.trend c }

abbrev pub lacks : Metar → Word → TrendChange → Bool
lacks r w c = lacks_in w c.body

-- a word that opens a part, and at which the unread rest begins, whatever was read before
word-ends : (r : Metar) (g : Group) → coming r g ≡ Ends → word_move g ≡ walk.Ends
unfolding comes_to word_move
word-ends r g e = go (has_any stop_words g) (has_pattern g (bytes "NOSIG")) r.trend.nosig (ltb 0 r.trend.count) e
  where
    opens : Word → Coming Word TrendChange
    opens w = Opens (Ok (record { kind = w; start = start_of w }))

    go : (a b n c : Bool) → cond a Ends (cond b (cond n (Bars refusal.Order) (cond c (Bars refusal.Disagreement) (opens word.Nosig)))
        (cond n (Bars refusal.Disagreement) (opens (cond (has_pattern g (bytes "BECMG")) word.Becoming word.Temporary)))) ≡ Ends
        → cond a walk.Ends (cond b (walk.Opens word.Nosig) (walk.Opens (cond (has_pattern g (bytes "BECMG")) word.Becoming word.Temporary))) ≡ walk.Ends
    go true b n c e = refl
    go false true true c e = impossible (cc)
    go false true false true e = impossible (cc)
    go false true false false e = impossible (cc)
    go false false true c e = impossible (cc)
    go false false false c e = impossible (cc)

-- what opened it is the word, and the part begins as the word leaves it
pub word-opens : (r : Metar) (g : Group) (w : Word) (p : TrendChange) → coming r g ≡ Opens (Ok (record { kind = w; start = p }))
    → (word_move g ≡ walk.Opens w) × (p ≡ start_of w) × (r.trend.nosig ≡ false)
unfolding comes_to word_move
word-opens r g w p e = go (has_any stop_words g) (has_pattern g (bytes "NOSIG")) r.trend.nosig refl (ltb 0 r.trend.count) e
  where
    v : Word
    v = cond (has_pattern g (bytes "BECMG")) word.Becoming word.Temporary

    opens : Word → Coming Word TrendChange
    opens w = Opens (Ok (record { kind = w; start = start_of w }))

    opened : (u : Word) → opens u ≡ Opens (Ok (record { kind = w; start = p })) → (walk.Opens u ≡ walk.Opens w) × (p ≡ start_of w)
    opened u e =
        let both : ◌≡◌ {A = Begun Word TrendChange} (record { kind = u; start = start_of u }) (record { kind = w; start = p }) = cc in
        let same : u ≡ w = ap (λ (b : Begun Word TrendChange). b.kind) both in
        let starts : start_of u ≡ p = ap (λ (b : Begun Word TrendChange). b.start) both in
        (ap walk.Opens same, sym starts ∙ ap start_of same)

    go : (a b n : Bool) → r.trend.nosig ≡ n → (c : Bool) → cond a Ends (cond b (cond n (Bars refusal.Order) (cond c (Bars refusal.Disagreement) (opens word.Nosig)))
        (cond n (Bars refusal.Disagreement) (opens v))) ≡ Opens (Ok (record { kind = w; start = p }))
        → (cond a walk.Ends (cond b (walk.Opens word.Nosig) (walk.Opens v)) ≡ walk.Opens w) × (p ≡ start_of w) × (r.trend.nosig ≡ false)
    go true b n is c e = impossible (cc)
    go false true true is c e = impossible (cc)
    go false true false is true e = impossible (cc)
    go false true false is false e = let (x, y) = opened word.Nosig e in (x, y, is)
    go false false true is c e = impossible (cc)
    go false false false is c e = let (x, y) = opened v e in (x, y, is)

-- NOSIG opens a part only where no change stands
pub nosig-first : (r : Metar) (g : Group) (p : TrendChange) → coming r g ≡ Opens (Ok (record { kind = word.Nosig; start = p })) → ltb 0 r.trend.count ≡ false
unfolding comes_to
nosig-first r g p e = go (has_any stop_words g) (has_pattern g (bytes "NOSIG")) r.trend.nosig (ltb 0 r.trend.count) refl (has_pattern g (bytes "BECMG")) e
  where
    opens : Word → Coming Word TrendChange
    opens w = Opens (Ok (record { kind = w; start = start_of w }))

    kinds : (u : Word) → opens u ≡ Opens (Ok (record { kind = word.Nosig; start = p })) → u ≡ word.Nosig
    kinds u e =
        let both : ◌≡◌ {A = Begun Word TrendChange} (record { kind = u; start = start_of u }) (record { kind = word.Nosig; start = p }) = cc in
        ap (λ (b : Begun Word TrendChange). b.kind) both

    go : (a b n c : Bool) → ltb 0 r.trend.count ≡ c → (z : Bool)
        → cond a Ends (cond b (cond n (Bars refusal.Order) (cond c (Bars refusal.Disagreement) (opens word.Nosig))) (cond n (Bars refusal.Disagreement) (opens (cond z word.Becoming word.Temporary))))
        ≡ Opens (Ok (record { kind = word.Nosig; start = p })) → ltb 0 r.trend.count ≡ false
    go true b n c is z e = impossible (cc)
    go false true true c is z e = impossible (cc)
    go false true false true is z e = impossible (cc)
    go false true false false is z e = is
    go false false true c is z e = impossible (cc)
    go false false false c is true e = let k = kinds word.Becoming e in impossible (cc)
    go false false false c is false e = let k = kinds word.Temporary e in impossible (cc)

module _ (t : List ℕ) (rest : ℕ) (r : Metar) (reads : groups_read (tail_of t) (length t) (groups_from t 0) ≡ Done rest r) where
  -- the reading, part by part and group by group
  pub went : Read-on route coming begun none-lacks takes lacks (tail_of t) (length t) rest r (main_of route coming begun none-lacks takes lacks) 0 blank_observation (groups_from t 0)
  unfolding groups_read
  went = report-done route coming begun none-lacks takes lacks (tail_of t) (length t) rest r 3 blank_observation (groups_from t 0) reads

  pub walked : trail_of t ≡ map (as_taken 0) went.entries ++ went.follows.taken
  unfolding trail_of
  walked = report-walked route coming begun none-lacks takes lacks word-ends (λ x g w p e. (word-opens x g w p e).0) (λ w g. refl) went word.Nosig

  -- EVERY GROUP UP TO THE UNREAD REST IS IN THE TRAIL, in its order.
  pub trail-covers : Covers (length t) rest (groups_from t 0) (trail_of t)
  trail-covers = subst (Covers (length t) rest (groups_from t 0)) (sym walked) (report-covers route coming begun none-lacks takes lacks went)

  -- EACH GROUP OF THE TRAIL IS THE ONE FOUND WHERE IT WAS TAKEN: it is the source of what was taken there, and no other group is.
  pub trail-own : EachTaken (λ x. origin_in x.part x.spot (trail_of t) ≡ group x.piece) (trail_of t)
  trail-own =
      subst (λ (xs : List Taken). EachTaken (λ x. origin_in x.part x.spot xs ≡ group x.piece) xs) (sym walked)
      (report-own route coming begun none-lacks takes lacks went)

  -- EACH ITEM OF THE OBSERVATION is what the definition of its group says of the bytes that it was read from, or, with no such group, it is missing.
  pub observed-source : (e : Element) (k : ℕ) → k < most_of e
      → ReadFrom t (λ g. Said e g (value_of e k r.observation)) (value_of e k r.observation ≡ value_of e k blank_observation)
      (source_of (origin_in 0 (spot.At (place_of e) k) (trail_of t)))
  observed-source e k few =
      read-from t 0 (spot.At (place_of e) k) (trail_of t) trail-covers
      (subst (λ (xs : List Taken). Stems (λ g. Said e g.bytes (value_of e k r.observation)) (value_of e k r.observation ≡ value_of e k blank_observation) (origin_in 0 (spot.At (place_of e) k) xs)) (sym walked)
      (main-stems route coming begun none-lacks takes lacks {get = λ x. value_of e k x.observation} (observed-item e k few) (λ o. refl) (λ x w p. refl) went (blank-fair e) refl))
    where
      blank-fair : (e : Element) → fair_of e blank_observation
      blank-fair element.Name = tt
      blank-fair element.Correction = tt
      blank-fair element.Station = tt
      blank-fair element.Time = tt
      blank-fair element.Nil = tt
      blank-fair element.Automatic = tt
      blank-fair element.Wind = tt
      blank-fair element.Variation = tt
      blank-fair element.Visibility = tt
      blank-fair element.Runway = refl
      blank-fair element.Weather = refl
      blank-fair element.Clouds = refl
      blank-fair element.Temperatures = tt
      blank-fair element.Pressure = tt
      blank-fair element.Recent = refl
      blank-fair element.State = refl
      blank-fair element.Snoclo = tt
