-- What a group says, put into the body, is what the place's reading makes of the body.
-- Assumes nothing.
use Rattle.std.specs.Prelude.{Err, Ok, Result}
use Rattle.text.specs.declared.kinds.Refusal.{Refusal}
use Prim.Native.Nat.{ℕ, ◌≤◌}
use mathlib.Core.Path.{◌≡◌, refl, sym, ap, ◌∙◌}
use mathlib.Core.Bool.{Bool, true, false, cond, not, ◌&&◌, ◌||◌}
use mathlib.Core.List.{List, [], ◌∷◌}
use lib.ListN.{length, take, get_or-eq_default}
use lib.Dec.{eqb}
use types.Run.{OneOf}
use denote.Enum.Declared.{tag_of}
use Rattle.figures.specs.Quote.{bytes}
use Rattle.text.specs.declared.kinds.Refusal.TheVariants as refusal
use Rattle.shapes.specs.Pattern.{has_pattern}
use Rattle.shapes.specs.Shape.{has_shape}
use Rattle.places.specs.Engine.{Group, Place, nowhere, place_at}
use Rattle.record.specs.declared.aerodrome.Weather.{Weather}
use Rattle.record.specs.declared.aerodrome.Layer.{Layer}
use Rattle.record.specs.declared.aerodrome.Cover.{Cover}
use Rattle.record.specs.declared.aerodrome.Sky.{Sky}
use Rattle.record.specs.declared.aerodrome.Body.{Body}
use Rattle.record.specs.Body.{set_wind, set_visibility, set_weathers, set_nsw, set_sky}
use Rattle.record.specs.SilentAerodrome.{is_layers}
use Rattle.elements.specs.declared.kinds.Said.{Said}
use Rattle.elements.specs.declared.kinds.Said.TheVariants as said
use Rattle.elements.specs.contracts.kinds.Said as says
use Rattle.elements.specs.Parts.{agreeing, then}
use Rattle.elements.specs.Wind.{read_wind}
use Rattle.elements.specs.Visibility.{read_visibility, is_cavok}
use Rattle.elements.specs.Weather.{read_weather, with_weather}
use Rattle.elements.specs.Sky.{layer_shape, read_layer, read_alone, rises, add_layer, with_layer, with_alone, read_sky}
use Rattle.elements.specs.Body.{Terms, beside_others, read_weather_or_nsw, body_row}
use Rattle.elements.specs.Answers.{as_said, as_wind, as_visibility, unless_wrong, layer_said, alone_said, sky_said}
use Rattle.elements.proofs.Answers.{said_put}
use Rattle.body.specs.Said.{unless_refused, put_said, with_said, weather_said, is_of_body, Says, SaysAt}
use Rattle.body.proofs.Variants.{each, by-tag, never}

own-as : {A : Type 0} (makes : A → Said) → ((a : A) → is_of_body (makes a) ≡ true) → (x : Result A Refusal) → is_of_body (as_said makes x) ≡ true
own-as makes own (Ok a) = own a
own-as makes own (Err f) = refl

own-unless : (agrees : Bool) (x : Said) → is_of_body x ≡ true → is_of_body (unless_wrong agrees x) ≡ true
own-unless true x own = own
own-unless false x own = refl

own-weather : (beside : Bool) (x : Result Weather Refusal) → is_of_body (weather_said beside x) ≡ true
own-weather true (Ok w) = refl
own-weather false (Ok w) = refl
own-weather beside (Err f) = refl

own-layer : (cavok : Bool) (k : ℕ) (s : Sky) (x : Result Layer Refusal) → is_of_body (layer_said cavok k s x) ≡ true
own-layer cavok k s (Ok l) = own-unless (not cavok && is_layers s.cover && rises (take k s.layers) l.height) (said.Layer l) refl
own-layer cavok k s (Err f) = refl

own_alone : (cavok : Bool) (k : ℕ) (x : Result Cover Refusal) → is_of_body (alone_said cavok k x) ≡ true
own_alone cavok k (Ok c) = own-unless (not cavok && eqb k 0) (said.Cover c) refl
own_alone cavok k (Err f) = refl

module _ (forecast may automatic : Bool) (k : ℕ) (g : Group) (b : Body) where
  pub says-wind : Says forecast may automatic 0 k g b (as_wind (read_wind forecast g))
  unfolding put_said
  says-wind =
      record {
        own = own-as said.Wind (λ x. refl) (read_wind forecast g);
        puts = λ required silent. said_put said.Wind (λ x. with_said k x b) (λ x. set_wind x b) (λ x. refl) (λ f. refl) (read_wind forecast g);
      }

  pub says-visibility : Says forecast may automatic 1 k g b (as_visibility (read_visibility forecast g))
  unfolding put_said
  says-visibility =
      record {
        own = own-as said.Visibility (λ x. refl) (read_visibility forecast g);
        puts = λ required silent. said_put said.Visibility (λ x. with_said k x b) (λ x. set_visibility x b) (λ x. refl) (λ f. refl) (read_visibility forecast g);
      }

  -- NSW, or weather
  nsw-said : (agrees : Bool) → with_said k (unless_wrong agrees said.Nsw) b ≡ agreeing agrees (Ok (set_nsw true b))
  unfolding put_said
  nsw-said true = refl
  nsw-said false = refl

  weather-said : (x : Result Weather Refusal) → with_said k (weather_said (is_cavok b.visibility || b.nsw) x) b
      ≡ then (beside_others b x) (λ w. Ok (set_weathers (with_weather k b.weathers w) b))
  unfolding put_said
  weather-said (Err f) = refl
  weather-said (Ok w) = go (is_cavok b.visibility) b.nsw
    where
      go : (c n : Bool) → with_said k (cond (c || n) (said.Refused refusal.Disagreement) (said.Weather w)) b
          ≡ then (agreeing (not c && not n) (Ok w)) (λ w. Ok (set_weathers (with_weather k b.weathers w) b))
      go true n = refl
      go false true = refl
      go false false = refl

  abbrev terms : Bool → Bool → Terms
  terms required silent = record { forecast = forecast; required = required; may_nsw = may; automatic = automatic; silent = silent }

  abbrev stands : Bool
  stands = may && eqb k 0 && not (is_cavok b.visibility)

  pub says-nsw : has_pattern g (bytes "NSW") ≡ true → Says forecast may automatic 2 k g b (unless_wrong stands said.Nsw)
  unfolding read_weather_or_nsw
  says-nsw is = record { own = own-unless stands said.Nsw refl; puts = λ required silent. rw is (nsw-said stands) }

  pub says-weather : has_pattern g (bytes "NSW") ≡ false
      → Says forecast may automatic 2 k g b (weather_said (is_cavok b.visibility || b.nsw) (read_weather forecast automatic g))
  unfolding read_weather_or_nsw
  says-weather is =
      record {
        own = own-weather (is_cavok b.visibility || b.nsw) (read_weather forecast automatic g);
        puts = λ required silent. rw is (weather-said (read_weather forecast automatic g));
      }

  -- clouds
  layer-said : (x : Result Layer Refusal) → with_said k (layer_said (is_cavok b.visibility) k b.sky x) b
      ≡ then (then x (with_layer (is_cavok b.visibility) k b.sky)) (λ s. Ok (set_sky s b))
  unfolding put_said
  layer-said (Err f) = refl
  layer-said (Ok l) = go (not (is_cavok b.visibility) && is_layers b.sky.cover && rises (take k b.sky.layers) l.height)
    where
      go : (a : Bool) → with_said k (unless_wrong a (said.Layer l)) b ≡ then (agreeing a (Ok (add_layer k b.sky l))) (λ s. Ok (set_sky s b))
      go true = refl
      go false = refl

  alone-said : (x : Result Cover Refusal) → with_said k (alone_said (is_cavok b.visibility) k x) b
      ≡ then (then x (with_alone (is_cavok b.visibility) k b.sky)) (λ s. Ok (set_sky s b))
  unfolding put_said
  alone-said (Err f) = refl
  alone-said (Ok c) = go (not (is_cavok b.visibility) && eqb k 0)
    where
      go : (a : Bool) → with_said k (unless_wrong a (said.Cover c)) b
          ≡ then (agreeing a (Ok (record { cover = c; layers = b.sky.layers; count = 0 }))) (λ s. Ok (set_sky s b))
      go true = refl
      go false = refl

  abbrev cavok : Bool
  cavok = is_cavok b.visibility

  pub says-sky : Says forecast may automatic 3 k g b (sky_said forecast cavok k g b.sky)
  unfolding sky_said read_sky
  says-sky = record { own = mine (has_shape layer_shape g); puts = λ required silent. go (has_shape layer_shape g) }
    where
      mine : (h : Bool) → is_of_body (cond h (layer_said cavok k b.sky (read_layer forecast g)) (alone_said cavok k (read_alone forecast g))) ≡ true
      mine true = own-layer cavok k b.sky (read_layer forecast g)
      mine false = own_alone cavok k (read_alone forecast g)

      go : (h : Bool) → with_said k (cond h (layer_said cavok k b.sky (read_layer forecast g)) (alone_said cavok k (read_alone forecast g))) b
          ≡ then (cond h (then (read_layer forecast g) (with_layer cavok k b.sky)) (then (read_alone forecast g) (with_alone cavok k b.sky))) (λ s. Ok (set_sky s b))
      go true = layer-said (read_layer forecast g)
      go false = alone-said (read_alone forecast g)

  -- past the row no group is taken
  pub says_nothing : (i : ℕ) → 4 ≤ i → Says forecast may automatic i k g b (said.Refused refusal.Shape)
  says_nothing i h =
      record {
        own = refl;
        puts = λ required silent. ap (λ (p : Place Body). p.read k g b) (sym (get_or-eq_default (body_row (terms required silent)) nowhere h));
      }

-- what is no part of the body leaves it as it is, and so does a refusal
abbrev elsewhere : List ℕ
elsewhere = 0 ∷ 1 ∷ 2 ∷ 3 ∷ 4 ∷ 5 ∷ 6 ∷ 7 ∷ 8 ∷ 10 ∷ 12 ∷ 17 ∷ 18 ∷ 19 ∷ 20 ∷ 21 ∷ 22 ∷ 23 ∷ 24 ∷ []

pub others : (k : ℕ) (b : Body) (x : Said) → OneOf elsewhere (tag_of says.the_type x) → b ≡ put_said k x b
unfolding put_said
others k b = by-tag elsewhere (λ x. b ≡ put_said k x b) (search never)

-- by what the group was found to say
pub put-by : (k : ℕ) (b : Body) {x y : Said} → x ≡ y → put_said k y b ≡ put_said k x b
put-by k b q = rw q

-- what is no refusal is put
abbrev pub said-fine : List ℕ
said-fine = 0 ∷ 1 ∷ 2 ∷ 3 ∷ 4 ∷ 5 ∷ 6 ∷ 7 ∷ 8 ∷ 9 ∷ 10 ∷ 11 ∷ 12 ∷ 13 ∷ 14 ∷ 15 ∷ 16 ∷ 17 ∷ 18 ∷ 19 ∷ 20 ∷ 22 ∷ 23 ∷ 24 ∷ []

pub not-refused : {R : Type 0} (r : R) (x : Said) → OneOf said-fine (tag_of says.the_type x) → unless_refused x r ≡ Ok r
not-refused r = by-tag said-fine (λ x. unless_refused x r ≡ Ok r) (search never)

-- what is said, put into a part of a record, is so put into the record
pub unless-then : {B R : Type 0} (h : B → R) (b : B) (x : Said) → unless_refused x (h b) ≡ then (unless_refused x b) (λ b. Ok (h b))
unless-then h b = each (λ x. unless_refused x (h b) ≡ then (unless_refused x b) (λ b. Ok (h b))) search

-- ---- a group at a place of a row, of any record

module _ {R : Type 0} (row : List (Place R)) (put : ℕ → Group → Said → R → R) (seen : R → Type 0) (k : ℕ) (g : Group) where
  abbrev AtPlace : ℕ → Said → Type 0
  AtPlace i x = SaysAt row put seen i k g x

  -- what a group is read as, where it says one value that goes into one part of the record
  pub value-says : {A : Type 0} (i : ℕ) (makes : A → Said) (set : A → R → R) (x : Result A Refusal)
      → ((r : R) (a : A) → unless_refused (makes a) (put k g (makes a) r) ≡ Ok (set a r))
      → ((r : R) → seen r → (place_at row i).read k g r ≡ then x (λ a. Ok (set a r))) → AtPlace i (as_said makes x)
  value-says i makes set x good reads r is = said_put makes (λ y. unless_refused y (put k g y r)) (λ a. set a r) (good r) (λ f. refl) x ∙ sym (reads r is)

  -- past the row no group is taken
  pub past-says : (i : ℕ) → length row ≤ i → AtPlace i (said.Refused refusal.Shape)
  past-says i h r is = ap (λ (p : Place R). p.read k g r) (sym (get_or-eq_default row nowhere h))

  -- a place of the body, which the record holds
  module _ (body : R → Body) (set : Body → R → R) (b : Body) (held : (r : R) → seen r → body r ≡ b)
      (onto : (r : R) (x : Said) → is_of_body x ≡ true → set (put_said k x (body r)) r ≡ put k g x r) where
    pub body-says : (i : ℕ) {forecast may automatic : Bool} {j : ℕ} {x : Said} → Says forecast may automatic j k g b x
        → ((r : R) → seen r → (required : Bool) × (silent : Bool)
        × ((place_at row i).read k g r
        ≡ then ((place_at (body_row (record { forecast = forecast; required = required; may_nsw = may; automatic = automatic; silent = silent })) j).read k g (body r)) (λ b. Ok (set b r))))
        → AtPlace i x
    body-says i {x = x} s reads r is =
        let (required, silent, at) = reads r is in
        let own : unless_refused x (put k g x r) ≡ then (with_said k x (body r)) (λ b. Ok (set b r)) =
        rw (← onto r x s.own) (unless-then (λ b. set b r) (put_said k x (body r)) x) in
        own ∙ ap (λ (y : Result Body Refusal). then y (λ b. Ok (set b r))) (rw (← held r is) at (s.puts required silent)) ∙ sym at
