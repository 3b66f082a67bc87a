-- The head's places: what is written of a word, a station or a time that is judged fine has the place's shape, takes a known room, and is read back as it was.
-- Assumes nothing.
use Rattle.std.specs.Prelude.{Ok}
use Prim.Native.Nat.{ℕ}
use Prim.Native.String.{String}
use native.Mathlib.Omega.{arith}
use mathlib.Core.Path.{◌≡◌, refl}
use mathlib.Core.Bool.{Bool, true, false}
use mathlib.Core.List.{[], ◌∷◌}
use Rattle.figures.specs.Quote.{bytes}
use Rattle.shapes.specs.Pattern.{low, high, has_pattern}
use Rattle.places.proofs.ReadBack.{one-pattern}
use Rattle.places.proofs.Sizes.{measured, sized-any}
use Rattle.places.proofs.Kept.{Kept, keep_one, keep-none}
use Rattle.record.specs.declared.aerodrome.Instant.{Instant}
use Rattle.record.specs.declared.aerodrome.Station.{Station}
use Rattle.aerodrome_groups.specs.Head.{station_shape, station_of, time_shape, show_time, judge_station, judge_time, word_place, station_place, time_place}
use Rattle.aerodrome_groups.proofs.HeadBack.{station-shaped, station-whole, time-shaped, time-back}

pub kept_word : (word : String) (ends : Bool) (n : ℕ) (x : Bool) → has_pattern (bytes word) (bytes word) ≡ true → measured n (bytes word ∷ []) ≡ true
    → Kept (word_place word ends) n x false
kept_word word ends n true own room =
    let covered = one-pattern (bytes word) (bytes word) own in
    keep_one (bytes word) refl own covered (sized-any n (bytes word ∷ []) (bytes word) room covered) (omega arith) refl
kept_word word ends n false own room = keep-none refl refl refl

pub kept-station : (s acc : Station) → judge_station s ≡ Ok tt → Kept station_place 4 s acc
unfolding station_of low high
kept-station s acc e =
    let t = station-shaped s e in
    let covered = one-pattern station_shape s.letters t.0 in
    keep_one s.letters refl t.0 covered (sized-any 4 (station_shape ∷ []) s.letters refl covered) (omega arith)
    (rw (station-whole s.letters t.0, t.1))

pub kept-time : (t acc : Instant) → judge_time t ≡ Ok tt → Kept time_place 7 t acc
unfolding low high
kept-time t acc e =
    let s = time-shaped t e in
    let covered = one-pattern time_shape (show_time t) s in
    keep_one (show_time t) refl s covered (sized-any 7 (time_shape ∷ []) (show_time t) refl covered) (omega arith) (rw (time-back t e))
