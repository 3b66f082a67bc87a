-- What the writer's printers come to in the definitions' words: the head of a row and the rest one after the other are the row.
-- Assumes nothing.
use Rattle.std.specs.Prelude.{Ok}
use Prim.Native.Nat.{ℕ}
use mathlib.Core.Path.{◌≡◌, refl}
use mathlib.Core.Bool.{true, cond}
use mathlib.Core.List.{List, [], ◌∷◌, append-nil}
use lib.ListN.{take, drop}
use Rattle.figures.specs.Put.{Put}
use Rattle.text.specs.Judge.{judge}
use Rattle.text.specs.Groups.{written}
use Rattle.text.proofs.Judging.{and-then}
use Rattle.text.proofs.Writes.{write-groups, write-none}
use Rattle.places.specs.Engine.{written as groups_at}
use Rattle.places.proofs.Rows.{groups-split}
use Rattle.record.specs.declared.aerodrome.Leg.{Leg}
use Rattle.record.specs.declared.aerodrome.Edition.{Edition}
use Rattle.record.specs.declared.aerodrome.Taf.{Taf}
use Rattle.record.specs.SilentAerodrome.{is_same_edition}
use Rattle.elements.specs.Body.{body_row}
use Rattle.taf_row.specs.declared.kinds.Part.{Part}
use Rattle.taf_row.specs.declared.kinds.Part.TheVariants as part
use Rattle.taf_row.specs.Row.{forecast_in, change_form, show_period, row}
use Rattle.taf.specs.Write.{judge_of, judge_in}

-- ---- a row in two parts: the first eight places, and the body

body-groups : (e : Edition) (w : Part) (r : Leg) → groups_at (drop 8 (row e w)) r ≡ groups_at (body_row (forecast_in w)) r.body
unfolding row
body-groups e w r = refl

pub put-parts : {b l m : List ℕ} {at i n : ℕ} (e : Edition) (w : Part) (r : Leg) → Put b at (written at (groups_at (take 8 (row e w)) r)) i l
    → Put l i (written i (groups_at (body_row (forecast_in w)) r.body)) n m → Put b at (written at (groups_at (row e w) r)) n m
put-parts e w r p q = rw (groups-split r 8 (row e w), body-groups e w r) (write-groups (groups_at (take 8 (row e w)) r) (groups_at (body_row (forecast_in w)) r.body) p q)

-- of the first eight a change group's part has its period alone, and none under FM
pub under-change : {b l : List ℕ} {at i : ℕ} (e : Edition) (r : Leg) → Put b at (written at (cond r.nil [] (show_period (change_form e) r.period ∷ []))) i l
    → Put b at (written at (groups_at (take 8 (row e part.Changing)) r)) i l
unfolding row
under-change e r p = rw (append-nil (cond r.nil [] (show_period (change_form e) r.period ∷ []))) p

pub under-from : {b : List ℕ} {at : ℕ} (e : Edition) (r : Leg) → Put b at (written at (groups_at (take 8 (row e part.From)) r)) at b
unfolding row
under-from {b} {at} e r = write-none b at

-- ---- what is judged fine in an edition is fine by its own

pub own-fine : (e : Edition) (t : Taf) → judge_in e t ≡ Ok tt → judge_of t ≡ Ok tt
unfolding judge_in
own-fine e t is = (and-then (judge (is_same_edition e t.edition) true) (judge_of t) is).1
