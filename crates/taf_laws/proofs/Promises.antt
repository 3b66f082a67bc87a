-- What the round trip promises of a TAF, in document 01's words: each exact field comes back as it was, each rounded number as the reading of its
-- class, near its value and never above it where the scale rounds down, in the main part and in each change.
-- Assumes nothing.
use Rattle.std.specs.Prelude.{Ok}
use mathlib.Core.Path.{◌≡◌, refl}
use mathlib.Core.Bool.{Bool, true, false, ◌||◌}
use mathlib.Core.List.{map}
use lib.ListN.{length, take, drop}
use Rattle.text.specs.Groups.{groups_from}
use Rattle.text.specs.Text.{tail_of}
use Rattle.shapes.proofs.Patterns.{neither}
use Rattle.places.specs.Engine.{Done}
use Rattle.record.specs.declared.aerodrome.Change.{Change}
use Rattle.record.specs.declared.aerodrome.Edition.{Edition}
use Rattle.record.specs.declared.aerodrome.Taf.{Taf}
use Rattle.record.specs.Taf.{blank_change}
use Rattle.record.specs.Arrays.{TafArrays}
use Rattle.record.proofs.Counted.{map-counted, taken, dropped, EachRead, each_read}
use Rattle.elements.specs.Body.{class_body}
use Rattle.body.proofs.Promises.{BodyRead, body-read, blank-read}
use Rattle.taf_row.specs.declared.kinds.Part.TheVariants as part
use Rattle.taf_row.specs.Row.{forecast_in, row}
use Rattle.taf.specs.Read.{part_of, groups_read}
use Rattle.taf.specs.Write.{judge_of, canonical_of, class_change, classed_of}
use Rattle.taf_laws.proofs.Places.{live}
use Rattle.taf_laws.proofs.Parts.{fair-part, Sound, Fair, fair, over-bare}
use Rattle.taf_laws.proofs.Changes.{listed, change-is}
use Rattle.taf_laws.proofs.Canonical.{read-canonical}

-- ---- the record that is read back

pub record ChangeRead (c d : Change) : Type 0 where
  pub opening : d.opening ≡ c.opening
  pub period : d.period ≡ c.period
  pub body : BodyRead c.body d.body

-- the head, the main part, the changes up to the count; what stands past it is as it was
pub record RecordRead (t q : Taf) : Type 0 where
  pub edition : q.edition ≡ t.edition
  pub correction : q.leg.correction ≡ t.leg.correction
  pub station : q.leg.station ≡ t.leg.station
  pub time : q.leg.time ≡ t.leg.time
  pub nil : q.leg.nil ≡ t.leg.nil
  pub period : q.leg.period ≡ t.leg.period
  pub cancelled : q.leg.cancelled ≡ t.leg.cancelled
  pub body : BodyRead t.leg.body q.leg.body
  pub count : q.changes.count ≡ t.changes.count
  pub changes : EachRead ChangeRead (take t.changes.count t.changes.items) (take t.changes.count q.changes.items)
  pub past : drop t.changes.count q.changes.items ≡ drop t.changes.count t.changes.items

-- ---- the main part

main-read : (t : Taf) → TafArrays t → Fair t → BodyRead t.leg.body (class_body t.leg.body)
main-read t arrays f = go (t.leg.nil || t.leg.cancelled) refl
  where
    go : (b : Bool) → (t.leg.nil || t.leg.cancelled) ≡ b → BodyRead t.leg.body (class_body t.leg.body)
    go true o = blank-read t.leg.body (over-bare t arrays f o)
    go false o =
        let n = neither t.leg.nil t.leg.cancelled (rw o) in
        body-read (forecast_in part.Main) (live part.Main) t.leg.body (fair-part part.Main t.leg.body (f.part n.0 n.1)).body

-- ---- the changes

change-read : (e : Edition) (c : Change) → Sound e c → ChangeRead c (class_change e c)
change-read e c s =
    let w = part_of c.opening in
    rw (change-is e c s.1.opens) (record { opening = refl; period = refl; body = body-read (forecast_in w) (live w) c.body s.1.part.body })

record-read : (t : Taf) → TafArrays t → judge_of t ≡ Ok tt → RecordRead t (classed_of t)
unfolding classed_of row
record-read t arrays e =
    let f = fair t e in
    let l = listed t arrays f in
    record {
      edition = refl;
      correction = refl;
      station = refl;
      time = refl;
      nil = refl;
      period = refl;
      cancelled = refl;
      body = main-read t arrays f;
      count = refl;
      changes = rw (taken (class_change t.edition) t.changes.count t.changes.items l.many) (each_read ChangeRead (class_change t.edition) (change-read t.edition) (take t.changes.count t.changes.items) l.each);
      past = dropped (class_change t.edition) t.changes.count t.changes.items l.many;
    }

-- WHAT IS WRITTEN OF A RECORD THAT THE WRITER ACCEPTS IS READ, to the text's end, as a record that says the same.
pub promise : (t : Taf) → TafArrays t → judge_of t ≡ Ok tt
    → (groups_read t.edition (tail_of (canonical_of t)) (length (canonical_of t)) (groups_from (canonical_of t) 0) ≡ Done (length (canonical_of t)) (classed_of t)) × RecordRead t (classed_of t)
promise t arrays e = (read-canonical t arrays e, record-read t arrays e)

-- ---- each change is read back as its class, and those past the count too

blank-classed : (e : Edition) → class_change e blank_change ≡ blank_change
unfolding class_change row
blank-classed e = refl

pub items-classed : (t : Taf) → TafArrays t → judge_of t ≡ Ok tt → (classed_of t).changes.items ≡ map (class_change t.edition) t.changes.items
unfolding classed_of
items-classed t arrays e =
    map-counted (class_change t.edition) blank_change (blank-classed t.edition) t.changes.count 16 t.changes.items (listed t arrays (fair t e)).rest
