-- A part of a part of a store is a part of the store: what the label of a text says, as what it says of the store that the text lies in.
use Rattle.std.specs.Prelude.{Ok}
use mathlib.Core.Path.{◌≡◌, sym, ◌∙◌, ap}
use mathlib.Core.List.{List}
use Prim.Native.Nat.{ℕ, ◌+◌, ◌-◌, ◌≤◌}
use native.Mathlib.Omega.{arith}
use lib.ListN.{length, take, drop, length-take, length-drop}
use lib.Seq.{take-take, drop-drop}
use Rattle.slices.proofs.Parts.{drop_front}
use Rattle.refusals.specs.Refusals.{Answer}
use Rattle.elements.specs.Reading.{Inside}
use Rattle.label.specs.Label.{Label as Values}
use Rattle.label.specs.TextPlaces.{TextPlaces}
use Rattle.label.specs.declared.reader.LabelFields.{LabelFields}
use Rattle.label.specs.Steps.{means, LieIn, places_of, ReadsLabel}
use Rattle.labels.specs.Steps.{fields_moved}
use Rattle.labels.specs.Places.{places_moved}

-- the n bytes from `by` on in the store s
module _ (s : List ℕ) (n by : ℕ) (k : Inside s by n) where
  part_long : length (take n (drop by s)) ≡ n
  part_long = omega (arith, length-take n (drop by s), length-drop by s)

  part_moved : (from len : ℕ) → from + len ≤ n → take len (drop (by + from) s) ≡ take len (drop from (take n (drop by s)))
  part_moved from len h =
      sym (ap (take len) (drop_front from n (drop by s) ∙ ap (take (n - from)) (drop-drop from by s)) ∙ take-take len (n - from) (drop (by + from) s) (omega arith))

  -- a span of them lies in the store
  span_inside : (from len : ℕ) → Inside (take n (drop by s)) from len → Inside s (by + from) len
  span_inside from len h = omega (arith, part_long)

  within : (from len : ℕ) → Inside (take n (drop by s)) from len → from + len ≤ n
  within from len h = omega (arith, part_long)

  pub reads_moved : {a : Answer Values} {w : TextPlaces} (f : LabelFields) → means (take n (drop by s)) (Ok f) ≡ a → LieIn (take n (drop by s)) f → places_of f ≡ w
      → ReadsLabel s a (places_moved by w) (Ok (fields_moved by f))
  reads_moved f e i p =
      record {
        says = rw (
          part_moved f.creator.from f.creator.len (within _ _ i.creator),
          part_moved f.time.from f.time.len (within _ _ i.time),
          part_moved f.uuid.from f.uuid.len (within _ _ i.uuid),
        )
            e;
        inside = record { creator = span_inside _ _ i.creator; time = span_inside _ _ i.time; uuid = span_inside _ _ i.uuid };
        stands = ap (places_moved by) p;
      }

  -- they begin in the store
  pub begins : (f : LabelFields) → LieIn (take n (drop by s)) f → (by + f.creator.from ≤ length s) × (by + f.time.from ≤ length s) × (by + f.uuid.from ≤ length s)
  begins f i =
      let c = within _ _ i.creator in
      let t = within _ _ i.time in
      let u = within _ _ i.uuid in
      (omega arith, omega arith, omega arith)
