-- Every case of the table holds, by computation but for those over every label and over every index block.
use mathlib.Core.Path.{◌≡◌, refl}
use mathlib.Core.Bool.{Bool, true, false, ◌||◌}
use mathlib.Core.List.{List}
use Prim.Native.Nat.{ℕ}
use lib.Dec.{ltb}
use lib.ListN.{length}
use Rattle.slices.specs.Slices.{every}
use Rattle.slices.proofs.Booleans.{split}
use Rattle.digits.specs.Runs.{digits}
use Rattle.constructs.specs.Constructs.{standing, scan, scan_step, run_after, closed_by, past_label}
use Rattle.tape.specs.Tape.{list, entry}
use Rattle.extents.specs.Rows.{rows_of}
use Rattle.extents.specs.Lawful.{lawful, row_lawful, apart}
use Rattle.extents.specs.Map.{byte_map, byte_at}
use Rattle.label.specs.Label.{Label}
use Rattle.worked.specs.Cases.{fresh, stands_alone, index_at, cases}
use Rattle.worked.proofs.Numbers.{numbers}
use Rattle.worked.proofs.Labels.{one, lengths, shorts}

module _ (B : ℕ) (x y z : List ℕ) where
  fits : ltb B (length z) ≡ false → stands_alone 5 (standing B (fresh x y z)) ≡ true
  unfolding standing scan scan_step run_after closed_by past_label
  fits e = rw e

  at_5 : index_at 5 B x y z ≡ true
  at_5 = split (λ (t : Bool). (t || stands_alone 5 (standing B (fresh x y z))) ≡ true) (ltb B (length z)) (λ e. refl) fits

pub worked : (f : Label) (b : List ℕ) (B : ℕ) (x y z : List ℕ) → every (λ b. b) (cases f b B x y z) ≡ true
unfolding cases digits list entry byte_map byte_at rows_of lawful row_lawful apart
worked f b B x y z = rw (at_5 B x y z, numbers.0, numbers.1, numbers.2, one, lengths f, shorts f b)
