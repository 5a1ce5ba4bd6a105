-- The constructs of a partition, with a block size outside its rule and with one in it.
use Rattle.std.specs.Prelude.{Err, Ok}
use mathlib.Core.Path.{◌≡◌}
use mathlib.Core.Bool.{true, false}
use mathlib.Core.List.{List}
use Prim.Native.Nat.{ℕ}
use lib.ListN.{length}
use Rattle.refusals.specs.declared.Refusal.TheVariants.{Caller}
use Rattle.refusals.specs.Refusals.{and_then}
use Rattle.quantities.specs.Sizes.{is_block_size}
use Rattle.tape.specs.Answers.{tape_in}
use Rattle.constructs.specs.Constructs.{standing}
use Rattle.constructs.specs.Tables.{table_after}
use Rattle.api.specs.Partitions.{sized_in, standing_count}

module _ (B : ℕ) (l s : List ℕ) where
  pub unsized_count : is_block_size B ≡ false → Err Caller ≡ standing_count B l s
  unsized_count e = rw e

  pub unsized_table : (before : List ℕ) → is_block_size B ≡ false → before ≡ table_after B before (sized_in B l s)
  unsized_table before e = rw e

  pub sized_count : is_block_size B ≡ true → and_then (tape_in l s) (λ t. Ok (length (standing B t))) ≡ standing_count B l s
  sized_count e = rw e

  pub sized_table : (before : List ℕ) → is_block_size B ≡ true → table_after B before (tape_in l s) ≡ table_after B before (sized_in B l s)
  sized_table before e = rw e
