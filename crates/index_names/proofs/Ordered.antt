-- How often the elements of a table come is told by `must` and `repeats`: any number throughout; or once for the first `must` rows, and at most once
-- for the others.
use mathlib.Core.Path.{◌≡◌, refl}
use mathlib.Core.Bool.{cond}
use mathlib.Core.List.{List, ◌++◌, map}
use Prim.Native.Nat.{◌-◌}
use lib.ListN.{length, replicate}
use Rattle.index_names.specs.declared.Sort.{Sort}
use Rattle.index_names.specs.Rows.{Often, Once, AtMostOnce, AnyNumber, TableRow, count_once, some_any_number}
use Rattle.index_names.specs.Tables.{index_table, place_table, times, entry_table, of_directory, contents_table, of_file, extentinfo_table, extent_table, table, must, repeats}
use Rattle.index_names.proofs.ByKind.{each_table}

abbrev often_in : List TableRow → List Often
often_in rows = cond (some_any_number rows) (replicate (length rows) AnyNumber) (replicate (count_once rows) Once ++ replicate (length rows - count_once rows) AtMostOnce)

pub often_told : (kind : Sort)
    → map (λ r. r.often) (table kind) ≡ cond (repeats kind) (replicate (length (table kind)) AnyNumber) (replicate (must kind) Once ++ replicate (length (table kind) - must kind) AtMostOnce)
unfolding must repeats count_once some_any_number index_table place_table times entry_table of_directory contents_table of_file extentinfo_table extent_table
often_told = each_table (λ rows. map (λ r. r.often) rows ≡ often_in rows) refl refl refl refl refl refl refl refl refl
