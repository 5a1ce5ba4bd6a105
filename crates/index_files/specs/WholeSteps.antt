-- What reading all of an index owes.
use Rattle.refusals.specs.declared.Refusal.{Refusal}
use Rattle.std.specs.Prelude.{◌≡◌, Bool, ◌&&◌, List, ℕ, ◌+◌, ◌*◌, leb, length, Result}
use Rattle.refusals.specs.Refusals.{Answer}
use Rattle.tables.specs.Copying.{copied}
use Rattle.index.specs.Index.{Index}
use Rattle.index.specs.Steps.{ReadsIndex}
use Rattle.index.specs.declared.read.Header.{Header}
use Rattle.index_files.specs.Whole.{whole_for, HoldsWhole}

-- so many numbers are enough for what a header counts
abbrev pub enough : Header → ℕ → ℕ → Bool
enough h entries rows = leb ((h.directories + h.files) * 9) entries && leb (h.rows * 5) rows

-- what a header counts, from the fronts of two tables into the buffers
pub record HandsOver (h : Header) (entry_table row_table e e' o o' : List ℕ) : Type 0 where
  pub entries : e' ≡ copied entry_table ((h.directories + h.files) * 9) e 0
  pub rows : o' ≡ copied row_table (h.rows * 5) o 0

-- the index a, with the buffers before and after
pub record ReadsWhole (s : List ℕ) (a : Answer Index) (e e' o o' : List ℕ) (r : Result Header Refusal) : Type 0 where
  pub reads : ReadsIndex s (whole_for s (length e) (length o) a) r
  pub holds : HoldsWhole s e e' o o' (whole_for s (length e) (length o) a)
