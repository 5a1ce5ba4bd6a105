-- What this crate's functions owe each other, and its callers.
use Rattle.refusals.specs.declared.Refusal.{Refusal}
use Rattle.std.specs.Prelude.{List, ℕ, length, Result}
use Rattle.quantities.specs.declared.BlockNumber.{BlockNumber}
use Rattle.extents.specs.declared.Row.{Row}
use Rattle.index_files.specs.declared.asked.FileHead.{FileHead}
use Rattle.index.specs.Index.{index_of}
use Rattle.index_values.specs.Tests.{Given}
use Rattle.index_files.specs.Names.{file_tag}
use Rattle.index_files.specs.Asked.{file_in}
use Rattle.index_files.specs.AskedSteps.{Locates, ReadsFile}
use Rattle.index_files.specs.Filling.{with_room, rows_for, HoldsRows}
use Rattle.index_files.specs.FillingSteps.{FillsBuffer}

-- of the index with the text s at that partition letter and block: its file of number k
module _ (s : List ℕ) (g : Given) (letter : ℕ) (block : BlockNumber) (k : ℕ) where
  abbrev pub LocatesFile : Result ℕ Refusal → Type 0
  LocatesFile l = Locates s (file_tag s k) (file_in k (index_of g letter block.0 s)) l

  abbrev pub ReadsNumbered : Result FileHead Refusal → Type 0
  ReadsNumbered r = ReadsFile s (file_tag s k) (file_in k (index_of g letter block.0 s)) r

-- some rows, where there is room for them
abbrev pub PutsRows : List Row → List ℕ → List ℕ → Result ℕ Refusal → Type 0
PutsRows l before after r = FillsBuffer HoldsRows (with_room 5 (length before) l) before after r

-- of the index with the text s at that partition letter and block: the rows of its k-th file
module _ (s : List ℕ) (g : Given) (letter : ℕ) (block : BlockNumber) (before after : List ℕ) where
  abbrev pub PutsFileRows : ℕ → Result ℕ Refusal → Type 0
  PutsFileRows k r = FillsBuffer HoldsRows (rows_for (length before) (file_in k (index_of g letter block.0 s))) before after r
