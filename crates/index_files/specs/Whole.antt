-- All of an index in two lent buffers (01, Index and Extents): nine numbers of each entry, five of each row, from the front on. Refusals: those of reading
-- it, then 10 for a buffer too short; both are left as they were then.
use Rattle.std.specs.Prelude.{◌≡◌, Bool, ◌&&◌, List, ℕ, ◌*◌, leb, length, Err, Ok}
use Rattle.refusals.specs.Refusals.{Answer, require, and_then}
use Rattle.refusals.specs.declared.Refusal.TheVariants.{Short}
use Rattle.slices.specs.Slices.{written}
use Rattle.extents.specs.Rows.{numbers_of}
use Rattle.index.specs.Index.{Index, all_rows}
use Rattle.index.specs.Entries.{index_entries, nines}

-- buffers of so many numbers have room for the entries and the rows of the index that the text s is
abbrev pub has_room : List ℕ → ℕ → ℕ → Index → Bool
has_room s entries rows x = leb (length (index_entries s) * 9) entries && leb (length (all_rows x.files) * 5) rows

abbrev pub whole_for : List ℕ → ℕ → ℕ → Answer Index → Answer Index
whole_for s entries rows a = and_then a (λ x. require (has_room s entries rows x) Short (Ok x))

-- the buffers after: entries and rows at their fronts, and the rest as it was
pub record Held (s : List ℕ) (x : Index) (e e' o o' : List ℕ) : Type 0 where
  pub entries : e' ≡ written 0 (nines (index_entries s)) e
  pub rows : o' ≡ written 0 (numbers_of (all_rows x.files)) o

-- as they were, where refused
abbrev pub HoldsWhole : List ℕ → List ℕ → List ℕ → List ℕ → List ℕ → Answer Index → Type 0
HoldsWhole s e e' o o' (Err r) = (e' ≡ e) × (o' ≡ o)
HoldsWhole s e e' o o' (Ok x) = Held s x e e' o o'
