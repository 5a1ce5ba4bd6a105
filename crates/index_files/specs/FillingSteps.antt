-- What filling a lent buffer with rows owes.
use Rattle.refusals.specs.declared.Refusal.{Refusal}
use Rattle.std.specs.Prelude.{◌≡◌, List, ℕ, ◌+◌, ◌*◌, length, Ok, Result}
use Rattle.refusals.specs.Refusals.{Answer, and_then}
use Rattle.slices.specs.Slices.{written}
use Rattle.extents.specs.declared.Row.{Row}
use Rattle.extents.specs.Rows.{numbers_of}
use Rattle.index_files.specs.Filling.{Stored}

module _ {A : Type 0} where
  -- how many there are
  abbrev pub count_of : Answer (List A) → Answer ℕ
  count_of a = and_then a (λ l. Ok (length l))

  pub record FillsBuffer (holds : List A → List ℕ → List ℕ → Type 0) (a : Answer (List A)) (before after : List ℕ) (r : Result ℕ Refusal) : Type 0 where
    pub says : r ≡ count_of a
    pub stored : Stored holds a before after

-- rows written from k on, up to end
pub record WritesRows (k : ℕ) (l : List Row) (before after : List ℕ) (end : ℕ) : Type 0 where
  pub holds : after ≡ written k (numbers_of l) before
  pub up_to : end ≡ k + length l * 5
