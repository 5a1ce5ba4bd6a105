-- The scan for constructs in numbers, as the walk over a list does it.
use Rattle.std.specs.Prelude.{true, false, cond, List, [], ◌∷◌, ℕ, ◌+◌, ◌-◌, ◌*◌, ◌<◌, ◌≤◌, ltb, eqb}
use Rattle.std.proofs.lemmas.List.Edits.{sets}
use Rattle.tape.specs.Tape.{max_elements, max_store}
use Rattle.constructs.specs.Constructs.{max_constructs}
use Rattle.constructs.specs.Tables.{text_end}
use Rattle.constructs.specs.declared.Phase.{Phase}
use Rattle.constructs.specs.declared.Phase.TheVariants.{Labels, Data, Index, Defect}

abbrev pub past_labels : ℕ → Phase
past_labels k = cond (eqb k 0) Data (Labels (k - 1))

abbrev pub after_mark : Phase → ℕ → ℕ → Phase
after_mark (Labels k) at off = past_labels k
after_mark Data at off = Index (at + 1) off false false
after_mark (Index first from short holed) at off = cond (eqb first at) Defect Data
after_mark Defect at off = Defect

abbrev pub after_block : Phase → ℕ → ℕ → Phase
after_block (Labels k) size n = past_labels k
after_block Data size n = cond (ltb size n) Defect Data
after_block (Index first from short holed) size n = cond short Defect (cond (ltb size n) Defect (Index first from (ltb n size) holed))
after_block Defect size n = Defect

abbrev pub after_unreadable : Phase → Phase
after_unreadable (Labels k) = past_labels k
after_unreadable Data = Data
after_unreadable (Index first from short holed) = cond short Defect (Index first from false true)
after_unreadable Defect = Defect

-- a mark closes an index run that is not empty: one construct more
abbrev pub closed_count : ℕ → Phase → ℕ → ℕ
closed_count n (Index first from short holed) at = cond (eqb first at) n (n + 1)
closed_count n (Labels k) at = n
closed_count n Data at = n
closed_count n Defect at = n

abbrev pub closed_table : List ℕ → ℕ → Phase → ℕ → ℕ → List ℕ
closed_table table n (Index first from short holed) at off =
    cond (eqb first at) table (sets table (n * 4) (first ∷ (at + 1) ∷ from ∷ text_end holed from off ∷ []))
closed_table table n (Labels k) at off = table
closed_table table n Data at off = table
closed_table table n Defect at off = table

-- there is room in the table, and the numbers fit it
pub record FitsTable (n first end from to : ℕ) : Type 0 where
  pub few : n < max_constructs
  pub in_first : first ≤ max_elements
  pub in_end : end ≤ max_elements
  pub in_from : from ≤ max_store
  pub in_to : to ≤ max_store

abbrev pub Roomy : ℕ → Phase → ℕ → ℕ → Type 0
Roomy n (Index first from short holed) at off = FitsTable n first (at + 1) from (text_end holed from off)
Roomy n (Labels k) at off = Unit {0}
Roomy n Data at off = Unit {0}
Roomy n Defect at off = Unit {0}
