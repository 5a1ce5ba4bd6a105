-- What this crate's functions answer: the check, keeping n elements, a block by letter and number (01, The block list).
use Rattle.std.specs.Prelude.{◌≡◌, Bool, cond, List, ℕ, ◌+◌, ◌≤◌, length, take, drop, eqb, slice_get, None, Option, Some, Err, Ok}
use Rattle.refusals.specs.declared.Refusal.TheVariants as refusal
use Rattle.refusals.specs.Refusals.{Answer, require, and_then}
use Rattle.quantities.specs.Letters.{are_letters}
use Rattle.tape.specs.declared.Front.{Front}
use Rattle.tape.specs.declared.StorePart.{StorePart}
use Rattle.tape.specs.Tape.{Tape, Element, mark, block, unreadable, list, store}
use Rattle.tape.specs.ReadingSteps.{tape_of}

abbrev pub or_refused : Option Tape → Answer Tape
or_refused None = Err refusal.List
or_refused (Some t) = Ok t

-- the tape of a list and a store, or refusal 1
abbrev pub tape_in : List ℕ → List ℕ → Answer Tape
tape_in l s = or_refused (tape_of l s)

-- the bytes of the blocks before element n
abbrev pub bytes_before : Tape → ℕ → ℕ
bytes_before t n = length (store (take n t))

-- the number of elements
abbrev pub element_count : List ℕ → List ℕ → Answer ℕ
element_count l s = and_then (tape_in l s) (λ t. Ok (length t))

-- what is kept of a list and of a store
pub record Fronts : Type 0 where
  pub list : List ℕ
  pub store : List ℕ

-- keeping n elements; n above the count keeps all
abbrev pub kept : ℕ → Tape → Fronts
kept n t = record { list = list (take n t); store = store (take n t) }

unfoldable pub keeping : ℕ → List ℕ → List ℕ → Answer Fronts
keeping n l s = and_then (tape_in l s) (λ t. Ok (kept n t))

-- the lengths of what is kept
abbrev pub lengths : Fronts → Front
lengths f = record { list = length f.list; store = length f.store }

abbrev pub kept_of : ℕ → List ℕ → List ℕ → Answer Front
kept_of n l s = and_then (keeping n l s) (λ f. Ok (lengths f))

abbrev pub as_block : Option Element → Answer (List ℕ)
as_block None = Err refusal.Missing
as_block (Some mark) = Err refusal.Missing
as_block (Some (block x)) = Ok x
as_block (Some unreadable) = Err refusal.Unreadable

-- the bytes of block n
abbrev pub block_on : Tape → ℕ → Answer (List ℕ)
block_on t n = as_block (slice_get t n)

module _ {A : Type 0} where
  -- what is asked of the partition with that letter, i and d being the letters of the index and the data partition, and whether it is the
  -- index partition: 14; 1, index side first
  abbrev pub on_partition : ℕ → ℕ → ℕ → List ℕ → List ℕ → List ℕ → List ℕ → (Bool → Tape → Answer A) → Answer A
  on_partition i d letter indexList indexStore dataList dataStore asked =
      require (are_letters i d letter) refusal.Caller
      (and_then (tape_in indexList indexStore) (λ ti. and_then (tape_in dataList dataStore) (λ td. asked (eqb letter i) (cond (eqb letter i) ti td))))

-- block n of the partition with that letter: 2 where none stands there, 19 where it is unreadable
unfoldable pub block_of : ℕ → ℕ → ℕ → ℕ → List ℕ → List ℕ → List ℕ → List ℕ → Answer (List ℕ)
block_of i d letter n l s l' s' = on_partition i d letter l s l' s' (λ side t. block_on t n)

-- where a block lies: whether on the index side, from which byte of the store on, and how long
abbrev pub place_on : ℕ → Bool → Tape → Answer StorePart
place_on n side t = and_then (block_on t n) (λ x. Ok (record { on_index = side; from = bytes_before t n; size = length x }))

unfoldable pub place_of : ℕ → ℕ → ℕ → ℕ → List ℕ → List ℕ → List ℕ → List ℕ → Answer StorePart
place_of i d letter n l s l' s' = on_partition i d letter l s l' s' (place_on n)

-- the store that holds a place, s being the index partition's
abbrev pub store_of : List ℕ → List ℕ → StorePart → List ℕ
store_of s s' p = cond p.on_index s s'

-- the place lies in its store, and the bytes there are the block's
pub record Holds (s s' : List ℕ) (place : Answer StorePart) (asked : Answer (List ℕ)) : Type 0 where
  pub bytes : asked ≡ and_then place (λ p. Ok (take p.size (drop p.from (store_of s s' p))))
  pub inside : (p : StorePart) → place ≡ Ok p → p.from + p.size ≤ length (store_of s s' p)
