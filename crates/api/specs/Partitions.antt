-- What is shown of a partition's elements: fronts that are kept, the place of a block.
use Rattle.std.specs.Prelude.{◌≡◌, not, List, [], ◌∷◌, ℕ, length, get_or, Ok}
use Rattle.refusals.specs.declared.Refusal.TheVariants.{Caller}
use Rattle.refusals.specs.Refusals.{Answer, require, and_then}
use Rattle.quantities.specs.Sizes.{is_block_size}
use Rattle.tape.specs.declared.Front.{Front}
use Rattle.tape.specs.Tape.{Tape}
use Rattle.tape.specs.declared.StorePart.{StorePart}
use Rattle.tape.specs.Answers.{tape_in, Fronts, keeping, kept_of, place_of, block_of, Holds}
use Rattle.tape.specs.Again.{fronts_of, KeepsAgain}
use Rattle.constructs.specs.Constructs.{standing}
use Rattle.constructs.specs.Tables.{table_after}
use Rattle.api.specs.Outputs.{Shown, one, bit}

-- how many bytes of the list and of the store are kept
abbrev pub fronts : Front → List ℕ
fronts f = f.list ∷ f.store ∷ []

-- the first bytes of the list and of the store, as many as the outputs tell
abbrev pub told_fronts : List ℕ → List ℕ → List ℕ → Fronts
told_fronts outputs l s = fronts_of (record { list = get_or outputs 0 0; store = get_or outputs 1 0 }) l s

-- what keeping m elements shows: the lengths; those bytes are what is kept, and keeping n of them is keeping the smaller number
pub record ShowsKept (m : ℕ) (l s : List ℕ) (returned : ℕ) (outputs : List ℕ) : Type 0 where
  pub shown : Shown 2 fronts (kept_of m l s) returned outputs
  pub bytes : returned ≡ 0 → keeping m l s ≡ Ok (told_fronts outputs l s)
  pub again : returned ≡ 0 → KeepsAgain m l s (told_fronts outputs l s)

-- the side, 0 for the index side and 1 for the data side; where the block begins in that side's store, and its length
abbrev pub part_numbers : StorePart → List ℕ
part_numbers p = bit (not p.on_index) ∷ p.from ∷ p.size ∷ []

-- what asking for a block shows: its place, which holds it
pub record ShowsPlace (i d letter n : ℕ) (l s l' s' : List ℕ) (returned : ℕ) (outputs : List ℕ) : Type 0 where
  pub shown : Shown 3 part_numbers (place_of i d letter n l s l' s') returned outputs
  pub holds : Holds s s' (place_of i d letter n l s l' s') (block_of i d letter n l s l' s')

-- the elements of a partition that is asked for its constructs: 14 for the block size, then 1
abbrev pub sized_in : ℕ → List ℕ → List ℕ → Answer Tape
sized_in B l s = require (is_block_size B) Caller (tape_in l s)

-- how many constructs stand
abbrev pub standing_count : ℕ → List ℕ → List ℕ → Answer ℕ
standing_count B l s = and_then (sized_in B l s) (λ t. Ok (length (standing B t)))

-- their number, and the table that they were put into
pub record ListsConstructs (B : ℕ) (l s before after : List ℕ) (returned told : ℕ) : Type 0 where
  pub answers : Shown 1 one (standing_count B l s) returned (one told)
  pub table : after ≡ table_after B before (sized_in B l s)
