-- What the answers of this crate say, and what keeping and finding a block owe.
use Rattle.std.specs.Prelude.{◌≡◌, List, ℕ, length, Ok}
use Rattle.refusals.specs.Refusals.{Answer, and_then}
use Rattle.tape.specs.declared.Front.{Front}
use Rattle.tape.specs.Tape.{Tape, Encodes}
use Rattle.tape.specs.declared.StorePart.{StorePart}
use Rattle.tape.specs.Answers.{keeping, kept_of, Holds, block_of, place_of}
use Rattle.tape.specs.Again.{fronts_of, KeepsAgain}

-- a list and a store of a tape with so many elements
pub record Encoded (l s : List ℕ) (count : ℕ) : Type 0 where
  pub tape : Tape
  pub encodes : Encodes l s tape
  pub counted : length tape ≡ count

-- what keeping m elements answers: the lengths of what is kept, which is the first bytes, and these can be kept again
pub record Keeps (m : ℕ) (l s : List ℕ) (a : Answer Front) : Type 0 where
  pub answers : a ≡ kept_of m l s
  pub bytes : keeping m l s ≡ and_then a (λ k. Ok (fronts_of k l s))
  pub again : (k : Front) → a ≡ Ok k → KeepsAgain m l s (fronts_of k l s)

-- the list that is kept, and the store
abbrev pub KeptList : ℕ → List ℕ → List ℕ → Answer (List ℕ) → Type 0
KeptList m l s x = x ≡ and_then (keeping m l s) (λ f. Ok f.list)

abbrev pub KeptStore : ℕ → List ℕ → List ℕ → Answer (List ℕ) → Type 0
KeptStore m l s y = y ≡ and_then (keeping m l s) (λ f. Ok f.store)

-- what finding a block answers: its place, which holds it
pub record FindsBlock (i d letter n : ℕ) (l s l' s' : List ℕ) (a : Answer StorePart) : Type 0 where
  pub place : a ≡ place_of i d letter n l s l' s'
  pub holds : Holds s s' a (block_of i d letter n l s l' s')
