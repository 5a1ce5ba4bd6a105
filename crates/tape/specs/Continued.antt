-- A list and a store continued (02, Item 14): a second read of a tape that goes on where the first one ended.
use Rattle.std.specs.Prelude.{◌≡◌, List, ◌++◌, ℕ, Ok}
use Rattle.tape.specs.Tape.{Tape}
use Rattle.tape.specs.Answers.{tape_in}

-- the bytes new begin with the bytes old
abbrev pub BeginsWith : List ℕ → List ℕ → Type 0
BeginsWith new old = (rest : List ℕ) × (new ≡ old ++ rest)

-- the list l' and the store s' begin with l and s, and are well formed: not refused 1
pub record Continued (l s l' s' : List ℕ) : Type 0 where
  pub in_list : BeginsWith l' l
  pub in_store : BeginsWith s' s
  pub tape : Tape
  pub well_formed : tape_in l' s' ≡ Ok tape
