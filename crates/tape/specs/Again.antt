-- Keeping again what was kept (02, Item 11): m elements and then n are the smaller of the two, of the list and of the store alike.
use Rattle.std.specs.Prelude.{◌≡◌, List, ℕ, min, take}
use Rattle.tape.specs.declared.Front.{Front}
use Rattle.tape.specs.Answers.{Fronts, keeping}

-- the first bytes of a list and of a store, so many of each
abbrev pub fronts_of : Front → List ℕ → List ℕ → Fronts
fronts_of k l s = record { list = take k.list l; store = take k.store s }

-- f is what m elements of l and s leave: keeping n of it is keeping the smaller of m and n of l and s
abbrev pub KeepsAgain : ℕ → List ℕ → List ℕ → Fronts → Type 0
KeepsAgain m l s f = (n : ℕ) → keeping n f.list f.store ≡ keeping (min m n) l s
