-- What is shown of a volume: its verdict and the rescue's cut, with demand 3.
use Rattle.refusals.specs.declared.Refusal.{Refusal}
use Rattle.std.specs.Prelude.{◌≡◌, List, [], ◌∷◌, ℕ, get_or, None, Option, Result, Some}
use Rattle.verdict.specs.Verdict.{Break, Cut}
use Rattle.volume.specs.Volume.{verdict_in}
use Rattle.volume.specs.declared.search.FoundCut.{FoundCut}
use Rattle.volume.specs.Answers.{VerdictOwes, rescued, Rescues}
use Rattle.api.specs.Outputs.{Shown}
use Rattle.api.specs.Fronts.{WithSide}

-- which of the five breaks, 0 for none, and its number
abbrev pub break_numbers : Option Break → List ℕ
break_numbers None = 0 ∷ 0 ∷ []
break_numbers (Some b) = b.which ∷ b.number ∷ []

-- the index construct, the data construct, the elements kept of each side, and the generation
abbrev pub cut_numbers : Cut → List ℕ
cut_numbers a = a.index_construct ∷ a.data_construct ∷ a.index_kept ∷ a.data_kept ∷ a.generation ∷ []

-- no break: 0 is returned, and 0 for which it is
abbrev pub NoBreak : ℕ → List ℕ → Type 0
NoBreak returned out = (returned ≡ 0) × (get_or out 0 0 ≡ 0)

-- the answers, and demand 3 of what is told
pub record ShowsBreak (indexList indexStore dataList dataStore : List ℕ) (returned : ℕ) (out : List ℕ) : Type 0 where
  pub answers : Shown 2 break_numbers (verdict_in indexList indexStore dataList dataStore) returned out
  pub demand : VerdictOwes indexList indexStore dataList dataStore (NoBreak returned out)

abbrev pub JudgesOut : List ℕ → List ℕ → List ℕ → List ℕ → ℕ → List ℕ → Type 0
JudgesOut il is dl ds = WithSide 2 il is dl ds (ShowsBreak il is dl ds)

-- the rescue's answer, which keeps demand 3, and how it is shown
pub record ShowsCut (indexList indexStore dataList dataStore : List ℕ) (returned : ℕ) (out : List ℕ) : Type 0 where
  pub rescue : Result FoundCut Refusal
  pub rescues : Rescues indexList indexStore dataList dataStore rescue
  pub shows : Shown 5 cut_numbers (rescued rescue) returned out

abbrev pub RescuesOut : List ℕ → List ℕ → List ℕ → List ℕ → ℕ → List ℕ → Type 0
RescuesOut il is dl ds = WithSide 5 il is dl ds (ShowsCut il is dl ds)
