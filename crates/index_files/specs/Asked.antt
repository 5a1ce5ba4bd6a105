-- A file asked for by its number (01, Index: files number from 0 in text order). Refusals: those of reading the index, then 2 for no such
-- file.
use Rattle.std.specs.Prelude.{List, [], ◌∷◌, ℕ, zero, suc, Err, Ok}
use Rattle.refusals.specs.Refusals.{Answer, and_then}
use Rattle.refusals.specs.declared.Refusal.TheVariants.{Missing}
use Rattle.index.specs.Index.{Index, File}

module _ {A : Type 0} where
  -- that of number k, refused 2 where there is none
  unfoldable pub nth : ℕ → List A → Answer A
  nth k [] = Err Missing
  nth zero (x ∷ l) = Ok x
  nth (suc k) (x ∷ l) = nth k l

-- the file of number k of an index
abbrev pub file_in : ℕ → Answer Index → Answer File
file_in k a = and_then a (λ x. nth k x.files)
