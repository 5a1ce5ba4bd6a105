-- Directories and files (01, Index).
use Rattle.std.specs.Prelude.{Bool, true, false, cond, List, [], ◌∷◌, ℕ, suc, Option, unwrap_or}
use Rattle.slices.specs.Words.{bytes}
use Rattle.values.specs.Values as values
use Rattle.xml.specs.Tree.{Forest}
use Rattle.index_names.specs.declared.Sort.{Sort}
use Rattle.index_names.specs.declared.Sort.TheVariants.{Root, Directory, File}
use Rattle.index_values.specs.Elements.{IndexElement, text_in}

-- a directory, the root among them, or a file
abbrev pub is_entry : Sort → Bool
is_entry Root = true
is_entry Directory = true
is_entry File = true
is_entry _ = false

-- what a text says as a number, 0 where it says none
abbrev pub or_zero : Option ℕ → ℕ
or_zero o = unwrap_or o 0

abbrev pub number_or_zero : List ℕ → ℕ
number_or_zero t = or_zero (values.number t)

-- the fileuid of an entry
unfoldable pub uid_of : Forest → ℕ
uid_of c = number_or_zero (text_in (bytes "fileuid") c)

-- how many elements pass a test
unfoldable pub many : (IndexElement → Bool) → List IndexElement → ℕ
many test [] = 0
many test (e ∷ l) = cond (test e) (suc (many test l)) (many test l)

-- the fileuids of all entries, in text order
unfoldable pub uids_of : List IndexElement → List ℕ
uids_of [] = []
uids_of (e ∷ l) = cond (is_entry e.sort) (uid_of e.kids ∷ uids_of l) (uids_of l)

-- how many directories and files there are, the root among them
abbrev pub entries_of : List IndexElement → ℕ
entries_of l = many (λ e. is_entry e.sort) l
