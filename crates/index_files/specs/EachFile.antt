-- What an iterator over the files of a text gives.
use Rattle.std.specs.Prelude.{◌≡◌, List, ℕ, None, Option, Some}
use Rattle.index_files.specs.FileSteps.{FileAt, NoFile}
use Rattle.index_files.specs.declared.files.EachFile.{EachFile}

-- it reads the text s from i on
abbrev pub IsAt : List ℕ → ℕ → EachFile → Type 0
IsAt s i e = (e.text.now ≡ s) × (e.at ≡ i)

-- the place of the next file's tag, and the files behind it are left; or there is none
abbrev pub GivesFile : EachFile → Option ℕ → EachFile → Type 0
GivesFile e None after = NoFile e.text.now e.at × (after ≡ e)
GivesFile e (Some n) after = FileAt e.text.now e.at n after.at × (after.text.now ≡ e.text.now)
