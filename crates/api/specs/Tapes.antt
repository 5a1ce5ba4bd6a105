-- What C is told of an ANSI labelled tape (02, Item 1).
use Rattle.std.specs.Prelude.{◌≡◌, List, ℕ, ◌≤◌, length, Ok}
use Rattle.tape.specs.Tape.{Tape}
use Rattle.tape.specs.Answers.{tape_in}
use Rattle.ansi.specs.Layout.{max_files}
use Rattle.ansi.specs.Places.{LongestFront}
use Rattle.ansi.specs.Answers.{files_on, files_after, front_in, ByLayout}
use Rattle.api.specs.Outputs.{Shown, one}
use Rattle.api.specs.Indexes.{how_many}

-- the files, their number and their bytes in the buffer; that they are those of the tape's layout, as a refusal is; and that there are no more than a tape can have
pub record ReadsAnsi (l s before after : List ℕ) (returned told : ℕ) : Type 0 where
  pub answers : Shown 1 how_many (files_on (length before) l s) returned (one told)
  pub holds : after ≡ files_after (files_on (length before) l s) before
  pub layout : ByLayout (length before) l s
  pub few : told ≤ max_files

-- how many elements are passed; and that they are the longest front that begins a layout
pub record PlacesAnsi (l s : List ℕ) (returned told : ℕ) : Type 0 where
  pub answers : Shown 1 one (front_in l s) returned (one told)
  pub longest : (t : Tape) → tape_in l s ≡ Ok t → LongestFront t told
