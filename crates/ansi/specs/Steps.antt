-- What the functions of this crate owe each other: the walk over a list, its end, and the rows that are handed out.
use Rattle.std.specs.Prelude.{◌≡◌, List, ℕ, ◌+◌, ◌*◌, ◌/◌, ◌≤◌, leb, length, Result, Err, Ok}
use Rattle.refusals.specs.declared.Refusal.{Refusal}
use Rattle.refusals.specs.declared.Refusal.TheVariants.{Labels, Short}
use Rattle.refusals.specs.Refusals.{require, and_then}
use Rattle.slices.specs.Slices.{written}
use Rattle.slices.specs.Writers.{held_after}
use Rattle.tape.specs.Tape.{Tape, Encodes}
use Rattle.ansi.specs.declared.Stop.{Stop}
use Rattle.ansi.specs.declared.phases.Phase.{Phase}
use Rattle.ansi.specs.declared.phases.Phase.TheVariants as phase
use Rattle.ansi.specs.Layout.{TapeFile, max_files}
use Rattle.ansi.specs.ReadingSteps.{ansi_of, front_of}
use Rattle.ansi.specs.Answers.{file_size, all_bytes, files_after, files_on}

-- what reading answers, and what the buffer holds after
pub record ReadsFiles (l s before after : List ℕ) (r : Result ℕ Refusal) : Type 0 where
  pub answers : r ≡ and_then (files_on (length before) l s) (λ fs. Ok (length fs))
  pub holds : after ≡ files_after (files_on (length before) l s) before

-- the walk over a list: the bytes of all files at the front of the rows, and where they end
pub record AllRead (t : Tape) (before after : List ℕ) (end : ℕ) : Type 0 where
  pub files : List TapeFile
  pub read : ansi_of t ≡ Ok files
  pub passed : front_of t ≡ length t
  pub sized : length (all_bytes files) ≡ file_size * length files
  pub room : length (all_bytes files) ≤ length before
  pub ends : end ≡ length (all_bytes files)
  pub holds : after ≡ written 0 (all_bytes files) before

-- or the refusal, and the element where it is given
pub record Stopped (t : Tape) (r : Refusal) (place : ℕ) : Type 0 where
  pub read : ansi_of t ≡ Err r
  pub passed : front_of t ≡ place

abbrev pub WalkedAs : Tape → List ℕ → List ℕ → Result ℕ Stop → Type 0
WalkedAs t before after (Ok end) = AllRead t before after end
WalkedAs t before after (Err r) = Stopped t r.refusal r.at

abbrev pub Walks : List ℕ → List ℕ → List ℕ → List ℕ → Result ℕ Stop → Type 0
Walks l s before after r = (t : Tape) → Encodes l s t → WalkedAs t before after r

-- where the tape ends, behind so many elements
abbrev pub at_end : Phase → ℕ → ℕ → Result ℕ Stop
at_end phase.Done end count = Ok end
at_end _ end count = Err (record { refusal = Labels; at = count })

-- the rows w put to the front of a lent buffer
pub record HandsOut (w before after : List ℕ) (r : Result ℕ Refusal) : Type 0 where
  pub answers : r ≡ require (leb (length w) (length before)) Short (Ok (length w / file_size))
  pub holds : after ≡ held_after 0 w before

-- the length of the rows: one file more than a tape can have
abbrev pub rows_length : ℕ
rows_length = file_size * (max_files + 1)
