-- What is answered of a list and a store: the files of an ANSI labelled tape in a lent buffer, or a refusal (02, Item 1: 1, then 16, 17 or 18,
-- then 10); and where the tape leaves the layout.
use Rattle.std.specs.Prelude.{◌≡◌, List, [], ◌∷◌, ◌++◌, ℕ, ◌*◌, leb, length, Err, Ok}
use Rattle.refusals.specs.declared.Refusal.TheVariants.{Short}
use Rattle.refusals.specs.Refusals.{Answer, require, and_then}
use Rattle.slices.specs.Slices.{written}
use Rattle.big_endian.specs.BigEndian.{big_endian}
use Rattle.tape.specs.Tape.{Tape}
use Rattle.tape.specs.Answers.{tape_in}
use Rattle.ansi.specs.Layout.{TapeFile}
use Rattle.ansi.specs.Places.{TapeMeans}
use Rattle.ansi.specs.ReadingSteps.{ansi_of, front_of}

-- the bytes of a file: ID, record format, block length, record length, and the element's number in 8 bytes, high byte first
abbrev pub file_bytes : TapeFile → List ℕ
file_bytes f = f.id ++ (f.format ++ (f.block_length ++ (f.record_length ++ big_endian 8 f.first)))

-- how many they are
abbrev pub file_size : ℕ
file_size = 36

unfoldable pub all_bytes : List TapeFile → List ℕ
all_bytes [] = []
all_bytes (f ∷ fs) = file_bytes f ++ all_bytes fs

-- files that a lent buffer of so many bytes has room for
abbrev pub room_for : ℕ → List TapeFile → Answer (List TapeFile)
room_for room fs = require (leb (file_size * length fs) room) Short (Ok fs)

-- the files of the tape that a list and a store encode
abbrev pub files_on : ℕ → List ℕ → List ℕ → Answer (List TapeFile)
files_on room l s = and_then (tape_in l s) (λ t. and_then (ansi_of t) (room_for room))

-- what the buffer holds then: the files' bytes at its front and all else as it was; refused, what it held
abbrev pub files_after : Answer (List TapeFile) → List ℕ → List ℕ
files_after (Err r) before = before
files_after (Ok fs) before = written 0 (all_bytes fs) before

-- how many elements of a list are passed before one can't stand
abbrev pub front_in : List ℕ → List ℕ → Answer ℕ
front_in l s = and_then (tape_in l s) (λ t. Ok (front_of t))

-- what holds of the one meaning of a tape
pub record OneMeaning (t : Tape) (P : Answer (List TapeFile) → Type 0) : Type 0 where
  pub meaning : Answer (List TapeFile)
  pub means : TapeMeans t meaning
  pub one : (a : Answer (List TapeFile)) → TapeMeans t a → a ≡ meaning
  pub holds : P meaning

-- the files are those of the tape's layout, and a refusal is the layout's: what is said of a list and a store without the reader
abbrev pub ByLayout : ℕ → List ℕ → List ℕ → Type 0
ByLayout room l s = (t : Tape) → tape_in l s ≡ Ok t → OneMeaning t (λ a. files_on room l s ≡ and_then a (room_for room))
