-- The layout of an ANSI labelled tape (02, Item 1), production by production. A production relates a tape with what follows the production on
-- it: `Users u s t` says that s has user labels first, and then t. `Layout t fs` says that the whole tape t is laid out so, with the files fs.
use Rattle.std.specs.Prelude.{◌≡◌, true, List, [], ◌∷◌, ℕ, zero, suc, ◌+◌, length}
use Rattle.slices.specs.Words.{bytes}
use Rattle.tape.specs.Tape.{Tape, mark, block}
use Rattle.ansi_labels.specs.Labels.{label_part, is_label, label_number, is_numbered, is_volume, is_header2, is_trailer, block_count, is_data}

-- what is handed out of a file: its ID, record format, block and record length, and the number of the element after its header mark
pub record TapeFile : Type 0 where
  pub id : List ℕ
  pub format : List ℕ
  pub block_length : List ℕ
  pub record_length : List ℕ
  pub first : ℕ

-- the file with the labels HDR1 and HDR2
abbrev pub tape_file_of : List ℕ → List ℕ → ℕ → TapeFile
tape_file_of h g n = record { id = label_part 5 21 h; format = label_part 5 5 g; block_length = label_part 6 10 g; record_length = label_part 11 15 g; first = n }

-- no or more labels with the word w and rising numbers from n to 9
pub data Numbered (w : List ℕ) : ℕ → Tape → Tape → Type 0 where
  end : {n : ℕ} {s : Tape} → Numbered w n s s
  more : {n : ℕ} {x : List ℕ} {s t : Tape} → is_numbered w n x ≡ true → Numbered w (suc (label_number x)) s t → Numbered w n (block x ∷ s) t

-- no or more user labels with the word u
pub data Users (u : List ℕ) : Tape → Tape → Type 0 where
  end : {s : Tape} → Users u s s
  more : {x : List ℕ} {s t : Tape} → is_label u x ≡ true → Users u s t → Users u (block x ∷ s) t

-- optional labels: the numbered ones, then the user labels
pub data Optional (w u : List ℕ) (n : ℕ) : Tape → Tape → Type 0 where
  optional : {s s₁ t : Tape} → Numbered w n s s₁ → Users u s₁ t → Optional w u n s t

-- so many data blocks
pub data Data : ℕ → Tape → Tape → Type 0 where
  end : {s : Tape} → Data zero s s
  more : {n : ℕ} {x : List ℕ} {s t : Tape} → is_data x ≡ true → Data n s t → Data (suc n) (block x ∷ s) t

-- the trailer of the file with HDR1 h and n data blocks: EOF1, EOF2, optional labels, mark
pub data Trailer (h : List ℕ) (n : ℕ) : Tape → Tape → Type 0 where
  trailer : {x y : List ℕ} {s t : Tape} → is_trailer h x ≡ true → block_count x ≡ n → is_label (bytes "EOF2") y ≡ true
      → Optional (bytes "EOF") (bytes "UTL") 3 s (mark ∷ t)
      → Trailer h n (block x ∷ block y ∷ s) t

-- a file of the tape: HDR1, HDR2, optional labels, mark, data blocks, mark, trailer
pub data FileOn (tape : Tape) : TapeFile → Tape → Tape → Type 0 where
  file : {h g : List ℕ} {n m : ℕ} {s s₁ s₂ t : Tape} → is_label (bytes "HDR1") h ≡ true → is_header2 g ≡ true
      → Optional (bytes "HDR") (bytes "UHL") 3 s (mark ∷ s₁) → n + length s₁ ≡ length tape
      → Data m s₁ (mark ∷ s₂) → Trailer h m s₂ t
      → FileOn tape (tape_file_of h g n) (block h ∷ block g ∷ s) t

-- no or more files, and the further mark, the last element
pub data Files (tape : Tape) : Tape → List TapeFile → Type 0 where
  end : Files tape (mark ∷ []) []
  more : {f : TapeFile} {fs : List TapeFile} {s t : Tape} → FileOn tape f s t → Files tape t fs → Files tape s (f ∷ fs)

-- the whole tape: VOL1, optional labels, one or more files, the further mark
pub data Layout : Tape → List TapeFile → Type 0 where
  layout : {x : List ℕ} {f : TapeFile} {fs : List TapeFile} {s s₁ s₂ : Tape} → is_volume x ≡ true
      → Optional (bytes "VOL") (bytes "UVL") 2 s s₁ → FileOn (block x ∷ s) f s₁ s₂ → Files (block x ∷ s) s₂ fs
      → Layout (block x ∷ s) (f ∷ fs)

-- the most files that a tape within the bounds can have: seven elements a file, VOL1 and the further mark
abbrev pub max_files : ℕ
max_files = 9362
