-- Where a tape leaves the layout, and the refusal that is given there (02, Item 1), from the layout alone.
use Rattle.std.specs.Prelude.{◌≡◌, true, List, [], ◌∷◌, ◌++◌, ℕ, suc, ◌<◌, ◌≤◌, length, take, Some, Err, Ok, slice_get}
use Rattle.refusals.specs.declared.Refusal.{Refusal}
use Rattle.refusals.specs.declared.Refusal.TheVariants.{Labels, EndOfVolume, BlockCount}
use Rattle.refusals.specs.Refusals.{Answer}
use Rattle.slices.specs.Slices.{every}
use Rattle.slices.specs.Words.{bytes}
use Rattle.digits.specs.Decimal.{is_digit}
use Rattle.tape.specs.Tape.{Tape, block}
use Rattle.ansi_labels.specs.Labels.{label_part, is_label}
use Rattle.ansi.specs.Layout.{TapeFile, Layout}

-- some tape in the layout begins with these elements
abbrev pub Begins : Tape → Type 0
Begins front = (rest : Tape) × (fs : List TapeFile) × Layout (front ++ rest) fs

-- the block x could stand behind the first n elements
abbrev pub CouldStand : Tape → ℕ → List ℕ → Type 0
CouldStand t n x = Begins (take n t ++ (block x ∷ []))

-- the first n elements are the longest front that begins a layout: with the next one it begins none, or there is none
pub record LongestFront (t : Tape) (n : ℕ) : Type 0 where
  pub inside : n ≤ length t
  pub begins : Begins (take n t)
  pub longest : n < length t → Begins (take (suc n) t) → ⊥

-- element n is a label EOV1 where a label EOF1 could stand
pub record IsEndOfVolume (t : Tape) (n : ℕ) : Type 0 where
  pub label : List ℕ
  pub is : slice_get t n ≡ Some (block label)
  pub eov1 : is_label (bytes "EOV1") label ≡ true
  pub other : List ℕ
  pub eof1 : is_label (bytes "EOF1") other ≡ true
  pub could : CouldStand t n other

-- element n is a label EOF1 with six digits that could stand if its digits were others
pub record IsOtherCount (t : Tape) (n : ℕ) : Type 0 where
  pub label : List ℕ
  pub is : slice_get t n ≡ Some (block label)
  pub eof1 : is_label (bytes "EOF1") label ≡ true
  pub digits : every is_digit (label_part 55 60 label) ≡ true
  pub other : List ℕ
  pub front : label_part 1 54 other ≡ label_part 1 54 label
  pub back : label_part 61 80 other ≡ label_part 61 80 label
  pub could : CouldStand t n other

-- the refusal at a place: 17, 18, else 16
pub data RefusalAt (t : Tape) (n : ℕ) : Refusal → Type 0 where
  end_of_volume : IsEndOfVolume t n → RefusalAt t n EndOfVolume
  block_count : IsOtherCount t n → RefusalAt t n BlockCount
  labels : (IsEndOfVolume t n → ⊥) → (IsOtherCount t n → ⊥) → RefusalAt t n Labels

-- a tape that is not laid out is refused at its first wrong place, behind the longest front that begins a layout
pub record Refuses (t : Tape) (r : Refusal) : Type 0 where
  pub not_laid_out : (fs : List TapeFile) → Layout t fs → ⊥
  pub place : ℕ
  pub front : LongestFront t place
  pub reason : RefusalAt t place r

-- what a tape is read as: the files of its layout, or a refusal
pub data TapeMeans (t : Tape) : Answer (List TapeFile) → Type 0 where
  laid_out : {fs : List TapeFile} → Layout t fs → TapeMeans t (Ok fs)
  refuses : {r : Refusal} → Refuses t r → TapeMeans t (Err r)
