-- The labels of two partitions, in document 01's volume order (01, Refusal numbers): 1; 9; 3; label text; then 8 for agreement, the index side
-- first at each.
use Rattle.std.specs.Prelude.{Bool, true, false, ◌&&◌, List, [], ℕ, None, Option, Some, Err, Ok, slice_get}
use Rattle.refusals.specs.Refusals.{Answer, require, and_then, on_data_side}
use Rattle.refusals.specs.declared.Refusal.TheVariants.{Layout, Foreign}
use Rattle.tape.specs.Tape.{Element, mark, block, unreadable, content, Tape}
use Rattle.tape.specs.Answers.{tape_in}
use Rattle.label.specs.Label.{Label, label_of}
use Rattle.vol1.specs.Vol1.{vol1_of}
use Rattle.label.specs.Agreement.{agree}

abbrev pub is_mark : Option Element → Bool
is_mark None = false
is_mark (Some mark) = true
is_mark (Some (block x)) = false
is_mark (Some unreadable) = false

abbrev pub is_block : Option Element → Bool
is_block None = false
is_block (Some mark) = false
is_block (Some (block x)) = true
is_block (Some unreadable) = false

-- 9: elements 0 to 3 are block, mark, block, mark, no block of them unreadable (02, Item 7)
abbrev pub is_laid : Tape → Bool
is_laid t = is_block (slice_get t 0) && is_mark (slice_get t 1) && is_block (slice_get t 2) && is_mark (slice_get t 3)

abbrev pub bytes_in : Option Element → List ℕ
bytes_in None = []
bytes_in (Some e) = content e

-- the bytes of block n
abbrev pub bytes_at : Tape → ℕ → List ℕ
bytes_at t n = bytes_in (slice_get t n)

-- what is read on the data side: a text outside the form is that side's (02, Item 6)
abbrev pub on_data : {A : Type 0} → Answer A → Answer A
on_data (Err r) = Err (on_data_side r)
on_data (Ok a) = Ok a

-- VOL1 v and label text s of the index side, w and t of the data side: 3, the label text, 8; what the index side's label says
unfoldable pub labels_from : List ℕ → List ℕ → List ℕ → List ℕ → Answer Label
labels_from v s w t =
    and_then (vol1_of v) (λ x.
    and_then (vol1_of w) (λ y.
    and_then (label_of s) (λ f.
    and_then (on_data (label_of t)) (λ g.
    require (agree v f w g) Foreign (Ok f)))))

-- the labels of the index partition i and the data partition d
unfoldable pub labels_of : Tape → Tape → Answer Label
labels_of i d =
    require (is_laid i) Layout
    (require (is_laid d) Layout
    (labels_from (bytes_at i 0) (bytes_at i 2) (bytes_at d 0) (bytes_at d 2)))

-- the same from the lists and the stores
unfoldable pub labels_in : List ℕ → List ℕ → List ℕ → List ℕ → Answer Label
labels_in indexList indexStore dataList dataStore = and_then (tape_in indexList indexStore) (λ i. and_then (tape_in dataList dataStore) (λ d. labels_of i d))
