-- Where a text goes wrong (02, Item 6): what is told with refusal 4, behind the numbers of an answer.
use Rattle.std.specs.Prelude.{◌≡◌, List, ◌⊎◌, ℕ, suc, take, get_or}
use Rattle.xml.specs.Tree.{Forest}
use Rattle.xml.specs.Grammar.{Document}
use Rattle.xml.specs.Form.{LeavesForm}
use Rattle.tape.specs.Answers.{tape_in}
use Rattle.labels.specs.Places.{text_on}

-- the front: with 4 the longest of the text refused, which is s; with every other number 0
pub record TellsFront (s : List ℕ) (returned front : ℕ) : Type 0 where
  pub with4 : returned ≡ 4 → LeavesForm s front
  pub else : (returned ≡ 4 → ⊥) → front ≡ 0

-- n numbers, and the front
pub record WithFront (n : ℕ) (s : List ℕ) (shows : ℕ → List ℕ → Type 0) (returned : ℕ) (out : List ℕ) : Type 0 where
  pub numbers : shows returned (take n out)
  pub front : TellsFront s returned (get_or out n 0)

-- the front and the side, of the label texts s of the index side and t of the data side: with 4 side 0 where s leaves the form, and 1 where s is in
-- it and t leaves it; with every other number 0 and 0
pub record TellsSide (s t : List ℕ) (returned front side : ℕ) : Type 0 where
  pub with4 : returned ≡ 4 → ((side ≡ 0) × LeavesForm s front) ⊎ ((side ≡ 1) × ((f : Forest) × Document f s) × LeavesForm t front)
  pub else : (returned ≡ 4 → ⊥) → (front ≡ 0) × (side ≡ 0)

-- n numbers, the front and the side, of the labels of two partitions
pub record WithSide (n : ℕ) (il is dl ds : List ℕ) (shows : ℕ → List ℕ → Type 0) (returned : ℕ) (out : List ℕ) : Type 0 where
  pub numbers : shows returned (take n out)
  pub side : TellsSide (text_on (tape_in il is)) (text_on (tape_in dl ds)) returned (get_or out n 0) (get_or out (suc n) 0)
