-- How much of a text can begin a text in the XML form.
use Rattle.std.specs.Prelude.{List, ◌++◌, ℕ, ◌<◌, ◌≤◌, length, take}
use Rattle.xml.specs.Tree.{Forest}
use Rattle.xml.specs.Grammar.{Document}

-- the first n bytes of s are its longest front that some text in the form begins with
pub record LongestFront (s : List ℕ) (n : ℕ) : Type 0 where
  pub inside : n ≤ length s
  pub begins : (t : List ℕ) × (f : Forest) × Document f (take n s ++ t)
  pub last : (m : ℕ) (t : List ℕ) (f : Forest) → n < m → m ≤ length s → Document f (take m s ++ t) → ⊥

-- s is not in the form, and its longest front has n bytes
pub record LeavesForm (s : List ℕ) (n : ℕ) : Type 0 where
  pub outside : (f : Forest) → Document f s → ⊥
  pub longest : LongestFront s n
