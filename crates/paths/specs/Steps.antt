-- What the walks up a table of entries owe.
use Rattle.refusals.specs.declared.Refusal.{Refusal}
use Rattle.std.specs.Prelude.{◌≡◌, Bool, true, false, cond, List, ℕ, ◌≤◌, ◌<◌, leb, length, Err, None, Ok, Option, Result, Some}
use Rattle.refusals.specs.Refusals.{Answer, shown_bytes}
use Rattle.slices.specs.Slices.{written}
use Rattle.paths.specs.Paths.{entry_count, parent_of, path_down}

-- whether it is no refusal
abbrev pub is_answer : {A : Type 0} → Answer A → Bool
is_answer (Err r) = false
is_answer (Ok a) = true

-- how long a text is, where there is room for it
abbrev pub size_for : ℕ → List ℕ → Option ℕ
size_for room w = cond (leb (length w) room) (Some (length w)) None

module _ (text entries : List ℕ) where
  -- the bytes of a path
  unfoldable pub path_bytes : ℕ → List ℕ
  path_bytes n = shown_bytes (path_down text entries n)

  -- an entry of the table that has a path
  pub record HasPath (n : ℕ) : Type 0 where
    pub in_table : n < entry_count entries
    pub answered : is_answer (path_down text entries n) ≡ true

  -- and whose path ends at a place of the buffer
  pub record EndsAt (n at : ℕ) (buffer : List ℕ) : Type 0 where
    pub path : HasPath n
    pub ends : at ≡ length (path_bytes n)
    pub room : at ≤ length buffer

  -- what entry n adds is written, and the path of its parent is left, which ends at a place
  pub record WritesLast (n : ℕ) (before after : List ℕ) (at : ℕ) : Type 0 where
    pub ends : at ≡ length (path_bytes (parent_of entries n))
    pub long : length after ≡ length before
    pub left : written 0 (path_bytes (parent_of entries n)) after ≡ written 0 (path_bytes n) before

-- what a writer answers
abbrev pub written_of : Answer (List ℕ) → Result ℕ Refusal
written_of (Err r) = Err r
written_of (Ok w) = Ok (length w)

-- what the buffer holds after
abbrev pub held_with : Answer (List ℕ) → List ℕ → List ℕ
held_with (Err r) before = before
held_with (Ok w) before = written 0 w before

-- a writer of what was asked for
pub record Delivers (a : Answer (List ℕ)) (before after : List ℕ) (r : Result ℕ Refusal) : Type 0 where
  pub answers : r ≡ written_of a
  pub holds : after ≡ held_with a before
