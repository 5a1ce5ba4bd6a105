-- The path of an entry by a table of entries, nine numbers each. Of the nine, 1 is the entry's parent, the number of the directory that holds it;
-- 4 and 5 are the place of its name in the index's text, as spelled, and its length there. Entry 0 is the root.
use Rattle.std.specs.Prelude.{Bool, cond, ◌&&◌, List, [], ◌∷◌, ◌++◌, ℕ, zero, suc, ◌+◌, ◌*◌, ◌/◌, ◌%◌, leb, ltb, eqb, length, take, drop, get_or, Ok}
use Rattle.refusals.specs.Refusals.{Answer, require, and_then}
use Rattle.refusals.specs.declared.Refusal.TheVariants.{Missing, Short, Caller}
use Rattle.slices.specs.Words.{bytes}
use Rattle.texts.specs.Decoded.{decoded}

-- how many entries a table has
abbrev pub entry_count : List ℕ → ℕ
entry_count entries = length entries / 9

abbrev pub parent_of : List ℕ → ℕ → ℕ
parent_of entries n = get_or entries (n * 9 + 1) 0

abbrev pub name_at : List ℕ → ℕ → ℕ
name_at entries n = get_or entries (n * 9 + 4) 0

abbrev pub name_length : List ℕ → ℕ → ℕ
name_length entries n = get_or entries (n * 9 + 5) 0

-- names in a row, with `/` between
unfoldable pub joined : List (List ℕ) → List ℕ
joined [] = []
joined (name ∷ []) = name
joined (name ∷ next ∷ names) = name ++ bytes "/" ++ joined (next ∷ names)

module _ (text entries : List ℕ) where
  -- the name of an entry, decoded
  unfoldable pub name_of : ℕ → List ℕ
  name_of n = decoded (take (name_length entries n) (drop (name_at entries n) text))

  -- an entry's parent is before it, and its name lies in the text
  unfoldable pub is_placed : ℕ → Bool
  is_placed n = ltb (parent_of entries n) n && leb (name_at entries n + name_length entries n) (length text)

  -- the names from below the root down to entry n, by so many steps from an entry to its parent; the root adds none
  unfoldable pub names_down : ℕ → ℕ → Answer (List (List ℕ))
  names_down zero n = Ok []
  names_down (suc steps) n =
      cond (eqb n 0) (Ok [])
      (require (is_placed n) Caller
      (and_then (names_down steps (parent_of entries n)) (λ above. Ok (above ++ (name_of n ∷ [])))))

  -- the same joined; n steps are enough for entry n, since each goes to an entry before
  unfoldable pub path_down : ℕ → Answer (List ℕ)
  path_down n = and_then (names_down n n) (λ names. Ok (joined names))

  -- 14 for numbers that are not in nines, 2 for no such entry, then 14 for an entry on the way up
  unfoldable pub path_of : ℕ → Answer (List ℕ)
  path_of n =
      require (eqb (length entries % 9) 0) Caller
      (require (ltb n (entry_count entries)) Missing
      (path_down n))

-- 10: a buffer of that length has no room for the text
abbrev pub fitting : ℕ → List ℕ → Answer (List ℕ)
fitting room w = require (leb (length w) room) Short (Ok w)

-- the path of entry n where a buffer of that length has room for it
abbrev pub path_for : ℕ → List ℕ → List ℕ → ℕ → Answer (List ℕ)
path_for room text entries n = and_then (path_of text entries n) (fitting room)
