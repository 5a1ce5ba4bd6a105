-- The front of one table in another.
use Rattle.std.specs.Prelude.{cond, ◌&&◌, List, ℕ, ◌+◌, leb, length, take}
use Rattle.std.proofs.lemmas.List.Edits.{sets}

-- the first n of s in t from at on, if there are so many and t has the room
unfoldable pub copied : List ℕ → ℕ → List ℕ → ℕ → List ℕ
copied s n t at = cond (leb n (length s) && leb (at + n) (length t)) (sets t at (take n s)) t
