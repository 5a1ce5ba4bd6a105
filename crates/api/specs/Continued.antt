-- Reading on never hurts (02, Item 14), of what C is told of a first read, and of a second, with a prime.
use Rattle.std.specs.Prelude.{◌≡◌, ◌⊎◌, List, ℕ, ◌≤◌, ◌<◌, get_or}
use Rattle.tape.specs.Answers.{keeping}

-- told are the five numbers of the cut that the rescue told of the first read: it keeps the same bytes of the second, on each side
pub record KeptAlikeOut (indexList indexStore dataList dataStore indexList' indexStore' dataList' dataStore' told : List ℕ) : Type 0 where
  pub in_index : keeping (get_or told 2 0) indexList' indexStore' ≡ keeping (get_or told 2 0) indexList indexStore
  pub in_data : keeping (get_or told 3 0) dataList' dataStore' ≡ keeping (get_or told 3 0) dataList dataStore

-- what the rescue returns and tells of the second read
pub record RescuesOnOut (told : List ℕ) (returned : ℕ) (told' : List ℕ) : Type 0 where
  -- there is a cut
  pub cut : returned ≡ 0
  -- its index construct is no lower: it keeps at least as many in the index partition
  pub as_many : get_or told 0 0 ≤ get_or told' 0 0
  -- it is the same cut, number by number, or it keeps more
  pub same_or_more : (told' ≡ told) ⊎ (get_or told 0 0 < get_or told' 0 0)
