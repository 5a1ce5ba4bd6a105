-- Numbers in bytes, high byte first, over the width (01, The block list: a block's length; 02, Item 1: the number of an element): digits in
-- base 256. Numbers below 256 ^ w and w bytes tell each other (proofs/Said.antt).
use Rattle.std.specs.Prelude.{List, ℕ}
use Rattle.digits.specs.Runs.{value, digits}

-- the lowest w bytes of n
abbrev pub big_endian : ℕ → ℕ → List ℕ
big_endian w n = digits 256 w n

-- the number that bytes say
abbrev pub bytes_say : List ℕ → ℕ
bytes_say s = value 256 (λ b. b) 0 s
