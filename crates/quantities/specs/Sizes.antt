-- Sizes in bytes (01, Bounds): a block's, and a volume's block size.
use Rattle.std.specs.Prelude.{Bool, ℕ}
use Rattle.slices.specs.Slices.{within}

-- the longest block
abbrev pub max_block : ℕ
max_block = 1048576

-- from 4,096 bytes to the longest block
abbrev pub is_block_size : ℕ → Bool
is_block_size n = within 4096 max_block n
