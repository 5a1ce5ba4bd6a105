-- What an answer of the readers of numbers says, and what few digits say; and hex digits without their case.
use Rattle.std.specs.Prelude.{cond, List, ℕ, ◌+◌, ◌-◌, leb, length, None, Option}
use Prim.Native.Char.{code}
use Rattle.slices.specs.Slices.{within}
use Rattle.digits.specs.Decimal.{run}

-- what a run of up to 19 digits says; 20 may say more than the largest
unfoldable pub of_few : List ℕ → Option ℕ
of_few s = cond (leb (length s) 19) (run s) None

-- a capital hex digit as the small one, any other byte as it is
abbrev pub folded : ℕ → ℕ
folded b = cond (within (code "A") (code "F") b) (code "a" + (b - code "A")) b
