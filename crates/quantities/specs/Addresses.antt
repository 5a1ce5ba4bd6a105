-- A place on a volume (01, Index: location, previousgenerationlocation): a partition letter and an element's number.
use Rattle.std.specs.Prelude.{ℕ}

pub record Address : Type 0 where
  pub letter : ℕ
  pub block : ℕ
