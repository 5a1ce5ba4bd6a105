-- What an answer of the reader of VOL1 says, and what its writer owes.
use Rattle.refusals.specs.declared.Refusal.{Refusal}
use Rattle.std.specs.Prelude.{List, ℕ, Err, Ok, Result}
use Rattle.refusals.specs.Refusals.{Answer}
use Rattle.writing.specs.Writing.{Writes}
use Rattle.vol1.specs.Vol1.{Vol1Fields, are_fields, identifier_in, owner_in, vol1}

-- what an answer of the reader says of the block
abbrev pub means_vol1 : List ℕ → Result Unit Refusal → Answer Vol1Fields
means_vol1 s (Ok u) = Ok (record { identifier = identifier_in s; owner = owner_in s })
means_vol1 s (Err r) = Err r

-- the block of such fields, written to the front of a buffer
abbrev pub WritesBlock : List ℕ → List ℕ → List ℕ → List ℕ → Result ℕ Refusal → Type 0
WritesBlock identifier owner = Writes (are_fields identifier owner) (vol1 identifier owner)
