-- What agreeing labels have in common: the letters, the block size, and the UUID however it is spelled; labels agree the same whichever way the
-- UUID of either side is spelled (02, Item 3).
use mathlib.Core.Path.{◌≡◌, ◌∙◌}
use mathlib.Core.Bool.{true, ◌&&◌}
use mathlib.Core.List.{List}
use Prim.Native.Nat.{ℕ}
use borrow.Author.Tests.{eqb-true}
use lib.Dec.{eqb}
use Rattle.slices.specs.Slices.{same}
use Rattle.slices.proofs.Booleans.{and_right, and_parts}
use Rattle.values.specs.Values.{same_uuid}
use Rattle.values.proofs.Uuids.{same_turned, same_respelled}
use Rattle.label.specs.Label.{Label}
use Rattle.label.specs.Agreement.{same_bool, same_texts, same_numbers, own_letters, agree}

pub record Common (f g : Label) : Type 0 where
  pub uuid : same_uuid f.uuid g.uuid ≡ true
  pub index_letter : f.index_letter ≡ g.index_letter
  pub data_letter : f.data_letter ≡ g.data_letter
  pub block_size : f.block_size ≡ g.block_size

pub agreed_common : (v w : List ℕ) (f g : Label) → agree v f w g ≡ true → Common f g
unfolding agree
agreed_common v w f g e =
    let (shared, own) = and_parts _ (own_letters f g) e in
    let (told, numbers) = and_parts _ (same_numbers f g) shared in
    let (sizes, compression) = and_parts _ (same_bool f.compression g.compression) numbers in
    let (letters, size) = and_parts _ (eqb f.block_size g.block_size) sizes in
    let (front, other) = and_parts _ (eqb f.data_letter g.data_letter) letters in
    record {
      uuid = and_right (same f.creator g.creator && same f.time g.time) (same_uuid f.uuid g.uuid) (and_right (same v w) (same_texts f g) told);
      index_letter = eqb-true f.index_letter g.index_letter (and_right (eqb f.release g.release) (eqb f.index_letter g.index_letter) front);
      data_letter = eqb-true f.data_letter g.data_letter other;
      block_size = eqb-true f.block_size g.block_size size;
    }

-- the label with its UUID so spelled
abbrev pub respelled : Label → List ℕ → Label
respelled f u =
    record {
      release = f.release;
      creator = f.creator;
      time = f.time;
      uuid = u;
      location = f.location;
      index_letter = f.index_letter;
      data_letter = f.data_letter;
      block_size = f.block_size;
      compression = f.compression;
    }

module _ (v w : List ℕ) (f g : Label) (u : List ℕ) where
  pub data_side_respelled : same_uuid g.uuid u ≡ true → agree v f w g ≡ agree v f w (respelled g u)
  unfolding agree
  data_side_respelled e = rw (same_respelled g.uuid u f.uuid e)

  pub index_side_respelled : same_uuid f.uuid u ≡ true → agree v f w g ≡ agree v (respelled f u) w g
  unfolding agree
  index_side_respelled e = rw (same_turned f.uuid g.uuid ∙ same_respelled f.uuid u g.uuid e ∙ same_turned g.uuid u)
