-- When the labels of the two sides agree (01, LTFS label): the VOL1 blocks are equal, and so are all values, version included, but the location,
-- which is each side's own letter.
use Rattle.std.specs.Prelude.{Bool, true, false, not, ◌&&◌, List, ℕ, eqb}
use Rattle.slices.specs.Slices.{same}
use Rattle.values.specs.Values.{same_uuid}
use Rattle.label.specs.Label.{Label}

abbrev pub same_bool : Bool → Bool → Bool
same_bool true b = b
same_bool false b = not b

-- the texts and the numbers that both sides share
abbrev pub same_texts : Label → Label → Bool
same_texts f g = same f.creator g.creator && same f.time g.time && same_uuid f.uuid g.uuid

abbrev pub same_numbers : Label → Label → Bool
same_numbers f g =
    eqb f.release g.release && eqb f.index_letter g.index_letter && eqb f.data_letter g.data_letter && eqb f.block_size g.block_size
    && same_bool f.compression g.compression

-- f is the index side's label, g the data side's
abbrev pub own_letters : Label → Label → Bool
own_letters f g = eqb f.location f.index_letter && eqb g.location g.data_letter

-- the index side's VOL1 v and label f, the data side's w and g
unfoldable pub agree : List ℕ → Label → List ℕ → Label → Bool
agree v f w g = same v w && same_texts f g && same_numbers f g && own_letters f g
