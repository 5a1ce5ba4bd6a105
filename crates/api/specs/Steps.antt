-- What a reader hands out, in the numbers that C is told.
use Rattle.std.specs.Prelude.{List, [], ◌∷◌, ℕ, ◌-◌, get_or, None, Option, Some}
use Rattle.index.specs.Steps.{back_of}
use Rattle.index.specs.declared.read.Header.{Header}
use Rattle.constructs.specs.declared.Bounds.{Bounds}
use Rattle.vol1.specs.Vol1.{identifier_at, identifier_length, owner_at, owner_length}
use Rattle.index_files.specs.declared.asked.FileHead.{FileHead}
use Rattle.volume.specs.Steps.{break_told}
use Rattle.volume.specs.declared.judge.Break.{Break}
use Rattle.volume.specs.declared.search.FoundCut.{FoundCut}
use Rattle.api.specs.Outputs.{bit}
use Rattle.api.specs.Indexes.{back_numbers}
use Rattle.label.specs.declared.reader.LabelFields.{LabelFields}

-- a header that a reader read, in numbers, and 0 in the place of the front
abbrev pub header_numbers : Header → List ℕ
header_numbers h =
    let back = back_numbers (back_of h.back) in
    h.release ∷ h.generation.0 ∷ h.time.from ∷ h.time.len ∷ h.location.letter ∷ h.location.block.0
    ∷ get_or back 0 0 ∷ get_or back 1 0 ∷ get_or back 2 0
    ∷ bit h.allow ∷ h.highest ∷ h.directories ∷ h.files ∷ h.rows ∷ 0 ∷ []

-- that of a construct that was found in a store, with its place
abbrev pub construct_numbers : Bounds → Header → List ℕ
construct_numbers p h = p.first.0 ∷ p.end ∷ p.from ∷ (p.to - p.from) ∷ header_numbers h

-- a label that a reader read, in numbers: the R of its version; where its creator, its time and its UUID stand, each with its length; its
-- location, the index letter, the data letter, the block size, and the compression; and 0 in the place of the front
abbrev pub label_numbers : LabelFields → List ℕ
label_numbers f =
    f.release ∷ f.creator.from ∷ f.creator.len ∷ f.time.from ∷ f.time.len ∷ f.uuid.from ∷ f.uuid.len
    ∷ f.location ∷ f.index_letter ∷ f.data_letter ∷ f.block_size ∷ bit f.compression ∷ 0 ∷ []

-- where VOL1's identifier and owner stand
abbrev pub vol1_numbers : List ℕ
vol1_numbers = identifier_at ∷ identifier_length ∷ owner_at ∷ owner_length ∷ []

-- what a file says, in numbers, and 0 in the place of the front
abbrev pub head_numbers : FileHead → List ℕ
head_numbers h = h.length.0 ∷ h.name.from ∷ h.name.len ∷ h.rows ∷ 0 ∷ []

-- a break, or none, in numbers, and 0 in the places of the front and the side
abbrev pub verdict_numbers : Option Break → List ℕ
verdict_numbers None = 0 ∷ 0 ∷ 0 ∷ 0 ∷ []
verdict_numbers (Some b) = (break_told b).which ∷ (break_told b).number ∷ 0 ∷ 0 ∷ []

-- a cut in numbers, and 0 in the places of the front and the side
abbrev pub rescue_numbers : FoundCut → List ℕ
rescue_numbers k = k.index_construct ∷ k.data_construct ∷ k.index_kept ∷ k.data_kept ∷ k.generation.0 ∷ 0 ∷ 0 ∷ []
