-- What is shown of labels.
use Rattle.std.specs.Prelude.{◌≡◌, Bool, ◌&&◌, List, [], ◌∷◌, ℕ, leb, eqb, get_or, take}
use Rattle.elements.specs.Reading.{Inside}
use Rattle.texts.specs.Decoded.{decoded}
use Rattle.vol1.specs.Vol1.{Vol1Fields, identifier_at, identifier_length, owner_at, owner_length, vol1_of, are_fields, vol1}
use Rattle.label.specs.Label.{Label, label_of}
use Rattle.label.specs.TextPlaces.{TextPlaces, text_places}
use Rattle.label_writer.specs.Text.{is_given, label_of_given, label_text}
use Rattle.tape.specs.Answers.{tape_in}
use Rattle.labels.specs.Labels.{labels_in}
use Rattle.labels.specs.Places.{places_on}
use Rattle.index_files.specs.Filling.{part_told, TellsPart}
use Rattle.api.specs.Outputs.{Shown, ShownAs, Stores, bit}
use Rattle.api.specs.Fronts.{WithFront, WithSide}

-- the places and lengths of VOL1's identifier and owner
abbrev pub vol1_places : Vol1Fields → List ℕ
vol1_places f = identifier_at ∷ identifier_length ∷ owner_at ∷ owner_length ∷ []

-- what the reader of VOL1 answers of a block
abbrev pub ReadsVol1Out : List ℕ → ℕ → List ℕ → Type 0
ReadsVol1Out s = Shown 4 vol1_places (vol1_of s)

-- it reads the block as those fields, and tells where they stand
abbrev pub ReadAsVol1 : List ℕ → List ℕ → List ℕ → Type 0
ReadAsVol1 identifier owner s = (r : ℕ) (out : List ℕ) → ReadsVol1Out s r out → (r ≡ 0) × TellsPart s out 0 identifier × TellsPart s out 2 owner

-- what the writer of VOL1 promises
abbrev pub WritesVol1 : List ℕ → List ℕ → List ℕ → List ℕ → ℕ → ℕ → Type 0
WritesVol1 identifier owner = Stores (are_fields identifier owner) (vol1 identifier owner) (ReadAsVol1 identifier owner)

-- the places that six of them tell
abbrev pub places_told : List ℕ → TextPlaces
places_told out =
    record {
      creator = record { from = get_or out 1 0; len = get_or out 2 0 };
      time = record { from = get_or out 3 0; len = get_or out 4 0 };
      uuid = record { from = get_or out 5 0; len = get_or out 6 0 };
    }

-- twelve numbers say what a label says: the R of its version; the places of its creator, as spelled, its time and its UUID, which lie in s and
-- are w, each with its length; its location, the index letter, the data letter, the block size, and the compression
pub record SaysLabel (s : List ℕ) (w : TextPlaces) (f : Label) (out : List ℕ) : Type 0 where
  pub release : get_or out 0 0 ≡ f.release
  pub places : places_told out ≡ w
  pub creator : decoded (part_told s out 1) ≡ f.creator
  pub creator_inside : Inside s (get_or out 1 0) (get_or out 2 0)
  pub time : TellsPart s out 3 f.time
  pub uuid : TellsPart s out 5 f.uuid
  pub location : get_or out 7 0 ≡ f.location
  pub index_letter : get_or out 8 0 ≡ f.index_letter
  pub data_letter : get_or out 9 0 ≡ f.data_letter
  pub block_size : get_or out 10 0 ≡ f.block_size
  pub compression : get_or out 11 0 ≡ bit f.compression

-- what the reader of a label answers of a text
abbrev pub ReadsLabelOut : List ℕ → ℕ → List ℕ → Type 0
ReadsLabelOut s = WithFront 12 s (ShownAs 12 (SaysLabel s (text_places s)) (label_of s))

-- what the check of the labels of two sides answers, the places being in the index store
abbrev pub ChecksOut : List ℕ → List ℕ → List ℕ → List ℕ → ℕ → List ℕ → Type 0
ChecksOut indexList indexStore dataList dataStore =
    WithSide 12 indexList indexStore dataList dataStore
    (ShownAs 12 (SaysLabel indexStore (places_on (tape_in indexList indexStore))) (labels_in indexList indexStore dataList dataStore))

-- it reads the text as that label
abbrev pub ReadAsLabel : Label → List ℕ → Type 0
ReadAsLabel f s = (r : ℕ) (out : List ℕ) → ReadsLabelOut s r out → (r ≡ 0) × SaysLabel s (text_places s) f (take 12 out)

-- the label that a caller gives, its compression as a number
abbrev pub given_label : List ℕ → List ℕ → List ℕ → ℕ → ℕ → ℕ → ℕ → ℕ → Label
given_label creator time uuid location index other size compression =
    label_of_given creator time uuid
    (record { location = location; index_letter = index; data_letter = other; block_size = size; compression = eqb compression 1 })

-- 14: the compression is 0 or 1, and the label may be written
abbrev pub is_writable : ℕ → Label → Bool
is_writable compression f = leb compression 1 && is_given f

-- what the writer of a label promises
abbrev pub WritesLabel : ℕ → Label → List ℕ → List ℕ → ℕ → ℕ → Type 0
WritesLabel compression f = Stores (is_writable compression f) (label_text f) (ReadAsLabel f)
