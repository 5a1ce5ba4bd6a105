-- What the answers of the label's readers mean.
use Rattle.refusals.specs.declared.Refusal.{Refusal}
use Rattle.std.specs.Prelude.{◌≡◌, true, false, List, ℕ, drop, Err, IfOk, None, Ok, Option, Result, Some}
use Rattle.refusals.specs.Refusals.{Answer}
use Rattle.elements.specs.Tags.{Tags, text_place}
use Rattle.elements.specs.Reading.{head_at, part_at, Inside}
use Rattle.texts.specs.Decoded.{decoded}
use Rattle.xml.specs.Tree.{Forest}
use Rattle.label.specs.Label.{Label, Texts, is_shaped, texts_in}
use Rattle.label.specs.TextPlaces.{TextPlaces, places_in}
use Rattle.label.specs.declared.reader.Places.{Places}
use Rattle.label.specs.declared.reader.LabelFields.{LabelFields}

-- of the elements whose tags are at the places found
abbrev pub places_at : List ℕ → Places → TextPlaces
places_at s p =
    record {
      creator = text_place s (drop p.creator s);
      time = text_place s (drop p.time s);
      uuid = text_place s (drop p.uuid s);
    }

-- the texts of the elements at the places found
abbrev pub texts_at : List ℕ → Places → Texts
texts_at s p =
    record {
      creator = (head_at s p.creator).text;
      time = (head_at s p.time).text;
      uuid = (head_at s p.uuid).text;
      location = (head_at s p.location).text;
      index_letter = (head_at s p.index_letter).text;
      data_letter = (head_at s p.data_letter).text;
      block_size = (head_at s p.block_size).text;
      compression = (head_at s p.compression).text;
    }

-- where the children f, whose tags are t, stand, which are lawful
pub record FoundTexts (s : List ℕ) (f : Forest) (t : Tags) (p : Places) : Type 0 where
  pub shaped : is_shaped f ≡ true
  pub texts : texts_at s p ≡ texts_in f
  pub places : places_at s p ≡ places_in s t

-- they are, or are not
abbrev pub FindsTexts : List ℕ → Forest → Tags → Option Places → Type 0
FindsTexts s f t None = is_shaped f ≡ false
FindsTexts s f t (Some p) = FoundTexts s f t p

-- the label that a reader's fields say of the text
abbrev pub fields_in : List ℕ → LabelFields → Label
fields_in s f =
    record {
      release = f.release;
      creator = decoded (part_at s f.creator);
      time = part_at s f.time;
      uuid = part_at s f.uuid;
      location = f.location;
      index_letter = f.index_letter;
      data_letter = f.data_letter;
      block_size = f.block_size;
      compression = f.compression;
    }

-- what an answer of the reader says of the text
abbrev pub means : List ℕ → Result LabelFields Refusal → Answer Label
means s (Err r) = Err r
means s (Ok f) = Ok (fields_in s f)

-- the places in the fields lie in the text
pub record LieIn (s : List ℕ) (f : LabelFields) : Type 0 where
  pub creator : Inside s f.creator.from f.creator.len
  pub time : Inside s f.time.from f.time.len
  pub uuid : Inside s f.uuid.from f.uuid.len

abbrev pub PlacesInside : List ℕ → Result LabelFields Refusal → Type 0
PlacesInside s r = IfOk r (LieIn s)

-- the places in the fields
abbrev pub places_of : LabelFields → TextPlaces
places_of f = record { creator = f.creator; time = f.time; uuid = f.uuid }

-- they are the places w
abbrev pub Stands : TextPlaces → Result LabelFields Refusal → Type 0
Stands w r = IfOk r (λ f. places_of f ≡ w)

-- the answer says what a says, of the texts at the places w
pub record ReadsLabel (s : List ℕ) (a : Answer Label) (w : TextPlaces) (r : Result LabelFields Refusal) : Type 0 where
  pub says : means s r ≡ a
  pub inside : PlacesInside s r
  pub stands : Stands w r
