-- The text of a label (01, LTFS label, Written form), and when the fields that a caller gives may be written.
use Rattle.std.specs.Prelude.{Bool, cond, ◌&&◌, List, [], ◌∷◌, ◌++◌, ℕ, eqb}
use Rattle.slices.specs.Words.{bytes}
use Rattle.quantities.specs.Letters.{is_letter}
use Rattle.quantities.specs.Sizes.{is_block_size}
use Rattle.digits.specs.Decimal.{short}
use Rattle.xml.specs.Bytes.{declaration}
use Rattle.values.specs.Values.{is_creator, is_time, is_uuid}
use Rattle.label.specs.Label.{Label, letters_fit}
use Rattle.label_writer.specs.Characters.{is_characters}
use Rattle.label_writer.specs.declared.Given.{Given}

-- `&`, `<` and `>` are escaped
unfoldable pub escape : ℕ → List ℕ
escape b = cond (eqb b 38) (bytes "&amp;") (cond (eqb b 60) (bytes "&lt;") (cond (eqb b 62) (bytes "&gt;") (b ∷ [])))

unfoldable pub escaped : List ℕ → List ℕ
escaped [] = []
escaped (b ∷ s) = escape b ++ escaped s

unfoldable pub boolean_word : Bool → List ℕ
boolean_word c = cond c (bytes "true") (bytes "false")

-- the elements in document 01's order, with no space between
unfoldable pub texts : List ℕ → List ℕ → List ℕ → List ℕ
texts creator time uuid =
    bytes "<creator>" ++ escaped creator ++ bytes "</creator><formattime>" ++ time
    ++ bytes "</formattime><volumeuuid>" ++ uuid ++ bytes "</volumeuuid>"

unfoldable pub letters : ℕ → ℕ → ℕ → List ℕ
letters location index other =
    bytes "<location><partition>" ++ (location ∷ []) ++ bytes "</partition></location><partitions><index>" ++ (index ∷ [])
    ++ bytes "</index><data>" ++ (other ∷ []) ++ bytes "</data></partitions>"

unfoldable pub size_and_compression : ℕ → Bool → List ℕ
size_and_compression block_size compression = bytes "<blocksize>" ++ short block_size ++ bytes "</blocksize><compression>" ++ boolean_word compression ++ bytes "</compression>"

-- the declaration, LF, the root with the elements, LF
unfoldable pub text_front : List ℕ
text_front = declaration ++ (10 ∷ []) ++ bytes "<ltfslabel version=\"2.0.1\">"

unfoldable pub text_end : List ℕ
text_end = bytes "</ltfslabel>" ++ (10 ∷ [])

unfoldable pub label_text : Label → List ℕ
label_text f = text_front ++ texts f.creator f.time f.uuid ++ letters f.location f.index_letter f.data_letter ++ size_and_compression f.block_size f.compression ++ text_end

-- the label of the fields that a caller gives: the writer writes 2.0.1
abbrev pub label_of_given : List ℕ → List ℕ → List ℕ → Given → Label
label_of_given creator time uuid g =
    record {
      release = 1;
      creator = creator;
      time = time;
      uuid = uuid;
      location = g.location;
      index_letter = g.index_letter;
      data_letter = g.data_letter;
      block_size = g.block_size;
      compression = g.compression;
    }

-- 14: each field in its rule
unfoldable pub are_numbers : ℕ → ℕ → ℕ → ℕ → Bool
are_numbers location index other block_size = is_letter location && is_letter index && is_letter other && letters_fit location index other && is_block_size block_size

unfoldable pub is_lawful_label : Label → Bool
is_lawful_label f = (is_creator f.creator && is_time f.time && is_uuid f.uuid) && are_numbers f.location f.index_letter f.data_letter f.block_size

-- and the creator is UTF-8 in XML 1.0's characters
unfoldable pub is_given : Label → Bool
is_given f = is_lawful_label f && is_characters f.creator
