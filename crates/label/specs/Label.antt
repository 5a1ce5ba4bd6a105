-- The LTFS label (01, LTFS label; 002, 6.1.2): what a label says, and the label that a text is. Each class of refusals is a test of the whole
-- text, in document 01's order.
use Rattle.std.specs.Prelude.{Bool, ◌&&◌, List, [], ◌∷◌, ℕ, leb, length, Err, Ok}
use Prim.Native.String.{String}
use Rattle.refusals.specs.Refusals.{Answer, require, or_refuse}
use Rattle.refusals.specs.declared.Refusal.TheVariants.{Structure, Value, Version, TooMany}
use Rattle.slices.specs.Words.{bytes}
use Rattle.quantities.specs.Letters.{is_one_of}
use Rattle.quantities.specs.Sizes.{is_block_size}
use Rattle.xml.specs.CheckSteps.{require_form}
use Rattle.xml.specs.Tree.{Head, Forest, none, node}
use Rattle.elements.specs.Reading.{forest_at}
use Rattle.texts.specs.Decoded.{decoded}
use Rattle.children.specs.Rules.{Rule, with_value, with_children}
use Rattle.children.specs.Children as children
use Rattle.children.specs.Children.{lawful_children, only, text_of_first, children_of_first}
use Rattle.values.specs.Values.{number, boolean, letter, version, is_time, is_uuid, is_creator}

-- what a label says: the R of its version 2.0.R, and its values
pub record Label : Type 0 where
  pub release : ℕ
  pub creator : List ℕ
  pub time : List ℕ
  pub uuid : List ℕ
  pub location : ℕ
  pub index_letter : ℕ
  pub data_letter : ℕ
  pub block_size : ℕ
  pub compression : Bool

-- the texts of its elements, as spelled
pub record Texts : Type 0 where
  pub creator : List ℕ
  pub time : List ℕ
  pub uuid : List ℕ
  pub location : List ℕ
  pub index_letter : List ℕ
  pub data_letter : List ℕ
  pub block_size : List ℕ
  pub compression : List ℕ

-- the children of the root, of a location and of the partitions
abbrev pub of_root : List Rule
of_root =
    with_value "creator" ∷ with_value "formattime" ∷ with_value "volumeuuid" ∷ with_children "location" ∷ with_children "partitions"
    ∷ with_value "blocksize" ∷ with_value "compression" ∷ []

abbrev pub of_location : List Rule
of_location = with_value "partition" ∷ []

abbrev pub of_partitions : List Rule
of_partitions = with_value "index" ∷ with_value "data" ∷ []

abbrev pub children_named : String → Forest → Forest
children_named name f = children_of_first (only (bytes name) f)

-- 5: children once each, in any order
unfoldable pub is_shaped : Forest → Bool
is_shaped f = lawful_children of_root 7 f && lawful_children of_location 1 (children_named "location" f) && lawful_children of_partitions 2 (children_named "partitions" f)

abbrev pub text_named : String → Forest → List ℕ
text_named name f = text_of_first (only (bytes name) f)

unfoldable pub texts_in : Forest → Texts
texts_in f =
    record {
      creator = text_named "creator" f;
      time = text_named "formattime" f;
      uuid = text_named "volumeuuid" f;
      location = text_named "partition" (children_named "location" f);
      index_letter = text_named "index" (children_named "partitions" f);
      data_letter = text_named "data" (children_named "partitions" f);
      block_size = text_named "blocksize" f;
      compression = text_named "compression" f;
    }

-- the letters are different, and the location is one of them
unfoldable pub letters_fit : ℕ → ℕ → ℕ → Bool
letters_fit l i d = is_one_of i d l

-- 6: the values
unfoldable pub label_from : ℕ → Texts → Answer Label
label_from release t =
    require (is_creator (decoded t.creator) && is_time t.time && is_uuid t.uuid) Value
    (or_refuse (letter t.location) Value (λ l.
    or_refuse (letter t.index_letter) Value (λ i.
    or_refuse (letter t.data_letter) Value (λ d.
    require (letters_fit l i d) Value
    (or_refuse (number t.block_size) Value (λ b.
    require (is_block_size b) Value
    (or_refuse (boolean t.compression) Value (λ c.
    Ok (record { release = release; creator = decoded t.creator; time = t.time; uuid = t.uuid; location = l; index_letter = i; data_letter = d; block_size = b; compression = c })))))))))

abbrev pub is_root : Head → Bool
is_root = children.is_root (bytes "ltfslabel")

-- 5 for the root and its attribute, 7, the rest of 5, then the values
unfoldable pub root_of : Head → Forest → Answer Label
root_of h f =
    require (is_root h) Structure
    (or_refuse (version h.value) Version (λ r. require (is_shaped f) Structure (label_from r (texts_in f))))

unfoldable pub first_of : Forest → Answer Label
first_of none = Err Structure
first_of (node h k f) = root_of h k

-- the label that a text is: 15, 4, then the root
unfoldable pub label_of : List ℕ → Answer Label
label_of s = require (leb (length s) 4096) TooMany (require_form s (first_of (forest_at s 38)))
