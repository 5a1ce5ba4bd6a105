-- An index is read the same whichever way the UUID of its volume is spelled (02, Item 3).
use mathlib.Core.Path.{◌≡◌, refl, ap, ap₂, fun_ext}
use mathlib.Core.Bool.{Bool, true, ◌&&◌}
use mathlib.Core.List.{List}
use Prim.Native.Nat.{ℕ}
use lib.Dec.{leb}
use lib.ListN.{length}
use Rattle.refusals.specs.Refusals.{Answer, require}
use Rattle.refusals.specs.declared.Refusal.TheVariants.{Caller, TooMany, Structure, Version}
use Rattle.slices.specs.Slices.{every, same}
use Rattle.slices.specs.Words.{bytes}
use Rattle.xml.specs.Tree.{Forest, none as no_element, node}
use Rattle.xml.specs.CheckSteps.{require_form}
use Rattle.elements.specs.Reading.{forest_at}
use Rattle.values.specs.Values as values
use Rattle.values.proofs.Uuids.{same_parts, same_respelled}
use Rattle.index_names.specs.declared.Sort.{Sort}
use Rattle.index_names.specs.declared.Sort.TheVariants.{Index as index, Letter, Uuid}
use Rattle.index_values.specs.Elements.{IndexElement, elements}
use Rattle.index_values.specs.Entries.{or_zero}
use Rattle.index_values.specs.Tests.{Given, is_some, own, lawful_file}
use Rattle.index.specs.Index.{Index, all_own, caller_right, children_read, tag_read, root_read, max_text, index_of}

module _ (u w : List ℕ) (e : values.same_uuid u w ≡ true) (index_letter data_letter block_size : ℕ) where
  -- the volume with its UUID so spelled
  abbrev with_uuid : List ℕ → Given
  with_uuid x = record { uuid = x; index_letter = index_letter; data_letter = data_letter; block_size = block_size }

  own_respelled : (s : Sort) (t : List ℕ) → own (with_uuid u) s t ≡ own (with_uuid w) s t
  unfolding own
  own_respelled Letter t = refl
  own_respelled Uuid t = same_respelled u w t e
  own_respelled _ t = refl

  all_own_respelled : (l : List IndexElement) → all_own (with_uuid u) l ≡ all_own (with_uuid w) l
  all_own_respelled l = ap (λ (test : IndexElement → Bool). every test l) (fun_ext (λ (x : IndexElement). own_respelled x.sort x.head.text))

  module _ (letter : ℕ) where
    pub caller_respelled : caller_right (with_uuid u) letter ≡ caller_right (with_uuid w) letter
    unfolding caller_right
    caller_respelled = let (a, b, z) = same_parts u w e in rw (a, b)

    module _ (block : ℕ) where
      children_respelled : (release : ℕ) (k : Forest) → children_read (with_uuid u) letter block release k ≡ children_read (with_uuid w) letter block release k
      unfolding children_read lawful_file
      children_respelled release k = rw (all_own_respelled (elements index k))

      root_respelled : (f : Forest) → root_read (with_uuid u) letter block f ≡ root_read (with_uuid w) letter block f
      unfolding root_read tag_read
      root_respelled no_element = refl
      root_respelled (node h k r) =
          ap (λ (x : Answer Index). require (same h.name (bytes "ltfsindex") && same h.key (bytes "version")) Structure (require (is_some (values.version h.value)) Version x))
          (children_respelled (or_zero (values.version h.value)) k)

      pub index_respelled : (text : List ℕ) → index_of (with_uuid u) letter block text ≡ index_of (with_uuid w) letter block text
      unfolding index_of
      index_respelled text =
          ap₂ (λ (c : Bool) (x : Answer Index). require c Caller (require (leb (length text) max_text) TooMany (require_form text x)))
          caller_respelled (root_respelled (forest_at text 38))
