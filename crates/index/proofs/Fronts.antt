-- An index is refused 4 with the front of its text, and for nothing else (02, Item 6).
use mathlib.Core.Path.{refl}
use mathlib.Core.Bool.{◌&&◌}
use mathlib.Core.List.{List}
use Prim.Native.Nat.{ℕ}
use lib.Dec.{leb}
use lib.ListN.{length}
use Rattle.refusals.specs.declared.Refusal.TheVariants.{Caller, TooMany, Structure, Version, Value, Foreign, Extents, Location}
use Rattle.refusals.proofs.Refusing.{Refuses, refuses_answer, refuses_require}
use Rattle.slices.specs.Slices.{same}
use Rattle.slices.specs.Words.{bytes}
use Rattle.xml.specs.Tree.{Forest, none, node}
use Rattle.xml.proofs.Checked.{OfText, another, of_form}
use Rattle.elements.specs.Reading.{forest_at}
use Rattle.values.specs.Values as values
use Rattle.index_names.specs.declared.Sort.TheVariants.{Index as index}
use Rattle.index_values.specs.Elements.{elements}
use Rattle.index_values.specs.Tests.{Given, is_some}
use Rattle.index.specs.Index.{structured, bounded, all_valued, all_own, all_lawful, stands_at, location_in, children_read, tag_read, root_read, caller_right, max_text, index_of}

module _ (s : List ℕ) (g : Given) (letter block : ℕ) where
  children_of : (release : ℕ) (k : Forest) → Refuses (OfText s) (children_read g letter block release k)
  unfolding children_read
  children_of release k =
      refuses_require (OfText s) (structured k) Structure _ (another s Structure refl)
      (refuses_require (OfText s) (bounded (elements index k)) TooMany _ (another s TooMany refl)
      (refuses_require (OfText s) (all_valued (elements index k)) Value _ (another s Value refl)
      (refuses_require (OfText s) (all_own g (elements index k)) Foreign _ (another s Foreign refl)
      (refuses_require (OfText s) (all_lawful g (elements index k)) Extents _ (another s Extents refl)
      (refuses_require (OfText s) (stands_at letter block (location_in k)) Location _ (another s Location refl)
      (refuses_answer (OfText s) _))))))

  root_of_lem : (f : Forest) → Refuses (OfText s) (root_read g letter block f)
  unfolding root_read tag_read
  root_of_lem none = record { only = another s Structure refl }
  root_of_lem (node h k r) =
      refuses_require (OfText s) (same h.name (bytes "ltfsindex") && same h.key (bytes "version")) Structure _ (another s Structure refl)
      (refuses_require (OfText s) (is_some (values.version h.value)) Version _ (another s Version refl) (children_of _ k))

  pub index_front : Refuses (OfText s) (index_of g letter block s)
  unfolding index_of
  index_front =
      refuses_require (OfText s) (caller_right g letter) Caller _ (another s Caller refl)
      (refuses_require (OfText s) (leb (length s) max_text) TooMany _ (another s TooMany refl)
      (of_form s _ (root_of_lem (forest_at s 38))))
