-- A label is refused 4 with the front of its text, and for nothing else (02, Item 6); one that is read is in the form.
use Rattle.std.specs.Prelude.{Ok}
use Prim.Native.Nat.{ℕ}
use mathlib.Core.Path.{◌≡◌, refl}
use mathlib.Core.Bool.{true, ◌&&◌}
use mathlib.Core.List.{List}
use lib.Dec.{leb}
use lib.ListN.{length}
use Rattle.refusals.specs.declared.Refusal.TheVariants.{Form, Structure, Value, Version, TooMany}
use Rattle.refusals.specs.Refusals.{left_at}
use Rattle.refusals.proofs.Refusing.{passed, Refuses, refuses_answer, refuses_require, refuses_without}
use Rattle.xml.specs.Tree.{Head, Forest, none, node}
use Rattle.xml.specs.CheckSteps.{in_form, front, require_form}
use Rattle.xml.proofs.Checked.{OfText, another, of_form}
use Rattle.elements.specs.Reading.{forest_at}
use Rattle.quantities.specs.Sizes.{is_block_size}
use Rattle.texts.specs.Decoded.{decoded}
use Rattle.values.specs.Values.{letter, number, boolean, version, is_time, is_uuid, is_creator}
use Rattle.label.specs.Label.{Label, Texts, is_root, is_shaped, texts_in, letters_fit, label_from, root_of, first_of, label_of}

module _ (s : List ℕ) where
  values_of : (release : ℕ) (t : Texts) → Refuses (OfText s) (label_from release t)
  unfolding label_from
  values_of release t =
      refuses_require (OfText s) (is_creator (decoded t.creator) && is_time t.time && is_uuid t.uuid) Value _ value
      (refuses_without (OfText s) (letter t.location) Value _ value (λ l.
      refuses_without (OfText s) (letter t.index_letter) Value _ value (λ i.
      refuses_without (OfText s) (letter t.data_letter) Value _ value (λ d.
      refuses_require (OfText s) (letters_fit l i d) Value _ value
      (refuses_without (OfText s) (number t.block_size) Value _ value (λ b.
      refuses_require (OfText s) (is_block_size b) Value _ value
      (refuses_without (OfText s) (boolean t.compression) Value _ value (λ c. refuses_answer (OfText s) _))))))))
    where
      value : OfText s Value
      value = another s Value refl

  root_of_lem : (h : Head) (f : Forest) → Refuses (OfText s) (root_of h f)
  unfolding root_of
  root_of_lem h f =
      refuses_require (OfText s) (is_root h) Structure _ (another s Structure refl)
      (refuses_without (OfText s) (version h.value) Version _ (another s Version refl) (λ r.
      refuses_require (OfText s) (is_shaped f) Structure _ (another s Structure refl) (values_of r (texts_in f))))

  first_of_lem : (f : Forest) → Refuses (OfText s) (first_of f)
  unfolding first_of
  first_of_lem none = record { only = another s Structure refl }
  first_of_lem (node h k f) = root_of_lem h k

  pub label_front : Refuses (OfText s) (label_of s)
  unfolding label_of
  label_front = refuses_require (OfText s) (leb (length s) 4096) TooMany _ (another s TooMany refl) (of_form s _ (first_of_lem (forest_at s 38)))

  pub label_formed : (x : Label) → label_of s ≡ Ok x → in_form s ≡ true
  unfolding label_of
  label_formed x e =
      let first = first_of (forest_at s 38) in
      let within = passed TooMany (require_form s first) x (leb (length s) 4096) e in
      (passed (Form (left_at (front s))) first x (in_form s) within.1).0
