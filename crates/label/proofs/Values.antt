-- A label from its texts, from its root and from its text.
use Rattle.std.specs.Prelude.{Err, Some}
use mathlib.Core.Path.{◌≡◌}
use mathlib.Core.Bool.{true, false}
use mathlib.Core.List.{List}
use Prim.Native.Nat.{ℕ, ◌<◌, ◌≤◌}
use Rattle.refusals.specs.Refusals.{left_at}
use Rattle.refusals.specs.declared.Refusal.TheVariants.{Form, Structure, TooMany}
use borrow.Author.Tests.{le-leb, lt-leb}
use lib.ListN.{length}
use Rattle.xml.specs.CheckSteps.{in_form, front}
use Rattle.xml.specs.Tree.{Head, Forest, none, node}
use Rattle.elements.specs.Reading.{forest_at}
use Rattle.values.specs.Values.{number, version}
use Rattle.label.specs.Label.{Texts, is_shaped, texts_in, label_from, is_root, root_of, first_of, label_of}

module _ (release : ℕ) (t : Texts) where
  -- a label is the same whichever way its block size is spelled (02, Item 2)
  pub label_by_value : (b : List ℕ) → number b ≡ number t.block_size
      → label_from release (record { creator = t.creator; time = t.time; uuid = t.uuid; location = t.location; index_letter = t.index_letter; data_letter = t.data_letter; block_size = b; compression = t.compression })
      ≡ label_from release t
  unfolding label_from
  label_by_value b e = rw e

pub the_root : (h : Head) (f : Forest) → is_root h ≡ true → {r : ℕ} → version h.value ≡ Some r → is_shaped f ≡ true → label_from r (texts_in f) ≡ root_of h f
unfolding root_of
the_root h f e₀ e₁ e = rw (e₀, e₁, e)

module _ (s : List ℕ) where
  pub too_long : 4096 < length s → Err TooMany ≡ label_of s
  unfolding label_of
  too_long h = rw (lt-leb _ _ h)

  module _ (h : length s ≤ 4096) where
    pub unformed : (n : ℕ) → in_form s ≡ false → n ≡ front s → Err (Form (left_at n)) ≡ label_of s
    unfolding label_of
    unformed n e z = rw (le-leb _ _ h, e, z)

    module _ (e : in_form s ≡ true) where
      pub no_first : forest_at s 38 ≡ none → Err Structure ≡ label_of s
      unfolding label_of first_of
      no_first z = rw (le-leb _ _ h, e, z)

      pub the_first : (x : Head) (k f : Forest) → forest_at s 38 ≡ node x k f → root_of x k ≡ label_of s
      unfolding label_of first_of
      the_first x k f z = rw (le-leb _ _ h, e, z)
