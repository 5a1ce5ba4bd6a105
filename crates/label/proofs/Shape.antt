-- The label's children, found by three rows: the root's, and those of the location and of the partitions at their seats in it.
use mathlib.Core.Path.{◌≡◌, refl, ap, ◌∙◌, sym}
use mathlib.Core.Bool.{true, false}
use mathlib.Core.List.{List}
use Prim.Native.Nat.{ℕ}
use native.Mathlib.Omega.{arith}
use lib.ListN.{drop, get_or}
use Rattle.slices.specs.Words.{bytes}
use Rattle.xml.specs.Tree.{Forest}
use Rattle.elements.specs.Tags.{Tags, text_place}
use Rattle.elements.specs.Reading.{head_at, children_at}
use Rattle.children.specs.Children.{lawful_children}
use Rattle.children.specs.RowSteps.{Seated, PlacedSeats}
use Rattle.children.proofs.Found.{found_text, found_children, found_place}
use Rattle.label.specs.Label.{Texts, of_root, of_location, of_partitions, children_named, is_shaped, text_named, texts_in}
use Rattle.label.specs.TextPlaces.{TextPlaces, places_in}
use Rattle.label.proofs.Places.{same_places}

same_texts : {c c' t t' u u' l l' i i' d d' b b' z z' : List ℕ} → c ≡ c' → t ≡ t' → u ≡ u' → l ≡ l' → i ≡ i' → d ≡ d' → b ≡ b' → z ≡ z'
    → ◌≡◌ {A = Texts} (record { creator = c; time = t; uuid = u; location = l; index_letter = i; data_letter = d; block_size = b; compression = z })
    (record { creator = c'; time = t'; uuid = u'; location = l'; index_letter = i'; data_letter = d'; block_size = b'; compression = z' })
same_texts e₀ e₁ e₂ e₃ e₄ e₅ e₆ e₇ = cc

pub no_root_row : (f : Forest) → lawful_children of_root 7 f ≡ false → is_shaped f ≡ false
unfolding is_shaped
no_root_row f e = rw e

module _ {s : List ℕ} {f : Forest} {a : List ℕ} (A : Seated s of_root 7 f a) where
  module _ {X : Forest} (ex : X ≡ children_at s (get_or a 3 0)) where
    location_row : children_named "location" f ≡ X
    unfolding bytes
    location_row = found_children A 3 (omega arith) refl ∙ sym ex

    pub no_location_row : lawful_children of_location 1 X ≡ false → is_shaped f ≡ false
    unfolding is_shaped
    no_location_row e = rw (location_row, A.lawful, e)

    module _ {p : List ℕ} (P : Seated s of_location 1 X p) {Y : Forest} (ey : Y ≡ children_at s (get_or a 4 0)) where
      partitions_row : children_named "partitions" f ≡ Y
      unfolding bytes
      partitions_row = found_children A 4 (omega arith) refl ∙ sym ey

      pub no_partitions_row : lawful_children of_partitions 2 Y ≡ false → is_shaped f ≡ false
      unfolding is_shaped
      no_partitions_row e = rw (location_row, partitions_row, A.lawful, P.lawful, e)

      module _ {q : List ℕ} (Q : Seated s of_partitions 2 Y q) where
        pub shaped : is_shaped f ≡ true
        unfolding is_shaped
        shaped = rw (location_row, partitions_row, A.lawful, P.lawful, Q.lawful)

        -- the texts at the seats
        pub found :
            ◌≡◌ {A = Texts}
            (record {
              creator = (head_at s (get_or a 0 0)).text;
              time = (head_at s (get_or a 1 0)).text;
              uuid = (head_at s (get_or a 2 0)).text;
              location = (head_at s (get_or p 0 0)).text;
              index_letter = (head_at s (get_or q 0 0)).text;
              data_letter = (head_at s (get_or q 1 0)).text;
              block_size = (head_at s (get_or a 5 0)).text;
              compression = (head_at s (get_or a 6 0)).text;
            })
            (texts_in f)
        unfolding texts_in bytes
        found =
            same_texts
            (sym (found_text A 0 (omega arith) refl))
            (sym (found_text A 1 (omega arith) refl))
            (sym (found_text A 2 (omega arith) refl))
            (sym (ap (text_named "partition") (location_row) ∙ found_text P 0 (omega arith) refl))
            (sym (ap (text_named "index") (partitions_row) ∙ found_text Q 0 (omega arith) refl))
            (sym (ap (text_named "data") (partitions_row) ∙ found_text Q 1 (omega arith) refl))
            (sym (found_text A 5 (omega arith) refl))
            (sym (found_text A 6 (omega arith) refl))

        -- and where they stand, by the root's children's tags
        pub standing : {g : Tags} → PlacedSeats s of_root g a
            → ◌≡◌ {A = TextPlaces}
            (record { creator = text_place s (drop (get_or a 0 0) s); time = text_place s (drop (get_or a 1 0) s); uuid = text_place s (drop (get_or a 2 0) s) })
            (places_in s g)
        unfolding bytes
        standing w =
            same_places
            (sym (found_place A 0 (omega arith) refl w))
            (sym (found_place A 1 (omega arith) refl w))
            (sym (found_place A 2 (omega arith) refl w))
