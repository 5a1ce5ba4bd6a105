-- What is asked of an index is refused 4 with the front of its text, and for nothing else (02, Item 6).
use mathlib.Core.Path.{refl}
use mathlib.Core.List.{List, [], ◌∷◌}
use Prim.Native.Nat.{ℕ, zero, suc, ◌*◌}
use lib.Dec.{leb}
use lib.ListN.{length}
use Rattle.refusals.specs.declared.Refusal.TheVariants.{Missing, Short}
use Rattle.refusals.specs.Refusals.{Answer}
use Rattle.refusals.proofs.Refusing.{Refuses, refuses_answer, refuses_require, refuses_then}
use Rattle.xml.proofs.Checked.{OfText, another}
use Rattle.index.specs.Index.{Index}
use Rattle.index_files.specs.Asked.{nth, file_in}
use Rattle.index_files.specs.Filling.{rows_for}
use Rattle.index_files.specs.Whole.{has_room, whole_for}

module _ (s : List ℕ) where
  nth_of : {A : Type 0} (k : ℕ) (l : List A) → Refuses (OfText s) (nth k l)
  unfolding nth
  nth_of k [] = record { only = another s Missing refl }
  nth_of zero (x ∷ l) = refuses_answer (OfText s) x
  nth_of (suc k) (x ∷ l) = nth_of k l

  module _ (a : Answer Index) (q : Refuses (OfText s) a) where
    pub file_front : (k : ℕ) → Refuses (OfText s) (file_in k a)
    file_front k = refuses_then (OfText s) a _ q (λ x. nth_of k x.files)

    pub rows_front : (room k : ℕ) → Refuses (OfText s) (rows_for room (file_in k a))
    rows_front room k =
        refuses_then (OfText s) (file_in k a) _ (file_front k) (λ f. refuses_require (OfText s) (leb (length f.rows * 5) room) Short _ (another s Short refl) (refuses_answer (OfText s) f.rows))

    pub whole_front : (entries rows : ℕ) → Refuses (OfText s) (whole_for s entries rows a)
    whole_front entries rows =
        refuses_then (OfText s) a _ q (λ x. refuses_require (OfText s) (has_room s entries rows x) Short _ (another s Short refl) (refuses_answer (OfText s) x))
