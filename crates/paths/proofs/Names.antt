-- What an entry adds to the path of its parent: below the root its name, elsewhere `/` and its name; how long that is, and how it is written in front.
use Rattle.refusals.specs.declared.Refusal.{Refusal}
use Rattle.std.specs.Prelude.{Result, Some}
use mathlib.Core.Path.{◌≡◌, refl, ap, sym, ◌∙◌}
use mathlib.Core.List.{List, [], ◌∷◌, ◌++◌, append_assoc}
use Prim.Native.Nat.{ℕ, zero, suc, ◌+◌, ◌-◌, ◌≤◌}
use native.Mathlib.Nat.{zero-add}
use native.Mathlib.Omega.{arith}
use borrow.Author.Tests.{le-leb}
use lib.ListN.{length, take, drop, set, length-take, length-drop, length-append}
use lib.Seq.{append_snoc}
use Rattle.refusals.specs.Refusals.{shown_bytes}
use Rattle.slices.specs.Slices.{written}
use Rattle.slices.specs.Words.{bytes}
use Rattle.slices.proofs.Writing.{from_written, length_written, written_cons, written_nil}
use Rattle.slices.specs.Writers.{Puts}
use Rattle.slices.proofs.Writers.{stored_whole}
use Rattle.texts.proofs.Entities.{decoded_shorter}
use Rattle.paths.specs.Paths.{parent_of, name_at, name_length, name_of}
use Rattle.paths.specs.Steps.{path_bytes, WritesLast, size_for}
use Rattle.paths.proofs.Walks.{below, down_root, Up}

-- a run written in front of another
pub written_before : (v w b : List ℕ) → length v ≤ length b → written 0 v (written (length v) w b) ≡ written 0 (v ++ w) b
unfolding written
written_before v w b h =
    ap (λ (l : List ℕ). v ++ l) (ap (λ (n : ℕ). drop n (written (length v) w b)) (zero-add (length v)) ∙ from_written (length v) w b h)
    ∙ sym (append_assoc v w (drop (length v + length w) b))
    ∙ ap (λ (n : ℕ). v ++ w ++ drop n b) (sym (length-append v w) ∙ sym (zero-add (length (v ++ w))))

module _ (text entries : List ℕ) where
  pub name_short : (n : ℕ) → length (name_of text entries n) ≤ length text
  unfolding name_of
  name_short n =
      let s : List ℕ = drop (name_at entries n) text in
      omega (arith, decoded_shorter (take (name_length entries n) s), length-take (name_length entries n) s, length-drop (name_at entries n) text)

  root_bytes : path_bytes text entries 0 ≡ []
  unfolding path_bytes
  root_bytes = ap shown_bytes (down_root text entries)

  module _ (n : ℕ) (z : n ≡ 0) where
    pub root_length : length (path_bytes text entries n) ≡ 0
    root_length = ap (λ (k : ℕ). length (path_bytes text entries k)) z ∙ ap length root_bytes

    pub root_written : (out : List ℕ) → written 0 (path_bytes text entries n) out ≡ out
    root_written out = ap (λ (k : ℕ). written 0 (path_bytes text entries k) out) z ∙ ap (λ (w : List ℕ). written 0 w out) root_bytes ∙ written_nil 0 out

  module _ (n : ℕ) (u : Up text entries n) where
    -- directly below the root
    module _ (z : parent_of entries n ≡ 0) where
      top_parent : path_bytes text entries (parent_of entries n) ≡ []
      top_parent = ap (path_bytes text entries) z ∙ root_bytes

      pub top_bytes : path_bytes text entries n ≡ name_of text entries n
      top_bytes = u.bytes ∙ ap (λ (p : ℕ). below p (path_bytes text entries (parent_of entries n)) (name_of text entries n)) z

      pub top_length : length (path_bytes text entries n) ≡ length (path_bytes text entries (parent_of entries n)) + length (name_of text entries n)
      top_length = ap length top_bytes ∙ rw (top_parent, zero-add)

      pub top_put : {at : ℕ} {w before after : List ℕ} {r : (Result ℕ Refusal)} → w ≡ name_of text entries n → length (path_bytes text entries n) ≤ length before
          → length (path_bytes text entries n) ≡ at + length w → Puts at w before after r → WritesLast text entries n before after at
      top_put {at} {w} {before} {after} {r} named h e p =
          let l = top_length in
          let k = ap length named in
          let q = ap length top_parent in
          let a : at ≡ 0 = omega arith in
          let stored : after ≡ written at w before = p.holds ∙ stored_whole at w before (omega arith) in
          record {
            ends = omega arith;
            long = ap length stored ∙ length_written at w before (omega arith);
            left =
                ap (λ (v : List ℕ). written 0 v after) top_parent
                ∙ written_nil 0 after
                ∙ stored
                ∙ ap (λ (k : ℕ). written k w before) a
                ∙ ap (λ (v : List ℕ). written 0 v before) (named ∙ sym top_bytes);
          }

    -- below an entry that is not the root
    module _ (z : parent_of entries n ≡ 0 → ⊥) where
      pub under_bytes : path_bytes text entries n ≡ path_bytes text entries (parent_of entries n) ++ 47 ∷ name_of text entries n
      unfolding bytes
      under_bytes = u.bytes ∙ go (parent_of entries n) z (path_bytes text entries (parent_of entries n))
        where
          go : (p : ℕ) → (p ≡ 0 → ⊥) → (above : List ℕ) → below p above (name_of text entries n) ≡ above ++ 47 ∷ name_of text entries n
          go zero k above = absurd (k refl)
          go (suc p) k above = append_snoc above 47 (name_of text entries n)

      pub under_length : length (path_bytes text entries n) ≡ length (path_bytes text entries (parent_of entries n)) + (length (name_of text entries n) + 1)
      under_length = ap length under_bytes ∙ rw length-append (omega arith)

      pub under_put : {from : ℕ} {w before after : List ℕ} {r : (Result ℕ Refusal)} → w ≡ name_of text entries n → length (path_bytes text entries n) ≤ length before
          → length (path_bytes text entries n) ≡ from + length w → Puts from w before after r → WritesLast text entries n before (set after (from - 1) 47) (from - 1)
      under_put {from} {w} {before} {after} {r} named h e p =
          let l = under_length in
          let k = ap length named in
          let above : List ℕ = path_bytes text entries (parent_of entries n) in
          let a : from - 1 ≡ length above = omega arith in
          let b : from ≡ from - 1 + 1 = omega arith in
          let stored : after ≡ written (from - 1 + 1) w before = p.holds ∙ stored_whole from w before (omega arith) ∙ ap (λ (k : ℕ). written k w before) b in
          let both : set after (from - 1) 47 ≡ written (from - 1) (47 ∷ w) before
          = ap (λ (o : List ℕ). set o (from - 1) 47) stored ∙ written_cons (from - 1) 47 w before (omega arith) in
          record {
            ends = a;
            long = ap length both ∙ length_written (from - 1) (47 ∷ w) before (omega arith);
            left =
                ap (written 0 above) (both ∙ ap (λ (k : ℕ). written k (47 ∷ w) before) a)
                ∙ written_before above (47 ∷ w) before (omega arith)
                ∙ ap (λ (v : List ℕ). written 0 v before) (ap (λ (v : List ℕ). above ++ 47 ∷ v) named ∙ sym under_bytes);
          }

    pub parts_fit : length (path_bytes text entries (parent_of entries n)) + length (name_of text entries n) ≤ length (path_bytes text entries n)
    parts_fit = go (parent_of entries n) refl
      where
        go : (p : ℕ) → parent_of entries n ≡ p → length (path_bytes text entries (parent_of entries n)) + length (name_of text entries n) ≤ length (path_bytes text entries n)
        go zero e = omega (arith, top_length e)
        go (suc p) e = omega (arith, under_length (λ z. let q : suc p ≡ 0 = sym e ∙ z in omega arith))

-- the size of a path, by the room that there is
module _ (room : ℕ) (w : List ℕ) where
  pub fits : (n : ℕ) → n ≡ length w → n ≤ room → Some n ≡ size_for room w
  fits n e h = let k : length w ≤ room = omega arith in rw (le-leb _ _ k) (ap Some e)
