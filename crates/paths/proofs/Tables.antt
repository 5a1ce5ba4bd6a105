-- The paths by a table whose parents are before their entries and whose names lie in the text: none is refused; that of an entry directly below the root
-- is its name, and that of any other is its parent's, `/`, and its name.
use Rattle.std.specs.Prelude.{Ok}
use mathlib.Core.Path.{◌≡◌, refl, ap, sym, ◌∙◌}
use mathlib.Core.Bool.{true}
use mathlib.Core.List.{List, [], ◌++◌}
use Prim.Native.Nat.{ℕ, zero, suc, ◌+◌, ◌%◌, ◌<◌, ◌≤◌}
use native.Mathlib.Omega.{arith}
use borrow.Author.Tests.{lt-ltb, le-leb}
use lib.Dec.{ltb, leb}
use lib.ListN.{length}
use Rattle.refusals.specs.Refusals.{Answer, and_then}
use Rattle.slices.specs.Words.{bytes}
use Rattle.slices.proofs.Booleans.{and_both}
use Rattle.paths.specs.Paths.{entry_count, parent_of, name_at, name_length, name_of, is_placed, path_down, path_of}
use Rattle.paths.specs.Steps.{is_answer, path_bytes}
use Rattle.paths.proofs.Walks.{below, down_root, down_placed, answered_on, root_answered}
use Rattle.paths.proofs.Delivering.{in_table, its_path}

pub record InOrder (text entries : List ℕ) : Type 0 where
  pub nines : length entries % 9 ≡ 0
  pub parents : (n : ℕ) → 0 < n → n < entry_count entries → parent_of entries n < n
  pub names : (n : ℕ) → 0 < n → n < entry_count entries → name_at entries n + name_length entries n ≤ length text

-- the path of an entry n below one that is not the root
pub record PathUnder (text entries : List ℕ) (n : ℕ) : Type 0 where
  pub above : List ℕ
  pub parent : path_of text entries (parent_of entries n) ≡ Ok above
  pub path : path_of text entries n ≡ Ok (above ++ bytes "/" ++ name_of text entries n)

module _ (text entries : List ℕ) (t : InOrder text entries) where
  placed : (n : ℕ) → 0 < n → n < entry_count entries → is_placed text entries n ≡ true
  unfolding is_placed
  placed n h k =
      and_both (ltb (parent_of entries n) n) (leb (name_at entries n + name_length entries n) (length text))
      (lt-ltb _ _ (t.parents n h k)) (le-leb _ _ (t.names n h k))

  answered_from : (n : ℕ) → n < entry_count entries → ((p : ℕ) → p < n → p < entry_count entries → is_answer (path_down text entries p) ≡ true)
      → is_answer (path_down text entries n) ≡ true
  answered_from zero k above = root_answered text entries 0 refl
  answered_from (suc n) k above =
      let p = t.parents (suc n) (omega arith) k in
      answered_on text entries (suc n) (omega arith) (placed (suc n) (omega arith) k) ∙ above (parent_of entries (suc n)) p (omega arith)

  answered : (most n : ℕ) → n ≤ most → n < entry_count entries → is_answer (path_down text entries n) ≡ true
  answered zero n h k = root_answered text entries n (omega arith)
  answered (suc most) n h k = answered_from n k (λ p l q. answered most p (omega arith) q)

  -- each entry has a path
  pub path_answered : (n : ℕ) → n < entry_count entries → path_of text entries n ≡ Ok (path_bytes text entries n)
  path_answered n k = its_path text entries n t.nines k (answered n n (omega arith) k)

  pub path_root : 0 < entry_count entries → path_of text entries 0 ≡ Ok []
  path_root k = in_table text entries 0 t.nines k ∙ down_root text entries

  module _ (n : ℕ) (h : 0 < n) (k : n < entry_count entries) where
    from_parent : path_of text entries n ≡ and_then (path_down text entries (parent_of entries n)) (λ above. Ok (below (parent_of entries n) above (name_of text entries n)))
    from_parent = in_table text entries n t.nines k ∙ down_placed text entries n h (placed n h k)

    pub path_top : parent_of entries n ≡ 0 → path_of text entries n ≡ Ok (name_of text entries n)
    path_top z =
        from_parent
        ∙ ap (λ (p : ℕ). and_then (path_down text entries p) (λ above. Ok (below p above (name_of text entries n)))) z
        ∙ ap (λ (a : Answer (List ℕ)). and_then a (λ above. Ok (name_of text entries n))) (down_root text entries)

    pub path_under : 0 < parent_of entries n → PathUnder text entries n
    path_under z =
        let p = t.parents n h k in
        let in_it : parent_of entries n < entry_count entries = omega arith in
        let parent = path_answered (parent_of entries n) in_it in
        let down = sym (in_table text entries (parent_of entries n) t.nines in_it) ∙ parent in
        record {
          above = path_bytes text entries (parent_of entries n);
          parent = parent;
          path =
              from_parent
              ∙ ap (λ (a : Answer (List ℕ)). and_then a (λ above. Ok (below (parent_of entries n) above (name_of text entries n)))) down
              ∙ ap Ok (go (parent_of entries n) z (path_bytes text entries (parent_of entries n)));
        }
      where
        go : (p : ℕ) → 0 < p → (above : List ℕ) → below p above (name_of text entries n) ≡ above ++ bytes "/" ++ name_of text entries n
        go zero y above = absurd (omega arith)
        go (suc p) y above = refl
