-- What the writer of a path owes at each of its answers: 14, 2, 14, 10, and the path.
use Rattle.std.specs.Prelude.{Err, None, Ok, Some}
use mathlib.Core.Path.{◌≡◌, refl, ap, sym, ◌∙◌}
use mathlib.Core.Bool.{Bool, true, false, cond, false≢true}
use mathlib.Core.List.{List, []}
use Prim.Native.Nat.{ℕ, zero, suc, ◌%◌, ◌<◌, ◌≤◌}
use native.Mathlib.Omega.{arith}
use borrow.Author.Tests.{eq-eqb, ne_eqb, lt-ltb, le-ltb, le-leb, lt-leb, leb-true, leb-false}
use lib.Dec.{leb, eqb}
use lib.ListN.{length}
use Rattle.refusals.specs.Refusals.{Answer, require, and_then, shown_bytes}
use Rattle.refusals.specs.declared.Refusal.{Refusal}
use Rattle.refusals.specs.declared.Refusal.TheVariants.{Missing, Short, Caller}
use Rattle.slices.specs.Slices.{written}
use Rattle.paths.specs.Paths.{entry_count, parent_of, name_of, is_placed, names_down, path_down, path_of, fitting}
use Rattle.paths.specs.Steps.{is_answer, size_for, path_bytes, Delivers}
use Rattle.paths.proofs.Walks.{with_name, joining}

-- a size tells whether there is room
module _ (room : ℕ) (w : List ℕ) where
  pub had_room : (n : ℕ) → Some n ≡ size_for room w → (n ≡ length w) × (length w ≤ room)
  had_room n e = go (leb (length w) room) refl
    where
      go : (t : Bool) → leb (length w) room ≡ t → (n ≡ length w) × (length w ≤ room)
      go true k =
          let z : Some n ≡ Some (length w) = e ∙ rw k in
          let y : n ≡ length w = cc in
          (y, leb-true _ _ k)
      go false k =
          let z : Some n ≡ None = e ∙ rw k in
          let y : ◌≡◌ {A = ℕ} 0 1 = cc in
          absurd (omega arith)

  pub had_none : None ≡ size_for room w → room < length w
  had_none e = go (leb (length w) room) refl
    where
      go : (t : Bool) → leb (length w) room ≡ t → room < length w
      go false k = leb-false _ _ k
      go true k =
          let z : None ≡ Some (length w) = e ∙ rw k in
          let y : ◌≡◌ {A = ℕ} 0 1 = cc in
          absurd (omega arith)

module _ (text entries : List ℕ) where
  -- a walk up is refused with 14 alone
  names_refused : (steps n : ℕ) → is_answer (names_down text entries steps n) ≡ false → names_down text entries steps n ≡ Err Caller
  unfolding names_down
  names_refused zero n e = absurd (false≢true (sym e))
  names_refused (suc steps) n e =
      go (eqb n 0) (is_placed text entries n) (names_down text entries steps (parent_of entries n)) e (names_refused steps (parent_of entries n))
    where
      go : (root placed : Bool) (a : Answer (List (List ℕ)))
          → is_answer (cond root (Ok []) (require placed Caller (with_name (name_of text entries n) a))) ≡ false
          → (is_answer a ≡ false → a ≡ Err Caller)
          → cond root (Ok []) (require placed Caller (with_name (name_of text entries n) a)) ≡ Err Caller
      go true placed a k next = absurd (false≢true (sym k))
      go false false a k next = refl
      go false true (Err r) k next = ap (with_name (name_of text entries n)) (next refl)
      go false true (Ok above) k next = absurd (false≢true (sym k))

  path_refused : (n : ℕ) → is_answer (path_down text entries n) ≡ false → path_down text entries n ≡ Err Caller
  unfolding path_down
  path_refused n e = go (names_down text entries n n) e (names_refused n n)
    where
      go : (a : Answer (List (List ℕ))) → is_answer (joining a) ≡ false → (is_answer a ≡ false → a ≡ Err Caller) → joining a ≡ Err Caller
      go (Err r) k next = ap joining (next refl)
      go (Ok names) k next = absurd (false≢true (sym k))

  path_bytes_lem : (n : ℕ) → is_answer (path_down text entries n) ≡ true → path_down text entries n ≡ Ok (path_bytes text entries n)
  unfolding path_bytes
  path_bytes_lem n e = go (path_down text entries n) e
    where
      go : (a : Answer (List ℕ)) → is_answer a ≡ true → a ≡ Ok (shown_bytes a)
      go (Err r) k = absurd (false≢true k)
      go (Ok w) k = refl

  module _ (n : ℕ) where
    pub not_nines : (length entries % 9 ≡ 0 → ⊥) → path_of text entries n ≡ Err Caller
    unfolding path_of
    not_nines h = rw (ne_eqb _ _ h)

    pub no_entry : length entries % 9 ≡ 0 → entry_count entries ≤ n → path_of text entries n ≡ Err Missing
    unfolding path_of
    no_entry h k = rw (eq-eqb _ _ h, le-ltb _ _ k)

    module _ (h : length entries % 9 ≡ 0) (k : n < entry_count entries) where
      pub in_table : path_of text entries n ≡ path_down text entries n
      unfolding path_of
      in_table = rw (eq-eqb _ _ h, lt-ltb _ _ k)

      pub no_path : is_answer (path_down text entries n) ≡ false → path_of text entries n ≡ Err Caller
      no_path e = in_table ∙ path_refused n e

      pub its_path : is_answer (path_down text entries n) ≡ true → path_of text entries n ≡ Ok (path_bytes text entries n)
      its_path e = in_table ∙ path_bytes_lem n e

-- of a path a, where a buffer before has room for it
module _ {a : Answer (List ℕ)} (before : List ℕ) where
  pub delivers_not : (r : Refusal) → a ≡ Err r → Delivers (and_then a (fitting (length before))) before before (Err r)
  delivers_not r e = rw e record { answers = refl; holds = refl }

  module _ {w : List ℕ} (e : a ≡ Ok w) where
    pub delivers_short : None ≡ size_for (length before) w → Delivers (and_then a (fitting (length before))) before before (Err Short)
    delivers_short z = rw (e, lt-leb _ _ (had_none (length before) w z)) record { answers = refl; holds = refl }

    pub delivers : {after : List ℕ} {len : ℕ} → Some len ≡ size_for (length before) w → after ≡ written 0 w before
        → Delivers (and_then a (fitting (length before))) before after (Ok len)
    delivers {after} {len} z q =
        let (p, h) = had_room (length before) w len z in
        rw (e, le-leb _ _ h) record { answers = ap Ok p; holds = q }
