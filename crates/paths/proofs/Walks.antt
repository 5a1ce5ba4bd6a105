-- The path of an entry from that of its parent: a refusal, the parent's path with `/` and the name, or the name alone below the root.
use Rattle.std.specs.Prelude.{Err, Ok}
use mathlib.Core.Path.{◌≡◌, refl, ap, sym, ◌∙◌}
use mathlib.Core.Bool.{Bool, true, false, false≢true}
use mathlib.Core.List.{List, [], ◌∷◌, ◌++◌, append_assoc}
use Prim.Native.Nat.{ℕ, zero, suc, ◌+◌, ◌<◌, ◌≤◌}
use native.Mathlib.Omega.{arith}
use borrow.Author.Tests.{ltb-true, ne_eqb, eq-eqb}
use lib.Dec.{ltb, leb, eqb}
use lib.ListN.{length}
use Rattle.refusals.specs.Refusals.{Answer, require, and_then, shown_bytes}
use Rattle.refusals.specs.declared.Refusal.TheVariants.{Caller}
use Rattle.slices.specs.Words.{bytes}
use Rattle.slices.proofs.Booleans.{and_left}
use Rattle.paths.specs.Paths.{parent_of, name_at, name_length, joined, name_of, is_placed, names_down, path_down}
use Rattle.paths.specs.Steps.{is_answer, path_bytes}

-- a name more at the end
joined_more : (y : List ℕ) (names : List (List ℕ)) (x : List ℕ) → joined (y ∷ names ++ (x ∷ [])) ≡ joined (y ∷ names) ++ bytes "/" ++ x
unfolding joined
joined_more y [] x = refl
joined_more y (z ∷ names) x =
    ap (λ (l : List ℕ). y ++ bytes "/" ++ l) (joined_more z names x)
    ∙ sym (append_assoc (y ++ bytes "/") (joined (z ∷ names) ++ bytes "/") x)
    ∙ ap (λ (l : List ℕ). l ++ x) (sym (append_assoc (y ++ bytes "/") (joined (z ∷ names)) (bytes "/")))

joined_snoc : (names : List (List ℕ)) (y x : List ℕ) → joined (names ++ (y ∷ []) ++ (x ∷ [])) ≡ joined (names ++ (y ∷ [])) ++ bytes "/" ++ x
joined_snoc [] y x = joined_more y [] x
joined_snoc (z ∷ names) y x = joined_more z (names ++ (y ∷ [])) x

-- names with one more, and names joined
abbrev pub with_name : List ℕ → Answer (List (List ℕ)) → Answer (List (List ℕ))
with_name x a = and_then a (λ above. Ok (above ++ (x ∷ [])))

abbrev pub joining : Answer (List (List ℕ)) → Answer (List ℕ)
joining a = and_then a (λ names. Ok (joined names))

-- what an entry with that name adds to the path of its parent p
abbrev pub below : ℕ → List ℕ → List ℕ → List ℕ
below zero above name = name
below (suc p) above name = above ++ bytes "/" ++ name

not_root : (n : ℕ) → eqb (suc n) 0 ≡ false
not_root n = ne_eqb (suc n) 0 (λ e. omega arith)

module _ (text entries : List ℕ) where
  pub placed_before : (n : ℕ) → is_placed text entries n ≡ true → parent_of entries n < n
  unfolding is_placed
  placed_before n e = ltb-true _ _ (and_left (ltb (parent_of entries n) n) (leb (name_at entries n + name_length entries n) (length text)) e)

  -- any number of steps that is no less than the entry's number
  enough : (f g n : ℕ) → n ≤ f → n ≤ g → names_down text entries f n ≡ names_down text entries g n
  unfolding names_down
  enough zero zero n h k = refl
  enough zero (suc g) n h k = let z : n ≡ 0 = omega arith in rw (eq-eqb n 0 z)
  enough (suc f) zero n h k = let z : n ≡ 0 = omega arith in rw (eq-eqb n 0 z)
  enough (suc f) (suc g) n h k = go (is_placed text entries n) refl (λ b. enough f g (parent_of entries n) (omega arith) (omega arith))
    where
      go : (t : Bool) → is_placed text entries n ≡ t
          → (parent_of entries n < n → names_down text entries f (parent_of entries n) ≡ names_down text entries g (parent_of entries n))
          → names_down text entries (suc f) n ≡ names_down text entries (suc g) n
      go true e next = rw (next (placed_before n e))
      go false e next = rw e

  -- the path of the root
  pub down_root : path_down text entries 0 ≡ Ok []
  unfolding path_down names_down joined
  down_root = refl

  pub root_answered : (n : ℕ) → n ≡ 0 → is_answer (path_down text entries n) ≡ true
  root_answered n z = ap (λ (k : ℕ). is_answer (path_down text entries k)) z ∙ ap is_answer down_root

  names_unplaced : (n : ℕ) → 0 < n → is_placed text entries n ≡ false → names_down text entries n n ≡ Err Caller
  unfolding names_down
  names_unplaced zero h e = absurd (omega arith)
  names_unplaced (suc n) h e = rw (not_root n, e)

  names_placed : (n : ℕ) → 0 < n → is_placed text entries n ≡ true
      → names_down text entries n n ≡ with_name (name_of text entries n) (names_down text entries (parent_of entries n) (parent_of entries n))
  unfolding names_down
  names_placed zero h e = absurd (omega arith)
  names_placed (suc n) h e =
      let b = placed_before (suc n) e in
      let p : ℕ = parent_of entries (suc n) in
      rw (not_root n, e, enough n p p (omega arith) (omega arith))

  -- a name below entry n is joined by `/` to the path of n
  joined_below : (n : ℕ) (x : List ℕ) → 0 < n
      → joining (with_name x (names_down text entries n n)) ≡ and_then (path_down text entries n) (λ above. Ok (above ++ bytes "/" ++ x))
  unfolding path_down names_down
  joined_below zero x h = absurd (omega arith)
  joined_below (suc n) x h = rw (not_root n) (go (is_placed text entries (suc n)) (names_down text entries n (parent_of entries (suc n))))
    where
      go : (t : Bool) (a : Answer (List (List ℕ)))
          → joining (with_name x (require t Caller (with_name (name_of text entries (suc n)) a)))
          ≡ and_then (joining (require t Caller (with_name (name_of text entries (suc n)) a))) (λ above. Ok (above ++ bytes "/" ++ x))
      go false a = refl
      go true (Err r) = refl
      go true (Ok names) = ap Ok (joined_snoc names (name_of text entries (suc n)) x)

  joined_under : (p : ℕ) (x : List ℕ)
      → joining (with_name x (names_down text entries p p)) ≡ and_then (path_down text entries p) (λ above. Ok (below p above x))
  unfolding path_down names_down joined
  joined_under zero x = refl
  joined_under (suc p) x = joined_below (suc p) x (omega arith)

  -- the path of an entry below the root, where it is placed and where it is not
  pub down_placed : (n : ℕ) → 0 < n → is_placed text entries n ≡ true
      → path_down text entries n ≡ and_then (path_down text entries (parent_of entries n)) (λ above. Ok (below (parent_of entries n) above (name_of text entries n)))
  unfolding path_down
  down_placed n h e =
      ap joining (names_placed n h e) ∙ joined_under (parent_of entries n) (name_of text entries n)

  pub down_unplaced : (n : ℕ) → 0 < n → is_placed text entries n ≡ false → path_down text entries n ≡ Err Caller
  unfolding path_down
  down_unplaced n h e = rw (names_unplaced n h e)

  -- a step up, from an entry below the root that has a path
  pub record Up (n : ℕ) : Type 0 where
    pub before : parent_of entries n < n
    pub answered : is_answer (path_down text entries (parent_of entries n)) ≡ true
    pub bytes : path_bytes text entries n ≡ below (parent_of entries n) (path_bytes text entries (parent_of entries n)) (name_of text entries n)

  module _ (n : ℕ) (h : 0 < n) where
    pub answered_off : is_placed text entries n ≡ false → is_answer (path_down text entries n) ≡ false
    answered_off e = ap is_answer (down_unplaced n h e)

    pub answered_on : is_placed text entries n ≡ true → is_answer (path_down text entries n) ≡ is_answer (path_down text entries (parent_of entries n))
    answered_on e = ap is_answer (down_placed n h e) ∙ go (path_down text entries (parent_of entries n))
      where
        go : (a : Answer (List ℕ)) → is_answer (and_then a (λ above. Ok (below (parent_of entries n) above (name_of text entries n)))) ≡ is_answer a
        go (Err r) = refl
        go (Ok above) = refl

    pub up : is_answer (path_down text entries n) ≡ true → Up n
    unfolding path_bytes
    up z = go (is_placed text entries n) refl
      where
        bytes_up : (a : Answer (List ℕ)) → is_answer a ≡ true
            → shown_bytes (and_then a (λ above. Ok (below (parent_of entries n) above (name_of text entries n)))) ≡ below (parent_of entries n) (shown_bytes a) (name_of text entries n)
        bytes_up (Err r) e = absurd (false≢true e)
        bytes_up (Ok above) e = refl

        go : (t : Bool) → is_placed text entries n ≡ t → Up n
        go true e =
            let a : is_answer (path_down text entries (parent_of entries n)) ≡ true = sym (answered_on e) ∙ z in
            record {
              before = placed_before n e;
              answered = a;
              bytes = ap shown_bytes (down_placed n h e) ∙ bytes_up (path_down text entries (parent_of entries n)) a;
            }
        go false e = absurd (false≢true (sym (answered_off e) ∙ z))
