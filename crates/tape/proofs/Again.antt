-- Keeping m elements and then n is keeping the smaller of the two, of the list and of the store alike (02, Item 11); and what keeping
-- answers and hands out, with that.
use Rattle.std.specs.Prelude.{None, Option, Some, Err, Ok}
use mathlib.Core.Path.{◌≡◌, refl, sym, ◌∙◌, ap, subst}
use mathlib.Core.Bool.{true}
use mathlib.Core.List.{List, [], ◌∷◌}
use Prim.Native.Nat.{ℕ, zero, suc, ◌≤◌, min}
use native.Mathlib.Nat.{zero-min, min-zero, suc-min-suc}
use native.Mathlib.Omega.{arith}
use lib.ListN.{length, take, length-take}
use Rattle.slices.proofs.Booleans.{and_parts, and_both}
use Rattle.refusals.specs.declared.Refusal.{Refusal}
use Rattle.refusals.specs.Refusals.{Answer, and_then}
use Rattle.tape.specs.Tape.{Tape, cell_of, is_lawful_cell, lawful_tape, Encodes}
use Rattle.tape.specs.ReadingSteps.{tape_of}
use Rattle.tape.specs.Answers.{or_refused, element_count, Fronts, kept, keeping, lengths, kept_of}
use Rattle.tape.specs.declared.Front.{Front}
use Rattle.tape.specs.Again.{fronts_of, KeepsAgain}
use Rattle.tape.specs.Steps.{Keeps, KeptList, KeptStore}
use Rattle.tape.proofs.Entries.{Bytes}
use Rattle.tape.proofs.Encoding.{encodes_read, read_encoded}
use Rattle.tape.proofs.Keeping.{Present, keeping_present, keeping_absent, list_front, store_front, front_within}

take_min : (m n : ℕ) (t : Tape) → take n (take m t) ≡ take (min m n) t
take_min zero zero t = refl
take_min zero (suc n) t = rw (zero-min (suc n))
take_min (suc m) zero t = rw (min-zero (suc m))
take_min (suc m) (suc n) [] = rw (suc-min-suc m n)
take_min (suc m) (suc n) (e ∷ t) = rw (suc-min-suc m n) (ap (λ (u : Tape). e ∷ u) (take_min m n t))

lawful_front : (n : ℕ) (t : Tape) → lawful_tape t ≡ true → lawful_tape (take n t) ≡ true
unfolding lawful_tape
lawful_front zero t h = refl
lawful_front (suc n) [] h = refl
lawful_front (suc n) (e ∷ t) h =
    let (one, rest) = and_parts (is_lawful_cell (cell_of e)) (lawful_tape t) h in
    and_both (is_lawful_cell (cell_of e)) (lawful_tape (take n t)) one (lawful_front n t rest)

-- what n elements keep is well formed, and is these elements
pub encodes_kept : {l s : List ℕ} {t : Tape} (n : ℕ) → Encodes l s t → Encodes (kept n t).list (kept n t).store (take n t)
encodes_kept {l} {s} {t} n e =
    record {
      lists = refl;
      stores = refl;
      blocks = lawful_front n t e.blocks;
      elements = let few = e.elements in omega (arith, length-take n t);
      bytes = let small = e.bytes in omega (arith, front_within _ _ (store_front n t), ap length e.stores);
    }

-- of every list and store, refused ones too
pub keep_twice : (m n : ℕ) (l s : List ℕ) → Bytes l → and_then (keeping m l s) (λ f. keeping n f.list f.store) ≡ keeping (min m n) l s
unfolding keeping
keep_twice m n l s w = go (tape_of l s) refl
  where
    go : (o : Option Tape) → tape_of l s ≡ o
        → and_then (and_then (or_refused o) (λ t. Ok (kept m t)))
        (λ f. and_then (or_refused (tape_of f.list f.store)) (λ t. Ok (kept n t)))
        ≡ and_then (or_refused o) (λ t. Ok (kept (min m n) t))
    go None q = refl
    go (Some t) q = rw (read_encoded (encodes_kept m (encodes_read l s t w q)), take_min m n t)

module _ (m : ℕ) (l s : List ℕ) (w : Bytes l) where
  kept_again : (f : Fronts) → keeping m l s ≡ Ok f → KeepsAgain m l s f
  kept_again f q n = sym (ap (λ (a : Answer Fronts). and_then a (λ g. keeping n g.list g.store)) q) ∙ keep_twice m n l s w

  -- what `kept_list` and `kept_store` hand out
  pub parts_again : (x y : List ℕ) → KeptList m l s (Ok x) → KeptStore m l s (Ok y) → KeepsAgain m l s (record { list = x; store = y })
  parts_again x y p q = go (keeping m l s) refl p q
    where
      go : (a : Answer Fronts) → keeping m l s ≡ a → Ok x ≡ and_then a (λ f. Ok f.list) → Ok y ≡ and_then a (λ f. Ok f.store)
          → KeepsAgain m l s (record { list = x; store = y })
      go (Err r) e p q = cc
      go (Ok f) e p q =
          let u : x ≡ f.list = cc in
          let v : y ≡ f.store = cc in
          rw (u, v) (kept_again f e)

  -- of these parts they hand out what they hand out of the whole for the smaller number
  pub list_twice : (n : ℕ) (x y : List ℕ) (z : Answer (List ℕ)) → KeptList m l s (Ok x) → KeptStore m l s (Ok y) → KeptList n x y z → KeptList (min m n) l s z
  list_twice n x y z p q = subst (λ (a : Answer Fronts). z ≡ and_then a (λ f. Ok f.list)) (parts_again x y p q n)

  pub store_twice : (n : ℕ) (x y : List ℕ) (z : Answer (List ℕ)) → KeptList m l s (Ok x) → KeptStore m l s (Ok y) → KeptStore n x y z → KeptStore (min m n) l s z
  store_twice n x y z p q = subst (λ (a : Answer Fronts). z ≡ and_then a (λ f. Ok f.store)) (parts_again x y p q n)

  keeps : (a : Answer Front) → a ≡ kept_of m l s → keeping m l s ≡ and_then a (λ k. Ok (fronts_of k l s)) → Keeps m l s a
  keeps a h q =
      record {
        answers = h;
        bytes = q;
        again = λ k e. kept_again (fronts_of k l s) (q ∙ ap (λ (b : Answer Front). and_then b (λ j. Ok (fronts_of j l s))) e);
      }

  -- keeping of a list and a store that were checked
  pub keeps_present : (count : ℕ) (p : Present l s count) → Keeps m l s (Ok (lengths (kept m p.tape)))
  keeps_present count p =
      let t = p.tape in
      let is = keeping_present m count l s p in
      keeps (Ok (lengths (kept m t))) (rw is) (is ∙ rw (p.encodes.lists, p.encodes.stores, list_front m t, store_front m t))

  pub keeps_absent : (r : Refusal) → Err r ≡ element_count l s → Keeps m l s (Err r)
  keeps_absent r e =
      let is = keeping_absent m l s r e in
      keeps (Err r) (rw is) is

-- the parts of those lengths
pub record Parts (m : ℕ) (l s : List ℕ) (f : Front) : Type 0 where
  pub list : KeptList m l s (Ok (take f.list l))
  pub store : KeptStore m l s (Ok (take f.store s))
  pub in_list : f.list ≤ length l
  pub in_store : f.store ≤ length s

pub parts : {m : ℕ} {l s : List ℕ} {f : Front} → Keeps m l s (Ok f) → Parts m l s f
parts {m} {l} {s} {f} k =
    let q = k.bytes in
    let e : f ≡ lengths (fronts_of f l s) = cc (k.answers, q) in
    let x : f.list ≡ length (take f.list l) = ap (λ (j : Front). j.list) e in
    let y : f.store ≡ length (take f.store s) = ap (λ (j : Front). j.store) e in
    record {
      list = rw q;
      store = rw q;
      in_list = omega (arith, x, length-take f.list l);
      in_store = omega (arith, y, length-take f.store s);
    }
