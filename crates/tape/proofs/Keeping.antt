-- What is known once a list and a store are checked, and what keeping n elements then keeps.
use Rattle.std.specs.Prelude.{None, Option, Some, Err, Ok}
use mathlib.Core.Path.{◌≡◌, refl, sym, ◌∙◌, ap}
use mathlib.Core.List.{List, [], ◌∷◌}
use Prim.Native.Nat.{ℕ, zero, suc, ◌≤◌, min}
use native.Mathlib.Nat.{zero-add, zero-min, suc-min-suc}
use native.Mathlib.Omega.{arith}
use lib.ListN.{length, take, length-append, length-take}
use lib.Seq.{take-nil, take-append-add}
use Rattle.refusals.specs.declared.Refusal.{Refusal}
use Rattle.refusals.specs.declared.Refusal.TheVariants as refusal
use Rattle.refusals.specs.Refusals.{and_then}
use Rattle.tape.specs.Tape.{Tape, list, store, entry, content, cell_of, Encodes}
use Rattle.tape.specs.ReadingSteps.{tape_of}
use Rattle.tape.specs.WalkSteps.{reach}
use Rattle.tape.specs.Answers.{or_refused, tape_in, element_count, kept, keeping}
use Rattle.tape.proofs.Entries.{Bytes}
use Rattle.tape.proofs.Encoding.{encodes_read}
use Rattle.tape.proofs.Walking.{reach_tape}

-- a list and a store that were found to have n elements
pub record Present (l s : List ℕ) (n : ℕ) : Type 0 where
  pub tape : Tape
  pub read : tape_of l s ≡ Some tape
  pub encodes : Encodes l s tape
  pub count : length tape ≡ n

pub present : (l s : List ℕ) (n : ℕ) → Bytes l → Ok n ≡ element_count l s → Present l s n
present l s n w e = go (tape_of l s) refl e
  where
    go : (o : Option Tape) → tape_of l s ≡ o → Ok n ≡ and_then (or_refused o) (λ t. Ok (length t)) → Present l s n
    go None q f = let z : ◌≡◌ {A = ℕ} 0 1 = cc in absurd (omega arith)
    go (Some t) q f = record { tape = t; read = q; encodes = encodes_read l s t w q; count = cc }

pub absent : (l s : List ℕ) (r : Refusal) → Err r ≡ element_count l s → tape_in l s ≡ Err r
absent l s r e = go (tape_of l s) e
  where
    go : (o : Option Tape) → Err r ≡ and_then (or_refused o) (λ t. Ok (length t)) → or_refused o ≡ Err r
    go None f = cc
    go (Some t) f = let z : ◌≡◌ {A = ℕ} 0 1 = cc in absurd (omega arith)

-- the refusal is 1
pub absent_list : (l s : List ℕ) (r : Refusal) → Err r ≡ element_count l s → tape_in l s ≡ Err refusal.List
absent_list l s r e = go (tape_of l s) e
  where
    go : (o : Option Tape) → Err r ≡ and_then (or_refused o) (λ t. Ok (length t)) → or_refused o ≡ Err refusal.List
    go None f = refl
    go (Some t) f = let z : ◌≡◌ {A = ℕ} 0 1 = cc in absurd (omega arith)

take_least : (n : ℕ) (t : Tape) → take (min n (length t)) t ≡ take n t
take_least n [] = rw (take-nil (min n 0), take-nil n)
take_least zero (e ∷ t) = rw (zero-min (suc (length t)))
take_least (suc n) (e ∷ t) = rw (suc-min-suc n (length t), take_least n t)

-- the fronts that n elements keep are fronts of the list and of the store
pub list_front : (n : ℕ) (t : Tape) → take (length (list (take n t))) (list t) ≡ list (take n t)
unfolding list
list_front zero t = refl
list_front (suc n) [] = refl
list_front (suc n) (e ∷ t) =
    rw (length-append (entry (cell_of e)) (list (take n t)), take-append-add (entry (cell_of e)) (list t) (length (list (take n t))), list_front n t)

pub store_front : (n : ℕ) (t : Tape) → take (length (store (take n t))) (store t) ≡ store (take n t)
unfolding store
store_front zero t = refl
store_front (suc n) [] = refl
store_front (suc n) (e ∷ t) =
    rw (length-append (content e) (store (take n t)), take-append-add (content e) (store t) (length (store (take n t))), store_front n t)

-- the walk over the smaller of n and the count reaches behind what n elements keep
pub reach_kept : (n count : ℕ) (l s : List ℕ) (p : Present l s count) → reach (min n count) l 0 0 ≡ record { list = length (list (take n p.tape)); store = length (store (take n p.tape)) }
reach_kept n count l s p =
    let t = p.tape in
    reach_tape (min n count) l 0 0 t p.encodes.blocks p.encodes.lists
    ∙ rw (zero-add (length (list (take (min n count) t))), zero-add (length (store (take (min n count) t))), ← p.count, take_least n t)

-- keeping n elements, of a tape that is there
pub keeping_present : (n count : ℕ) (l s : List ℕ) (p : Present l s count) → keeping n l s ≡ Ok (kept n p.tape)
unfolding keeping
keeping_present n count l s p = rw p.read

pub keeping_absent : (n : ℕ) (l s : List ℕ) (r : Refusal) → Err r ≡ element_count l s → keeping n l s ≡ Err r
unfolding keeping
keeping_absent n l s r e = rw (absent l s r e)

-- a front is no longer than the whole
pub front_within : (x y : List ℕ) → take (length x) y ≡ x → length x ≤ length y
front_within x y e = let f : min (length x) (length y) ≡ length x = sym (length-take (length x) y) ∙ ap length e in omega arith
