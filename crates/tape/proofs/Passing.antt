-- One element more of a tape, for walks over its list: fronts that grow by it, and the bytes of the store before it.
use mathlib.Core.Path.{◌≡◌, refl, sym, ◌∙◌, ap}
use mathlib.Core.List.{List, [], ◌∷◌, ◌++◌, append_assoc, append-nil}
use Prim.Native.Nat.{ℕ, zero, suc, ◌+◌, ◌≤◌, min}
use native.Mathlib.Omega.{arith}
use lib.ListN.{length, take, drop, length-append, length-take}
use lib.Seq.{drop-append-add}
use Rattle.tape.specs.Tape.{Element, Tape, store, content}
use Rattle.tape.specs.Answers.{bytes_before}
use Rattle.tape.specs.Steps.{Encoded}
use Rattle.tape.proofs.Keeping.{Present, store_front}

module _ {A : Type 0} where
  pub take_next : (t : List A) (n : ℕ) (e : A) (rest : List A) → drop n t ≡ e ∷ rest → take (suc n) t ≡ take n t ++ e ∷ []
  take_next [] zero e rest d = let z : ◌≡◌ {A = ℕ} 0 1 = cc in absurd (omega arith)
  take_next [] (suc n) e rest d = let z : ◌≡◌ {A = ℕ} 0 1 = cc in absurd (omega arith)
  take_next (f ∷ t) zero e rest d = let z : f ≡ e = cc in rw z
  take_next (f ∷ t) (suc n) e rest d = ap (λ (u : List A). f ∷ u) (take_next t n e rest d)

  pub drop_next : (t : List A) (n : ℕ) (e : A) (rest : List A) → drop n t ≡ e ∷ rest → drop (suc n) t ≡ rest
  drop_next [] zero e rest d = let z : ◌≡◌ {A = ℕ} 0 1 = cc in absurd (omega arith)
  drop_next [] (suc n) e rest d = let z : ◌≡◌ {A = ℕ} 0 1 = cc in absurd (omega arith)
  drop_next (f ∷ t) zero e rest d = cc
  drop_next (f ∷ t) (suc n) e rest d = drop_next t n e rest d

  pub length_taken : (t : List A) (n : ℕ) (e : A) (rest : List A) → drop n t ≡ e ∷ rest → length (take n t) ≡ n
  length_taken [] zero e rest d = refl
  length_taken [] (suc n) e rest d = let z : ◌≡◌ {A = ℕ} 0 1 = cc in absurd (omega arith)
  length_taken (f ∷ t) zero e rest d = refl
  length_taken (f ∷ t) (suc n) e rest d = ap suc (length_taken t n e rest d)

store_snoc : (t : Tape) (e : Element) → store (t ++ e ∷ []) ≡ store t ++ content e
unfolding store
store_snoc [] e = append-nil (content e)
store_snoc (f ∷ t) e = rw (store_snoc t e, append_assoc (content f) (store t) (content e))

module _ (t : Tape) (n : ℕ) (e : Element) (rest : Tape) (d : drop n t ≡ e ∷ rest) where
  pub bytes_next : bytes_before t (suc n) ≡ bytes_before t n + length (content e)
  bytes_next = ap (λ (u : Tape). length (store u)) (take_next t n e rest d) ∙ ap length (store_snoc (take n t) e) ∙ length-append (store (take n t)) (content e)

pub bytes_within : (t : Tape) (n : ℕ) → bytes_before t n ≤ length (store t)
bytes_within t n =
    let e : min (bytes_before t n) (length (store t)) ≡ bytes_before t n = sym (length-take (bytes_before t n) (store t)) ∙ ap length (store_front n t) in
    omega arith

-- the store from element n on
pub drop_store : (t : Tape) (n : ℕ) → drop (bytes_before t n) (store t) ≡ store (drop n t)
unfolding store
drop_store t zero = refl
drop_store [] (suc n) = refl
drop_store (e ∷ t) (suc n) = rw (length-append (content e) (store (take n t)), drop-append-add (content e) (store t) (bytes_before t n)) (drop_store t n)

-- what was checked can be walked
pub encoded : (l s : List ℕ) (count : ℕ) → Present l s count → Encoded l s count
encoded l s count p = record { tape = p.tape; encodes = p.encodes; counted = p.count }
