-- The labels of two partitions, check by check: what follows from each that fails, and what where none does; a side of them.
use Rattle.std.specs.Prelude.{Err, None, Ok, Option, Some}
use mathlib.Core.Path.{◌≡◌, sym, ap, ◌∙◌}
use mathlib.Core.Bool.{true, false}
use mathlib.Core.List.{List}
use Prim.Native.Nat.{ℕ, ◌+◌, ◌-◌}
use native.Mathlib.Omega.{arith}
use lib.ListN.{length, take, drop}
use lib.Seq.{length-take-le}
use Rattle.refusals.specs.declared.Refusal.{Refusal}
use Rattle.refusals.specs.declared.Refusal.TheVariants as refusal
use Rattle.tape.specs.Tape.{Tape}
use Rattle.tape.specs.Answers.{tape_in, or_refused, element_count}
use Rattle.label.specs.TextPlaces.{text_places}
use Rattle.labels.specs.Labels.{is_laid, bytes_at, labels_from, labels_of, labels_in}
use Rattle.labels.specs.Places.{places_moved, places_on}
use Rattle.labels.specs.declared.Layout.{Layout}
use Rattle.labels.specs.Steps.{LaysOut}
use Rattle.labels.proofs.Blocks.{LaidOut, laid_out, not_laid}
use Rattle.tape.proofs.Entries.{Bytes}
use Rattle.tape.proofs.Keeping.{present}

-- from the lists and the stores
module _ (il il' dl dl' : List ℕ) where
  pub no_list : {r : Refusal} → tape_in il il' ≡ Err r → Err r ≡ labels_in il il' dl dl'
  unfolding labels_in
  no_list e = rw e

  module _ {i : Tape} (e₀ : tape_in il il' ≡ Ok i) where
    pub no_data_list : {r : Refusal} → tape_in dl dl' ≡ Err r → Err r ≡ labels_in il il' dl dl'
    unfolding labels_in
    no_data_list e = rw (e₀, e)

    module _ {d : Tape} (e₁ : tape_in dl dl' ≡ Ok d) where
      pub no_layout : is_laid i ≡ false → Err refusal.Layout ≡ labels_in il il' dl dl'
      unfolding labels_in labels_of
      no_layout e = rw (e₀, e₁, e)

      pub no_data_layout : is_laid i ≡ true → is_laid d ≡ false → Err refusal.Layout ≡ labels_in il il' dl dl'
      unfolding labels_in labels_of
      no_data_layout e f = rw (e₀, e₁, e, f)

      pub in_parts : {n m k j : ℕ} → LaidOut il' i n m → LaidOut dl' d k j
          → labels_from (take n il') (take (n + m - n) (drop n il')) (take k dl') (take (k + j - k) (drop k dl')) ≡ labels_in il il' dl dl'
      unfolding labels_in labels_of
      in_parts {n} {m} {k} {j} p q =
          let a : n + m - n ≡ m = omega arith in
          let b : k + j - k ≡ j = omega arith in
          rw (e₀, e₁, p.laid, q.laid, a, b, p.vol1, p.text, q.vol1, q.text)

-- the places of the index side's texts
pub places_laid : (il il' : List ℕ) {i : Tape} {n m : ℕ} → tape_in il il' ≡ Ok i → LaidOut il' i n m
    → places_moved n (text_places (take (n + m - n) (drop n il'))) ≡ places_on (tape_in il il')
places_laid il il' {i} {n} {m} e p =
    let a : n + m - n ≡ m = omega arith in
    let b : n ≡ length (bytes_at i 0) = sym (length-take-le n il' (omega (arith, p.within))) ∙ ap length p.vol1 in
    rw (e, a, p.text) (ap (λ (k : ℕ). places_moved k (text_places (bytes_at i 2))) b)

-- the list l and the store s of one side, whose elements were found and whose blocks were laid out
pub record Side (l s : List ℕ) (x : Layout) : Type 0 where
  pub tape : Tape
  pub read : tape_in l s ≡ Ok tape
  pub blocks : LaidOut s tape x.vol1 x.text

module _ (l s : List ℕ) {n : ℕ} (w : Bytes l) (e : Ok n ≡ element_count l s) where
  pub side : {o : Option Layout} (x : Layout) → LaysOut l o → o ≡ Some x → Side l s x
  side x y h =
      let p = present l s n w e in
      record { tape = p.tape; read = ap or_refused p.read; blocks = laid_out p.tape x p.encodes (sym h ∙ y _ _ p.encodes) }

  -- or were not
  pub record NoSide : Type 0 where
    pub tape : Tape
    pub read : tape_in l s ≡ Ok tape
    pub blocks : is_laid tape ≡ false

  pub no_side : {o : Option Layout} → LaysOut l o → o ≡ None → NoSide
  no_side y h =
      let p = present l s n w e in
      record { tape = p.tape; read = ap or_refused p.read; blocks = not_laid p.tape (sym h ∙ y _ _ p.encodes) }

  -- a tape was found
  pub record Found : Type 0 where
    pub tape : Tape
    pub read : tape_in l s ≡ Ok tape

  pub found : Found
  found = let p = present l s n w e in record { tape = p.tape; read = ap or_refused p.read }
