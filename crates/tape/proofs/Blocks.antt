-- A block by its number: the walk ends where it stands, and its bytes are a part of the store.
use Rattle.std.specs.Prelude.{None, Option, Some, Err, Ok, slice_get}
use mathlib.Core.Path.{◌≡◌, refl, sym, ◌∙◌, ap, subst}
use mathlib.Core.Bool.{Bool, true, false, cond}
use mathlib.Core.List.{List, [], ◌∷◌, ◌++◌}
use Prim.Native.Nat.{ℕ, zero, suc, ◌+◌, ◌≤◌}
use native.Mathlib.Nat.{add-zero, zero-add}
use native.Mathlib.Omega.{arith}
use lib.ListN.{length, take, drop, length-append}
use lib.Seq.{take-append_seam, drop-append-add}
use borrow.Author.Tests.{leb-true}
use lib.Dec.{leb, eqb}
use Rattle.refusals.specs.declared.Refusal.{Refusal}
use Rattle.refusals.specs.declared.Refusal.TheVariants as refusal
use Rattle.refusals.specs.Refusals.{Answer, require, and_then}
use Rattle.quantities.specs.Letters.{are_letters}
use Rattle.tape.specs.declared.Entry.{Entry}
use Rattle.tape.specs.declared.Front.{Front}
use Rattle.tape.specs.declared.Spot.{Spot}
use Rattle.tape.specs.Tape.{Tape, Element, mark, block, unreadable, cell_of, list, store, content, is_lawful_cell, lawful_tape}
use Rattle.tape.specs.ReadingSteps.{entry_at, tape_of}
use Rattle.tape.specs.WalkSteps.{passed, reach, spot_of, spot_at, spot_below}
use Rattle.tape.specs.declared.StorePart.{StorePart}
use Rattle.tape.specs.Answers.{or_refused, place_of, place_on, as_block, block_on, block_of, element_count, store_of, Holds}
use Rattle.tape.specs.Steps.{FindsBlock}
use Rattle.slices.proofs.Booleans.{split, and_parts}
use Rattle.tape.proofs.Walking.{entry_for, width, entry_here, entry_none, next_here, reach_done, reach_stopped, reach_element}
use Rattle.tape.proofs.Entries.{Bytes}
use Rattle.tape.proofs.Encoding.{encodes_read}
use Rattle.tape.proofs.Keeping.{Present, absent}

-- the spot from the walk's end and the entry there
pub spot_as : (l : List ℕ) (n : ℕ) {f : Front} {e a : Entry} → f ≡ reach n l 0 0 → e ≡ entry_at l f.list → e ≡ a → spot_of f.store a ≡ spot_at l n
unfolding spot_at
spot_as l n {f} {e} {a} w q g = rw (← g, q, w)

-- an element as a spot
abbrev pub spot_for : ℕ → Option Element → Answer Spot
spot_for v o = and_then (as_block o) (λ x. Ok (record { from = v; size = length x }))

spot_element : (v at : ℕ) (e : Element) → spot_of v (entry_for (cell_of e) at) ≡ spot_for v (Some e)
spot_element v at mark = refl
spot_element v at (block x) = refl
spot_element v at unreadable = refl

-- the walk over n entries of a tape ends at element n
spot_from : (n : ℕ) (l : List ℕ) (at v : ℕ) (t : Tape) → lawful_tape t ≡ true → drop at l ≡ list t
    → spot_of (reach n l at v).store (entry_at l (reach n l at v).list) ≡ spot_for (v + length (store (take n t))) (slice_get t n)
unfolding list store lawful_tape
spot_from zero l at v [] h d = rw (reach_done l at v zero (omega arith), entry_none l at d)
spot_from zero l at v (e ∷ t) h d =
    let (ok, rest) = and_parts (is_lawful_cell (cell_of e)) (lawful_tape t) h in
    rw (reach_done l at v zero (omega arith), entry_here l at (cell_of e) (list t) ok d)
    (spot_element v at e ∙ ap (λ x. spot_for x (Some e)) (sym (add-zero v)))
spot_from (suc n) l at v [] h d = rw (reach_stopped l at v (suc n) (omega arith) (ap passed (entry_none l at d)), entry_none l at d)
spot_from (suc n) l at v (e ∷ t) h d =
    let (ok, rest) = and_parts (is_lawful_cell (cell_of e)) (lawful_tape t) h in
    let f : (v + length (content e)) + length (store (take n t)) ≡ v + length (content e ++ store (take n t))
    = omega (arith, length-append (content e) (store (take n t))) in
    rw (reach_element n l at v e (list t) ok d, ← f)
    (spot_from n l (at + width (cell_of e)) (v + length (content e)) t rest (next_here l at (cell_of e) (list t) d))

pub spot_of_lem : (n count : ℕ) (l s : List ℕ) (p : Present l s count) → spot_at l n ≡ spot_for (length (store (take n p.tape))) (slice_get p.tape n)
unfolding spot_at
spot_of_lem n count l s p = rw (zero-add (length (store (take n p.tape)))) at (spot_from n l 0 0 p.tape p.encodes.blocks p.encodes.lists)

past_end : (t : Tape) (n : ℕ) → length t ≤ n → slice_get t n ≡ None
past_end [] n h = refl
past_end (e ∷ t) zero h = absurd (omega arith)
past_end (e ∷ t) (suc n) h = past_end t n (omega arith)

below_of : (n count : ℕ) (l s : List ℕ) (p : Present l s count) → spot_below count l n ≡ spot_for (length (store (take n p.tape))) (slice_get p.tape n)
below_of n count l s p =
    split (λ b. cond b (Err refusal.Missing) (spot_at l n) ≡ spot_for (length (store (take n p.tape))) (slice_get p.tape n)) (leb count n)
    (λ e. rw (past_end p.tape n (rw p.count (leb-true count n e))))
    (λ e. spot_of_lem n count l s p)

-- what a spot on one side answers
abbrev pub place_from : Bool → Answer Spot → Answer StorePart
place_from side a = and_then a (λ p. Ok (record { on_index = side; from = p.from; size = p.size }))

placed : (side : Bool) (v : ℕ) (o : Option Element) → and_then (as_block o) (λ x. Ok (record { on_index = side; from = v; size = length x })) ≡ place_from side (spot_for v o)
placed side v None = refl
placed side v (Some mark) = refl
placed side v (Some (block x)) = refl
placed side v (Some unreadable) = refl

module _ (i d c n : ℕ) (l s l' s' : List ℕ) where
  pub place_letters : are_letters i d c ≡ false → place_of i d c n l s l' s' ≡ Err refusal.Caller
  unfolding place_of
  place_letters h = rw h

  module _ (h : are_letters i d c ≡ true) where
    pub place_index : (r : Refusal) → Err r ≡ element_count l s → place_of i d c n l s l' s' ≡ Err r
    unfolding place_of
    place_index r e = rw (h, absent l s r e)

    module _ (count : ℕ) (p : Present l s count) where
      pub place_data : (r : Refusal) → Err r ≡ element_count l' s' → place_of i d c n l s l' s' ≡ Err r
      unfolding place_of
      place_data r e = rw (h, p.read, absent l' s' r e)

      -- both tapes are there: the spot on the side that the letter picks
      pub place_found : (count' : ℕ) → Present l' s' count' → (side : Bool) → eqb c i ≡ side → (x : Answer Spot)
          → x ≡ spot_below (cond side count count') (cond side l l') n → place_of i d c n l s l' s' ≡ place_from side x
      unfolding place_of
      place_found count' q true e x f =
          rw (h, p.read, q.read, e) (placed true _ (slice_get p.tape n) ∙ ap (place_from true) (sym (f ∙ below_of n count l s p)))
      place_found count' q false e x f =
          rw (h, p.read, q.read, e) (placed false _ (slice_get q.tape n) ∙ ap (place_from false) (sym (f ∙ below_of n count' l' s' q)))

-- block n is a part of the store
pub block_bytes : (t : Tape) (n : ℕ) (x : List ℕ) → slice_get t n ≡ Some (block x)
    → (take (length x) (drop (length (store (take n t))) (store t)) ≡ x) × (length (store (take n t)) + length x ≤ length (store t))
unfolding store content
block_bytes [] n x e = let z : ◌≡◌ {A = ℕ} 0 1 = cc in absurd (omega arith)
block_bytes (mark ∷ t) zero x e = let z : mark ≡ block x = cc in let y : ◌≡◌ {A = ℕ} 0 1 = cc in absurd (omega arith)
block_bytes (unreadable ∷ t) zero x e = let z : unreadable ≡ block x = cc in let y : ◌≡◌ {A = ℕ} 0 1 = cc in absurd (omega arith)
block_bytes (block y ∷ t) zero x e =
    let p : y ≡ x = cc in
    rw p (take-append_seam x (store t), omega (arith, length-append x (store t)))
block_bytes (d ∷ t) (suc n) x e =
    let ih = block_bytes t n x e in
    let w : length (content d ++ store (take n t)) ≡ length (content d) + length (store (take n t)) = length-append (content d) (store (take n t)) in
    rw (w, drop-append-add (content d) (store t) (length (store (take n t))))
    (ih.0, let b = ih.1 in omega (arith, length-append (content d) (store t)))

-- a refusal of the place is the block's
refused_holds : (s s' : List ℕ) (r : Refusal) → Holds s s' (Err r) (Err r)
refused_holds s s' r = record { bytes = refl; inside = λ p e. let z : ◌≡◌ {A = ℕ} 0 1 = cc in absurd (omega arith) }

-- the place of a block of a tape holds it
holds_on : (side : Bool) (t : Tape) (n : ℕ) (s s' : List ℕ) (o : Option Element) → slice_get t n ≡ o → cond side s s' ≡ store t
    → Holds s s' (and_then (as_block o) (λ x. Ok (record { on_index = side; from = length (store (take n t)); size = length x }))) (as_block o)
holds_on side t n s s' None e q = refused_holds s s' refusal.Missing
holds_on side t n s s' (Some mark) e q = refused_holds s s' refusal.Missing
holds_on side t n s s' (Some unreadable) e q = refused_holds s s' refusal.Unreadable
holds_on side t n s s' (Some (block x)) e q =
    let b = block_bytes t n x e in
    let here : StorePart = record { on_index = side; from = length (store (take n t)); size = length x } in
    let fits : length (store (take n t)) + length x ≤ length (cond side s s') = rw q b.1 in
    record {
      bytes = rw q (ap Ok (sym b.0));
      inside = λ p g. let z : here ≡ p = cc in subst (λ (p : StorePart). p.from + p.size ≤ length (store_of s s' p)) z fits;
    }

module _ (i d c n : ℕ) (l s l' s' : List ℕ) (w : Bytes l) (w' : Bytes l') where
  holds_of : (a : Bool) (o o' : Option Tape) → tape_of l s ≡ o → tape_of l' s' ≡ o'
      → Holds s s' (require a refusal.Caller (and_then (or_refused o) (λ ti. and_then (or_refused o') (λ td. place_on n (eqb c i) (cond (eqb c i) ti td)))))
      (require a refusal.Caller (and_then (or_refused o) (λ ti. and_then (or_refused o') (λ td. block_on (cond (eqb c i) ti td) n))))
  holds_of false o o' e e' = refused_holds s s' refusal.Caller
  holds_of true None o' e e' = refused_holds s s' refusal.List
  holds_of true (Some t) None e e' = refused_holds s s' refusal.List
  holds_of true (Some t) (Some u) e e' =
      split (λ b. Holds s s' (place_on n b (cond b t u)) (block_on (cond b t u) n)) (eqb c i)
      (λ y. holds_on true t n s s' (slice_get t n) refl (encodes_read l s t w e).stores)
      (λ y. holds_on false u n s s' (slice_get u n) refl (encodes_read l' s' u w' e').stores)

  -- what is found holds the block
  pub finds : (a : Answer StorePart) → a ≡ place_of i d c n l s l' s' → FindsBlock i d c n l s l' s' a
  unfolding place_of block_of
  finds a e =
      subst (FindsBlock i d c n l s l' s') (sym e) record { place = refl; holds = holds_of (are_letters i d c) (tape_of l s) (tape_of l' s') refl refl }
