-- A list and a store are continued (02, Item 14) exactly where the longer ones encode the elements that they encoded, and others behind
-- these; and what n elements keep of them, as long as they have so many, is kept of the longer ones.
use Rattle.std.specs.Prelude.{None, Option, Some, Ok}
use mathlib.Core.Path.{◌≡◌, refl, sym, ◌∙◌, ap, subst}
use mathlib.Core.List.{List, [], ◌∷◌, ◌++◌, append_assoc}
use Prim.Native.Nat.{ℕ, zero, suc, ◌+◌, ◌≤◌, ◌<◌}
use native.Mathlib.Omega.{arith}
use lib.ListN.{length, take, drop, length-append, length-drop, get_or-append}
use lib.Seq.{take-append-le, drop-append-le}
use borrow.Author.Tests.{lt-ltb, le-leb}
use Rattle.refusals.specs.Refusals.{and_then}
use Rattle.big_endian.specs.BigEndian.{bytes_say}
use Rattle.tape.specs.declared.Entry.{Entry}
use Rattle.tape.specs.declared.Entry.TheVariants.{Mark, Block, Unreadable, End, Bad}
use Rattle.tape.specs.declared.Cell.{Cell}
use Rattle.tape.specs.declared.Cell.TheVariants.{Mark as mark_cell, Block as block_cell, Unreadable as unreadable_cell}
use Rattle.tape.specs.Tape.{Tape, cell_of, entry, content, list, store, Encodes}
use Rattle.tape.specs.ReadingSteps.{entry_at, number_at, and_behind, cells_from, cells, added, size, total, filled, tape_of}
use Rattle.tape.specs.Answers.{or_refused, tape_in, Fronts, kept, keeping}
use Rattle.tape.specs.Continued.{Continued}
use Rattle.tape.proofs.Entries.{entry_by}
use Rattle.tape.proofs.Encoding.{added_some, read_encoded, filled_with_lem, encodes_own, tape_read, one_tape}
use Rattle.tape.proofs.Again.{encodes_kept}

-- the elements of one list in front of others
abbrev InFront : List Cell → List Cell → Type 0
InFront cs ds = (more : List Cell) × (ds ≡ cs ++ more)

module _ (l x : List ℕ) where
  -- an entry of a list stands where it stood, however the list goes on
  abbrev StandsOn : ℕ → Entry → Type 0
  StandsOn at (Mark next) = entry_at (l ++ x) at ≡ Mark next
  StandsOn at (Block n next) = entry_at (l ++ x) at ≡ Block n next
  StandsOn at (Unreadable next) = entry_at (l ++ x) at ≡ Unreadable next
  StandsOn at End = length l ≤ at
  StandsOn at Bad = at < length l

  number_on : (at : ℕ) → at + 4 ≤ length l → number_at (l ++ x) at ≡ number_at l at
  number_on at h =
      ap (λ (s : List ℕ). bytes_say (take 4 s)) (drop-append-le at l x (omega arith))
      ∙ ap bytes_say (take-append-le 4 (drop at l) x (simp length-drop (omega arith)))

  stands_on : (at : ℕ) → StandsOn at (entry_at l at)
  unfolding entry_at
  stands_on at =
      entry_by (StandsOn at) l at
      (λ h k. simp (lt-ltb at (length (l ++ x)) (omega (arith, length-append l x)), get_or-append l x 0 at h ∙ k))
      (λ h k. simp (lt-ltb at (length (l ++ x)) (omega (arith, length-append l x)), get_or-append l x 0 at h ∙ k))
      (λ h k y. simp (
        lt-ltb at (length (l ++ x)) (omega (arith, length-append l x)),
        get_or-append l x 0 at (omega arith) ∙ k,
        le-leb (at + 5) (length (l ++ x)) (omega (arith, length-append l x)),
        number_on (at + 1) (omega arith),
        y,
      ))
      (λ h. h) (λ h. h)

  -- the elements that two readings find, the second of the longer list: those of the first are the first of the second's
  abbrev ReadOn : (ℕ → Option (List Cell)) → (ℕ → Option (List Cell)) → ℕ → Type 0
  ReadOn old new at = (cs ds : List Cell) → old at ≡ Some cs → new at ≡ Some ds → InFront cs ds

  -- one element, and those behind it
  one_on : (c : Cell) (o p : Option (List Cell)) (cs ds : List Cell) → ((es fs : List Cell) → o ≡ Some es → p ≡ Some fs → InFront es fs)
      → added c o ≡ Some cs → added c p ≡ Some ds → InFront cs ds
  one_on c o p cs ds behind x y =
      let a = added_some c o cs x in
      let b = added_some c p ds y in
      let r = behind a.rest b.rest a.gives b.gives in
      (r.0, b.is ∙ ap (λ (es : List Cell). c ∷ es) r.1 ∙ ap (λ (es : List Cell). es ++ r.0) (sym a.is))

  entry_on : (old new : ℕ → Option (List Cell)) → ((next : ℕ) → ReadOn old new next) → (at : ℕ) (e : Entry) → StandsOn at e
      → (cs ds : List Cell) → and_behind old e ≡ Some cs → and_behind new (entry_at (l ++ x) at) ≡ Some ds → InFront cs ds
  entry_on old new behind at (Mark next) s cs ds p q = one_on mark_cell (old next) (new next) cs ds (behind next) p (rw s at q)
  entry_on old new behind at (Block n next) s cs ds p q = one_on (block_cell n) (old next) (new next) cs ds (behind next) p (rw s at q)
  entry_on old new behind at (Unreadable next) s cs ds p q = one_on unreadable_cell (old next) (new next) cs ds (behind next) p (rw s at q)
  entry_on old new behind at End s cs ds p q = let z : [] ≡ cs = cc in (ds, ap (λ (es : List Cell). es ++ ds) z)
  entry_on old new behind at Bad s cs ds p q = let z : ◌≡◌ {A = ℕ} 0 1 = cc in absurd (omega arith)

  cells_on : (n m at : ℕ) → ReadOn (cells_from n l) (cells_from m (l ++ x)) at
  unfolding cells_from
  cells_on zero m at cs ds p q = let z : ◌≡◌ {A = ℕ} 0 1 = cc in absurd (omega arith)
  cells_on (suc n) zero at cs ds p q = let z : ◌≡◌ {A = ℕ} 0 1 = cc in absurd (omega arith)
  cells_on (suc n) (suc m) at cs ds p q =
      entry_on (cells_from n l) (cells_from m (l ++ x)) (cells_on n m) at (entry_at l at) (stands_on at) cs ds p q

-- and so are their bytes
filled_on : (cs more : List Cell) (s y : List ℕ) → total cs ≡ length s → filled (cs ++ more) (s ++ y) ≡ filled cs s ++ filled more y
unfolding filled total
filled_on [] more [] y h = refl
filled_on [] more (b ∷ s) y h = absurd (omega arith)
filled_on (c ∷ cs) more s y h =
    rw (
      take-append-le (size c) s y (omega arith),
      drop-append-le (size c) s y (omega arith),
      filled_on cs more (drop (size c) s) y (simp length-drop (omega arith)),
    )

-- a list and a store that begin with those of a tape are those of a tape that begins with it
tape_on : (l s x y : List ℕ) (t t' : Tape) → tape_of l s ≡ Some t → tape_of (l ++ x) (s ++ y) ≡ Some t' → (u : Tape) × (t' ≡ t ++ u)
unfolding tape_of
tape_on l s x y t t' p q =
    let a = filled_with_lem s (cells l) t p in
    let b = filled_with_lem (s ++ y) (cells (l ++ x)) t' q in
    let r = cells_on l x (suc (length l)) (suc (length (l ++ x))) 0 a.read b.read a.gives b.gives in (
      filled r.0 y,
      sym b.is
          ∙ ap (λ (cs : List Cell). filled cs (s ++ y)) r.1
          ∙ filled_on a.read r.0 s y a.all
          ∙ ap (λ (u : Tape). u ++ filled r.0 y) a.is,
    )

module _ {l s l' s' : List ℕ} (c : Continued l s l' s') (t : Tape) (h : tape_in l s ≡ Ok t) where
  pub tape_continued : (u : Tape) × (tape_in l' s' ≡ Ok (t ++ u))
  tape_continued =
      let e : tape_of (l ++ c.in_list.0) (s ++ c.in_store.0) ≡ Some c.tape = rw (← c.in_list.1, ← c.in_store.1) (tape_read l' s' c.tape c.well_formed) in
      let r = tape_on l s c.in_list.0 c.in_store.0 t c.tape (tape_read l s t h) e in
      (r.0, c.well_formed ∙ ap Ok r.1)

  -- what n elements keep of the old list and store they keep of the new ones
  pub kept_continued : (n : ℕ) → n ≤ length t → keeping n l' s' ≡ keeping n l s
  unfolding keeping
  kept_continued n few = let r = tape_continued in rw (r.1, h, take-append-le n t r.0 few)

list_append : (t u : Tape) → list (t ++ u) ≡ list t ++ list u
unfolding list
list_append [] u = refl
list_append (e ∷ t) u = ap (λ (l : List ℕ). entry (cell_of e) ++ l) (list_append t u) ∙ sym (append_assoc (entry (cell_of e)) (list t) (list u))

store_append : (t u : Tape) → store (t ++ u) ≡ store t ++ store u
unfolding store
store_append [] u = refl
store_append (e ∷ t) u = ap (λ (s : List ℕ). content e ++ s) (store_append t u) ∙ sym (append_assoc (content e) (store t) (store u))

-- whatever elements come behind those of a tape, marks, blocks or unreadable blocks, within the bounds
pub continued_by : {l s l' s' : List ℕ} (t u : Tape) → Encodes l s t → Encodes l' s' (t ++ u) → Continued l s l' s'
continued_by t u e f =
    record {
      in_list = (list u, f.lists ∙ list_append t u ∙ ap (λ (x : List ℕ). x ++ list u) (sym e.lists));
      in_store = (store u, f.stores ∙ store_append t u ∙ ap (λ (x : List ℕ). x ++ store u) (sym e.stores));
      tape = t ++ u;
      well_formed = ap or_refused (read_encoded f);
    }

-- where n elements keep the same bytes of two lists and stores, they are the same elements
pub elements_alike : (l s l' s' : List ℕ) (n : ℕ) (t : Tape) → tape_in l s ≡ Ok t → keeping n l' s' ≡ keeping n l s
    → (t' : Tape) × (tape_in l' s' ≡ Ok t') × (take n t' ≡ take n t)
unfolding keeping
elements_alike l s l' s' n t h e = go (tape_of l' s') refl (rw h at e)
  where
    go : (o : Option Tape) → tape_of l' s' ≡ o → and_then (or_refused o) (λ u. Ok (kept n u)) ≡ Ok (kept n t)
        → (t' : Tape) × (or_refused o ≡ Ok t') × (take n t' ≡ take n t)
    go None q e = let z : ◌≡◌ {A = ℕ} 0 1 = cc in absurd (omega arith)
    go (Some t') q e =
        let same : kept n t' ≡ kept n t = cc in
        let a = encodes_kept n (encodes_own l' s' t' q) in
        let b = encodes_kept n (encodes_own l s t (tape_read l s t h)) in
        (t', refl, one_tape (subst (λ (f : Fronts). Encodes f.list f.store (take n t')) same a) b)
