-- The tape that is read is the tape that is encoded: `tape_of` answers t exactly where the list and the store encode t. So a list and a
-- store have at most one tape.
use Rattle.std.specs.Prelude.{None, Option, Some, Ok}
use mathlib.Core.Path.{◌≡◌, refl, sym, ◌∙◌, ap, subst}
use mathlib.Core.Bool.{Bool, true, cond, ◌&&◌}
use mathlib.Core.List.{List, [], ◌∷◌, ◌++◌, map}
use Prim.Native.Nat.{ℕ, zero, suc, ◌+◌, ◌≤◌, ◌<◌}
use native.Mathlib.Omega.{arith}
use lib.Dec.{leb, eqb}
use lib.ListN.{length, take, drop, length-append, length-map, length-drop, take-append-drop}
use lib.Seq.{take-append_seam, drop-append_seam, length-take-le}
use borrow.Author.Tests.{leb-true, eqb-true, le-leb, eq-eqb}
use Rattle.slices.proofs.Booleans.{split, and_parts}
use Rattle.tape.specs.declared.Entry.{Entry}
use Rattle.tape.specs.declared.Entry.TheVariants.{Mark, Block, Unreadable, End, Bad}
use Rattle.tape.specs.declared.Cell.{Cell}
use Rattle.tape.specs.declared.Cell.TheVariants.{Mark as mark_cell, Block as block_cell, Unreadable as unreadable_cell}
use Rattle.tape.specs.Tape.{Element, mark, block, unreadable, Tape, cell_of, entry, content, list, store, is_block_length, is_lawful_cell, lawful_tape, max_elements, max_store, Encodes}
use Rattle.tape.specs.ReadingSteps.{entry_at, and_behind, cells_from, cells, added, size, total, element_of, filled, within_bounds, filled_with, tape_of}
use Rattle.tape.specs.Answers.{or_refused, tape_in}
pub use Rattle.tape.proofs.Entries.{Bytes}
use Rattle.tape.proofs.Entries.{entry_by, spells_as}
use Rattle.tape.proofs.Counting.{length_filled}
use Rattle.tape.proofs.Walking.{entry_for, width, length_entry, size_content, entry_here, entry_none, next_here}

some_width : (c : Cell) → 1 ≤ width c
some_width mark_cell = omega arith
some_width (block_cell n) = omega arith
some_width unreadable_cell = omega arith

-- each element has at least a byte in the list
elements_few : (t : Tape) → length t ≤ length (list t)
unfolding list
elements_few [] = omega arith
elements_few (e ∷ t) =
    omega (arith, length-append (entry (cell_of e)) (list t), length_entry (cell_of e), some_width (cell_of e), elements_few t)

behind_cell : (behind : ℕ → Option (List Cell)) (c : Cell) (at : ℕ) → and_behind behind (entry_for c at) ≡ added c (behind (at + width c))
behind_cell behind mark_cell at = refl
behind_cell behind (block_cell n) at = refl
behind_cell behind unreadable_cell at = refl

-- a list is read back, element by element
pub cells_list : (n : ℕ) (l : List ℕ) (at : ℕ) (t : Tape) → lawful_tape t ≡ true → drop at l ≡ list t → length t < n → cells_from n l at ≡ Some (map cell_of t)
unfolding cells_from list lawful_tape added
cells_list zero l at t h d few = absurd (omega arith)
cells_list (suc n) l at [] h d few = rw (entry_none l at d)
cells_list (suc n) l at (e ∷ t) h d few =
    let c : Cell = cell_of e in
    let (ok, rest) = and_parts (is_lawful_cell (cell_of e)) (lawful_tape t) h in
    rw (entry_here l at c (list t) ok d, behind_cell (cells_from n l) c at, cells_list n l (at + width c) t rest (next_here l at c (list t) d) (omega arith))

element_again : (e : Element) → element_of (cell_of e) (content e) ≡ e
unfolding content
element_again mark = refl
element_again (block x) = refl
element_again unreadable = refl

pub filled_store : (t : Tape) → filled (map cell_of t) (store t) ≡ t
unfolding filled store
filled_store [] = refl
filled_store (e ∷ t) =
    rw (size_content e, take-append_seam (content e) (store t), drop-append_seam (content e) (store t), filled_store t, element_again e)

pub total_store : (t : Tape) → total (map cell_of t) ≡ length (store t)
unfolding total store
total_store [] = refl
total_store (e ∷ t) = rw (length-append (content e) (store t), total_store t, size_content e)

-- an encoded tape is read
pub read_encoded : {l s : List ℕ} {t : Tape} → Encodes l s t → tape_of l s ≡ Some t
unfolding tape_of filled_with
read_encoded {l} {s} {t} e =
    let few : length (map cell_of t) ≤ max_elements = rw (length-map t cell_of) e.elements in
    let bytes : length (store t) ≤ max_store = rw e.stores at e.bytes in
    let read : cells l ≡ Some (map cell_of t) = cells_list (suc (length l)) l 0 t e.blocks e.lists (omega (arith, elements_few t, ap length e.lists)) in
    rw (
      read,
      e.stores,
      le-leb (length (map cell_of t)) max_elements few,
      eq-eqb (total (map cell_of t)) (length (store t)) (total_store t),
      le-leb (length (store t)) max_store bytes,
      filled_store t,
    )

-- what of `Encodes` goes element by element
record Spelt (l s : List ℕ) (t : Tape) : Type 0 where
  lists : l ≡ list t
  stores : s ≡ store t
  blocks : lawful_tape t ≡ true

pub record Added (c : Cell) (o : Option (List Cell)) (cs : List Cell) : Type 0 where
  pub rest : List Cell
  pub gives : o ≡ Some rest
  pub is : cs ≡ c ∷ rest

pub added_some : (c : Cell) (o : Option (List Cell)) (cs : List Cell) → added c o ≡ Some cs → Added c o cs
unfolding added
added_some c None cs e = let z : ◌≡◌ {A = ℕ} 0 1 = cc in absurd (omega arith)
added_some c (Some ds) cs e = record { rest = ds; gives = refl; is = cc }

Back : Option (List Cell) → List ℕ → Type 0
Back o l = (s : List ℕ) (cs : List Cell) → o ≡ Some cs → total cs ≡ length s → Spelt l s (filled cs s)

-- the element of a cell with as many bytes as it says: it has these bytes, and the list says that cell of it
content_of : (c : Cell) (x : List ℕ) → length x ≡ size c → content (element_of c x) ≡ x
unfolding content
content_of mark_cell [] h = refl
content_of mark_cell (b ∷ x) h = absurd (omega arith)
content_of (block_cell n) x h = refl
content_of unreadable_cell [] h = refl
content_of unreadable_cell (b ∷ x) h = absurd (omega arith)

cell_again : (c : Cell) (x : List ℕ) → length x ≡ size c → cell_of (element_of c x) ≡ c
cell_again mark_cell x h = refl
cell_again (block_cell n) x h = ap block_cell h
cell_again unreadable_cell x h = refl

-- one element more in front
one_spelt : (c : Cell) (l : List ℕ) (rest : List Cell) (s : List ℕ) → is_lawful_cell c ≡ true → size c + total rest ≡ length s
    → Spelt l (drop (size c) s) (filled rest (drop (size c) s)) → Spelt (entry c ++ l) s (filled (c ∷ rest) s)
unfolding list store lawful_tape filled
one_spelt c l rest s h k b =
    let w : length (take (size c) s) ≡ size c = length-take-le (size c) s (omega arith) in
    record {
      lists = rw (cell_again c (take (size c) s) w, ← b.lists);
      stores = sym (take-append-drop (size c) s) ∙ rw (content_of c (take (size c) s) w, ← b.stores);
      blocks = rw (cell_again c (take (size c) s) w, h) b.blocks;
    }

left_over : (c : Cell) (rest : List Cell) (s : List ℕ) → size c + total rest ≡ length s → total rest ≡ length (drop (size c) s)
left_over c rest s k = simp length-drop (omega arith)

more_back : (c : Cell) (o : Option (List Cell)) (l : List ℕ) → Back o l → is_lawful_cell c ≡ true → Back (added c o) (entry c ++ l)
unfolding Back total
more_back c o l back h s cs e k =
    let a = added_some c o cs e in
    let k' : size c + total a.rest ≡ length s = sym (ap total a.is) ∙ k in
    rw a.is (one_spelt c l a.rest s h k' (back (drop (size c) s) a.rest a.gives (left_over c a.rest s k')))

nothing_back : (s : List ℕ) → 0 ≡ length s → Spelt [] s (filled [] s)
unfolding filled list store lawful_tape
nothing_back [] k = record { lists = refl; stores = refl; blocks = refl }
nothing_back (b ∷ s) k = absurd (omega arith)

none_back : Back (Some []) []
unfolding Back total
none_back s cs e k = let q : [] ≡ cs = cc in subst (λ (ds : List Cell). total ds ≡ length s → Spelt [] s (filled ds s)) q (nothing_back s) k

-- the entry at a place, and those behind it
module _ (l : List ℕ) (w : Bytes l) where
  entry_back : (at : ℕ) (behind : ℕ → Option (List Cell)) → ((next : ℕ) → Back (behind next) (drop next l)) → (x : Entry) → entry_at l at ≡ x
      → Back (and_behind behind x) (drop at l)
  unfolding Back
  entry_back at behind back (Mark next) q =
      subst (Back (added mark_cell (behind next))) (sym (spells_as l at w q)) (more_back mark_cell (behind next) (drop next l) (back next) refl)
  entry_back at behind back (Block n next) q =
      let (d, h) = spells_as l at w q in
      subst (Back (added (block_cell n) (behind next))) (sym d) (more_back (block_cell n) (behind next) (drop next l) (back next) h)
  entry_back at behind back (Unreadable next) q =
      subst (Back (added unreadable_cell (behind next))) (sym (spells_as l at w q)) (more_back unreadable_cell (behind next) (drop next l) (back next) refl)
  entry_back at behind back End q = subst (Back (Some [])) (sym (spells_as l at w q)) none_back
  entry_back at behind back Bad q = λ s cs e k. let z : ◌≡◌ {A = ℕ} 0 1 = cc in absurd (omega arith)

  back_from : (n at : ℕ) → Back (cells_from n l at) (drop at l)
  unfolding Back cells_from
  back_from zero at = λ s cs e k. let z : ◌≡◌ {A = ℕ} 0 1 = cc in absurd (omega arith)
  back_from (suc n) at = entry_back at (cells_from n l) (back_from n) (entry_at l at) refl

-- the cells of a tape that is read: as many elements and bytes as the bounds allow
pub record Filled (s : List ℕ) (o : Option (List Cell)) (t : Tape) : Type 0 where
  pub read : List Cell
  pub gives : o ≡ Some read
  pub few : length read ≤ max_elements
  pub all : total read ≡ length s
  pub small : length s ≤ max_store
  pub is : filled read s ≡ t

pub filled_with_lem : (s : List ℕ) (o : Option (List Cell)) (t : Tape) → filled_with s o ≡ Some t → Filled s o t
unfolding filled_with
filled_with_lem s None t f = let z : ◌≡◌ {A = ℕ} 0 1 = cc in absurd (omega arith)
filled_with_lem s (Some cs) t f =
    split (λ x. cond x (Some (filled cs s)) None ≡ Some t → Filled s (Some cs) t) (within_bounds cs s)
    (λ x g.
    let (both, small) = and_parts (leb (length cs) max_elements && eqb (total cs) (length s)) (leb (length s) max_store) x in
    let (few, all) = and_parts (leb (length cs) max_elements) (eqb (total cs) (length s)) both in
    record {
      read = cs;
      gives = refl;
      few = leb-true (length cs) max_elements few;
      all = eqb-true (total cs) (length s) all;
      small = leb-true (length s) max_store small;
      is = cc;
    })
    (λ x g. let z : ◌≡◌ {A = ℕ} 0 1 = cc in absurd (omega arith))
    f

-- a tape that is read is encoded
pub encodes_read : (l s : List ℕ) (t : Tape) → Bytes l → tape_of l s ≡ Some t → Encodes l s t
unfolding tape_of Back
encodes_read l s t w e =
    let f = filled_with_lem s (cells l) t e in
    let b = back_from l w (suc (length l)) 0 s f.read f.gives f.all in
    subst (λ (u : Tape). Encodes l s u) f.is
    record { lists = b.lists; stores = b.stores; blocks = b.blocks; elements = rw (length_filled f.read s) f.few; bytes = f.small }

-- whatever numbers stand in a list, its elements have a list of their own
Own : Option (List Cell) → Type 0
Own o = (s : List ℕ) (cs : List Cell) → o ≡ Some cs → total cs ≡ length s → (l : List ℕ) × Spelt l s (filled cs s)

more_own : (c : Cell) (o : Option (List Cell)) → Own o → is_lawful_cell c ≡ true → Own (added c o)
unfolding Own total
more_own c o own h s cs e k =
    let a = added_some c o cs e in
    let k' : size c + total a.rest ≡ length s = sym (ap total a.is) ∙ k in
    let (l, b) = own (drop (size c) s) a.rest a.gives (left_over c a.rest s k') in
    rw a.is (entry c ++ l, one_spelt c l a.rest s h k' b)

-- an entry of a block has a lawful length
abbrev is_lawful_entry : Entry → Bool
is_lawful_entry (Mark next) = true
is_lawful_entry (Block n next) = is_block_length n
is_lawful_entry (Unreadable next) = true
is_lawful_entry End = true
is_lawful_entry Bad = true

lawful_entry : (l : List ℕ) (at : ℕ) → is_lawful_entry (entry_at l at) ≡ true
lawful_entry l at = entry_by (λ e. is_lawful_entry e ≡ true) l at (λ h k. refl) (λ h k. refl) (λ h k y. y) (λ h. refl) (λ h. refl)

entry_own : (behind : ℕ → Option (List Cell)) → ((next : ℕ) → Own (behind next)) → (x : Entry) → is_lawful_entry x ≡ true → Own (and_behind behind x)
unfolding Own Back
entry_own behind own (Mark next) h = more_own mark_cell (behind next) (own next) refl
entry_own behind own (Block n next) h = more_own (block_cell n) (behind next) (own next) h
entry_own behind own (Unreadable next) h = more_own unreadable_cell (behind next) (own next) refl
entry_own behind own End h = λ s cs e k. ([], none_back s cs e k)
entry_own behind own Bad h = λ s cs e k. let z : ◌≡◌ {A = ℕ} 0 1 = cc in absurd (omega arith)

own_from : (l : List ℕ) (n at : ℕ) → Own (cells_from n l at)
unfolding Own cells_from
own_from l zero at = λ s cs e k. let z : ◌≡◌ {A = ℕ} 0 1 = cc in absurd (omega arith)
own_from l (suc n) at = entry_own (cells_from n l) (own_from l n) (entry_at l at) (lawful_entry l at)

-- a tape that is read is encoded by its own list
pub encodes_own : (l s : List ℕ) (t : Tape) → tape_of l s ≡ Some t → Encodes (list t) s t
unfolding tape_of Own
encodes_own l s t e =
    let f = filled_with_lem s (cells l) t e in
    let (own, b) = own_from l (suc (length l)) 0 s f.read f.gives f.all in
    subst (λ (u : Tape). Encodes (list u) s u) f.is
    record { lists = refl; stores = b.stores; blocks = b.blocks; elements = rw (length_filled f.read s) f.few; bytes = f.small }

-- a tape that is answered is read
pub tape_read : (l s : List ℕ) (t : Tape) → tape_in l s ≡ Ok t → tape_of l s ≡ Some t
tape_read l s t h = go (tape_of l s) h
  where
    go : (o : Option Tape) → or_refused o ≡ Ok t → o ≡ Some t
    go None e = let z : ◌≡◌ {A = ℕ} 0 1 = cc in absurd (omega arith)
    go (Some u) e = let z : u ≡ t = cc in ap Some z

-- a list and a store have at most one tape
pub one_tape : {l s : List ℕ} {t u : Tape} → Encodes l s t → Encodes l s u → t ≡ u
one_tape a b = let p = read_encoded a in let q = read_encoded b in cc
