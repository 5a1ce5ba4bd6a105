-- Walking a list that a tape is known to stand in: the entry at a place is the next element's, and the walk over n entries reaches
-- behind `take n`.
use Rattle.std.specs.Prelude.{None, Some}
use mathlib.Core.Path.{◌≡◌, refl, sym, ◌∙◌, ap}
use mathlib.Core.Bool.{true}
use mathlib.Core.List.{List, [], ◌∷◌, ◌++◌}
use Prim.Native.Nat.{ℕ, zero, suc, ◌+◌, ◌-◌, ◌≤◌, ◌<◌}
use native.Mathlib.Nat.{add-zero}
use native.Mathlib.Omega.{arith}
use lib.ListN.{length, get_or, take, drop, length-append, length-drop}
use lib.Seq.{get_or-drop, drop-drop, drop-append_seam, take-append_seam}
use borrow.Author.Tests.{lt-ltb, le-ltb, le-leb}
use Rattle.slices.proofs.Booleans.{and_parts}
use Rattle.tape.specs.declared.Entry.{Entry}
use Rattle.tape.specs.declared.Entry.TheVariants.{Mark, Block, Unreadable, End}
use Rattle.big_endian.specs.BigEndian.{bytes_say}
use Rattle.big_endian.proofs.Left.{length_big_endian}
use Rattle.big_endian.proofs.Said.{said_bytes}
use Rattle.tape.specs.declared.Cell.{Cell}
use Rattle.tape.specs.declared.Cell.TheVariants.{Mark as mark_cell, Block as block_cell, Unreadable as unreadable_cell}
use Rattle.tape.specs.Tape.{Element, mark, block, unreadable, Tape, cell_of, four_bytes, entry, content, list, store, is_block_length, is_lawful_cell, lawful_tape}
use Rattle.tape.specs.ReadingSteps.{entry_at, number_at, size}
use Rattle.tape.specs.declared.Front.{Front}
use Rattle.tape.specs.WalkSteps.{passed, past, reach}
use Rattle.tape.proofs.Entries.{length_between}

-- what a cell's entry is read as
abbrev pub entry_for : Cell → ℕ → Entry
entry_for mark_cell at = Mark (at + 1)
entry_for (block_cell n) at = Block n (at + 5)
entry_for unreadable_cell at = Unreadable (at + 1)

-- the width of an entry
abbrev pub width : Cell → ℕ
width mark_cell = 1
width (block_cell n) = 5
width unreadable_cell = 1

pub length_entry : (c : Cell) → length (entry c) ≡ width c
unfolding entry
length_entry mark_cell = refl
length_entry (block_cell n) = ap suc (length_big_endian 4 n)
length_entry unreadable_cell = refl

-- an element's bytes are as many as the list says
pub size_content : (e : Element) → size (cell_of e) ≡ length (content e)
unfolding content
size_content mark = refl
size_content (block x) = refl
size_content unreadable = refl

byte_at : (l : List ℕ) (at : ℕ) (s : List ℕ) → drop at l ≡ s → (i : ℕ) → get_or l (at + i) 0 ≡ get_or s i 0
byte_at l at s h i = sym (get_or-drop at l i 0) ∙ ap (λ (x : List ℕ). get_or x i 0) h

room_at : (l : List ℕ) (at b : ℕ) (s : List ℕ) → drop at l ≡ b ∷ s → at + suc (length s) ≡ length l
room_at l at b s h = let e : length (drop at l) ≡ suc (length s) = ap length h in let f : length l - at ≡ suc (length s) = sym (length-drop at l) ∙ e in omega arith

-- a length is read as it was written
number_read : (n : ℕ) (s : List ℕ) → is_block_length n ≡ true → bytes_say (take 4 (four_bytes n ++ s)) ≡ n
number_read n s h =
    let small = length_between n h in
    ap bytes_say (ap (λ (k : ℕ). take k (four_bytes n ++ s)) (sym (length_big_endian 4 n)) ∙ take-append_seam (four_bytes n) s) ∙ said_bytes 4 n (omega arith)

pub entry_here : (l : List ℕ) (at : ℕ) (c : Cell) (s : List ℕ) → is_lawful_cell c ≡ true → drop at l ≡ entry c ++ s → entry_at l at ≡ entry_for c at
unfolding entry_at entry
entry_here l at mark_cell s h d =
    let r = room_at l at 1 s d in
    let b : get_or l at 0 ≡ 1 = rw add-zero at (byte_at l at _ d 0) in
    simp (lt-ltb at (length l) (omega arith), b)
entry_here l at (block_cell n) s h d =
    let r = room_at l at 2 _ d in
    let w : length (four_bytes n ++ s) ≡ 4 + length s = length-append (four_bytes n) s ∙ ap (λ (k : ℕ). k + length s) (length_big_endian 4 n) in
    let b : get_or l at 0 ≡ 2 = rw add-zero at (byte_at l at _ d 0) in
    let v : number_at l (at + 1) ≡ n = ap (λ (t : List ℕ). bytes_say (take 4 t)) (sym (drop-drop 1 at l) ∙ ap (drop 1) d) ∙ number_read n s h in
    simp (lt-ltb at (length l) (omega arith), b, le-leb (at + 5) (length l) (omega arith), v, h)
entry_here l at unreadable_cell s h d =
    let r = room_at l at 3 s d in
    let b : get_or l at 0 ≡ 3 = rw add-zero at (byte_at l at _ d 0) in
    simp (lt-ltb at (length l) (omega arith), b)

pub entry_none : (l : List ℕ) (at : ℕ) → drop at l ≡ [] → entry_at l at ≡ End
unfolding entry_at
entry_none l at d =
    let e : length l - at ≡ 0 = sym (length-drop at l) ∙ ap length d in
    simp (le-ltb at (length l) (omega arith))

-- behind an element
pub next_here : (l : List ℕ) (at : ℕ) (c : Cell) (s : List ℕ) → drop at l ≡ entry c ++ s → drop (at + width c) l ≡ s
next_here l at c s d = sym (drop-drop (width c) at l) ∙ ap (drop (width c)) d ∙ rw (← length_entry c) (drop-append_seam (entry c) s)

pub reach_done : (l : List ℕ) (at v left : ℕ) → left ≤ 0 → reach left l at v ≡ record { list = at; store = v }
unfolding reach
reach_done l at v zero h = refl
reach_done l at v (suc left) h = absurd (omega arith)

-- an element passed, or the end of the walk
pub reach_passed : (l : List ℕ) (at v left : ℕ) {x : Cell × ℕ} → 0 < left → passed (entry_at l at) ≡ Some x → reach left l at v ≡ reach (left - 1) l x.1 (v + size x.0)
unfolding reach
reach_passed l at v zero h q = absurd (omega arith)
reach_passed l at v (suc left) h q = let e : suc left - 1 ≡ left = omega arith in rw (q, e)

pub reach_stopped : (l : List ℕ) (at v left : ℕ) → 0 < left → passed (entry_at l at) ≡ None → reach left l at v ≡ record { list = at; store = v }
unfolding reach
reach_stopped l at v zero h q = absurd (omega arith)
reach_stopped l at v (suc left) h q = rw q

-- a cell's entry is passed by its width
pub passed_cell : (c : Cell) (at : ℕ) → passed (entry_for c at) ≡ Some (c, at + width c)
passed_cell mark_cell at = refl
passed_cell (block_cell n) at = refl
passed_cell unreadable_cell at = refl

-- past a cell's entry: by its width in the list, by its size in the store
pub past_cell : (walk : ℕ → ℕ → Front) (at v : ℕ) (c : Cell) → past walk (record { list = at; store = v }) (passed (entry_for c at)) ≡ walk (at + width c) (v + size c)
past_cell walk at v c = rw (passed_cell c at)

-- the walk over an element
pub reach_element : (n : ℕ) (l : List ℕ) (at v : ℕ) (e : Element) (s : List ℕ) → is_lawful_cell (cell_of e) ≡ true → drop at l ≡ entry (cell_of e) ++ s
    → reach (suc n) l at v ≡ reach n l (at + width (cell_of e)) (v + length (content e))
unfolding reach
reach_element n l at v e s h d = rw (entry_here l at (cell_of e) s h d) (past_cell (reach n l) at v (cell_of e) ∙ rw (size_content e))

-- the walk over n entries of a tape reaches behind its first n elements
pub reach_tape : (n : ℕ) (l : List ℕ) (at v : ℕ) (t : Tape) → lawful_tape t ≡ true → drop at l ≡ list t
    → reach n l at v ≡ record { list = at + length (list (take n t)); store = v + length (store (take n t)) }
unfolding list store lawful_tape
reach_tape zero l at v t h d = reach_done l at v zero (omega arith) ∙ rw (add-zero at, add-zero v)
reach_tape (suc n) l at v [] h d = reach_stopped l at v (suc n) (omega arith) (ap passed (entry_none l at d)) ∙ rw (add-zero at, add-zero v)
reach_tape (suc n) l at v (e ∷ t) h d =
    let c : Cell = cell_of e in
    let (ok, rest) = and_parts (is_lawful_cell (cell_of e)) (lawful_tape t) h in
    let a : (at + width (cell_of e)) + length (list (take n t)) ≡ at + length (entry (cell_of e) ++ list (take n t))
    = omega (arith, length-append (entry (cell_of e)) (list (take n t)), length_entry (cell_of e)) in
    let b : (v + length (content e)) + length (store (take n t)) ≡ v + length (content e ++ store (take n t))
    = omega (arith, length-append (content e) (store (take n t))) in
    reach_element n l at v e (list t) ok d
    ∙ reach_tape n l (at + width c) (v + length (content e)) t rest (next_here l at c (list t) d) ∙ rw (a, b)
