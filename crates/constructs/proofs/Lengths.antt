-- The walk that puts data blocks' lengths into a table.
use mathlib.Core.Path.{◌≡◌, refl, sym, ◌∙◌, ap}
use mathlib.Core.Bool.{Bool, true, false, not, cond}
use mathlib.Core.List.{List, [], ◌∷◌, map}
use Prim.Native.Nat.{ℕ, zero, suc, ◌+◌, ◌-◌, ◌≤◌}
use native.Mathlib.Numerals.{add-one}
use native.Mathlib.Omega.{arith}
use lib.ListN.{length, take, drop, set}
use lib.Seq.{sets, take_all}
use lib.Dec.{eqb}
use borrow.Author.Tests.{ne_eqb}
use Rattle.slices.proofs.Booleans.{split}
use Rattle.tape.specs.Tape.{Element, mark, block, unreadable, Tape, cell_of, Encodes}
use Rattle.tape.proofs.Encoding.{one_tape}
use Rattle.tape.specs.declared.Cell.{Cell}
use Rattle.tape.specs.declared.Cell.TheVariants.{Mark as mark_cell, Block as block_cell, Unreadable as unreadable_cell}
use Rattle.tape.specs.WalkSteps.{cells_left}
use Rattle.tape.proofs.Entries.{length_between}
use Rattle.tape.proofs.Elements.{lawful_at}
use Rattle.tape.proofs.Left.{CellAt, mark_at, block_at, unreadable_at, last_cell, left_encoded}
use Rattle.tape.proofs.Passing.{drop_next}
use Rattle.tape.specs.Steps.{Encoded}
use Rattle.constructs.specs.Constructs.{data_lengths, data_lengths_from}
use Rattle.constructs.specs.ReachSteps.{even_after, data_length, PutsLengths}
use Rattle.constructs.proofs.Sequences.{set_next}

lengths_mark : (k : ℕ) (even : Bool) (t : Tape) → data_lengths_from k even (mark ∷ t) ≡ 0 ∷ data_lengths_from (k - 1) (even_after k even) t
unfolding data_lengths_from
lengths_mark zero even t = refl
lengths_mark (suc k) even t = let e : suc k - 1 ≡ k = omega arith in simp (ne_eqb (suc k) 0 (λ q. omega arith), e)

lengths_block : (k : ℕ) (even : Bool) (x : List ℕ) (t : Tape)
    → data_lengths_from k even (block x ∷ t) ≡ data_length k even (length x) ∷ data_lengths_from (k - 1) even t
unfolding data_lengths_from
lengths_block zero true x t = refl
lengths_block zero false x t = refl
lengths_block (suc k) even x t = let e : suc k - 1 ≡ k = omega arith in simp (ne_eqb (suc k) 0 (λ q. omega arith), e)

lengths_unreadable : (k : ℕ) (even : Bool) (t : Tape) → data_lengths_from k even (unreadable ∷ t) ≡ 0 ∷ data_lengths_from (k - 1) even t
unfolding data_lengths_from
lengths_unreadable zero even t = refl
lengths_unreadable (suc k) even t = let e : suc k - 1 ≡ k = omega arith in simp (ne_eqb (suc k) 0 (λ q. omega arith), e)

-- the walk is at element at, and the list goes on to say rest
pub record LengthsAt (l s : List ℕ) (T table : List ℕ) (rest : List Cell) (at k : ℕ) (even : Bool) : Type 0 where
  pub tape : Tape
  pub encodes : Encodes l s tape
  pub room : length tape ≤ length T
  pub left : map cell_of (drop at tape) ≡ rest
  pub lengths : drop at (data_lengths tape) ≡ data_lengths_from k even (drop at tape)
  pub holds : table ≡ sets T 0 (take at (data_lengths tape))

pub lengths_start : (l s : List ℕ) (T : List ℕ) (w : (count : ℕ) × Encoded l s count × (count ≤ length T)) {rest : List Cell} {at : ℕ} → rest ≡ cells_left l 0 → at ≡ 0
    → LengthsAt l s T T rest at 4 true
lengths_start l s T w q z =
    let e = w.1 in
    rw z record { tape = e.tape; encodes = e.encodes; room = rw e.counted w.2; left = sym (q ∙ left_encoded e.encodes); lengths = refl; holds = refl }

module _ {l s : List ℕ} {T table : List ℕ} {rest cs : List Cell} {at k : ℕ} {even : Bool} (m : LengthsAt l s T table rest at k even) where
  lengths_next : (v : ℕ) (k' : ℕ) (even' : Bool) (e : Element) (w : CellAt e cs m.tape at)
      → data_lengths_from k even (e ∷ w.rest) ≡ v ∷ data_lengths_from k' even' w.rest → LengthsAt l s T (set table at v) cs (at + 1) k' even'
  lengths_next v k' even' e w q =
      let r : drop at (data_lengths m.tape) ≡ v ∷ data_lengths_from k' even' w.rest = m.lengths ∙ ap (data_lengths_from k even) w.is ∙ q in
      let d' : drop (suc at) m.tape ≡ w.rest = drop_next m.tape at e w.rest w.is in
      record {
        tape = m.tape;
        encodes = m.encodes;
        room = m.room;
        left = rw (add-one at, d') (sym w.cells);
        lengths = rw (add-one at, d') (drop_next (data_lengths m.tape) at v (data_lengths_from k' even' w.rest) r);
        holds = rw (m.holds, add-one at) (set_next T (data_lengths m.tape) at v (data_lengths_from k' even' w.rest) r);
      }

  pub lengths_past_mark : rest ≡ mark_cell ∷ cs → LengthsAt l s T (set table at 0) cs (at + 1) (k - 1) (even_after k even)
  lengths_past_mark h = let w = mark_at m.tape at (m.left ∙ h) in lengths_next 0 (k - 1) (even_after k even) mark w (lengths_mark k even w.rest)

  pub lengths_past_block : {n : ℕ} → rest ≡ block_cell n ∷ cs → LengthsAt l s T (set table at (data_length k even n)) cs (at + 1) (k - 1) even
  lengths_past_block {n} h =
      let (x, size, w) = block_at m.tape at (m.left ∙ h) in
      rw size (lengths_next (data_length k even (length x)) (k - 1) even (block x) w (lengths_block k even x w.rest))

  pub block_bound : {n : ℕ} → rest ≡ block_cell n ∷ cs → n ≤ 1048576
  block_bound {n} h =
      let (x, size, w) = block_at m.tape at (m.left ∙ h) in
      let b = length_between (length x) (lawful_at m.tape at (block x) w.rest m.encodes.blocks w.is) in
      omega (arith, b.1)

  pub lengths_past_unreadable : rest ≡ unreadable_cell ∷ cs → LengthsAt l s T (set table at 0) cs (at + 1) (k - 1) even
  lengths_past_unreadable h = let w = unreadable_at m.tape at (m.left ∙ h) in lengths_next 0 (k - 1) even unreadable w (lengths_unreadable k even w.rest)

pub length_lengths : (k : ℕ) (even : Bool) (t : Tape) → length (data_lengths_from k even t) ≡ length t
unfolding data_lengths_from
length_lengths k even [] = refl
length_lengths (suc k) even (e ∷ t) = ap suc (length_lengths k even t)
length_lengths zero even (mark ∷ t) = ap suc (length_lengths zero (not even) t)
length_lengths zero true (block x ∷ t) = ap suc (length_lengths zero true t)
length_lengths zero false (block x ∷ t) = ap suc (length_lengths zero false t)
length_lengths zero even (unreadable ∷ t) = ap suc (length_lengths zero even t)

pub lengths_end : {l s : List ℕ} {T table : List ℕ} {rest : List Cell} {at k : ℕ} {even : Bool}
    → LengthsAt l s T table rest at k even → rest ≡ [] → PutsLengths l s T table
lengths_end {T} {at = at} m done t e =
    let same : m.tape ≡ t = one_tape m.encodes e in
    let last = last_cell m.tape at (m.left ∙ done) in
    let whole : take at (data_lengths m.tape) ≡ data_lengths m.tape
    = take_all at (data_lengths m.tape) (omega (arith, length_lengths 4 true m.tape)) in
    m.holds ∙ ap (sets T 0) (whole ∙ ap data_lengths same)

pub length_at_most : (k : ℕ) (even : Bool) (n : ℕ) → data_length k even n ≤ n
length_at_most k even n =
    split (λ b. cond b (cond even n 0) 0 ≤ n) (eqb k 0)
    (λ e. split (λ b. cond b n 0 ≤ n) even (λ u. omega arith) (λ u. omega arith))
    (λ e. omega arith)
