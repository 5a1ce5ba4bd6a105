-- What stands at a place of a list: where an entry ends, and the bytes that it is spelt with.
use Rattle.std.specs.Prelude.{Some}
use mathlib.Core.Path.{◌≡◌, sym, ◌∙◌, ap, subst}
use mathlib.Core.Bool.{true, cond, ◌&&◌}
use mathlib.Core.List.{List, [], ◌∷◌, ◌++◌}
use Prim.Native.Nat.{ℕ, suc, ◌+◌, ◌*◌, ◌≤◌, ◌<◌}
use native.Mathlib.Omega.{arith}
use native.Mathlib.Nat.{add-zero, add-suc, add_assoc}
use lib.Dec.{leb, ltb, eqb}
use lib.ListN.{length, get_or, take, drop, drop_of_length-le, take-append-drop}
use lib.Seq.{drop-cons, drop-drop}
use borrow.Author.Tests.{ltb-true, ltb-false, lt-ltb, leb-true, eqb-true}
use Rattle.slices.specs.Slices.{every}
use Rattle.slices.proofs.Booleans.{split, and_parts}
use Rattle.digits.specs.Runs.{value}
use Rattle.big_endian.specs.BigEndian.{big_endian}
use Rattle.big_endian.proofs.Said.{bytes_said}
use Rattle.tape.specs.declared.Entry.{Entry}
use Rattle.tape.specs.declared.Entry.TheVariants.{Mark, Block, Unreadable, End, Bad}
use Rattle.tape.specs.declared.Cell.{Cell}
use Rattle.tape.specs.declared.Cell.TheVariants.{Mark as mark_cell, Block as block_cell, Unreadable as unreadable_cell}
use Rattle.tape.specs.Tape.{entry, mark_kind, block_kind, unreadable_kind, is_block_length, max_block}
use Rattle.tape.specs.ReadingSteps.{entry_at, number_at, size}
use Rattle.tape.specs.WalkSteps.{passed}

-- numbers that are bytes
abbrev pub Bytes : List ℕ → Type 0
Bytes l = (i : ℕ) → get_or l i 0 < 256

one_more : (l : List ℕ) (at k : ℕ) → at + k < length l → drop (at + k) l ≡ get_or l (at + k) 0 ∷ drop (at + suc k) l
one_more l at k h = drop-cons l (at + k) 0 h ∙ rw (add-suc at k)

first_byte : (l : List ℕ) (at : ℕ) → at < length l → drop at l ≡ get_or l at 0 ∷ drop (at + 1) l
first_byte l at h = rw add-zero at (one_more l at 0 (omega arith))

-- the four bytes at a place
module _ (l : List ℕ) (at : ℕ) (h : at + 4 ≤ length l) where
  four : take 4 (drop at l) ≡ get_or l at 0 ∷ get_or l (at + 1) 0 ∷ get_or l (at + 2) 0 ∷ get_or l (at + 3) 0 ∷ []
  four = rw (first_byte l at (omega arith), one_more l at 1 (omega arith), one_more l at 2 (omega arith), one_more l at 3 (omega arith))

  pub number_four : number_at l at ≡ get_or l at 0 * 16777216 + get_or l (at + 1) 0 * 65536 + get_or l (at + 2) 0 * 256 + get_or l (at + 3) 0
  unfolding value
  number_four = rw four (omega arith)

  -- are the number's that they say
  four_bytes : Bytes l → take 4 (drop at l) ≡ big_endian 4 (number_at l at)
  four_bytes w =
      let e : every (λ (b : ℕ). ltb b 256) (take 4 (drop at l)) ≡ true
      = rw (four, lt-ltb _ 256 (w at), lt-ltb _ 256 (w (at + 1)), lt-ltb _ 256 (w (at + 2)), lt-ltb _ 256 (w (at + 3))) in
      sym (bytes_said (take 4 (drop at l)) e) ∙ ap (λ (k : ℕ). big_endian k (number_at l at)) (ap length four)

-- what holds of each entry that can stand at a place holds of the one there
module _ (P : Entry → Type 0) (l : List ℕ) (at : ℕ) where
  pub entry_by : (at < length l → get_or l at 0 ≡ mark_kind → P (Mark (at + 1)))
      → (at < length l → get_or l at 0 ≡ unreadable_kind → P (Unreadable (at + 1)))
      → (at + 5 ≤ length l → get_or l at 0 ≡ block_kind → is_block_length (number_at l (at + 1)) ≡ true → P (Block (number_at l (at + 1)) (at + 5)))
      → (length l ≤ at → P End) → (at < length l → P Bad) → P (entry_at l at)
  unfolding entry_at
  entry_by mark unreadable block end bad =
      split
      (λ t. P (cond t
      (cond (eqb (get_or l at 0) mark_kind) (Mark (at + 1))
      (cond (eqb (get_or l at 0) unreadable_kind) (Unreadable (at + 1))
      (cond (eqb (get_or l at 0) block_kind && leb (at + 5) (length l) && is_block_length (number_at l (at + 1)))
      (Block (number_at l (at + 1)) (at + 5)) Bad)))
      End))
      (ltb at (length l))
      (λ e. let h : at < length l = ltb-true _ _ e in
      split
      (λ t. P (cond t (Mark (at + 1))
      (cond (eqb (get_or l at 0) unreadable_kind) (Unreadable (at + 1))
      (cond (eqb (get_or l at 0) block_kind && leb (at + 5) (length l) && is_block_length (number_at l (at + 1)))
      (Block (number_at l (at + 1)) (at + 5)) Bad))))
      (eqb (get_or l at 0) mark_kind)
      (λ y. mark h (eqb-true _ _ y))
      (λ y. split
      (λ t. P (cond t (Unreadable (at + 1))
      (cond (eqb (get_or l at 0) block_kind && leb (at + 5) (length l) && is_block_length (number_at l (at + 1)))
      (Block (number_at l (at + 1)) (at + 5)) Bad)))
      (eqb (get_or l at 0) unreadable_kind)
      (λ z. unreadable h (eqb-true _ _ z))
      (λ z. split (λ t. P (cond t (Block (number_at l (at + 1)) (at + 5)) Bad))
      (eqb (get_or l at 0) block_kind && leb (at + 5) (length l) && is_block_length (number_at l (at + 1)))
      (λ u. let (p, q) = and_parts (eqb (get_or l at 0) block_kind && leb (at + 5) (length l)) (is_block_length (number_at l (at + 1))) u in
      let (k, r) = and_parts (eqb (get_or l at 0) block_kind) (leb (at + 5) (length l)) p in
      block (leb-true _ _ r) (eqb-true _ _ k) q)
      (λ u. bad h))))
      (λ e. end (ltb-false _ _ e))

-- the entry lies within the list, and a block's length within its bounds
abbrev pub Lies : List ℕ → ℕ → Entry → Type 0
Lies l at (Mark next) = (at < next) × (next ≤ length l)
Lies l at (Block n next) = (1 ≤ n) × (n ≤ max_block) × (at < next) × (next ≤ length l)
Lies l at (Unreadable next) = (at < next) × (next ≤ length l)
Lies l at End = length l ≤ at
Lies l at Bad = at < length l

pub length_between : (n : ℕ) → is_block_length n ≡ true → (1 ≤ n) × (n ≤ max_block)
length_between n y = let (lo, hi) = and_parts (leb 1 n) (leb n max_block) y in (leb-true 1 n lo, leb-true n max_block hi)

pub entry_lies : (l : List ℕ) (at : ℕ) → Lies l at (entry_at l at)
entry_lies l at =
    entry_by (Lies l at) l at (λ h k. (omega arith, omega arith)) (λ h k. (omega arith, omega arith))
    (λ h k y. let (lo, hi) = length_between (number_at l (at + 1)) y in (lo, hi, omega arith, h)) (λ h. h) (λ h. h)

-- so does an element that is passed
pub passed_lies : (l : List ℕ) (at : ℕ) {x : Cell × ℕ} → passed (entry_at l at) ≡ Some x → (size x.0 ≤ max_block) × (at < x.1) × (x.1 ≤ length l)
passed_lies l at {x} q = go (entry_at l at) (entry_lies l at) q
  where
    go : (e : Entry) → Lies l at e → passed e ≡ Some x → (size x.0 ≤ max_block) × (at < x.1) × (x.1 ≤ length l)
    go (Mark to) i p = let z : (mark_cell, to) ≡ x = cc in rw (← z) (omega arith, i.0, i.1)
    go (Block k to) i p = let z : (block_cell k, to) ≡ x = cc in rw (← z) (i.1, i.2, i.3)
    go (Unreadable to) i p = let z : (unreadable_cell, to) ≡ x = cc in rw (← z) (omega arith, i.0, i.1)
    go End i p = cc
    go Bad i p = cc

-- the bytes from a place on are the entry's and those behind it
abbrev pub Spells : List ℕ → ℕ → Entry → Type 0
Spells l at (Mark next) = drop at l ≡ entry mark_cell ++ drop next l
Spells l at (Block n next) = (drop at l ≡ entry (block_cell n) ++ drop next l) × (is_block_length n ≡ true)
Spells l at (Unreadable next) = drop at l ≡ entry unreadable_cell ++ drop next l
Spells l at End = drop at l ≡ []
Spells l at Bad = at < length l

pub entry_spells : (l : List ℕ) (at : ℕ) → Bytes l → Spells l at (entry_at l at)
unfolding entry
entry_spells l at w =
    entry_by (Spells l at) l at
    (λ h k. first_byte l at h ∙ ap (λ (b : ℕ). b ∷ drop (at + 1) l) k)
    (λ h k. first_byte l at h ∙ ap (λ (b : ℕ). b ∷ drop (at + 1) l) k)
    (λ h k y. (
      first_byte l at (omega arith)
          ∙ ap (λ (b : ℕ). b ∷ drop (at + 1) l) k
          ∙ ap (λ (s : List ℕ). block_kind ∷ s)
          (sym (take-append-drop 4 (drop (at + 1) l))
          ∙ ap (λ (s : List ℕ). s ++ drop 4 (drop (at + 1) l)) (four_bytes l (at + 1) (omega arith) w)
          ∙ ap (λ (s : List ℕ). big_endian 4 (number_at l (at + 1)) ++ s) (drop-drop 4 (at + 1) l ∙ ap (λ (k : ℕ). drop k l) (add_assoc at 1 4))),
      y,
    ))
    (λ h. drop_of_length-le l h) (λ h. h)

-- the two laws where the entry is known
pub lies_as : (l : List ℕ) (at : ℕ) {e : Entry} → entry_at l at ≡ e → Lies l at e
lies_as l at q = subst (Lies l at) q (entry_lies l at)

pub spells_as : (l : List ℕ) (at : ℕ) {e : Entry} → Bytes l → entry_at l at ≡ e → Spells l at e
spells_as l at w q = subst (Spells l at) q (entry_spells l at w)
