-- A walk over a list that holds a tape: what entry stands at a place, from the element there, and the other way round.
use mathlib.Core.Path.{◌≡◌, refl, sym, ◌∙◌, ap, subst}
use mathlib.Core.Bool.{true}
use mathlib.Core.List.{List, [], ◌∷◌, ◌++◌}
use Prim.Native.Nat.{ℕ, zero, suc, ◌<◌}
use native.Mathlib.Omega.{arith}
use lib.ListN.{length, drop}
use Rattle.slices.proofs.Booleans.{and_left, and_right}
use Rattle.tape.specs.declared.Entry.{Entry}
use Rattle.tape.specs.declared.Entry.TheVariants.{Mark, Block, Unreadable, End, Bad}
use Rattle.tape.specs.declared.Cell.TheVariants.{Mark as mark_cell, Block as block_cell, Unreadable as unreadable_cell}
use Rattle.tape.specs.Tape.{Element, mark, block, unreadable, Tape, cell_of, entry, list, is_lawful_cell, lawful_tape}
use Rattle.tape.specs.ReadingSteps.{entry_at}
use Rattle.tape.proofs.Walking.{entry_here, next_here, entry_for}

-- element n and those after it
pub next_of : (t : Tape) (n : ℕ) → n < length t → (e : Element) × (rest : Tape) × (drop n t ≡ e ∷ rest)
next_of [] n h = absurd (omega arith)
next_of (e ∷ t) zero h = (e, t, refl)
next_of (e ∷ t) (suc n) h = next_of t n (omega arith)

pub lawful_at : (t : Tape) (n : ℕ) (e : Element) (rest : Tape) → lawful_tape t ≡ true → drop n t ≡ e ∷ rest → is_lawful_cell (cell_of e) ≡ true
unfolding lawful_tape
lawful_at [] zero e rest h d = let z : ◌≡◌ {A = ℕ} 0 1 = cc in absurd (omega arith)
lawful_at [] (suc n) e rest h d = let z : ◌≡◌ {A = ℕ} 0 1 = cc in absurd (omega arith)
lawful_at (f ∷ t) zero e rest h d = let z : f ≡ e = cc in rw (← z) (and_left (is_lawful_cell (cell_of f)) (lawful_tape t) h)
lawful_at (f ∷ t) (suc n) e rest h d = lawful_at t n e rest (and_right (is_lawful_cell (cell_of f)) (lawful_tape t) h) d

-- an element, one that has no bytes, is element n
pub record ElementAt (e : Element) (l : List ℕ) (next : ℕ) (t : Tape) (n : ℕ) : Type 0 where
  pub rest : Tape
  pub is : drop n t ≡ e ∷ rest
  pub left : drop next l ≡ list rest

-- a block of k bytes is element n
pub record BlockAt (l : List ℕ) (next k : ℕ) (t : Tape) (n : ℕ) : Type 0 where
  pub bytes : List ℕ
  pub rest : Tape
  pub is : drop n t ≡ block bytes ∷ rest
  pub size : k ≡ length bytes
  pub left : drop next l ≡ list rest

-- what an entry says of element n
abbrev pub Says : List ℕ → Tape → ℕ → Entry → Type 0
Says l t n (Mark next) = ElementAt mark l next t n
Says l t n (Block k next) = BlockAt l next k t n
Says l t n (Unreadable next) = ElementAt unreadable l next t n
Says l t n End = ⊥
Says l t n Bad = ⊥

says_element : (l : List ℕ) (place : ℕ) (t : Tape) (n : ℕ) (e : Element) (rest : Tape) → drop n t ≡ e ∷ rest → drop place l ≡ entry (cell_of e) ++ list rest
    → Says l t n (entry_for (cell_of e) place)
says_element l place t n mark rest d h = record { rest = rest; is = d; left = next_here l place mark_cell (list rest) h }
says_element l place t n (block x) rest d h =
    record { bytes = x; rest = rest; is = d; size = refl; left = next_here l place (block_cell (length x)) (list rest) h }
says_element l place t n unreadable rest d h = record { rest = rest; is = d; left = next_here l place unreadable_cell (list rest) h }

pub says_at : (l : List ℕ) (place : ℕ) (t : Tape) (n : ℕ) {e : Entry} → lawful_tape t ≡ true → drop place l ≡ list (drop n t) → n < length t
    → entry_at l place ≡ e → Says l t n e
unfolding list
says_at l place t n {e} h d w q =
    let (x, rest, is) = next_of t n w in
    let d' : drop place l ≡ entry (cell_of x) ++ list rest = d ∙ ap list is in
    subst (Says l t n) (sym (entry_here l place (cell_of x) (list rest) (lawful_at t n x rest h is) d') ∙ q) (says_element l place t n x rest is d')
