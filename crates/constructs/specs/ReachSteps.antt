-- How far data blocks reach from each element on, so that one number tells whether an extent lies on the tape.
use Rattle.refusals.specs.declared.Refusal.{Refusal}
use Rattle.std.specs.Prelude.{Bool, not, cond, ◌&&◌, List, [], ◌∷◌, ◌++◌, ℕ, ◌+◌, ◌-◌, ◌/◌, min, eqb, leb, ltb, length, get_or, drop, ◌≡◌, Result, Err, Ok}
use Rattle.std.proofs.lemmas.List.Edits.{sets}
use Rattle.refusals.specs.declared.Refusal.TheVariants.{Short}
use Rattle.refusals.specs.Refusals.{Answer, require, and_then}
use Rattle.tape.specs.Tape.{Tape, Encodes}
use Rattle.tape.specs.Answers.{tape_in}
use Rattle.constructs.specs.Constructs.{data_lengths}

-- a data block of x bytes, or 0 for any other element, before an element from which data blocks reach next bytes: a block of exactly B
-- bytes is added to them, any other counts for itself, with at most B bytes
abbrev pub reach_one : ℕ → ℕ → ℕ → ℕ
reach_one B x next = cond (eqb x B) (B + next) (min x B)

-- the same for each element
unfoldable pub reaches : ℕ → List ℕ → List ℕ
reaches B [] = []
reaches B (x ∷ xs) = reach_one B x (get_or (reaches B xs) 0 0) ∷ reaches B xs

unfoldable pub sum_of : List ℕ → ℕ
sum_of [] = 0
sum_of (x ∷ xs) = x + sum_of xs

-- with so many elements of the labels still to come: whether the marks behind the labels are even in number, behind a mark
abbrev pub even_after : ℕ → Bool → Bool
even_after k even = cond (eqb k 0) (not even) even

-- the length of a block of n bytes as a data block
abbrev pub data_length : ℕ → Bool → ℕ → ℕ
data_length k even n = cond (eqb k 0) (cond even n 0) 0

-- the table with the data blocks' lengths at its front
abbrev pub PutsLengths : List ℕ → List ℕ → List ℕ → List ℕ → Type 0
PutsLengths l s before after = (t : Tape) → Encodes l s t → after ≡ sets before 0 (data_lengths t)

-- what is answered of a partition: the number of elements, and the table with how far data blocks reach from each at its front; or a
-- refusal, 10 among them, and the table as it was
abbrev pub reach_after : ℕ → List ℕ → Answer Tape → List ℕ
reach_after B before (Err r) = before
reach_after B before (Ok t) = cond (leb (length t) (length before)) (reaches B (data_lengths t) ++ drop (length t) before) before

pub record Reaches (B : ℕ) (l s before after : List ℕ) (r : Result ℕ Refusal) : Type 0 where
  pub answers : r ≡ and_then (tape_in l s) (λ t. require (leb (length t) (length before)) Short (Ok (length t)))
  pub holds : after ≡ reach_after B before (tape_in l s)

-- by a table of reaches: the bytes from an offset in a first block on end in a block below n, and data blocks reach that far
abbrev pub lies_by : List ℕ → ℕ → ℕ → ℕ → ℕ → ℕ → Bool
lies_by table B n first offset count = ltb (first + (offset + count - 1) / B) n && leb (offset + count) (get_or table first 0)
