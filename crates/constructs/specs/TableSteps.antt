-- What scanning a list owes: the table with the constructs that stand, and a construct read from it.
use Rattle.refusals.specs.declared.Refusal.{Refusal}
use Rattle.std.specs.Prelude.{◌≡◌, cond, List, ℕ, ◌+◌, ◌*◌, leb, length, get_or, Result, Ok}
use Rattle.std.proofs.lemmas.List.Edits.{sets}
use Rattle.tape.specs.Tape.{Tape, Encodes}
use Rattle.tape.specs.Answers.{tape_in}
use Rattle.refusals.specs.Refusals.{and_then}
use Rattle.constructs.specs.declared.Bounds.{Bounds}
use Rattle.constructs.specs.Constructs.{max_constructs, standing}
use Rattle.constructs.specs.Tables.{construct_entries, table_after}

-- the numbers of a table that has room for all
abbrev pub table_length : ℕ
table_length = max_constructs * 4

-- the number of standing constructs, and the table with them at its front
pub record Found (B : ℕ) (t : Tape) (before after : List ℕ) (n : ℕ) : Type 0 where
  pub number : n ≡ length (standing B t)
  pub table : after ≡ sets before 0 (construct_entries t (standing B t))

abbrev pub FindsConstructs : ℕ → List ℕ → List ℕ → List ℕ → List ℕ → ℕ → Type 0
FindsConstructs B l s before after n = (t : Tape) → Encodes l s t → Found B t before after n

pub record ScansPartition (B : ℕ) (l s before after : List ℕ) (r : Result ℕ Refusal) : Type 0 where
  pub answers : r ≡ and_then (tape_in l s) (λ t. Ok (length (standing B t)))
  pub holds : after ≡ table_after B before (tape_in l s)

-- the construct with number k of a table
abbrev pub bounds_in : List ℕ → ℕ → Bounds
bounds_in table k =
    cond (leb max_constructs k) (record { first = record { 0 = 0 }; end = 0; from = 0; to = 0 })
    (record {
      first = record { 0 = get_or table (k * 4) 0 };
      end = get_or table (k * 4 + 1) 0;
      from = get_or table (k * 4 + 2) 0;
      to = get_or table (k * 4 + 3) 0;
    })
