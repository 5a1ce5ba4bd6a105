-- Constructs in a table of numbers, four for each, the first construct first.
use Rattle.std.specs.Prelude.{Bool, true, false, cond, List, [], ◌∷◌, ◌++◌, ℕ, ◌-◌, None, Option, Some, Err, Ok}
use Rattle.std.proofs.lemmas.List.Edits.{sets}
use Rattle.tape.specs.Tape.{Tape}
use Rattle.tape.specs.Answers.{bytes_before}
use Rattle.refusals.specs.Refusals.{Answer}
use Rattle.constructs.specs.Constructs.{Construct, standing}

-- without a text there is an unreadable block in the run
abbrev pub is_holed : Option (List ℕ) → Bool
is_holed None = true
is_holed (Some x) = false

-- where a text ends that begins at from and whose blocks end at to: with an unreadable block among them it is empty
abbrev pub text_end : Bool → ℕ → ℕ → ℕ
text_end holed from to = cond holed from to

-- a construct: its first block's number, the number of elements through its closing mark, and where its text begins and ends in the store,
-- which is the same place where it has no text, and there alone (`proofs/Texts.antt`)
abbrev pub construct_entry : Tape → Construct → List ℕ
construct_entry t c =
    c.first ∷ c.end ∷ bytes_before t c.first ∷ text_end (is_holed c.text) (bytes_before t c.first) (bytes_before t (c.end - 1)) ∷ []

-- constructs that are listed the last one first
unfoldable pub construct_entries : Tape → List Construct → List ℕ
construct_entries t [] = []
construct_entries t (c ∷ cs) = construct_entries t cs ++ construct_entry t c

-- what a scan answers: the number of standing constructs, and the table with them at its front; or a refusal, and the table as it was
abbrev pub table_after : ℕ → List ℕ → Answer Tape → List ℕ
table_after B before (Err r) = before
table_after B before (Ok t) = sets before 0 (construct_entries t (standing B t))
