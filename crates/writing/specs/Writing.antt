-- What a writer of given fields owes (01, Refusal numbers: 14, then 10).
use Rattle.refusals.specs.declared.Refusal.{Refusal}
use Rattle.std.specs.Prelude.{◌≡◌, Bool, cond, List, ℕ, Err, Result}
use Rattle.refusals.specs.declared.Refusal.TheVariants.{Caller}
use Rattle.slices.specs.Writers.{put_answer, held_after}

-- what a writer of the text w of given fields answers (01, Refusal numbers: 14, then 10)
abbrev pub answered : Bool → List ℕ → List ℕ → Result ℕ Refusal
answered given w before = cond given (put_answer 0 w before) (Err Caller)

-- a writer: what it answers, and what the buffer holds after
pub record Writes (given : Bool) (w before after : List ℕ) (answer : Result ℕ Refusal) : Type 0 where
  pub answers : answer ≡ answered given w before
  pub holds : after ≡ cond given (held_after 0 w before) before
