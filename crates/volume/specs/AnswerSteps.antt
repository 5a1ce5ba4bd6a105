-- What an answer of the verdict says, and what it owes.
use Rattle.std.specs.Prelude.{◌≡◌, List, ℕ, None, Option, Result, Err, Ok}
use Rattle.refusals.specs.declared.Refusal.{Refusal}
use Rattle.refusals.specs.Refusals.{Answer}
use Rattle.verdict.specs.Verdict.{Break}
use Rattle.volume.specs.Volume.{verdict_in}
use Rattle.volume.specs.declared.judge.Break as declared
use Rattle.volume.specs.Steps.{break_of}
use Rattle.volume.specs.Answers.{VerdictOwes}

abbrev pub judged : Answer (Option declared.Break) → Answer (Option Break)
judged (Ok b) = Ok (break_of b)
judged (Err r) = Err r

module _ (indexList indexStore dataList dataStore : List ℕ) where
  pub record Judges (r : Answer (Option declared.Break)) : Type 0 where
    pub answers : judged r ≡ verdict_in indexList indexStore dataList dataStore
    pub demand : VerdictOwes indexList indexStore dataList dataStore (r ≡ Ok None)
