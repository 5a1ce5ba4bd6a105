-- What a writer owes: it writes whole or not at all (01, Refusal numbers: 10, lent output too short, buffers unchanged).
use Rattle.refusals.specs.declared.Refusal.{Refusal}
use Rattle.std.specs.Prelude.{◌≡◌, Bool, cond, List, ℕ, ◌+◌, leb, length, Err, Ok, Result}
use Rattle.refusals.specs.declared.Refusal.TheVariants.{Short}
use Rattle.slices.specs.Slices.{written}

-- whether the buffer has room for w from its place at on
abbrev pub room : ℕ → List ℕ → List ℕ → Bool
room at w buffer = leb (at + length w) (length buffer)

-- the place after w, or the refusal
unfoldable pub put_answer : ℕ → List ℕ → List ℕ → Result ℕ Refusal
put_answer at w buffer = cond (room at w buffer) (Ok (at + length w)) (Err Short)

-- the buffer with w written, or as it was
unfoldable pub held_after : ℕ → List ℕ → List ℕ → List ℕ
held_after at w buffer = cond (room at w buffer) (written at w buffer) buffer

-- a writer of w: what it answers, and what the buffer holds after
pub record Puts (at : ℕ) (w before after : List ℕ) (answer : Result ℕ Refusal) : Type 0 where
  pub answers : answer ≡ put_answer at w before
  pub holds : after ≡ held_after at w before
