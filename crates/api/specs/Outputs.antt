-- What C is answered (01, Refusal numbers): the number of a refusal, or 0, and numbers in the outputs, all of them zero where refused.
use Rattle.refusals.specs.declared.Refusal.{Refusal}
use Rattle.std.specs.Prelude.{◌≡◌, Bool, true, false, List, [], ◌∷◌, ℕ, take, replicate, Err, Ok, Result}
use Rattle.refusals.specs.Refusals.{Answer, shown_number}
use Rattle.writing.specs.Writing.{Writes}

module _ {A : Type 0} where
  -- n numbers: what is shown of the value, or zeros
  abbrev pub numbers : ℕ → (A → List ℕ) → Answer A → List ℕ
  numbers n show (Err r) = replicate n 0
  numbers n show (Ok a) = show a

  -- what a function returns and what its outputs hold
  pub record Shown (n : ℕ) (show : A → List ℕ) (a : Answer A) (returned : ℕ) (outputs : List ℕ) : Type 0 where
    pub refusal : returned ≡ shown_number a
    pub holds : outputs ≡ numbers n show a

  -- the same where the outputs tell places in a text, for which says is what holds of them
  abbrev pub Tells : ℕ → (A → List ℕ → Type 0) → Answer A → List ℕ → Type 0
  Tells n says (Err r) outputs = outputs ≡ replicate n 0
  Tells n says (Ok a) outputs = says a outputs

  pub record ShownAs (n : ℕ) (says : A → List ℕ → Type 0) (a : Answer A) (returned : ℕ) (outputs : List ℕ) : Type 0 where
    pub refusal : returned ≡ shown_number a
    pub tells : Tells n says a outputs

-- one number
abbrev pub one : ℕ → List ℕ
one n = n ∷ []

-- a boolean
abbrev pub bit : Bool → ℕ
bit true = 1
bit false = 0

-- what a writer answers and what the buffer holds after, and how that is shown: the number returned, and the length that is told
pub record WritesOut (given : Bool) (w before after : List ℕ) (returned told : ℕ) : Type 0 where
  pub written : Result ℕ Refusal
  pub writes : Writes given w before after written
  pub shows : Shown 1 one written returned (one told)

-- and of the bytes that it stored: what a reader makes of them, and that they are the same in any two buffers
pub record Stores (given : Bool) (w : List ℕ) (reads : List ℕ → Type 0) (before after : List ℕ) (returned told : ℕ) : Type 0 where
  pub writes : WritesOut given w before after returned told
  pub read_back : returned ≡ 0 → reads (take told after)
  pub same : returned ≡ 0 → (before' after' : List ℕ) (told' : ℕ) → WritesOut given w before' after' 0 told' → take told' after' ≡ take told after
