-- What is shown of a text's form, and of a file's bytes.
use Rattle.std.specs.Prelude.{◌≡◌, List, [], ◌∷◌, ℕ, None, Some, Ok}
use Rattle.refusals.specs.Refusals.{shown_number}
use Rattle.xml.specs.CheckSteps.{require_form}
use Rattle.extents.specs.Map.{BytePlace}
use Rattle.api.specs.Fronts.{TellsFront}

-- 4 where the text is not in the form, and its front
pub record ChecksForm (s : List ℕ) (returned front : ℕ) : Type 0 where
  pub refusal : returned ≡ shown_number (require_form s (Ok s))
  pub place : TellsFront s returned front

-- whether the byte is stored, 1, or not, 0; then its letter, its block, and where in the block
abbrev pub byte_place : BytePlace → List ℕ
byte_place (Some b) = 1 ∷ b.letter ∷ b.block.0 ∷ b.byte.0 ∷ []
byte_place None = 0 ∷ 0 ∷ 0 ∷ 0 ∷ []
