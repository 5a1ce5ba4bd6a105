-- What is shown of names: a text decoded, and the path of an entry.
use Rattle.std.specs.Prelude.{◌≡◌, List, ℕ, length}
use Rattle.slices.specs.Slices.{written}
use Rattle.texts.specs.Decoded.{decoded}
use Rattle.paths.specs.Paths.{fitting, path_for}
use Rattle.api.specs.Indexes.{FillsOut}

-- the buffer after: a text at its front, and the rest as it was
abbrev pub HoldsText : List ℕ → List ℕ → List ℕ → Type 0
HoldsText w before after = after ≡ written 0 w before

-- the bytes that a text means, where the buffer has room for them
abbrev pub DecodesOut : List ℕ → List ℕ → List ℕ → ℕ → ℕ → Type 0
DecodesOut text buffer = FillsOut HoldsText (fitting (length buffer) (decoded text)) buffer

-- the path of an entry by the entries of a text, where the buffer has room for it
abbrev pub WritesPathOut : List ℕ → List ℕ → ℕ → List ℕ → List ℕ → ℕ → ℕ → Type 0
WritesPathOut text entries entry buffer = FillsOut HoldsText (path_for (length buffer) text entries entry) buffer
