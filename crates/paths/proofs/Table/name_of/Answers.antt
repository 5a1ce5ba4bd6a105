-- `name_of` meets its contract: by what the numbers are.
use mathlib.Core.Path.{ap, ap₂, ◌∙◌}
use Prim.Native.Nat.{ℕ}
use lib.ListN.{take, drop}
use Rattle.texts.specs.Decoded.{decoded}
use Rattle.paths.specs.Paths.{name_of}
use Rattle.paths.proofs.Table.name_of.Goals as goal

pub returns : goal.returns
unfolding name_of
returns c = ap decoded (c.part.ensures ∙ ap₂ (λ (n k : ℕ). take n (drop k c.args.self.now.text.now)) c.number_of-len.ensures c.number_of-from.ensures)
