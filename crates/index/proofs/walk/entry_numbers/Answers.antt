-- `entry_numbers` meets its contract: number by number.
use mathlib.Core.Path.{◌≡◌, refl, ap, ◌∙◌}
use mathlib.Core.Bool.{Bool, true, false, cond}
use Prim.Native.Nat.{ℕ}
use mir.Val.{bool_byte}
use Rattle.index.proofs.Numbered.{numbers_said}
use Rattle.index.proofs.walk.entry_numbers.Goals as goal

bit : (b : Bool) → ◌≡◌ {A = ℕ} (bool_byte b) (cond b 1 0)
bit true = refl
bit false = refl

pub returns : goal.returns
returns c k l is placed tags uid count = numbers_said c.args.text.now c.args.places.now c.args.sort c.args.parent c.args.prior k l is placed tags _ _ _ c.length_of.result c.span_at-name.result (c.from.ensures ∙ bit _ ∙ ap (λ (b : Bool). cond {A = ℕ} b 1 0) c.is_file.ensures) uid c.span_at-name.ensures c.length_of.ensures count
