-- A number in a range, and one outside it.
use mathlib.Core.Path.{◌≡◌}
use mathlib.Core.Bool.{true, false, and-false}
use Prim.Native.Nat.{ℕ, ◌<◌, ◌≤◌}
use borrow.Author.Tests.{leb-true, le-leb, lt-leb}
use lib.Dec.{leb}
use Rattle.slices.specs.Slices.{within}
use Rattle.slices.proofs.Booleans.{and_parts, and_both}

module _ (lo hi b : ℕ) where
  pub range : within lo hi b ≡ true → (lo ≤ b) × (b ≤ hi)
  range e = let (l, h) = and_parts (leb lo b) (leb b hi) e in (leb-true lo b l, leb-true b hi h)

  pub in_range : lo ≤ b → b ≤ hi → within lo hi b ≡ true
  in_range l h = and_both (leb lo b) (leb b hi) (le-leb lo b l) (le-leb b hi h)

  pub below_range : b < lo → within lo hi b ≡ false
  below_range h = rw (lt-leb lo b h)

  pub above_range : hi < b → within lo hi b ≡ false
  above_range h = rw (lt-leb b hi h) (and-false (leb lo b))
