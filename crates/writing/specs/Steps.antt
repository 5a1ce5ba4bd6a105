-- Pieces put into a buffer one behind the other.
use Rattle.std.specs.Prelude.{◌≡◌, List, ◌++◌, ℕ, ◌≤◌, length, take}
use Rattle.slices.specs.Slices.{written}
use Rattle.writing.specs.declared.Text.{Text}

-- w is added at the place `at`: where that is the end of a run v from the buffer's front, and there is room, the run is v and then w
pub record Adds (before : List ℕ) (at : ℕ) (w after : List ℕ) (end : ℕ) : Type 0 where
  pub run : (b v : List ℕ) → length (v ++ w) ≤ length b → before ≡ written 0 v b → at ≡ length v → (after ≡ written 0 (v ++ w) b) × (end ≡ length (v ++ w))

-- and w is no longer than so many bytes
pub record AddsAtMost (most : ℕ) (before : List ℕ) (at : ℕ) (w after : List ℕ) (end : ℕ) : Type 0 where
  pub added : Adds before at w after end
  pub few : length w ≤ most

-- w stands at the buffer's front, where there is room for it
abbrev pub Composes : List ℕ → List ℕ → List ℕ → ℕ → Type 0
Composes w before after end = length w ≤ length before → (after ≡ written 0 w before) × (end ≡ length w)

-- a text grows by w, in the same buffer
pub record GrowsBy (before : Text) (w : List ℕ) (after : Text) : Type 0 where
  pub same : after.out.ghost_name ≡ before.out.ghost_name
  pub added : Adds before.out.now before.at w after.out.now after.at

-- and w is no longer than so many bytes
pub record GrowsByAtMost (most : ℕ) (before : Text) (w : List ℕ) (after : Text) : Type 0 where
  pub grows : GrowsBy before w after
  pub few : length w ≤ most

-- the bytes of a text
abbrev pub bytes_of : Text → List ℕ
bytes_of t = take t.at t.out.now
