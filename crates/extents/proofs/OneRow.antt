-- One row: the positions in it; and of one that is lawful by itself, that its bytes' blocks have numbers of 64 bits.
use mathlib.Core.Path.{◌≡◌}
use mathlib.Core.Bool.{true, ◌&&◌}
use Prim.Native.Nat.{ℕ, ◌+◌, ◌-◌, ◌/◌, ◌<◌, ◌≤◌}
use native.Mathlib.Omega.{arith}
use borrow.Author.Tests.{le-leb, lt-ltb, leb-true, ltb-true}
use lib.Dec.{leb, ltb}
use Rattle.slices.proofs.Booleans.{and_left, and_right, and_both}
use Rattle.quantities.specs.Letters.{is_letter}
use Rattle.extents.specs.declared.Row.{Row}
use Rattle.extents.specs.Lawful.{row_end, in_row, last_block, row_lawful}
use Rattle.extents.proofs.Blocks.{div_mono}

pub in_row_lem : (p : ℕ) (r : Row) → in_row p r ≡ true → (r.fileoffset ≤ p) × (p < row_end r)
in_row_lem p r e = (leb-true _ _ (and_left _ _ e), ltb-true _ _ (and_right (leb r.fileoffset p) _ e))

pub in_row_if : (p : ℕ) (r : Row) → r.fileoffset ≤ p → p < row_end r → in_row p r ≡ true
in_row_if p r h g = and_both _ _ (le-leb _ _ h) (lt-ltb _ _ g)

module _ (L B : ℕ) (r : Row) (e : row_lawful L B r ≡ true) where
  pub inside_block : r.byteoffset < B
  unfolding row_lawful
  inside_block = ltb-true _ _ (and_right (leb 1 r.bytecount) _ (and_left _ _ (and_left _ _ e)))

  last_fits : last_block B r ≤ 18446744073709551615
  unfolding row_lawful
  last_fits = leb-true _ _ (and_right (leb 1 r.bytecount && ltb r.byteoffset B && leb (row_end r) L) _ e)

  -- the block of a position of the row
  pub block_of_position : (p : ℕ) → in_row p r ≡ true → r.startblock + (r.byteoffset + (p - r.fileoffset)) / B ≤ 18446744073709551615
  block_of_position p h =
      let g = in_row_lem p r h in
      let b = inside_block in
      let m = div_mono B (r.byteoffset + (p - r.fileoffset)) (r.byteoffset + r.bytecount - 1) (omega arith) (omega arith) in
      omega (arith, last_fits)

-- a letter is a byte
pub letter_fits : (b : ℕ) → is_letter b ≡ true → b < 256
letter_fits b e = let h = leb-true b 122 (and_right (leb 97 b) _ e) in omega arith
