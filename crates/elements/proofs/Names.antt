-- Bytes of names.
use mathlib.Core.Path.{◌≡◌, refl}
use mathlib.Core.Bool.{true, false}
use Prim.Native.Nat.{ℕ}
use Rattle.slices.specs.Slices.{within}
use Rattle.xml.specs.Bytes.{is_ascii_letter, is_name_byte}

-- `>` is none
pub no_shut : is_name_byte 62 ≡ false
unfolding is_name_byte is_ascii_letter
no_shut = refl

-- a small letter is one
pub small_name : (b : ℕ) → within 97 122 b ≡ true → is_name_byte b ≡ true
unfolding is_name_byte is_ascii_letter
small_name b e = rw e
