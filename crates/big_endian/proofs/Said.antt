-- Numbers below 256 ^ w and w bytes tell each other.
use mathlib.Core.Path.{◌≡◌, ap, sym, ◌∙◌}
use mathlib.Core.Bool.{true}
use mathlib.Core.List.{List, map-id}
use Prim.Native.Nat.{ℕ, ◌^◌, ◌<◌}
use native.Mathlib.Nat.{zero-add}
use native.Mathlib.Omega.{arith}
use borrow.Author.Tests.{ltb-true}
use lib.Dec.{ltb}
use lib.ListN.{length}
use Rattle.slices.specs.Slices.{every}
use Rattle.digits.specs.Runs.{digits}
use Rattle.digits.proofs.Values.{value_digits, digits_value}
use Rattle.big_endian.specs.BigEndian.{big_endian, bytes_say}

pub said_bytes : (w n : ℕ) → n < 256 ^ w → bytes_say (big_endian w n) ≡ n
said_bytes w n h = value_digits 256 (omega arith) w n h

pub bytes_said : (s : List ℕ) → every (λ (b : ℕ). ltb b 256) s ≡ true → big_endian (length s) (bytes_say s) ≡ s
unfolding digits
bytes_said s e =
    ap (λ (w : ℕ). big_endian w (bytes_say s)) (sym (zero-add (length s)))
    ∙ digits_value 256 (λ (b : ℕ). b) (λ (b : ℕ). ltb b 256) (λ b h. ltb-true b 256 h) s 0 0 e
    ∙ map-id s
