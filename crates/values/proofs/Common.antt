-- Common characters: a text of them means itself, a code point each byte, and no byte of it is unlawful in a name.
use mathlib.Core.Path.{◌≡◌, refl, ap, ap₂, ◌∙◌}
use mathlib.Core.Bool.{Bool, true, false, not, ◌&&◌, and-true}
use mathlib.Core.List.{List, [], ◌∷◌}
use Prim.Native.Nat.{ℕ}
use native.Mathlib.Omega.{arith}
use borrow.Author.Tests.{lt-leb, leb-true, not-true}
use lib.Dec.{leb, eqb}
use lib.ListN.{length}
use Rattle.slices.specs.Slices.{within, every}
use Rattle.slices.proofs.Booleans.{and_parts}
use Rattle.texts.specs.Decoded.{meaning, decoded_behind, decoded, code_points}
use Rattle.values.specs.Values.{is_plain, is_name}
use Rattle.values.specs.Steps.{is_common}

-- what a common character is not
record Common (b : ℕ) : Type 0 where
  control : leb 32 b ≡ true
  beyond : leb 128 b ≡ false
  reference : eqb b 38 ≡ false
  slash : eqb b 47 ≡ false

common : (b : ℕ) → is_common b ≡ true → Common b
unfolding is_common
common b e =
    let (f, n) = and_parts (within 32 127 b && not (eqb b 38)) (not (eqb b 47)) e in
    let (g, m) = and_parts (within 32 127 b) (not (eqb b 38)) f in
    let (l, h) = and_parts (leb 32 b) (leb b 127) g in
    record {
      control = l;
      beyond = lt-leb 128 b (omega (arith, leb-true b 127 h));
      reference = not-true (eqb b 38) m;
      slash = not-true (eqb b 47) n;
    }

itself : (s : List ℕ) → every is_common s ≡ true → decoded s ≡ s
unfolding decoded_behind meaning
itself [] e = refl
itself (b ∷ s) e =
    let (f, g) = and_parts (is_common b) (every is_common s) e in
    rw (common b f).reference (ap (λ (l : List ℕ). b ∷ l) (itself s g))

counted : (s : List ℕ) → every is_common s ≡ true → code_points s ≡ length s
unfolding code_points
counted [] e = refl
counted (b ∷ s) e =
    let (f, g) = and_parts (is_common b) (every is_common s) e in
    rw (common b f).beyond (omega (arith, counted s g))

plain : (s : List ℕ) → every is_common s ≡ true → every (is_plain false) s ≡ true
plain [] e = refl
plain (b ∷ s) e =
    let (f, g) = and_parts (is_common b) (every is_common s) e in
    let c = common b f in
    rw (c.control, c.slash) (plain s g)

pub name_common : (s : List ℕ) → every is_common s ≡ true → is_name (decoded s) ≡ within 1 255 (length s)
unfolding is_name
name_common s e =
    ap is_name (itself s e)
    ∙ ap₂ (λ (n : ℕ) (t : Bool). within 1 255 n && t) (counted s e) (plain s e)
    ∙ and-true (within 1 255 (length s))
