-- The VOL1 block of fields in their lengths: its length, its fields again at their places; and that a block that was written is read as the fields given.
use Rattle.std.specs.Prelude.{Ok}
use mathlib.Core.Path.{◌≡◌, refl, ap, ◌∙◌}
use mathlib.Core.Bool.{true}
use mathlib.Core.List.{List, ◌++◌, append_assoc}
use Prim.Native.Nat.{ℕ}
use native.Mathlib.Omega.{arith}
use borrow.Author.Tests.{eq-eqb}
use lib.ListN.{length, take, drop, length-append}
use Rattle.std.proofs.lemmas.Bool.Decides.{nat_tests}
use lib.Seq.{take_at, drop_at}
use Rattle.slices.specs.Words.{bytes}
use Rattle.slices.proofs.Equal.{same_refl}
use Rattle.vol1.specs.Vol1.{identifier_length, owner_length, vol1, identifier_in, owner_in, vol1_of, are_fields}
use Rattle.vol1.specs.Steps.{means_vol1}
use Rattle.writing.specs.Writing.{Writes}
use Rattle.writing.proofs.Given.{Rereads, rereads}

-- eight pieces, the second and the sixth given
pieces : (a b c d e f g h : List ℕ) → length b ≡ 6 → length f ≡ 14 → length a ≡ 4 → length c ≡ 1 → length d ≡ 13 → length e ≡ 13 → length g ≡ 28 → length h ≡ 1
    → length (a ++ b ++ c ++ d ++ e ++ f ++ g ++ h) ≡ 80
pieces a b c d e f g h p q r s t u v w = simp length-append (omega arith)

second : (a b c d e f g h : List ℕ) → length a ≡ 4 → length b ≡ 6 → take 6 (drop 4 (a ++ b ++ c ++ d ++ e ++ f ++ g ++ h)) ≡ b
second a b c d e f g h p q = simp append_assoc (ap (take 6) (drop_at a _ 4 p) ∙ take_at b _ 6 q)

front : (a b c d e : List ℕ) → length a ≡ 4 → length b ≡ 6 → length c ≡ 1 → length d ≡ 13 → length e ≡ 13 → length (a ++ b ++ c ++ d ++ e) ≡ 37
front a b c d e p q r s t = simp length-append (omega arith)

sixth : (v f g h : List ℕ) → length v ≡ 37 → length f ≡ 14 → take 14 (drop 37 (v ++ f ++ g ++ h)) ≡ f
sixth v f g h p q = simp append_assoc (ap (take 14) (drop_at v _ 37 p) ∙ take_at f _ 14 q)

module _ (i o : List ℕ) (h : length i ≡ identifier_length) (g : length o ≡ owner_length) where
  length_vol1 : length (vol1 i o) ≡ 80
  unfolding vol1 bytes
  length_vol1 = pieces (bytes "VOL1") i (bytes "L") (bytes "             ") (bytes "LTFS         ") o (bytes "                            ") (bytes "4") h g refl refl refl refl refl refl

  pub identifier_vol1 : identifier_in (vol1 i o) ≡ i
  unfolding vol1 bytes
  identifier_vol1 =
      second (bytes "VOL1") i (bytes "L") (bytes "             ") (bytes "LTFS         ") o (bytes "                            ") (bytes "4") refl h

  pub owner_vol1 : owner_in (vol1 i o) ≡ o
  unfolding vol1 bytes
  owner_vol1 =
      sixth (bytes "VOL1" ++ i ++ bytes "L" ++ bytes "             " ++ bytes "LTFS         ") o (bytes "                            ") (bytes "4")
      (front (bytes "VOL1") i (bytes "L") (bytes "             ") (bytes "LTFS         ") refl h refl refl refl) g

module _ (i o : List ℕ) (ok : are_fields i o ≡ true) where
  pub given_identifier : length i ≡ identifier_length
  unfolding are_fields
  given_identifier = grind (arith, nat_tests, ok)

  pub given_owner : length o ≡ owner_length
  unfolding are_fields
  given_owner = grind (arith, nat_tests, ok)

  -- a block of given fields reads as them
  pub vol1_reads : vol1_of (vol1 i o) ≡ Ok (record { identifier = i; owner = o })
  unfolding are_fields vol1_of
  vol1_reads =
      let n = length_vol1 i o given_identifier given_owner in
      let a : identifier_in (vol1 i o) ≡ i = identifier_vol1 i o given_identifier given_owner in
      let b : owner_in (vol1 i o) ≡ o = owner_vol1 i o given_identifier given_owner in
      rw (a, b, eq-eqb _ _ n, same_refl (vol1 i o)) (grind (arith, nat_tests, ok))

-- what `write_vol1` stored, `read_vol1` reads as the fields that were given
pub vol1_rereads : (identifier owner before after : List ℕ) (n : ℕ) → Writes (are_fields identifier owner) (vol1 identifier owner) before after (Ok n)
    → Rereads means_vol1 vol1_of (vol1 identifier owner) (record { identifier = identifier; owner = owner }) after n
vol1_rereads identifier owner before after n =
    rereads means_vol1 vol1_of (are_fields identifier owner) (vol1 identifier owner) (record { identifier = identifier; owner = owner })
    (vol1_reads identifier owner) before after n
