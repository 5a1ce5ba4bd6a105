-- The labels such as the bench's: one of them, the length of each, and what a buffer one byte short of it gives.
use mathlib.Core.Path.{◌≡◌, refl, ap, ◌∙◌}
use mathlib.Core.Bool.{Bool, true, not, ◌&&◌, ◌||◌}
use mathlib.Core.List.{List}
use Prim.Native.Nat.{ℕ, suc, ◌^◌}
use native.Mathlib.Omega.{arith}
use borrow.Author.Tests.{eq-eqb, eqb-true}
use lib.Dec.{eqb, ltb}
use lib.ListN.{length}
use Rattle.slices.specs.Slices.{same}
use Rattle.slices.specs.Words.{bytes}
use Rattle.slices.proofs.Booleans.{split, and_left, and_right}
use Rattle.slices.proofs.Equal.{same_eq}
use Rattle.slices.proofs.Writers.{placed_short}
use Rattle.digits.specs.Runs.{first_from, width}
use Rattle.digits.specs.Decimal.{short}
use Rattle.digits.proofs.Short.{short_width}
use Rattle.xml.specs.Grammar.{is_char, utf8}
use Rattle.values.specs.Values.{by_pattern, in_pattern, in_ranges, is_time, is_uuid, is_creator}
use Rattle.label.specs.Label.{Label, letters_fit}
use Rattle.label_writer.specs.Characters.{following, code_point, is_character, characters_behind, is_characters}
use Rattle.label_writer.specs.Text.{escape, escaped, boolean_word, label_text, are_numbers, is_lawful_label, is_given}
use Rattle.writing.specs.Writing.{answered}
use Rattle.label_writer.proofs.Fields.{in_rules}
use Rattle.label_writer.proofs.Lengths.{length_text, time_length, uuid_length}
use Rattle.worked.specs.Cases.{is_bench, sample, refuses, bench_length, bench_short}

pub one : is_bench sample ≡ true
unfolding is_bench sample is_given is_lawful_label are_numbers is_creator is_time is_uuid in_pattern by_pattern in_ranges letters_fit bytes escaped escape characters_behind is_character code_point following is_char utf8
one = refl

-- the search for the width stops at its sixth number, however far it may go
wide_from : (m : ℕ) → first_from (λ w. ltb 524288 (10 ^ w)) 1 (suc (suc (suc (suc (suc (suc m)))))) ≡ 6
unfolding first_from
wide_from m = refl

wide : width 10 524288 ≡ 6
unfolding width
wide = wide_from 524282

size : length (short 524288) ≡ 6
size = short_width 524288 ∙ wide

compressed : length (boolean_word true) ≡ 4
unfolding boolean_word bytes
compressed = refl

module _ (f : Label) (ok : is_bench f ≡ true) where
  abbrev four : Bool
  four = eqb (length f.creator) 4

  abbrev plain : Bool
  plain = same (escaped f.creator) f.creator

  abbrev sized : Bool
  sized = eqb f.block_size 524288

  given : is_given f ≡ true
  unfolding is_bench
  given = and_left (is_given f) four (and_left (is_given f && four) plain (and_left (is_given f && four && plain) sized (and_left (is_given f && four && plain && sized) f.compression ok)))

  bench_length_lem : length (label_text f) ≡ 378
  unfolding is_bench is_given
  bench_length_lem =
      let p = and_left (is_given f && four && plain && sized) f.compression ok in
      let q = and_left (is_given f && four && plain) sized p in
      let n : length f.creator ≡ 4 = eqb-true _ _ (and_right (is_given f) four (and_left (is_given f && four) plain q)) in
      let e : escaped f.creator ≡ f.creator = same_eq _ _ (and_right (is_given f && four) plain q) in
      let b : f.block_size ≡ 524288 = eqb-true _ _ (and_right (is_given f && four && plain) sized p) in
      let c : f.compression ≡ true = and_right (is_given f && four && plain && sized) f.compression ok in
      let r = in_rules f (and_left (is_lawful_label f) (is_characters f.creator) given) in
      omega (
        arith,
        length_text f,
        ap length e,
        n,
        time_length f.time r.time,
        uuid_length f.uuid r.uuid,
        ap (λ (m : ℕ). length (short m)) b,
        size,
        ap (λ (t : Bool). length (boolean_word t)) c,
        compressed,
      )

  bench_short_lem : (b : List ℕ) → length b ≡ 377 → refuses 10 (answered (is_given f) (label_text f) b) ≡ true
  bench_short_lem b h =
      let n = bench_length_lem in
      rw (given, placed_short 0 (label_text f) b (omega arith))

pub lengths : (f : Label) → bench_length f ≡ true
lengths f = split (λ (t : Bool). (not t || eqb (length (label_text f)) 378) ≡ true) (is_bench f) (λ e. eq-eqb _ _ (bench_length_lem f e)) (λ e. refl)

pub shorts : (f : Label) (b : List ℕ) → bench_short f b ≡ true
shorts f b =
    split (λ (t : Bool). (not t || refuses 10 (answered (is_given f) (label_text f) b)) ≡ true) (is_bench f && eqb (length b) 377)
    (λ e. bench_short_lem f (and_left (is_bench f) (eqb (length b) 377) e) b (eqb-true _ _ (and_right (is_bench f) (eqb (length b) 377) e)))
    (λ e. refl)
