-- The bytes of files: how long they are, how they are put together, and how they are handed out.
use Rattle.std.specs.Prelude.{Ok, Err}
use Rattle.std.specs.Prelude.{Result}
use mathlib.Core.Path.{◌≡◌, refl, sym, ap, ◌∙◌, subst}
use mathlib.Core.List.{List, [], ◌∷◌, ◌++◌, append_assoc, append-nil}
use Prim.Native.Nat.{ℕ, ◌+◌, ◌/◌, ◌≤◌}
use native.Mathlib.Omega.{arith}
use lib.ListN.{length, take, drop, length-append, length-take, length-drop}
use lib.Seq.{take-add, drop-drop}
use borrow.Author.Tests.{le-leb, lt-leb}
use Rattle.refusals.specs.declared.Refusal.{Refusal}
use Rattle.slices.specs.Writers.{Puts}
use Rattle.slices.proofs.Writers.{reached, unreached}
use Rattle.big_endian.specs.BigEndian.{big_endian}
use Rattle.big_endian.proofs.Left.{length_big_endian}
use Rattle.writing.specs.Steps.{AddsAtMost}
use Rattle.writing.proofs.Adding.{adds_none}
use Rattle.ansi.specs.Layout.{TapeFile, tape_file_of}
use Rattle.ansi.specs.declared.phases.Phase.{Phase}
use Rattle.ansi.specs.declared.phases.Phase.TheVariants.{Headers}
use Rattle.ansi.specs.ReadingSteps.{at_mark}
use Rattle.ansi.specs.PhaseSteps.{known_at}
use Rattle.ansi.specs.Answers.{file_bytes, all_bytes}
use Rattle.ansi.specs.Steps.{HandsOut}

pub all_append : (fs gs : List TapeFile) → all_bytes (fs ++ gs) ≡ all_bytes fs ++ all_bytes gs
unfolding all_bytes
all_append [] gs = refl
all_append (f ∷ fs) gs = rw (all_append fs gs, append_assoc (file_bytes f) (all_bytes fs) (all_bytes gs))

pub one_file : (f : TapeFile) → all_bytes (f ∷ []) ≡ file_bytes f
unfolding all_bytes
one_file f = append-nil (file_bytes f)

-- what is taken of HDR2 stands in a row
second_label : (g x : List ℕ) → take 11 (drop 4 g) ++ x ≡ take 1 (drop 4 g) ++ (take 5 (drop 5 g) ++ (take 5 (drop 10 g) ++ x))
second_label g x =
    ap (λ (y : List ℕ). y ++ x) (take-add 1 10 (drop 4 g))
    ∙ append_assoc (take 1 (drop 4 g)) (take 10 (drop 1 (drop 4 g))) x
    ∙ ap (λ (y : List ℕ). take 1 (drop 4 g) ++ (take 10 y ++ x)) (drop-drop 1 4 g)
    ∙ ap (λ (y : List ℕ). take 1 (drop 4 g) ++ (y ++ x)) (take-add 5 5 (drop 5 g))
    ∙ ap (λ (y : List ℕ). take 1 (drop 4 g) ++ y) (append_assoc (take 5 (drop 5 g)) (take 5 (drop 5 (drop 5 g))) x)
    ∙ ap (λ (y : List ℕ). take 1 (drop 4 g) ++ (take 5 (drop 5 g) ++ (take 5 y ++ x))) (drop-drop 5 5 g)

pub file_bytes_lem : (h g : List ℕ) (n : ℕ) → (take 17 (drop 4 h) ++ take 11 (drop 4 g)) ++ big_endian 8 n ≡ file_bytes (tape_file_of h g n)
file_bytes_lem h g n =
    append_assoc (take 17 (drop 4 h)) (take 11 (drop 4 g)) (big_endian 8 n) ∙ ap (λ (y : List ℕ). take 17 (drop 4 h) ++ y) (second_label g (big_endian 8 n))

-- a part of a label of 80 bytes is whole
part_length : (k i : ℕ) (x : List ℕ) → length x ≡ 80 → i + k ≤ 80 → length (take k (drop i x)) ≡ k
part_length k i x e h = omega (arith, length-take k (drop i x), length-drop i x)

pub file_length : (h g : List ℕ) (n : ℕ) → length h ≡ 80 → length g ≡ 80 → length (file_bytes (tape_file_of h g n)) ≡ 36
file_length h g n a b =
    ap length (sym (file_bytes_lem h g n))
    ∙ omega (
      arith,
      length-append (take 17 (drop 4 h) ++ take 11 (drop 4 g)) (big_endian 8 n),
      length-append (take 17 (drop 4 h)) (take 11 (drop 4 g)),
      part_length 17 4 h a (omega arith),
      part_length 11 4 g b (omega arith),
      length_big_endian 8 n,
    )

module _ (w rows before after : List ℕ) (is : rows ≡ w) {r : (Result ℕ Refusal)} (p : Puts 0 rows before after r) where
  puts : Puts 0 w before after r
  puts = subst (λ (x : List ℕ). Puts 0 x before after r) is p

  pub hands_out : (end : ℕ) → r ≡ Ok end → HandsOut w before after (Ok (length rows / 36))
  hands_out end e =
      let h : 0 + length w ≤ length before = (reached 0 w before after end (subst (Puts 0 w before after) e puts)).0 in
      record { answers = rw (is, le-leb (length w) (length before) (omega arith)); holds = puts.holds }

  pub hands_none : (q : Refusal) → r ≡ Err q → HandsOut w before after (Err q)
  hands_none q e =
      let (h, s, k) = unreached 0 w before after q (subst (Puts 0 w before after) e puts) in
      record { answers = rw (s, lt-leb (length w) (length before) (omega arith)); holds = puts.holds }

-- no file is added
pub none_added : (out : List ℕ) (at : ℕ) → AddsAtMost 36 out at (all_bytes []) out at
unfolding all_bytes
none_added out at = record { added = adds_none; few = omega arith }

-- and only a mark behind header labels makes one known
pub none_known : (s : List ℕ) (n : ℕ) (p : Phase) (out : List ℕ) (at : ℕ) → ((h g k : ℕ) → p ≡ Headers h g k → ⊥) → AddsAtMost 36 out at (all_bytes (known_at s n p)) out at
unfolding at_mark
none_known s n (Headers h g k) out at e = absurd (e h g k refl)
none_known s n _ out at e = none_added out at
