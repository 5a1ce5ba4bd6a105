-- What a buffer holds once a run is written into it: the run at its place, whatever the buffer held, and all else as before.
use mathlib.Core.Path.{◌≡◌, ap, sym, ◌∙◌}
use mathlib.Core.List.{List, [], ◌∷◌, ◌++◌, append_assoc, append-nil}
use Prim.Native.Nat.{ℕ, suc, ◌+◌, ◌<◌, ◌≤◌}
use native.Mathlib.Nat.{add-zero, zero-add}
use native.Mathlib.Omega.{arith}
use native.Mathlib.Numerals.{add-one}
use lib.ListN.{length, take, drop, get_or, set, length-append, length-drop, take-append-drop, get_or-append}
use lib.Seq.{length-take-le, take-append_seam, take_at, drop_at, drop-drop, get_or-drop, get_or-take, set_split, append_snoc, take-take, paste, take-length}
use Rattle.slices.specs.Slices.{written}

module _ (at : ℕ) (w b : List ℕ) where
  -- the run and what stands before it
  front_long : at ≤ length b → length (take at b ++ w) ≡ at + length w
  front_long h = length-append (take at b) w ∙ ap (λ (n : ℕ). n + length w) (length-take-le at b h)

  pub length_written : at + length w ≤ length b → length (written at w b) ≡ length b
  unfolding written
  length_written h =
      length-append (take at b ++ w) (drop (at + length w) b)
      ∙ omega (arith, front_long (omega arith), length-drop (at + length w) b)

  pub front_written : at ≤ length b → take (at + length w) (written at w b) ≡ take at b ++ w
  unfolding written
  front_written h = take_at (take at b ++ w) (drop (at + length w) b) (at + length w) (front_long h)

  pub take_written : at ≤ length b → take at (written at w b) ≡ take at b
  unfolding written
  take_written h =
      ap (take at) (append_assoc (take at b) w (drop (at + length w) b))
      ∙ take_at (take at b) (w ++ drop (at + length w) b) at (length-take-le at b h)

  pub drop_written : at ≤ length b → drop (at + length w) (written at w b) ≡ drop (at + length w) b
  unfolding written
  drop_written h = drop_at (take at b ++ w) (drop (at + length w) b) (at + length w) (front_long h)

  -- from its place on stand the run and what was behind it
  pub from_written : at ≤ length b → drop at (written at w b) ≡ w ++ drop (at + length w) b
  unfolding written
  from_written h =
      ap (drop at) (append_assoc (take at b) w (drop (at + length w) b))
      ∙ drop_at (take at b) (w ++ drop (at + length w) b) at (length-take-le at b h)

  -- at its place stands the run, whatever the buffer held
  pub part_written : at ≤ length b → take (length w) (drop at (written at w b)) ≡ w
  part_written h = ap (take (length w)) (from_written h) ∙ take-append_seam w (drop (at + length w) b)

  module _ (d : ℕ) where
    pub get_d_written : at ≤ length b → (i : ℕ) → i < length w → get_or (written at w b) (at + i) d ≡ get_or w i d
    get_d_written h i k =
        sym (get_or-drop at (written at w b) i d)
        ∙ ap (λ (l : List ℕ). get_or l i d) (from_written h)
        ∙ get_or-append w (drop (at + length w) b) d i k

    pub get_d_before : at ≤ length b → (i : ℕ) → i < at → get_or (written at w b) i d ≡ get_or b i d
    get_d_before h i k =
        sym (get_or-take at (written at w b) i d k)
        ∙ ap (λ (l : List ℕ). get_or l i d) (take_written h)
        ∙ get_or-take at b i d k

    pub get_d_after : at ≤ length b → (i : ℕ) → get_or (written at w b) (at + length w + i) d ≡ get_or b (at + length w + i) d
    get_d_after h i =
        sym (get_or-drop (at + length w) (written at w b) i d)
        ∙ ap (λ (l : List ℕ). get_or l i d) (drop_written h)
        ∙ get_or-drop (at + length w) b i d

pub written_nil : (at : ℕ) (b : List ℕ) → written at [] b ≡ b
unfolding written
written_nil at b = rw (add-zero, append-nil) (take-append-drop at b)

-- two runs, one after the other, are their concatenation
pub written_then : (at : ℕ) (v w b : List ℕ) → at ≤ length b → written (at + length v) w (written at v b) ≡ written at (v ++ w) b
unfolding written
written_then at v w b h =
    let e : at + length (v ++ w) ≡ at + length v + length w = rw length-append (omega arith) in
    ap (λ (l : List ℕ). l ++ w ++ drop (at + length v + length w) (written at v b)) (front_written at v b h)
    ∙ ap (λ (l : List ℕ). take at b ++ v ++ w ++ l)
    (sym (drop-drop (length w) (at + length v) (written at v b))
    ∙ ap (drop (length w)) (drop_written at v b h)
    ∙ drop-drop (length w) (at + length v) b)
    ∙ ap (λ (l : List ℕ). l ++ drop (at + length v + length w) b) (append_assoc (take at b) v w)
    ∙ ap (λ (n : ℕ). take at b ++ (v ++ w) ++ drop n b) (sym e)

-- one byte is a store
pub written_set : (at x : ℕ) (b : List ℕ) → at < length b → written at (x ∷ []) b ≡ set b at x
unfolding written
written_set at x b h =
    append_snoc (take at b) x (drop (at + 1) b)
    ∙ ap (λ (n : ℕ). take at b ++ x ∷ drop n b) (add-one at)
    ∙ sym (set_split b at x h)

-- a byte more, at the end or in front
pub written_snoc : (at x : ℕ) (w b : List ℕ) → at + length w < length b → set (written at w b) (at + length w) x ≡ written at (w ++ (x ∷ [])) b
written_snoc at x w b h =
    let n : length (written at w b) ≡ length b = length_written at w b (omega arith) in
    sym (written_set (at + length w) x (written at w b) (omega arith))
    ∙ written_then at w (x ∷ []) b (omega arith)

-- written into the part from its place on, with what stands before that part
pub written_part : (at : ℕ) (w b : List ℕ) → take at b ++ written 0 w (drop at b) ≡ written at w b
unfolding written
written_part at w b =
    ap (λ (l : List ℕ). take at b ++ (w ++ l)) (rw zero-add (drop-drop (length w) at b))
    ∙ sym (append_assoc (take at b) w (drop (at + length w) b))

-- the run's first bytes written so far, as a loop that copies leaves them
pub written_paste : (at : ℕ) (w b : List ℕ) → paste b at w (length w) ≡ written at w b
unfolding written
written_paste at w b = ap (λ (l : List ℕ). take at b ++ l ++ drop (at + length w) b) (take-length w)

-- a byte stored in front of a run is the longer run
in_front : (at x : ℕ) (w b : List ℕ) → take at b ++ x ∷ (w ++ drop (at + 1 + length w) b) ≡ written at (x ∷ w) b
unfolding written
in_front at x w b =
    let e : at + 1 + length w ≡ at + suc (length w) = omega arith in
    rw e (sym (append_assoc (take at b) (x ∷ w) (drop (at + suc (length w)) b)))

pub written_cons : (at x : ℕ) (w b : List ℕ) → at + 1 + length w ≤ length b → set (written (at + 1) w b) at x ≡ written at (x ∷ w) b
written_cons at x w b h =
    let o : List ℕ = written (at + 1) w b in
    let n : length o ≡ length b = length_written (at + 1) w b h in
    set_split o at x (omega arith)
    ∙ ap (λ (l : List ℕ). l ++ x ∷ drop (suc at) o)
    (sym (take-take at (at + 1) o (omega arith)) ∙ ap (take at) (take_written (at + 1) w b (omega arith)) ∙ take-take at (at + 1) b (omega arith))
    ∙ ap (λ (l : List ℕ). take at b ++ x ∷ l) (ap (λ (k : ℕ). drop k o) (sym (add-one at)) ∙ from_written (at + 1) w b (omega arith))
    ∙ in_front at x w b
