-- Rows of five numbers in the front of a table, one more at a time.
use mathlib.Core.Path.{◌≡◌, refl, ap, sym, ◌∙◌}
use mathlib.Core.List.{List, [], ◌∷◌, ◌++◌, append-nil, append_assoc}
use Prim.Native.Nat.{ℕ, zero, suc, ◌+◌, ◌*◌, ◌/◌, ◌≤◌}
use native.Mathlib.Omega.{arith}
use lib.ListN.{length, take, drop, set, length-append}
use lib.Seq.{sets, sets-eq, take_at, length-take-le}
use Rattle.xml.specs.Tree.{Forest, none, node}
use Rattle.elements.specs.Reading.{forest_at, head_at, children_at}
use Rattle.extents.specs.declared.Row.{Row}
use Rattle.extents.specs.Rows.{rows_of, five}
use Rattle.extents.proofs.Rows.{rows_count}
use Rattle.index_values.specs.Tests.{row_of, rows_in}
use Rattle.index_values.specs.Steps.{RowsRead}

pub put_five : (at : ℕ) (x : Row) (o0 o1 o2 o3 o4 o5 : List ℕ) → o1 ≡ set o0 at x.letter → o2 ≡ set o1 (at + 1) x.startblock
    → o3 ≡ set o2 (at + 2) x.byteoffset → o4 ≡ set o3 (at + 3) x.bytecount → o5 ≡ set o4 (at + 4) x.fileoffset
    → o5 ≡ sets o0 at (five x)
put_five at x o0 o1 o2 o3 o4 o5 e1 e2 e3 e4 e5 =
    let a1 : at + 1 ≡ suc at = omega arith in
    let a2 : at + 2 ≡ suc (suc at) = omega arith in
    let a3 : at + 3 ≡ suc (suc (suc at)) = omega arith in
    let a4 : at + 4 ≡ suc (suc (suc (suc at))) = omega arith in
    cc

-- whole rows, and what follows them
rows_append : (n : ℕ) (s t : List ℕ) → length s ≡ n * 5 → rows_of (s ++ t) ≡ rows_of s ++ rows_of t
unfolding rows_of
rows_append n [] t e = refl
rows_append n (a ∷ []) t e = absurd (omega arith)
rows_append n (a ∷ b ∷ []) t e = absurd (omega arith)
rows_append n (a ∷ b ∷ c ∷ []) t e = absurd (omega arith)
rows_append n (a ∷ b ∷ c ∷ d ∷ []) t e = absurd (omega arith)
rows_append zero (a ∷ b ∷ c ∷ d ∷ f ∷ s) t e = absurd (omega arith)
rows_append (suc n) (a ∷ b ∷ c ∷ d ∷ f ∷ s) t e =
    ap (λ (l : List Row). record { letter = a; startblock = b; byteoffset = c; bytecount = d; fileoffset = f } ∷ l) (rows_append n s t (omega arith))

pub rows_more : (out : List ℕ) (n : ℕ) (x : Row) → n * 5 + 5 ≤ length out
    → rows_of (take ((n + 1) * 5) (sets out (n * 5) (five x))) ≡ rows_of (take (n * 5) out) ++ (x ∷ [])
unfolding rows_of
rows_more out n x h =
    let l : length (take (n * 5) out) ≡ n * 5 = length-take-le (n * 5) out (omega arith) in
    let e : take ((n + 1) * 5) (sets out (n * 5) (five x)) ≡ take (n * 5) out ++ five x =
    ap (take ((n + 1) * 5)) (sets-eq (five x) out (n * 5) h)
    ∙ take_at (take (n * 5) out ++ five x) (drop (n * 5 + 5) out) ((n + 1) * 5) (length-append (take (n * 5) out) (five x) ∙ omega arith) in
    ap rows_of e ∙ rows_append n (take (n * 5) out) (five x) l

-- so many rows stand in the front
front_count : (out : List ℕ) (n : ℕ) → n * 5 ≤ length out → length (rows_of (take (n * 5) out)) ≡ n
front_count out n h =
    let l : length (take (n * 5) out) ≡ n * 5 = length-take-le (n * 5) out h in
    let q : length (rows_of (take (n * 5) out)) ≡ n * 5 / 5 = rows_count (take (n * 5) out) ∙ ap (λ (k : ℕ). k / 5) l in
    omega arith

pub rows_none : (s : List ℕ) (i : ℕ) (l : List Row) → forest_at s i ≡ none → l ++ rows_in (forest_at s i) ≡ l
unfolding rows_in
rows_none s i l e = ap (λ (f : Forest). l ++ rows_in f) e ∙ append-nil l

pub rows_read : (all : List Row) (out : List ℕ) (n : ℕ) → n ≤ 1024 → n * 5 ≤ length out → all ≡ rows_of (take (n * 5) out) → RowsRead all out n
rows_read all out n h g e = record { all = λ z. (sym e, ap length e ∙ front_count out n g); many = λ z. absurd (omega arith) }

module _ (s : List ℕ) (all : List Row) (i n : ℕ) (r : Forest) (first : forest_at s i ≡ node (head_at s n) (children_at s n) r) where
  rows_first : rows_in (forest_at s i) ≡ row_of (children_at s n) ∷ rows_in r
  unfolding rows_in
  rows_first = ap rows_in first

  pub rows_too_many : (out : List ℕ) (k : ℕ) → k ≡ 1024 → k * 5 ≤ length out → all ≡ rows_of (take (k * 5) out) ++ rows_in (forest_at s i) → RowsRead all out 1025
  rows_too_many out k e g x =
      let a : length all ≡ length (rows_of (take (k * 5) out)) + suc (length (rows_in r)) =
      ap length (x ∙ ap (λ (l : List Row). rows_of (take (k * 5) out) ++ l) rows_first) ∙ length-append (rows_of (take (k * 5) out)) (row_of (children_at s n) ∷ rows_in r) in
      let b = front_count out k g in
      record { all = λ z. absurd (omega arith); many = λ z. omega arith }

  pub rows_go : (out out' : List ℕ) (k from : ℕ) → k * 5 + 5 ≤ length out → forest_at s from ≡ children_at s n
      → out' ≡ sets out (k * 5) (five (row_of (forest_at s from))) → all ≡ rows_of (take (k * 5) out) ++ rows_in (forest_at s i)
      → all ≡ rows_of (take ((k + 1) * 5) out') ++ rows_in r
  rows_go out out' k from h er eo x =
      let y : Row = row_of (children_at s n) in
      x ∙ ap (λ (l : List Row). rows_of (take (k * 5) out) ++ l) rows_first
      ∙ sym (append_assoc (rows_of (take (k * 5) out)) (y ∷ []) (rows_in r))
      ∙ ap (λ (l : List Row). l ++ rows_in r) (sym (ap (λ (o : List ℕ). rows_of (take ((k + 1) * 5) o)) (eo ∙ ap (λ (f : Forest). sets out (k * 5) (five (row_of f))) er) ∙ rows_more out k y h))
