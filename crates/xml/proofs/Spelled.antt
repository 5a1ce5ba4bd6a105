-- Elements that a writer puts together from names and texts without `<`, as they are read off the bytes. What follows them may be anything.
use mathlib.Core.Path.{◌≡◌, refl, ap, ◌∙◌}
use mathlib.Core.Bool.{true, false}
use mathlib.Core.List.{List, [], ◌∷◌, ◌++◌}
use Prim.Native.Nat.{ℕ}
use lib.Dec.{eqb}
use lib.ListN.{take, get_or}
use Rattle.slices.specs.Slices.{every}
use Rattle.slices.proofs.Booleans.{and_left, and_right}
use Rattle.xml.specs.Bytes.{is_name_byte, is_ascii_letter, is_space}
use Rattle.xml.specs.Tree.{front, behind, is_not, not_open, quote_after, past, quoted, head_of, top, pop, closed, opened, alone, put, trees, behind_tag, forests}
use Rattle.xml.specs.Grammar.{head}
use Rattle.xml.proofs.Classes.{name_not}

-- text before a tag: it holds no tag, and it is what reaches to the tag
module _ (s : List ℕ) where
  pub text_over : (w : List ℕ) → every not_open w ≡ true → forests (w ++ s) ≡ forests s
  unfolding trees
  text_over [] e = refl
  text_over (b ∷ w) e = rw (and_left (not_open b) (every not_open w) e) (text_over w (and_right (not_open b) (every not_open w) e))

  pub text_up_to : (w : List ℕ) → every not_open w ≡ true → take (front not_open (w ++ 60 ∷ s)) (w ++ 60 ∷ s) ≡ w
  unfolding front is_not
  text_up_to [] e = refl
  text_up_to (b ∷ w) e = rw (and_left (not_open b) (every not_open w) e) (ap (λ (l : List ℕ). b ∷ l) (text_up_to w (and_right (not_open b) (every not_open w) e)))

-- a name, and the `>` behind it
module _ (s : List ℕ) where
  name_past : (n : List ℕ) (l : ℕ) → every is_name_byte n ≡ true → eqb l 47 ≡ false → past 0 l (n ++ 62 ∷ s) ≡ record { empty = false; rest = s }
  unfolding past quote_after is_name_byte is_ascii_letter
  name_past [] l e h = rw h
  name_past (b ∷ n) l e h =
      let x : is_name_byte b ≡ true = and_left (is_name_byte b) (every is_name_byte n) e in
      rw (name_not b 62 x refl, name_not b 34 x refl, name_not b 39 x refl) (name_past n b (and_right (is_name_byte b) (every is_name_byte n) e) (name_not b 47 x refl))

  name_front : (n : List ℕ) → every is_name_byte n ≡ true → take (front is_name_byte (n ++ 62 ∷ s)) (n ++ 62 ∷ s) ≡ n
  unfolding front is_name_byte is_ascii_letter
  name_front [] e = refl
  name_front (b ∷ n) e = rw (and_left (is_name_byte b) (every is_name_byte n) e) (ap (λ (l : List ℕ). b ∷ l) (name_front n (and_right (is_name_byte b) (every is_name_byte n) e)))

  name_behind : (n : List ℕ) → every is_name_byte n ≡ true → behind is_name_byte (n ++ 62 ∷ s) ≡ 62 ∷ s
  unfolding front behind is_name_byte is_ascii_letter
  name_behind [] e = refl
  name_behind (b ∷ n) e = rw (and_left (is_name_byte b) (every is_name_byte n) e) (name_behind n (and_right (is_name_byte b) (every is_name_byte n) e))

  name_over : (n : List ℕ) → every is_name_byte n ≡ true → forests (n ++ 62 ∷ s) ≡ forests s
  unfolding trees is_not is_name_byte is_ascii_letter
  name_over [] e = refl
  name_over (b ∷ n) e = rw (name_not b 60 (and_left (is_name_byte b) (every is_name_byte n) e) refl) (name_over n (and_right (is_name_byte b) (every is_name_byte n) e))

  name_first : (n : List ℕ) → every is_name_byte n ≡ true → eqb (get_or (n ++ 62 ∷ s) 0 0) 47 ≡ false
  unfolding is_name_byte is_ascii_letter
  name_first [] e = refl
  name_first (b ∷ n) e = name_not b 47 (and_left (is_name_byte b) (every is_name_byte n) e) refl

module _ (n : List ℕ) (e : every is_name_byte n ≡ true) where
  -- `<n>`, with the text w behind it
  pub start_tag : (w s : List ℕ) → take (front not_open s) s ≡ w → forests (60 ∷ n ++ 62 ∷ s) ≡ opened (head n [] [] w) (forests s)
  unfolding trees is_not put head_of behind_tag front behind quoted is_name_byte is_ascii_letter is_space
  start_tag w s h = rw (name_first s n e, name_past s n 0 e refl, name_front s n e, name_behind s n e, name_over s n e, h)

  -- `</n>`
  pub end_tag : (s : List ℕ) → forests (60 ∷ 47 ∷ n ++ 62 ∷ s) ≡ closed (forests s)
  unfolding trees is_not put
  end_tag s = rw (name_over s n e)

  -- `<n>w</n>`
  pub leaf : (w s : List ℕ) → every not_open w ≡ true → forests (60 ∷ n ++ (62 ∷ w ++ (60 ∷ 47 ∷ n ++ 62 ∷ s))) ≡ alone (head n [] [] w) (forests s)
  unfolding opened closed alone top pop
  leaf w s h =
      start_tag w (w ++ (60 ∷ 47 ∷ n ++ 62 ∷ s)) (text_up_to (47 ∷ n ++ 62 ∷ s) w h)
      ∙ ap (opened (head n [] [] w)) (text_over (60 ∷ 47 ∷ n ++ 62 ∷ s) w h ∙ end_tag s)

  -- `<n>` before another tag
  pub branch : (s : List ℕ) → forests (60 ∷ n ++ (62 ∷ 60 ∷ s)) ≡ opened (head n [] [] []) (forests (60 ∷ s))
  unfolding front is_not
  branch s = start_tag [] (60 ∷ s) refl
