-- The kinds of bytes: the table has them, by one computed test, and a range of kinds is a class of bytes.
use mathlib.Core.Path.{◌≡◌, refl, sym, ◌∙◌}
use mathlib.Core.Bool.{Bool, true, false, cond}
use mathlib.Core.List.{List}
use Prim.Native.Nat.{ℕ, ◌<◌}
use native.Mathlib.Omega.{arith}
use borrow.Author.Tests.{ne_eqb, eq-eqb}
use lib.Dec.{leb, eqb, T, eqb→eq}
use lib.ListN.{length, get_or}
use Rattle.slices.proofs.Tables.{at, passes}
use Rattle.xml.specs.Bytes.{is_space, is_ascii_letter, is_name_byte}
use Rattle.xml.specs.ScanSteps.{is_text, kind_of, up_to}
use Rattle.xml.proofs.Classes.{space_no_name, letter_no_space, letter_name, name_text, space_text}

-- the entry k of the byte b is its kind
unfoldable pub right : ℕ → ℕ → Bool
right b k = eqb k (kind_of b)

pub table_kinds : (ks : List ℕ) → length ks ≡ 256 → T (passes right 0 ks) → (b : ℕ) → b < 256 → get_or ks b 0 ≡ kind_of b
unfolding right
table_kinds ks l t b h = eqb→eq (get_or ks b 0) (kind_of b) (at right ks t b (omega arith))

-- by the answers l, n, s and t to the four tests of `kind_of`
abbrev pick : Bool → Bool → Bool → Bool → ℕ
pick l n s t = cond l 97 (cond n 98 (cond s 100 (cond t 99 101)))

names : (l n s t : Bool) → (l ≡ true → n ≡ true) → leb (pick l n s t) 98 ≡ n
names true n s t h = sym (h refl)
names false true s t h = refl
names false false true t h = refl
names false false false true h = refl
names false false false false h = refl

spaces : (l n s t : Bool) → (s ≡ true → n ≡ false) → (l ≡ true → s ≡ false) → eqb (pick l n s t) 100 ≡ s
spaces true n s t h g = sym (g refl)
spaces false true true t h g = sym (h refl)
spaces false true false t h g = refl
spaces false false true t h g = refl
spaces false false false true h g = refl
spaces false false false false h g = refl

texts : (l n s t : Bool) → (l ≡ true → n ≡ true) → (n ≡ true → t ≡ true) → (s ≡ true → t ≡ true) → leb (pick l n s t) 100 ≡ t
texts true n s t h g k = sym (g (h refl))
texts false true s t h g k = sym (g refl)
texts false false true t h g k = sym (k refl)
texts false false false true h g k = refl
texts false false false false h g k = refl

text_else : (l n s t : Bool) → (l ≡ true → n ≡ true) → (n ≡ true → t ≡ true) → (s ≡ true → t ≡ true) → (pick l n s t ≡ 101 → ⊥) → t ≡ true
text_else true n s t h g k z = g (h refl)
text_else false true s t h g k z = g refl
text_else false false true t h g k z = k refl
text_else false false false true h g k z = refl
text_else false false false false h g k z = absurd (z refl)

letters : (l n s t : Bool) → eqb (pick l n s t) 97 ≡ l
letters true n s t = refl
letters false true s t = refl
letters false false true t = refl
letters false false false true = refl
letters false false false false = refl

pub kind_name : (b : ℕ) → up_to 98 b ≡ is_name_byte b
unfolding kind_of
kind_name b = names (is_ascii_letter b) (is_name_byte b) (is_space b) (is_text b) (letter_name b)

pub kind_space : (b : ℕ) → eqb (kind_of b) 100 ≡ is_space b
unfolding kind_of
kind_space b = spaces (is_ascii_letter b) (is_name_byte b) (is_space b) (is_text b) (space_no_name b) (letter_no_space b)

pub kind_text : (b : ℕ) → up_to 100 b ≡ is_text b
unfolding kind_of
kind_text b = texts (is_ascii_letter b) (is_name_byte b) (is_space b) (is_text b) (letter_name b) (name_text b) (space_text b)

pub kind_letter : (b : ℕ) → eqb (kind_of b) 97 ≡ is_ascii_letter b
unfolding kind_of
kind_letter b = letters (is_ascii_letter b) (is_name_byte b) (is_space b) (is_text b)

-- what the kind k of the byte b says
module _ (k b : ℕ) (e : k ≡ kind_of b) where
  pub no_letter : (k ≡ 97 → ⊥) → is_ascii_letter b ≡ false
  no_letter h = sym (kind_letter b) ∙ ne_eqb (kind_of b) 97 (λ z. h (e ∙ z))

  pub a_letter : k ≡ 97 → is_ascii_letter b ≡ true
  a_letter h = sym (kind_letter b) ∙ eq-eqb (kind_of b) 97 (sym e ∙ h)

  pub no_space : (k ≡ 100 → ⊥) → is_space b ≡ false
  no_space h = sym (kind_space b) ∙ ne_eqb (kind_of b) 100 (λ z. h (e ∙ z))

  pub a_space : k ≡ 100 → is_space b ≡ true
  a_space h = sym (kind_space b) ∙ eq-eqb (kind_of b) 100 (sym e ∙ h)

  pub a_text : (k ≡ 101 → ⊥) → is_text b ≡ true
  unfolding kind_of
  a_text h = text_else (is_ascii_letter b) (is_name_byte b) (is_space b) (is_text b) (letter_name b) (name_text b) (space_text b) (λ z. h (e ∙ z))
