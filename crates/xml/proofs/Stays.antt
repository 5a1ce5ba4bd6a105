-- Bytes at which the machine stays where it is: white space between tags and inside them, and text.
use mathlib.Core.Path.{◌≡◌, refl, ◌∙◌, sym}
use mathlib.Core.Bool.{Bool, true, false, not, ◌||◌, ◌&&◌, false≢true, or-true}
use mathlib.Core.List.{List}
use Prim.Native.Nat.{ℕ, ◌≤◌, ◌<◌}
use native.Mathlib.Omega.{arith}
use borrow.Author.Tests.{lt-ltb, ne_eqb, leb-true}
use lib.Dec.{eqb, leb}
use Rattle.xml.specs.Bytes.{is_space, is_name_byte}
use Rattle.xml.specs.CheckSteps.{before, tag, key, keyed, equals, valued, content, blank, words, children, closed, after, opens, stop, at, leave, char, in_text, inside_element, without_text, form_step, ended}
use Rattle.xml.specs.ScanSteps.{is_text, held, Scan, Scans, ScansByte}
use Rattle.xml.proofs.Classes.{space_low, space_not}
use Rattle.xml.proofs.Logic.{and_both}

module _ (ns : List (List ℕ)) (b : ℕ) (e : is_space b ≡ true) where
  pub before_stay : form_step before ns b ≡ at before ns
  unfolding form_step
  before_stay = simp e

  pub tag_stay : form_step tag ns b ≡ at tag ns
  unfolding form_step
  tag_stay = simp e

  pub keyed_stay : form_step keyed ns b ≡ at keyed ns
  unfolding form_step
  keyed_stay = simp e

  pub equals_stay : form_step equals ns b ≡ at equals ns
  unfolding form_step
  equals_stay = simp e

  pub valued_stay : form_step valued ns b ≡ at valued ns
  unfolding form_step
  valued_stay = simp e

  pub closed_stay : form_step closed ns b ≡ at closed ns
  unfolding form_step
  closed_stay = simp e

  pub blank_stay : form_step (content blank) ns b ≡ at (content blank) ns
  unfolding form_step inside_element
  blank_stay = simp (space_not b 60 e (omega arith), e)

  pub children_stay : form_step (content children) ns b ≡ at (content children) ns
  unfolding form_step inside_element
  children_stay = simp (space_not b 60 e (omega arith), e)

  pub after_stay : form_step after ns b ≡ at after ns
  unfolding form_step
  after_stay = simp e

pub key_stay : (ns : List (List ℕ)) (b : ℕ) → is_name_byte b ≡ true → form_step key ns b ≡ at key ns
unfolding form_step
key_stay ns b e = simp e

-- a byte of text, by what `is_text` says of it
record Plain (b : ℕ) : Type 0 where
  ascii : b < 128
  printed : (leb 32 b || is_space b) ≡ true
  not60 : eqb b 60 ≡ false
  not38 : eqb b 38 ≡ false
  not62 : eqb b 62 ≡ false
  not93 : eqb b 93 ≡ false

not_any : (p q r s : Bool) → not (p || q || r || s) ≡ true → (p ≡ false) × (q ≡ false) × (r ≡ false) × (s ≡ false)
not_any true q r s h = absurd (false≢true h)
not_any false true r s h = absurd (false≢true h)
not_any false false true s h = absurd (false≢true h)
not_any false false false true h = absurd (false≢true h)
not_any false false false false h = (refl, refl, refl, refl)

plain : (b : ℕ) → is_text b ≡ true → Plain b
unfolding is_text
plain b e = go (is_space b) refl
  where
    go : (v : Bool) → is_space b ≡ v → Plain b
    go true h =
        let l : b ≤ 32 = space_low b h in
        record {
          ascii = omega arith;
          printed = simp (h, or-true);
          not60 = ne_eqb b 60 (omega arith);
          not38 = ne_eqb b 38 (omega arith);
          not62 = ne_eqb b 62 (omega arith);
          not93 = ne_eqb b 93 (omega arith);
        }
    go false h =
        let (x, y) = and_both (leb 32 b && leb b 127) (not (eqb b 60 || eqb b 38 || eqb b 62 || eqb b 93)) (sym (simp h) ∙ e) in
        let (z, w) = and_both (leb 32 b) (leb b 127) x in
        let (p, q, r, s) = not_any (eqb b 60) (eqb b 38) (eqb b 62) (eqb b 93) y in
        record { ascii = omega (arith, leb-true b 127 w); printed = simp z; not60 = p; not38 = q; not62 = r; not93 = s }

pub text_stay : (ns : List (List ℕ)) (b : ℕ) → is_text b ≡ true → form_step (content (words 0)) ns b ≡ at (content (words 0)) ns
unfolding form_step inside_element in_text char
text_stay ns b e =
    let p = plain b e in
    simp (p.not60, p.not93, p.not62, lt-ltb b 128 p.ascii, p.not38, p.printed)

-- in an element with children so far, or with white space alone
pub held_stay : (c : Bool) (ns : List (List ℕ)) (b : ℕ) → is_space b ≡ true → form_step (content (held c)) ns b ≡ at (content (held c)) ns
held_stay true ns b e = children_stay ns b e
held_stay false ns b e = blank_stay ns b e

pub held_opens : (c : Bool) (ns : List (List ℕ)) → form_step (content (held c)) ns 60 ≡ at (opens true) ns
unfolding form_step without_text
held_opens true ns = refl
held_opens false ns = refl

-- text beside children
pub held_mixed : (c : Bool) (ns : List (List ℕ)) (b : ℕ) → c ≡ true → is_space b ≡ false → eqb b 60 ≡ false → form_step (content (held c)) ns b ≡ stop
unfolding form_step inside_element
held_mixed true ns b h e f = simp (f, e)
held_mixed false ns b h e f = absurd (false≢true h)

-- text after white space
pub held_text : (c : Bool) (ns : List (List ℕ)) (b : ℕ) → c ≡ false → is_space b ≡ false → eqb b 60 ≡ false
    → form_step (content (held c)) ns b ≡ form_step (content (words 0)) ns b
unfolding form_step inside_element
held_text true ns b h e f = absurd (false≢true (sym h))
held_text false ns b h e f = simp (f, e)

-- white space, and then the one byte that may follow it
module _ {t : List ℕ} {i : ℕ} {r : Scan} where
  pub to_equals : ScansByte t i 61 r → Scans t i (at keyed) (at equals) r
  unfolding form_step is_space ended
  to_equals x = x keyed (at equals) refl refl keyed_stay (λ ns. refl) (λ ns c s n. simp (s, ne_eqb c 61 n))

  pub to_leave : ScansByte t i 62 r → Scans t i (at closed) leave r
  unfolding form_step is_space ended
  to_leave x = x closed leave refl refl closed_stay (λ ns. refl) (λ ns c s n. simp (s, ne_eqb c 62 n))
