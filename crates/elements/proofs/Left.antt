-- Tags along a slice: where a tag ends from a byte of it on, and what is left to read before the next `<`, at it, and at a tag.
use mathlib.Core.Path.{◌≡◌, refl, ap, ◌∙◌, sym}
use mathlib.Core.Bool.{Bool, true, false, false≢true}
use mathlib.Core.List.{List, [], ◌∷◌}
use Prim.Native.Nat.{ℕ, zero, suc, ◌+◌, ◌<◌, ◌≤◌}
use native.Mathlib.Omega.{arith}
use native.Mathlib.Numerals.{add-one}
use native.Mathlib.Nat.{add-zero}
use borrow.Author.Tests.{eq-eqb, ne_eqb}
use lib.Dec.{eqb}
use lib.ListN.{length, drop, get_or, drop_of_length-le, get_or-eq_default}
use lib.Seq.{drop-cons, drop-drop, get_or-drop}
use Rattle.xml.specs.Tree.{Tree, front, past, quote_after, put, not_open, tag_head, closed, alone, opened, pop, trees}
use Rattle.std.specs.Prelude.{Option, None, Some}
use Rattle.std.specs.Option.{is_some, unwrap_or}
use Rattle.elements.specs.ScanSteps.{IsQuote}
use Rattle.elements.specs.Reading.{empty_at}
use Rattle.elements.specs.TagSteps.{Next, NextTag}
use Rattle.elements.specs.declared.tags.Tag.TheVariants.{End, Close, Open, Empty}
use Rattle.xml.specs.ScanSteps.{Past}
use Rattle.xml.proofs.Past.{past_stop}

-- a tag, from its byte at i on
module _ (s : List ℕ) (i l : ℕ) where
  pub past_shut :
      (quote : Option ℕ) → is_some quote ≡ false → i < length s → get_or s i 0 ≡ 62
      → past (unwrap_or quote 0) l (drop i s) ≡ record { empty = eqb l 47; rest = drop (i + 1) s }
  unfolding past
  past_shut None e h g = rw (drop-cons s i 0, add-one) (simp (eq-eqb _ _ g))
  past_shut (Some q) e h g = absurd (false≢true (sym e))

  -- a byte that does not end it
  pub past_byte :
      (quote : Option ℕ) → IsQuote quote → i < length s → (is_some quote ≡ false → get_or s i 0 ≡ 62 → ⊥)
      → past (unwrap_or quote 0) l (drop i s) ≡ past (quote_after (unwrap_or quote 0) (get_or s i 0)) (get_or s i 0) (drop (i + 1) s)
  unfolding past
  past_byte None k h g = rw (drop-cons s i 0, add-one) (simp (ne_eqb _ _ (g refl)))
  past_byte (Some q) k h g =
      let z : q ≡ 0 → ⊥ = λ e. omega arith in
      rw (drop-cons s i 0, add-one) (simp (ne_eqb _ _ z))

  pub past_end : (q : ℕ) → length s ≤ i → past q l (drop i s) ≡ record { empty = false; rest = drop i s }
  unfolding past
  past_end q h = rw (drop_of_length-le s h)

-- what is left to read, by whatever elements are told
module _ {A : Type 0} (tell : List ℕ → A) where
  -- from here on is what is left at the next `<`
  trees_front : (s : List ℕ) → trees tell s ≡ trees tell (drop (front not_open s) s)
  unfolding trees front
  trees_front [] = refl
  trees_front (b ∷ s) = go (not_open b) refl (trees_front s)
    where
      go : (t : Bool) → not_open b ≡ t → trees tell s ≡ trees tell (drop (front not_open s) s) → trees tell (b ∷ s) ≡ trees tell (drop (front not_open (b ∷ s)) (b ∷ s))
      go true e h = simp e h
      go false e h = simp e

  pub left_end : (s : List ℕ) (i : ℕ) → length s ≤ i → trees tell (drop i s) ≡ []
  unfolding trees
  left_end s i h = ap (trees tell) (drop_of_length-le s h)

  -- a tag at n, before fs
  module _ (s : List ℕ) (n : ℕ) (fs : List (Tree A)) where
    first : get_or (drop n s) 0 0 ≡ get_or s n 0
    first = get_or-drop n s 0 0 ∙ ap (λ (k : ℕ). get_or s k 0) (add-zero n)

    put_closed : get_or s n 0 ≡ 47 → put tell (drop n s) fs ≡ closed fs
    unfolding put
    put_closed e = simp (eq-eqb _ _ (first ∙ e))

    put_alone : (get_or s n 0 ≡ 47 → ⊥) → empty_at s n ≡ true → put tell (drop n s) fs ≡ alone (tell (drop n s)) fs
    unfolding put
    put_alone g e = simp (ne_eqb _ _ (λ z. g (sym first ∙ z)), e)

    put_opened : (get_or s n 0 ≡ 47 → ⊥) → empty_at s n ≡ false → put tell (drop n s) fs ≡ opened (tell (drop n s)) fs
    unfolding put
    put_opened g e = simp (ne_eqb _ _ (λ z. g (sym first ∙ z)), e)

  -- the next `<` is at j
  module _ (s : List ℕ) (i j : ℕ) (found : Past not_open s i j) where
    left_found : trees tell (drop i s) ≡ trees tell (drop j s)
    left_found = trees_front (drop i s) ∙ ap (trees tell) (drop-drop (front not_open (drop i s)) i s ∙ ap (λ (k : ℕ). drop k s) (sym found.found))

    left_put : j < length s → trees tell (drop i s) ≡ put tell (drop (j + 1) s) (trees tell (drop (j + 1) s))
    unfolding trees
    left_put h = left_found ∙ rw (drop-cons s j 0, add-one) (simp (past_stop found h))

pub no_slash : (s : List ℕ) (n : ℕ) → length s ≤ n → get_or s n 0 ≡ 47 → ⊥
no_slash s n h e = omega (arith, get_or-eq_default s 0 h)

-- the next `<` is at j: no tag, or the tag behind it
module _ (s : List ℕ) (i j : ℕ) (found : Past not_open s i j) where
  pub none_next : length s ≤ j → NextTag s i End
  none_next h =
      record {
        left = left_found tag_head s i j found ∙ left_end tag_head s j h;
        tags = left_found (λ r. r) s i j found ∙ left_end (λ r. r) s j h;
        kind = tt;
        place = tt;
      }

  module _ (h : j < length s) where
    place : Next s i (j + 1)
    place = (ap (λ (k : ℕ). k + 1) found.found, omega arith)

    pub close_next : get_or s (j + 1) 0 ≡ 47 → NextTag s i (Close (j + 1))
    close_next e =
        record {
          left = left_put tag_head s i j found h ∙ put_closed tag_head s (j + 1) _ e;
          tags = left_put (λ r. r) s i j found h ∙ put_closed (λ r. r) s (j + 1) _ e;
          kind = tt;
          place = place;
        }

    pub empty_next : (get_or s (j + 1) 0 ≡ 47 → ⊥) → empty_at s (j + 1) ≡ true → NextTag s i (Empty (j + 1))
    empty_next g e =
        record {
          left = left_put tag_head s i j found h ∙ put_alone tag_head s (j + 1) _ g e;
          tags = left_put (λ r. r) s i j found h ∙ put_alone (λ r. r) s (j + 1) _ g e;
          kind = e;
          place = place;
        }

    pub open_next : (get_or s (j + 1) 0 ≡ 47 → ⊥) → empty_at s (j + 1) ≡ false → NextTag s i (Open (j + 1))
    open_next g e =
        record {
          left = left_put tag_head s i j found h ∙ put_opened tag_head s (j + 1) _ g e;
          tags = left_put (λ r. r) s i j found h ∙ put_opened (λ r. r) s (j + 1) _ g e;
          kind = e;
          place = place;
        }

-- past the end no tag comes
pub past_next : (s : List ℕ) (i : ℕ) → length s ≤ i → NextTag s i End
past_next s i h = record { left = left_end tag_head s i h; tags = left_end (λ r. r) s i h; kind = tt; place = tt }

module _ {A : Type 0} where
  -- what is left around d elements
  unfoldable pub pops : ℕ → List (Tree A) → List (Tree A)
  pops zero fs = fs
  pops (suc d) fs = pops d (pop fs)

  pub pops_none : (d : ℕ) → pops d [] ≡ []
  unfolding pops pop
  pops_none zero = refl
  pops_none (suc d) = pops_none d
