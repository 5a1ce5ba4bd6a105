-- What an element says, by the places in the text where its parts begin and end.
use mathlib.Core.Path.{◌≡◌, ap, ap₂, ◌∙◌, sym}
use mathlib.Core.Bool.{Bool, true, false, ◌||◌}
use mathlib.Core.List.{List, []}
use Prim.Native.Nat.{ℕ, ◌+◌, ◌-◌, ◌<◌, ◌≤◌}
use native.Mathlib.Omega.{arith}
use native.Mathlib.Numerals.{add-one}
use borrow.Author.Tests.{eq-eqb, ne_eqb}
use lib.Dec.{eqb}
use lib.ListN.{length, take, drop, get_or, drop_of_length-le, length-take, length-drop}
use lib.Seq.{drop-cons, drop-drop}
use Rattle.xml.specs.Bytes.{is_name_byte, is_space}
use Rattle.xml.specs.Tree.{front, behind, is_not, not_open, past, quoted, head_of, behind_tag, tag_head, top, trees}
use Rattle.elements.specs.declared.heads.Span.{Span}
use Rattle.elements.specs.Tags.{tags_of, tags_at, tags_in}
use Rattle.elements.specs.Reading.{forest_at, empty_at, head_at, children_at}
use Rattle.elements.specs.TagSteps.{TextAt}
use Rattle.xml.specs.ScanSteps.{Past}
use Rattle.xml.proofs.Past.{past_ahead}
use Rattle.elements.proofs.Left.{left_end}

abbrev span : ℕ → ℕ → Span
span i k = record { from = i; len = k }

-- a run of bytes that pass a test, from i to e
module _ {f : ℕ → Bool} {s : List ℕ} {i e : ℕ} (run : Past f s i e) where
  run_part : take (e - i) (drop i s) ≡ take (front f (drop i s)) (drop i s)
  run_part = let z : e - i ≡ front f (drop i s) = omega (arith, run.found) in ap (λ (k : ℕ). take k (drop i s)) z

  behind_run : behind f (drop i s) ≡ drop e s
  unfolding behind
  behind_run = drop-drop (front f (drop i s)) i s ∙ ap (λ (k : ℕ). drop k s) (sym run.found)

pub no_part : (s : List ℕ) (i : ℕ) → take (i - i) (drop i s) ≡ []
no_part s i = let z : i - i ≡ 0 = omega arith in ap (λ (k : ℕ). take k (drop i s)) z

-- quotes, from the byte at i on
module _ (s : List ℕ) (i : ℕ) where
  pub quoted_none : length s ≤ i → quoted (drop i s) ≡ []
  unfolding quoted
  quoted_none h = ap quoted (drop_of_length-le s h)

  pub quoted_shut : i < length s → get_or s i 0 ≡ 62 → quoted (drop i s) ≡ []
  unfolding quoted
  quoted_shut h e = rw (drop-cons s i 0) (simp (eq-eqb _ _ e))

  pub quoted_on : i < length s → (get_or s i 0 ≡ 62 → ⊥) → (eqb (get_or s i 0) 34 || eqb (get_or s i 0) 39) ≡ false → quoted (drop i s) ≡ quoted (drop (i + 1) s)
  unfolding quoted
  quoted_on h e g = rw (drop-cons s i 0, add-one) (simp (ne_eqb _ _ e, g))

  pub quoted_some : (e : ℕ) → i < length s → (get_or s i 0 ≡ 62 → ⊥) → (eqb (get_or s i 0) 34 || eqb (get_or s i 0) 39) ≡ true
      → Past (is_not (get_or s i 0)) s (i + 1) e → take (e - (i + 1)) (drop (i + 1) s) ≡ quoted (drop i s)
  unfolding quoted
  quoted_some e h z g found = run_part found ∙ rw (drop-cons s i 0, add-one) (simp (ne_eqb _ _ z, g))

-- the element whose tag is at n, read from a, where the same bytes follow
module _ (s : List ℕ) (n a : ℕ) (here : drop a s ≡ drop n s) where
  -- its name ends at e
  module _ (e : ℕ) (named : Past is_name_byte s a e) where
    pub name_part : take (e - a) (drop a s) ≡ (head_at s n).name
    unfolding head_of
    name_part = run_part named ∙ ap (λ (r : List ℕ). take (front is_name_byte r) r) here

    behind_name : drop e s ≡ behind is_name_byte (drop n s)
    behind_name = sym (behind_run named) ∙ ap (behind is_name_byte) here

    pub value_part : quoted (drop e s) ≡ (head_at s n).value
    unfolding head_of
    value_part = ap quoted behind_name

    -- behind white space its attribute's name goes from k to z
    pub key_part : (k z : ℕ) → Past is_space s e k → Past is_name_byte s k z → take (z - k) (drop k s) ≡ (head_at s n).key
    unfolding head_of
    key_part k z spaced keyed =
        run_part keyed
        ∙ ap (λ (r : List ℕ). take (front is_name_byte r) r) (sym (behind_run spaced) ∙ ap (behind is_space) behind_name)

  -- its tag ends before t
  module _ (b : Bool) (t : ℕ) (ends : past 0 0 (drop a s) ≡ record { empty = b; rest = drop t s }) where
    pub empty_told : empty_at s n ≡ b
    empty_told = ap (λ (r : List ℕ). (past 0 0 r).empty) (sym here) ∙ rw ends

    pub text_none : b ≡ true → [] ≡ (head_at s n).text
    unfolding head_of behind_tag front
    text_none e = rw (empty_told, e)

    pub text_part : (e : ℕ) → b ≡ false → Past not_open s t e → take (e - t) (drop t s) ≡ (head_at s n).text
    unfolding head_of behind_tag
    text_part e z found =
        run_part found
        ∙ ap (λ (r : List ℕ). take (front not_open r) r) (sym (rw (empty_told, z) (ap (λ (r : List ℕ). (past 0 0 r).rest) (sym here) ∙ rw ends)))

    pub children_none : b ≡ true → forest_at s (length s) ≡ children_at s n
    unfolding children_at top
    children_none e = ap top (left_end tag_head s (length s) (omega arith)) ∙ rw (empty_told, e)

    pub children_some : b ≡ false → forest_at s a ≡ children_at s n
    unfolding children_at
    children_some e = ap (λ (r : List ℕ). top (trees tag_head r)) here ∙ rw (empty_told, e)

    pub tags_none : b ≡ true → tags_at s (length s) ≡ tags_in (drop n s)
    unfolding tags_in top
    tags_none e = ap top (left_end (λ r. r) s (length s) (omega arith)) ∙ rw (empty_told, e)

    pub tags_some : b ≡ false → tags_at s a ≡ tags_in (drop n s)
    unfolding tags_in
    tags_some e = ap (λ (r : List ℕ). top (tags_of r)) here ∙ rw (empty_told, e)

    -- its text begins at t
    text_from : t ≤ length s → t ≡ length s - length (past 0 0 (drop n s)).rest
    text_from h =
        let z : length (past 0 0 (drop n s)).rest ≡ length s - t = ap (λ (r : List ℕ). length (past 0 0 r).rest) (sym here) ∙ rw ends (length-drop t s) in
        omega arith

    pub text_empty : b ≡ true → t ≤ length s → TextAt s n (record { from = t; len = 0 })
    text_empty e h =
        record {
          place = ap₂ (λ (i k : ℕ). span i k) (text_from h) (ap length (text_none e));
          spans = record { part = text_none e; inside = omega arith };
        }

    pub text_found : (e : ℕ) → b ≡ false → Past not_open s t e → TextAt s n (record { from = t; len = e - t })
    text_found e z found =
        let p = text_part e z found in
        let h : t ≤ e = past_ahead found in
        let i : e ≤ length s = found.inside in
        let w : length (take (e - t) (drop t s)) ≡ e - t = omega (arith, length-take (e - t) (drop t s), length-drop t s) in
        record {
          place = ap₂ (λ (i k : ℕ). span i k) (text_from (omega arith)) (sym w ∙ ap length p);
          spans = record { part = p; inside = omega arith };
        }
