-- Start tags looked at once: a name with `>` behind it, the most of them, and any other.
use mathlib.Core.Path.{◌≡◌, refl, ap, sym, ◌∙◌, subst}
use mathlib.Core.Bool.{Bool, true, false, not, cond}
use mathlib.Core.List.{List, [], ◌∷◌}
use Prim.Native.Nat.{ℕ, suc, ◌+◌, ◌-◌, ◌<◌, ◌≤◌}
use native.Mathlib.Omega.{arith}
use native.Mathlib.Nat.{zero-add}
use borrow.Author.Tests.{eq-eqb, eqb-true, eqb-false}
use lib.Dec.{eqb}
use lib.ListN.{length, drop, get_or}
use lib.Seq.{drop-drop, get_or-drop}
use Rattle.xml.specs.Bytes.{is_name_byte, is_ascii_letter, is_space}
use Rattle.xml.specs.Tree.{Forest, none, front, past, quote_after, is_not, not_open, top, opened, alone}
use Rattle.xml.specs.ScanSteps.{Past}
use Rattle.xml.proofs.Past.{front_more, front_none, past_ahead}
use Rattle.elements.specs.declared.starts.Start.{Start}
use Rattle.elements.specs.declared.heads.Span.{Span}
use Rattle.elements.specs.declared.tags.Tag.TheVariants.{End, Close, Open, Empty}
use Rattle.elements.specs.Reading.{forest_at, head_at, empty_at, children_at, has_element}
use Rattle.elements.specs.TagSteps.{TextAt, NextTag, Behind, FirstOf}
use Rattle.elements.specs.StartSteps.{Shape, GoesOnAt, Opening, StartsElement}
use Rattle.elements.proofs.Names.{no_shut}
use Rattle.elements.proofs.Left.{none_next, close_next, empty_next, open_next}
use Rattle.elements.proofs.Parts.{no_part, name_part, key_part, text_found, empty_told, children_some}
use Rattle.elements.proofs.Rows.{row_end, row_close, behind_close, behind_end, first_open, first_empty}

-- a byte of a name is none that is not
name_byte : (b k : ℕ) → is_name_byte b ≡ true → is_name_byte k ≡ false → eqb b k ≡ false
name_byte b k e f = go (eqb b k) refl
  where
    go : (t : Bool) → eqb b k ≡ t → eqb b k ≡ false
    go false q = q
    go true q =
        let z : true ≡ false = sym e ∙ ap is_name_byte (eqb-true b k q) ∙ f in
        let y : ◌≡◌ {A = ℕ} 0 1 = cc in
        absurd (omega arith)

no_solidus : is_name_byte 47 ≡ false
unfolding is_name_byte is_ascii_letter
no_solidus = refl

no_quote : is_name_byte 34 ≡ false
unfolding is_name_byte is_ascii_letter
no_quote = refl

no_apostrophe : is_name_byte 39 ≡ false
unfolding is_name_byte is_ascii_letter
no_apostrophe = refl

no_open : is_name_byte 60 ≡ false
unfolding is_name_byte is_ascii_letter
no_open = refl

no_space : is_space 62 ≡ false
unfolding is_space
no_space = refl

-- a tag from a byte on, in its name or behind it, where `>` follows the name
past_name : (t : List ℕ) (l : ℕ) → eqb l 47 ≡ false → get_or t (front is_name_byte t) 0 ≡ 62
    → past 0 l t ≡ record { empty = false; rest = drop (suc (front is_name_byte t)) t }
unfolding past front quote_after
past_name [] l n e = absurd (omega (arith, e))
past_name (b ∷ t) l n e = go (is_name_byte b) refl (past_name t b) e
  where
    go : (v : Bool) → is_name_byte b ≡ v
        → (eqb b 47 ≡ false → get_or t (front is_name_byte t) 0 ≡ 62 → past 0 b t ≡ record { empty = false; rest = drop (suc (front is_name_byte t)) t })
        → get_or (b ∷ t) (front is_name_byte (b ∷ t)) 0 ≡ 62
        → past 0 l (b ∷ t) ≡ record { empty = false; rest = drop (suc (front is_name_byte (b ∷ t))) (b ∷ t) }
    go true q i e =
        simp (q, name_byte b 62 q no_shut, name_byte b 34 q no_quote, name_byte b 39 q no_apostrophe) (i (name_byte b 47 q no_solidus) (simp q at e))
    go false q i e = simp (q, eq-eqb b 62 (simp q at e), n)

-- a run goes on with bytes that pass a weaker test
module _ (f g : ℕ → Bool) (weaker : (b : ℕ) → f b ≡ true → g b ≡ true) where
  front_through : (t : List ℕ) → front g t ≡ front f t + front g (drop (front f t) t)
  unfolding front
  front_through [] = refl
  front_through (b ∷ t) = go (f b) refl (front_through t)
    where
      go : (v : Bool) → f b ≡ v → front g t ≡ front f t + front g (drop (front f t) t)
          → front g (b ∷ t) ≡ front f (b ∷ t) + front g (drop (front f (b ∷ t)) (b ∷ t))
      go true q i = simp (q, weaker b q) (omega (arith, i))
      go false q i = simp (q, zero-add)

  past_through : {s : List ℕ} {n e z : ℕ} → Past f s n e → Past g s e z → Past g s n z
  past_through {s} {n} {e} {z} p r =
      record {
        found = let w : front g (drop n s) ≡ front f (drop n s) + front g (drop (n + front f (drop n s)) s) =
            front_through (drop n s) ∙ ap (λ (x : List ℕ). front f (drop n s) + front g x) (drop-drop (front f (drop n s)) n s) in
            let y : front g (drop e s) ≡ front g (drop (n + front f (drop n s)) s) = ap (λ (k : ℕ). front g (drop k s)) p.found in
            omega (arith, r.found, p.found);
        inside = r.inside;
      }

not_open_lem : (b : ℕ) → is_name_byte b ≡ true → not_open b ≡ true
unfolding is_not
not_open_lem b e = simp (name_byte b 60 e no_open)

shut_not_open : (b : ℕ) → b ≡ 62 → not_open b ≡ true
unfolding is_not
shut_not_open b e = simp (ap (λ (k : ℕ). eqb k 60) e)

-- where no byte passes, the run ends at once
past_at : (f : ℕ → Bool) (s : List ℕ) (e : ℕ) → e < length s → f (get_or s e 0) ≡ false → Past f s e e
past_at f s e h n = record { found = sym (front_none f s e h n); inside = omega arith }

-- the tag at n: its name ends at e, with `>`
module _ (s : List ℕ) (n e : ℕ) (named : Past is_name_byte s n e) (h : e < length s) (shut : get_or s e 0 ≡ 62) where
  pub named_past : past 0 0 (drop n s) ≡ record { empty = false; rest = drop (e + 1) s }
  named_past =
      past_name (drop n s) 0 refl (get_or-drop n s (front is_name_byte (drop n s)) 0 ∙ ap (λ (k : ℕ). get_or s k 0) (sym named.found) ∙ shut)
      ∙ ap (λ (r : List ℕ). record { empty = false; rest = r })
      (drop-drop (suc (front is_name_byte (drop n s))) n s ∙ ap (λ (k : ℕ). drop k s) (the_end named.found))
    where
      the_end : e ≡ n + front is_name_byte (drop n s) → n + suc (front is_name_byte (drop n s)) ≡ e + 1
      the_end q = omega arith

  -- up to the next `<`, at z
  module _ (z : ℕ) (found : Past not_open s (e + 1) z) where
    whole : Past not_open s n z
    whole =
        past_through is_name_byte not_open not_open_lem named
        (record { found = found.found ∙ sym (front_more not_open s e h (shut_not_open (get_or s e 0) shut)); inside = found.inside })

    no_key : (head_at s n).key ≡ []
    no_key =
        sym (key_part s n n refl e named e e (past_at is_space s e h (ap is_space shut ∙ no_space)) (past_at is_name_byte s e h (ap is_name_byte shut ∙ no_shut)))
        ∙ no_part s e

    kids : children_at s n ≡ forest_at s n
    kids = sym (children_some s n n refl false (e + 1) named_past refl)

    said : TextAt s n (record { from = e + 1; len = z - (e + 1) })
    said = text_found s n n refl false (e + 1) named_past z refl found

    abbrev start : Bool → ℕ → Start
    start leaf next =
        record {
          at = n;
          name = record { from = n; len = e - n };
          plain = true;
          empty = false;
          text = record { from = e + 1; len = z - (e + 1) };
          leaf = leaf;
          next = next;
        }

    shape : (leaf : Bool) (next : ℕ) → leaf ≡ not (has_element (forest_at s n)) → Shape s (start leaf next)
    shape leaf next el =
        record {
          name = record { part = name_part s n n refl e named; inside = omega (arith, past_ahead named) };
          plain = sym (ap (λ (k : List ℕ). eqb (length k) 0) no_key);
          empty = empty_told s n n refl false (e + 1) named_past;
          text = said.spans;
          place = said.place;
          leaf = el ∙ ap (λ (f : Forest). not (has_element f)) (sym kids);
        }

    pub start_last : length s ≤ z → Opening s n (start true (length s))
    unfolding has_element
    start_last l =
        let t : NextTag s n End = none_next s n z whole l in
        record {
          here = refl;
          shape = shape true (length s) (sym (ap (λ (f : Forest). not (has_element f)) (row_end t)));
          alone = λ w. let y : ◌≡◌ {A = ℕ} 0 1 = cc in absurd (omega arith);
          left = λ w v. behind_end t;
        }

    pub start_before : z < length s → (leaf : Bool) → leaf ≡ eqb (get_or s (z + 1) 0) 47 → Opening s n (start leaf (z + 1))
    unfolding has_element top opened alone
    start_before l leaf el = go leaf el
      where
        slash : true ≡ eqb (get_or s (z + 1) 0) 47 → NextTag s n (Close (z + 1))
        slash q = close_next s n z whole l (eqb-true (get_or s (z + 1) 0) 47 (sym q))

        inner : false ≡ eqb (get_or s (z + 1) 0) 47 → has_element (forest_at s n) ≡ true
        inner q = more (empty_at s (z + 1)) refl
          where
            no : get_or s (z + 1) 0 ≡ 47 → ⊥
            no = eqb-false (get_or s (z + 1) 0) 47 (sym q)

            more : (b : Bool) → empty_at s (z + 1) ≡ b → has_element (forest_at s n) ≡ true
            more true w = ap (λ x. has_element (top x)) (empty_next s n z whole l no w).left
            more false w = ap (λ x. has_element (top x)) (open_next s n z whole l no w).left

        go : (leaf : Bool) → leaf ≡ eqb (get_or s (z + 1) 0) 47 → Opening s n (start leaf (z + 1))
        go true q =
            record {
              here = refl;
              shape = shape true (z + 1) (sym (ap (λ (f : Forest). not (has_element f)) (row_close (slash q))));
              alone = λ w. let y : ◌≡◌ {A = ℕ} 0 1 = cc in absurd (omega arith);
              left = λ w v. behind_close (slash q);
            }
        go false q =
            record {
              here = refl;
              shape = shape false (z + 1) (sym (ap not (inner q)));
              alone = λ w. let y : ◌≡◌ {A = ℕ} 0 1 = cc in absurd (omega arith);
              left = λ w v. let y : ◌≡◌ {A = ℕ} 0 1 = cc in absurd (omega arith);
            }

-- the tag at n, read part by part
module _ (s : List ℕ) (n e : ℕ) (named : Past is_name_byte s n e) (b : Bool) (t : ℕ) (ends : past 0 0 (drop n s) ≡ record { empty = b; rest = drop t s })
    (plain : Bool) (ep : plain ≡ eqb (length (head_at s n).key) 0) (said : Span) (es : TextAt s n said)
    (leaf : Bool) (el : leaf ≡ not (has_element (children_at s n))) where
  abbrev other : Bool → Bool → ℕ → Start
  other empty leaf next =
      record { at = n; name = record { from = n; len = e - n }; plain = plain; empty = empty; text = said; leaf = leaf; next = next }

  shaped : (next : ℕ) → Shape s (other b leaf next)
  shaped next =
      record {
        name = record { part = name_part s n n refl e named; inside = omega (arith, past_ahead named, named.inside) };
        plain = ep;
        empty = empty_told s n n refl b t ends;
        text = es.spans;
        place = es.place;
        leaf = el;
      }

  pub start_told : {j : ℕ} → GoesOnAt s n b leaf j → Opening s n (other b leaf j)
  start_told {j} g = record { here = refl; shape = shaped j; alone = g.alone; left = g.left }

-- the element at the tag behind the next `<`, at j, comes next
module _ (s : List ℕ) (i j : ℕ) (found : Past not_open s i j) (h : j < length s) (no : get_or s (j + 1) 0 ≡ 47 → ⊥) (x : Start) (o : Opening s (j + 1) x) where
  empty_tag : x.empty ≡ true → NextTag s i (Empty x.at)
  empty_tag e = subst (λ (n : ℕ). NextTag s i (Empty n)) (sym o.here) (empty_next s i j found h no (ap (empty_at s) (sym o.here) ∙ o.shape.empty ∙ e))

  open_tag : x.empty ≡ false → NextTag s i (Open x.at)
  open_tag e = subst (λ (n : ℕ). NextTag s i (Open n)) (sym o.here) (open_next s i j found h no (ap (empty_at s) (sym o.here) ∙ o.shape.empty ∙ e))

  pub opens_next : StartsElement s i x
  opens_next =
      record {
        tag = tag x.empty refl;
        shape = o.shape;
        next = λ l. next x.empty refl l;
      }
    where
      tag : (b : Bool) → x.empty ≡ b → NextTag s i (cond x.empty (Empty x.at) (Open x.at))
      tag true e = rw e (empty_tag e)
      tag false e = rw e (open_tag e)

      next : (b : Bool) → x.empty ≡ b → x.leaf ≡ true → FirstOf s i x.at x.next
      next true e l = subst (FirstOf s i x.at) (o.here ∙ sym (o.alone e)) (first_empty (empty_tag e))
      next false e l = first_open (open_tag e) (subst (λ (n : ℕ). Behind s n x.next) (sym o.here) (o.left e l))

-- an element with children is no empty-element tag
module _ {s : List ℕ} {i : ℕ} {x : Start} (t : StartsElement s i x) (inner : x.leaf ≡ false) where
  pub not_empty : x.empty ≡ false
  unfolding has_element children_at
  not_empty = go x.empty refl
    where
      go : (b : Bool) → x.empty ≡ b → b ≡ false
      go false e = refl
      go true e =
          let k : children_at s x.at ≡ none = rw (t.shape.empty ∙ e) in
          let z : true ≡ false = sym (ap (λ (f : Forest). not (has_element f)) k) ∙ sym t.shape.leaf ∙ inner in
          let y : ◌≡◌ {A = ℕ} 0 1 = cc in
          absurd (omega arith)

  pub inner_open : NextTag s i (Open x.at)
  inner_open = rw not_empty at t.tag

  pub inner_first : {j : ℕ} → Behind s x.at j → FirstOf s i x.at j
  inner_first b = first_open inner_open b
