-- The names of an index's entries lie in its text, and each parent comes before what it holds.
use mathlib.Core.Path.{◌≡◌, subst}
use mathlib.Core.Bool.{Bool, true, false, cond}
use mathlib.Core.List.{List, [], ◌∷◌, ◌++◌}
use Prim.Native.Nat.{ℕ, suc, ◌+◌, ◌-◌, ◌≤◌}
use native.Mathlib.Nat.{add-zero}
use native.Mathlib.Omega.{arith}
use lib.Dec.{eqb}
use lib.ListN.{length, take, drop, get_or, length-take, length-drop}
use Rattle.slices.specs.Words.{bytes}
use Rattle.xml.specs.Tree.{none, node, front, not_open, quote_after, past, head_of, behind_tag, tag_head, top, pop, closed, opened, alone, put, trees}
use Rattle.elements.specs.Tags.{Tags, tags_of, tags_at, text_place}
use Rattle.elements.specs.Reading.{Inside}
use Rattle.children.specs.Children.{matching, children_of_first}
use Rattle.children.specs.Places.{tags_named, first_text}
use Rattle.index_names.specs.declared.Sort.{Sort}
use Rattle.index_names.specs.declared.Sort.TheVariants.{Index as index}
use Rattle.index_names.specs.Sorts.{holds_elements}
use Rattle.index_values.specs.Elements.{sort_of}
use Rattle.index_values.specs.Entries.{is_entry}
use Rattle.index.specs.Entries.{Entry, holder, name_in, entry_with, entry_of, entry_itself, entries_in, index_entries}

-- tags of at most n bytes: of a row and in it, and of several
data Short (n : ℕ) : Tags → Type 0 where
  end : Short n none
  next : {r : List ℕ} {k f : Tags} → length r ≤ n → Short n k → Short n f → Short n (node r k f)

data ShortEach (n : ℕ) : List Tags → Type 0 where
  last : ShortEach n []
  more : {t : Tags} {ts : List Tags} → Short n t → ShortEach n ts → ShortEach n (t ∷ ts)

longer : (m n : ℕ) → m ≤ n → (t : Tags) → Short m t → Short n t
longer m n h none end = end
longer m n h (node r k f) (next p a b) = next {r = r} (omega (arith, p)) (longer m n h k a) (longer m n h f b)

longer_each : (m n : ℕ) → m ≤ n → (ts : List Tags) → ShortEach m ts → ShortEach n ts
longer_each m n h [] last = last
longer_each m n h (t ∷ ts) (more a b) = more (longer m n h t a) (longer_each m n h ts b)

top_short : (n : ℕ) (ts : List Tags) → ShortEach n ts → Short n (top ts)
unfolding top
top_short n [] last = end
top_short n (t ∷ ts) (more a b) = a

pop_short : (n : ℕ) (ts : List Tags) → ShortEach n ts → ShortEach n (pop ts)
unfolding pop
pop_short n [] last = last
pop_short n (t ∷ ts) (more a b) = b

trees_short : (s : List ℕ) → ShortEach (length s) (tags_of s)
unfolding trees put closed opened alone
trees_short [] = last
trees_short (b ∷ s) = go (not_open b) (eqb (get_or s 0 0) 47) (past 0 0 s).empty (longer_each (length s) (suc (length s)) (omega arith) (tags_of s) (trees_short s))
  where
    n : ℕ
    n = suc (length s)

    fs : List Tags
    fs = tags_of s

    go : (x y z : Bool) → ShortEach n fs
        → ShortEach n (cond x fs (cond y (none ∷ fs) (cond z (node s none (top fs) ∷ pop fs) (node s (top fs) (top (pop fs)) ∷ pop (pop fs)))))
    go true y z a = a
    go false true z a = more end a
    go false false true a = more (next {r = s} (omega arith) end (top_short n fs a)) (pop_short n fs a)
    go false false false a =
        more (next {r = s} (omega arith) (top_short n fs a) (top_short n (pop fs) (pop_short n fs a))) (pop_short n (pop fs) (pop_short n fs a))

-- what follows a tag is no longer than the tag with it, and an element's text no longer than what follows
past_short : (q l : ℕ) (r : List ℕ) → length (past q l r).rest ≤ length r
unfolding past
past_short q l [] = omega arith
past_short q l (b ∷ r) = go (eqb q 0) (eqb b 62) (past_short (quote_after q b) b r)
  where
    go : (x y : Bool) → length (past (quote_after q b) b r).rest ≤ length r
        → length (cond x (cond y (record { empty = eqb l 47; rest = r }) (past (quote_after q b) b r)) (past (quote_after q b) b r)).rest ≤ suc (length r)
    go true true h = omega arith
    go true false h = omega (arith, h)
    go false y h = omega (arith, h)

text_short : (r : List ℕ) → length (tag_head r).text ≤ length (past 0 0 r).rest
unfolding head_of behind_tag
text_short r = go (past 0 0 r).empty
  where
    go : (b : Bool) → length (take (front not_open (cond b [] (past 0 0 r).rest)) (cond b [] (past 0 0 r).rest)) ≤ length (past 0 0 r).rest
    go true = omega (arith, length-take (front not_open []) (the_empty))
      where
        the_empty : List ℕ
        the_empty = []
    go false = omega (arith, length-take (front not_open (past 0 0 r).rest) (past 0 0 r).rest)

module _ (s : List ℕ) where
  place_inside : (r : List ℕ) → length r ≤ length s → Inside s (text_place s r).from (text_place s r).len
  place_inside r h = omega (arith, past_short 0 0 r, text_short r, h)

  first_inside : (t : Tags) → Short (length s) t → Inside s (first_text s t).from (first_text s t).len
  first_inside none end = omega arith
  first_inside (node r k f) (next h a b) = place_inside r h

  matching_short : (test : List ℕ → Bool) (t : Tags) → Short (length s) t → Short (length s) (matching test t)
  unfolding matching
  matching_short test none end = end
  matching_short test (node r k f) (next h a b) = go (test r) (matching_short test f b)
    where
      go : (o : Bool) → Short (length s) (matching test f) → Short (length s) (cond o (node r k (matching test f)) (matching test f))
      go true i = next h a i
      go false i = i

  -- each name lies in the text
  pub data AllInside : List Entry → Type 0 where
    none_left : AllInside []
    one_more : {e : Entry} {l : List Entry} → Inside s e.name.from e.name.len → AllInside l → AllInside (e ∷ l)

  inside_append : (l k : List Entry) → AllInside l → AllInside k → AllInside (l ++ k)
  inside_append [] k none_left b = b
  inside_append (e ∷ l) k (one_more h a) b = one_more h (inside_append l k a b)

  entries_inside : (kind : Sort) (p n : ℕ) (f : Tags) → Short (length s) f → AllInside (entries_in s kind p n f)
  unfolding entries_in entry_with
  entries_inside kind p n none end = none_left
  entries_inside kind p n (node r k f) (next h a b) =
      inside_append one _ (itself (is_entry sort))
      (inside_append _ _ (within (holds_elements sort) (entries_inside sort (holder sort p n) (n + length one) k a)) (entries_inside kind p _ f b))
    where
      sort : Sort
      sort = sort_of kind (tag_head r)

      one : List Entry
      one = entry_itself s sort p k

      named : Inside s (name_in s k).from (name_in s k).len
      named = first_inside (tags_named (bytes "name") k) (matching_short _ k a)

      itself : (o : Bool) → AllInside (cond o (entry_of s sort p k ∷ []) [])
      itself true = one_more named none_left
      itself false = none_left

      within : (o : Bool) → AllInside (entries_in s sort (holder sort p n) (n + length one) k)
          → AllInside (cond o (entries_in s sort (holder sort p n) (n + length one) k) [])
      within true i = i
      within false i = none_left

  children_short : (t : Tags) → Short (length s) t → Short (length s) (children_of_first t)
  unfolding children_of_first
  children_short none end = end
  children_short (node r k f) (next h a b) = a

  pub names_inside : AllInside (index_entries s)
  names_inside =
      entries_inside index 0 0 (children_of_first (tags_at s 38))
      (children_short (tags_at s 38)
      (longer (length (drop 38 s)) (length s) (omega (arith, length-drop 38 s)) (tags_at s 38) (top_short (length (drop 38 s)) (tags_of (drop 38 s)) (trees_short (drop 38 s)))))

  -- each parent comes before its entry, of which the first has the number n; the first of all is its own
  pub data AllBefore : ℕ → List Entry → Type 0 where
    no_entry : {n : ℕ} → AllBefore n []
    one_entry : {n : ℕ} {e : Entry} {l : List Entry} → e.parent ≤ n - 1 → AllBefore (suc n) l → AllBefore n (e ∷ l)

  before_append : (n : ℕ) (l k : List Entry) → AllBefore n l → AllBefore (n + length l) k → AllBefore n (l ++ k)
  before_append n [] k no_entry b = subst (λ (m : ℕ). AllBefore m k) (add-zero n) b
  before_append n (e ∷ l) k (one_entry h a) b =
      let m : n + suc (length l) ≡ suc n + length l = omega arith in
      one_entry h (before_append (suc n) l k a (subst (λ (j : ℕ). AllBefore j k) m b))

  entries_before : (kind : Sort) (p n : ℕ) (f : Tags) → p ≤ n - 1 → AllBefore n (entries_in s kind p n f)
  unfolding entries_in entry_with
  entries_before kind p n none h = no_entry
  entries_before kind p n (node r k f) h =
      before_append n one _ (itself (is_entry sort))
      (before_append (n + length one) _ _ (within (holds_elements sort) (entries_before sort (holder sort p n) (n + length one) k (held (is_entry sort))))
      (entries_before kind p _ f (omega (arith, h))))
    where
      sort : Sort
      sort = sort_of kind (tag_head r)

      one : List Entry
      one = entry_itself s sort p k

      itself : (o : Bool) → AllBefore n (cond o (entry_of s sort p k ∷ []) [])
      itself true = one_entry h no_entry
      itself false = no_entry

      held : (o : Bool) → cond o n p ≤ n + length (cond o (entry_of s sort p k ∷ []) []) - 1
      held true = omega arith
      held false = omega (arith, h)

      within : (o : Bool) → AllBefore (n + length one) (entries_in s sort (holder sort p n) (n + length one) k)
          → AllBefore (n + length one) (cond o (entries_in s sort (holder sort p n) (n + length one) k) [])
      within true i = i
      within false i = no_entry

  pub parents_before : AllBefore 0 (index_entries s)
  parents_before = entries_before index 0 0 (children_of_first (tags_at s 38)) (omega arith)
