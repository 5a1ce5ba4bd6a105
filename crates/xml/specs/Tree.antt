-- The elements of a text as a forest, and how they are read off any bytes. In the XML form (01) a `<` stands only where a tag begins, so
-- the tags are found by it.
use Rattle.std.specs.Prelude.{Bool, false, cond, not, ◌||◌, List, [], ◌∷◌, ℕ, suc, take, drop, get_or, eqb}
use Rattle.xml.specs.Bytes.{is_name_byte, is_space}

-- an element's name, its attribute's name and value, both empty where it has none, and its text up to the next tag, all as spelled
pub record Head : Type 0 where
  pub name : List ℕ
  pub key : List ℕ
  pub value : List ℕ
  pub text : List ℕ

-- elements in a row: what is told of the first one, its children, and the elements after it
pub data Tree (A : Type 0) : Type 0 where
  none : Tree A
  node : A → Tree A → Tree A → Tree A

-- elements told by their heads
abbrev pub Forest : Type 0
Forest = Tree Head

-- how many bytes of the list's front pass the test
unfoldable pub front : (ℕ → Bool) → List ℕ → ℕ
front f [] = 0
front f (b ∷ s) = cond (f b) (suc (front f s)) 0

-- the list from the first byte on that does not pass
unfoldable pub behind : (ℕ → Bool) → List ℕ → List ℕ
behind f s = drop (front f s) s

unfoldable pub is_not : ℕ → ℕ → Bool
is_not q b = not (eqb b q)

-- no `<`
abbrev pub not_open : ℕ → Bool
not_open = is_not 60

-- inside quotes q, or outside them where q is 0: the same after the byte b
unfoldable pub quote_after : ℕ → ℕ → ℕ
quote_after q b = cond (eqb q 0) (cond (eqb b 34 || eqb b 39) b 0) (cond (eqb b q) 0 q)

-- whether a tag ends with `/>`, and what follows the tag
pub record Rest : Type 0 where
  pub empty : Bool
  pub rest : List ℕ

-- the end of a tag, from a byte on that is inside quotes q, or outside them where q is 0; the byte before it was l
unfoldable pub past : ℕ → ℕ → List ℕ → Rest
past q l [] = record { empty = false; rest = [] }
past q l (b ∷ s) = let r = past (quote_after q b) b s in cond (eqb q 0) (cond (eqb b 62) (record { empty = eqb l 47; rest = s }) r) r

-- what stands between the first quotes before the tag's end
unfoldable pub quoted : List ℕ → List ℕ
quoted [] = []
quoted (b ∷ s) =
    let r = quoted s in
    cond (eqb b 62) [] (cond (eqb b 34 || eqb b 39) (take (front (is_not b) s) s) r)

-- what an element's start tag says, from behind its `<` on, with the text t behind the tag
unfoldable pub head_of : List ℕ → List ℕ → Head
head_of s t =
    record {
      name = take (front is_name_byte s) s;
      key = take (front is_name_byte (behind is_space (behind is_name_byte s))) (behind is_space (behind is_name_byte s));
      value = quoted (behind is_name_byte s);
      text = take (front not_open t) t;
    }

-- what follows the tag that r begins with, from behind its `<` on; behind an empty-element tag nothing counts
unfoldable pub behind_tag : List ℕ → List ℕ
behind_tag r = cond (past 0 0 r).empty [] (past 0 0 r).rest

-- the head of the element whose tag r begins with
abbrev pub tag_head : List ℕ → Head
tag_head r = head_of r (behind_tag r)

-- What is left to read at a place in a text: of the innermost open element, of the one around it, and so on.
module _ {A : Type 0} where
  -- of the innermost open element
  unfoldable pub top : List (Tree A) → Tree A
  top [] = none
  top (f ∷ fs) = f

  -- of those around it
  unfoldable pub pop : List (Tree A) → List (Tree A)
  pop [] = []
  pop (f ∷ fs) = fs

  -- an end tag before fs
  unfoldable pub closed : List (Tree A) → List (Tree A)
  closed fs = none ∷ fs

  -- a start tag before fs
  unfoldable pub opened : A → List (Tree A) → List (Tree A)
  opened h fs = node h (top fs) (top (pop fs)) ∷ pop (pop fs)

  -- an empty-element tag before fs
  unfoldable pub alone : A → List (Tree A) → List (Tree A)
  alone h fs = node h none (top fs) ∷ pop fs

  -- An element is told by what follows the `<` of its tag, to the end of the text: `tell` says what.

  -- the tag that r begins with, before fs
  unfoldable pub put : (List ℕ → A) → List ℕ → List (Tree A) → List (Tree A)
  put tell r fs = cond (eqb (get_or r 0 0) 47) (closed fs) (cond (past 0 0 r).empty (alone (tell r) fs) (opened (tell r) fs))

  unfoldable pub trees : (List ℕ → A) → List ℕ → List (Tree A)
  trees tell [] = []
  trees tell (b ∷ s) = let fs = trees tell s in cond (not_open b) fs (put tell s fs)

-- told by their heads
abbrev pub forests : List ℕ → List Forest
forests = trees tag_head
