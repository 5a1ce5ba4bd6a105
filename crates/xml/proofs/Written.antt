-- Spelling elements: what a writer stores is derived, so that reading it back gives its tree.
use mathlib.Core.Path.{◌≡◌, refl, ap, ◌∙◌, sym, subst}
use mathlib.Core.List.{List, [], ◌∷◌, ◌++◌, append_assoc}
use Prim.Native.Nat.{ℕ, suc}
use native.Mathlib.Omega.{arith}
use Rattle.xml.specs.Tree.{Forest, none, node}
use Rattle.xml.specs.Grammar.{Spaces, Name, Char, Text, Attribute, Start, End, Elements, head}
use Rattle.xml.proofs.Lawful.{char_alone}

-- a `<` behind it makes no `]]>`
no_end : (w r : List ℕ) → ((q : List ℕ) → w ≡ 93 ∷ 93 ∷ 62 ∷ q → ⊥) → (q : List ℕ) → w ++ 60 ∷ r ≡ 93 ∷ 93 ∷ 62 ∷ q → ⊥
no_end [] r h q e = let z : ◌≡◌ {A = ℕ} 60 93 = cc in omega arith
no_end (a ∷ []) r h q e = let z : ◌≡◌ {A = ℕ} 60 93 = cc in omega arith
no_end (a ∷ b ∷ []) r h q e = let z : ◌≡◌ {A = ℕ} 60 62 = cc in omega arith
no_end (a ∷ b ∷ c ∷ w) r h q e = h w (cc)

pub text_before : {w : List ℕ} (r : List ℕ) → Text w [] → Text (w ++ 60 ∷ r) (60 ∷ r)
text_before r Text.end = Text.end
text_before {w} r (Text.more {s₁ = w₁} h c x) =
    let (v, e, a) = char_alone c in
    let z : w ++ 60 ∷ r ≡ v ++ (w₁ ++ 60 ∷ r) = ap (λ (l : List ℕ). l ++ 60 ∷ r) e ∙ append_assoc v w₁ (60 ∷ r) in
    Text.more (no_end w r h) (subst (λ (l : List ℕ). Char l (w₁ ++ 60 ∷ r)) (sym z) (a (w₁ ++ 60 ∷ r))) (text_before r x)

module _ {d : ℕ} {f : Forest} {n s t : List ℕ} (m : Name n) (after : Elements (suc d) f s t) where
  -- `<n>w</n>`
  pub leaf : (w : List ℕ) → Text w [] → Elements (suc d) (node (head n [] [] w) none f) (60 ∷ n ++ (62 ∷ w ++ (60 ∷ 47 ∷ n ++ 62 ∷ s))) t
  leaf w x = Elements.text (Start.start m Attribute.without Spaces.end) refl (text_before (47 ∷ n ++ 62 ∷ s) x) (End.end Spaces.end) Spaces.end after

  -- `<n>`, elements, `</n>`
  pub branch : {g : Forest} {s₁ : List ℕ} → Elements d g s₁ (60 ∷ 47 ∷ n ++ 62 ∷ s) → Elements (suc d) (node (head n [] [] []) g f) (60 ∷ n ++ 62 ∷ s₁) t
  branch x = Elements.nest {w = []} (Start.start m Attribute.without Spaces.end) refl Spaces.end x (End.end Spaces.end) Spaces.end after
