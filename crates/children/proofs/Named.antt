-- A rule's elements are those of its name, where no rule before it has that name.
use mathlib.Core.Path.{◌≡◌, refl, ap, ◌∙◌, sym}
use mathlib.Core.Bool.{Bool, true, false, cond, false≢true}
use mathlib.Core.List.{List, [], ◌∷◌}
use Prim.Native.Nat.{ℕ, zero, suc}
use lib.Dec.{eqb, eqb-suc-suc, eqb-zero-suc, eqb-suc-zero}
use Rattle.slices.specs.Slices.{same}
use Rattle.slices.proofs.Equal.{same_eq, same_refl}
use Rattle.xml.specs.Tree.{Forest, tag_head}
use Rattle.elements.specs.Tags.{Tags}
use Rattle.children.specs.Rules.{Rule, rule_number}
use Rattle.children.specs.Children.{pick, only}
use Rattle.children.specs.Places.{tags_for, tags_named}
use Rattle.children.proofs.Noted.{kept_same}

abbrev pub name_of : List Rule → ℕ → List ℕ
name_of [] k = []
name_of (r ∷ rs) zero = r.name
name_of (r ∷ rs) (suc k) = name_of rs k

-- rule k is there, and no rule before it has its name
abbrev pub fresh : List Rule → ℕ → Bool
fresh [] k = false
fresh (r ∷ rs) zero = true
fresh (r ∷ rs) (suc k) = cond (same r.name (name_of rs k)) false (fresh rs k)

pub placed : (rs : List Rule) (k : ℕ) (n : List ℕ) → fresh rs k ≡ true → eqb (rule_number rs n) k ≡ same (name_of rs k) n
unfolding rule_number
placed [] k n e = absurd (false≢true e)
placed (r ∷ rs) zero n e = go (same r.name n)
  where
    go : (t : Bool) → eqb (cond t 0 (suc (rule_number rs n))) 0 ≡ t
    go true = refl
    go false = eqb-suc-zero (rule_number rs n)
placed (r ∷ rs) (suc k) n e = go (same r.name n) refl (same r.name (name_of rs k)) refl (placed rs k n) e
  where
    other : same r.name n ≡ true → same r.name (name_of rs k) ≡ false → (t : Bool) → same (name_of rs k) n ≡ t → false ≡ t
    other q d true z =
        let a : r.name ≡ n = same_eq _ _ q in
        let b : name_of rs k ≡ n = same_eq _ _ z in
        sym d ∙ ap (same r.name) (b ∙ sym a) ∙ same_refl r.name
    other q d false z = refl

    go : (t : Bool) → same r.name n ≡ t → (u : Bool) → same r.name (name_of rs k) ≡ u → (fresh rs k ≡ true → eqb (rule_number rs n) k ≡ same (name_of rs k) n) → cond u false (fresh rs k) ≡ true
        → eqb (cond t 0 (suc (rule_number rs n))) (suc k) ≡ same (name_of rs k) n
    go t q true d i z = absurd (false≢true z)
    go true q false d i z = eqb-zero-suc k ∙ other q d (same (name_of rs k) n) refl
    go false q false d i z = eqb-suc-suc (rule_number rs n) k ∙ i z

-- where a rule's name is new, what was read at its number is what has its name
module _ (rs : List Rule) (k : ℕ) (new : fresh rs k ≡ true) where
  pub pick_only : (f : Forest) → pick rs k f ≡ only (name_of rs k) f
  pick_only = kept_same (λ h. eqb (rule_number rs h.name) k) (λ h. same (name_of rs k) h.name) (λ h. placed rs k h.name new)

  pub tags_only : (t : Tags) → tags_for rs k t ≡ tags_named (name_of rs k) t
  tags_only = kept_same (λ r. eqb (rule_number rs (tag_head r).name) k) (λ r. same (name_of rs k) (tag_head r).name) (λ r. placed rs k (tag_head r).name new)
