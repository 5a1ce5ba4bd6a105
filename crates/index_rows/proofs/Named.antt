-- Elements told by their number are those told by their name: a name's number among some is that of its rule in a table of them.
use mathlib.Core.Path.{◌≡◌, refl, ap, sym, ◌∙◌}
use mathlib.Core.Bool.{Bool, true, cond}
use mathlib.Core.List.{List, [], ◌∷◌}
use Prim.Native.Nat.{ℕ, suc}
use lib.Dec.{eqb}
use Rattle.slices.specs.Slices.{same}
use Rattle.slices.proofs.Booleans.{split}
use Rattle.slices.proofs.Equal.{same_eq, eq_same, ne_same, same_ne}
use Rattle.children.specs.Rules.{Rule, rule_number}
use Rattle.children.proofs.Named.{name_of, fresh, placed}
use Rattle.index_names.specs.Names.{number_in}

pub same_flip : (a b : List ℕ) → same a b ≡ same b a
same_flip a b =
    split (λ (t : Bool). t ≡ same b a) (same a b) (λ e. sym (eq_same b a (sym (same_eq a b e)))) (λ e. sym (ne_same b a (λ z. same_ne a b e (sym z))))

-- the names of rules
unfoldable pub names_of : List Rule → List (List ℕ)
names_of [] = []
names_of (r ∷ rs) = r.name ∷ names_of rs

pub number_place : (rs : List Rule) (n : List ℕ) → rule_number rs n ≡ number_in (names_of rs) n
unfolding names_of rule_number number_in
number_place [] n = refl
number_place (r ∷ rs) n =
    ap (λ (b : Bool). cond b 0 (suc (rule_number rs n))) (same_flip r.name n) ∙ ap (λ (k : ℕ). cond (same n r.name) 0 (suc k)) (number_place rs n)

-- a table of names, whatever their elements hold
unfoldable pub ruled : List (List ℕ) → List Rule
ruled [] = []
ruled (x ∷ xs) = record { name = x; mark = 0 } ∷ ruled xs

names_ruled : (xs : List (List ℕ)) → names_of (ruled xs) ≡ xs
unfolding names_of ruled
names_ruled [] = refl
names_ruled (x ∷ xs) = ap (λ (l : List (List ℕ)). x ∷ l) (names_ruled xs)

-- number j is the name's alone, where no earlier name is the same
pub number_own : (xs : List (List ℕ)) (j : ℕ) (n : List ℕ) → fresh (ruled xs) j ≡ true → eqb (number_in xs n) j ≡ same n (name_of (ruled xs) j)
number_own xs j n e =
    ap (λ (k : ℕ). eqb k j) (sym (number_place (ruled xs) n ∙ ap (λ (l : List (List ℕ)). number_in l n) (names_ruled xs)))
    ∙ placed (ruled xs) j n e ∙ same_flip (name_of (ruled xs) j) n
