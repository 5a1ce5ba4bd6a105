-- The elements of a derivation: nested no deeper than it says, each with a lawful name and text.
use mathlib.Core.Path.{◌≡◌, refl, ap, ◌∙◌, sym, subst}
use mathlib.Core.List.{List, [], ◌∷◌, ◌++◌, append_assoc, append_cancel_right}
use mathlib.Core.Logic.{inl, inr}
use Prim.Native.Nat.{ℕ, ◌≤◌}
use native.Mathlib.Omega.{arith}
use lib.ListN.{length, length-append}
use Rattle.xml.specs.Bytes.{is_space}
use Rattle.xml.specs.Tree.{Forest}
use Rattle.xml.specs.Grammar.{Spaces, Char, Text, Elements, utf8}
use Rattle.xml.specs.FormSteps.{height, Formed}
use Rattle.xml.proofs.Trees.{start_name}

pub elements_height : {d : ℕ} {f : Forest} {s t : List ℕ} → Elements d f s t → height f ≤ d
unfolding height
elements_height Elements.end = omega arith
elements_height (Elements.empty x y z) = omega (arith, elements_height z)
elements_height (Elements.text x _ y u v z) = omega (arith, elements_height z)
elements_height (Elements.nest x _ y k u v z) = omega (arith, elements_height k, elements_height z)

spaces_part : {s t : List ℕ} (w : List ℕ) → Spaces s t → s ≡ w ++ t → Spaces w []
spaces_part [] x e = Spaces.end
spaces_part (c ∷ w) Spaces.end e = absurd (omega (arith, simp length-append at (ap length e)))
spaces_part {t = t} (c ∷ w) (Spaces.more {b} {s} h x) e =
    let p : b ≡ c = cc in
    let q : s ≡ w ++ t = cc in
    Spaces.more (ap is_space (sym p) ∙ h) (spaces_part w x q)

-- a character does not depend on what follows it
pub char_alone : {s t : List ℕ} → Char s t → (v : List ℕ) × (s ≡ v ++ t) × ((u : List ℕ) → Char (v ++ u) u)
char_alone (Char.char c e g h z) = (utf8 c, z, λ u. Char.char c {s = utf8 c ++ u} {t = u} e g h refl)
char_alone (Char.reference {e} x) = (38 ∷ e, refl, λ u. Char.reference x)

text_alone : {s t : List ℕ} → Text s t → (w : List ℕ) × (s ≡ w ++ t) × Text w []
text_alone Text.end = ([], refl, Text.end)
text_alone {s} {t} (Text.more not c x) =
    let (v, e, a) = char_alone c in
    let (w, f, b) = text_alone x in
    let z : s ≡ (v ++ w) ++ t = e ∙ ap (λ (l : List ℕ). v ++ l) f ∙ sym (append_assoc v w t) in
    (v ++ w, z, Text.more (λ r y. not (r ++ t) (z ∙ ap (λ (l : List ℕ). l ++ t) y)) (a w) b)

text_part : {s t : List ℕ} (w : List ℕ) → Text s t → s ≡ w ++ t → Text w []
text_part {t = t} w x e =
    let (v, f, a) = text_alone x in
    subst (λ (l : List ℕ). Text l []) (append_cancel_right v w t (sym f ∙ e)) a

pub elements_lawful : {d : ℕ} {f : Forest} {s t : List ℕ} → Elements d f s t → Formed f
elements_lawful Elements.end = tt
elements_lawful (Elements.empty x y z) = (start_name x, inl (refl, Text.end), tt, elements_lawful z)
elements_lawful (Elements.text {w = w} x e y u v z) = (start_name x, inl (refl, text_part w y e), tt, elements_lawful z)
elements_lawful (Elements.nest {w = w} x e y k u v z) = (start_name x, inr (spaces_part w y e), elements_lawful k, elements_lawful z)
