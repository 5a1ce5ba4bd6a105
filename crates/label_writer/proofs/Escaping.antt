-- A creator escaped, byte by byte along it; what is meant by it, and that it holds no `<`.
use mathlib.Core.Path.{◌≡◌, refl, ap, ap₂, ◌∙◌, sym}
use mathlib.Core.Bool.{Bool, true, false, cond}
use mathlib.Core.List.{List, [], ◌∷◌, ◌++◌, append_assoc, append-nil}
use Prim.Native.Nat.{ℕ, ◌+◌, ◌<◌, ◌≤◌}
use native.Mathlib.Numerals.{add-one}
use borrow.Author.Tests.{eqb-true, eqb-false}
use lib.Dec.{eqb}
use lib.ListN.{length, take, get_or}
use lib.Seq.{take-suc, take_all}
use Rattle.slices.specs.Slices.{every}
use Rattle.slices.specs.Words.{bytes}
use Rattle.slices.proofs.Booleans.{and_both}
use Rattle.slices.proofs.Every.{every_append}
use Rattle.xml.specs.Tree.{is_not, not_open}
use Rattle.xml.specs.Grammar.{amp, lt, gt}
use Rattle.texts.specs.Decoded.{decoded_behind, decoded}
use Rattle.texts.proofs.Entities.{decoded_entity, decoded_plain}
use Rattle.label_writer.specs.Text.{escape, escaped}

pub escaped_append : (s t : List ℕ) → escaped (s ++ t) ≡ escaped s ++ escaped t
unfolding escaped
escaped_append [] t = refl
escaped_append (b ∷ s) t = ap (λ (l : List ℕ). escape b ++ l) (escaped_append s t) ∙ sym (append_assoc (escape b) (escaped s) (escaped t))

-- one byte more
pub escaped_on : (s : List ℕ) (i : ℕ) → i < length s → escaped (take (i + 1) s) ≡ escaped (take i s) ++ escape (get_or s i 0)
unfolding escaped
escaped_on s i h =
    ap escaped (ap (λ (k : ℕ). take k s) (add-one i) ∙ take-suc s i 0 h) ∙ escaped_append (take i s) (get_or s i 0 ∷ [])
    ∙ ap (λ (l : List ℕ). escaped (take i s) ++ l) (append-nil (escape (get_or s i 0)))

pub escaped_all : (s : List ℕ) (i : ℕ) → length s ≤ i → escaped (take i s) ≡ escaped s
escaped_all s i h = ap escaped (take_all i s h)

-- what is meant by an escaped creator is the creator
pub decoded_escaped : (s : List ℕ) → decoded (escaped s) ≡ s
unfolding escaped escape bytes decoded_behind
decoded_escaped [] = refl
decoded_escaped (b ∷ s) = go (eqb b 38) (eqb b 60) (eqb b 62) refl refl refl (decoded_escaped s)
  where
    go : (t u v : Bool) → eqb b 38 ≡ t → eqb b 60 ≡ u → eqb b 62 ≡ v → decoded (escaped s) ≡ s
        → decoded (cond t (bytes "&amp;") (cond u (bytes "&lt;") (cond v (bytes "&gt;") (b ∷ []))) ++ escaped s) ≡ b ∷ s
    go true u v e f g h = decoded_entity amp (escaped s) ∙ ap₂ ◌∷◌ (sym (eqb-true b 38 e)) h
    go false true v e f g h = decoded_entity lt (escaped s) ∙ ap₂ ◌∷◌ (sym (eqb-true b 60 f)) h
    go false false true e f g h = decoded_entity gt (escaped s) ∙ ap₂ ◌∷◌ (sym (eqb-true b 62 g)) h
    go false false false e f g h = decoded_plain b (escaped s) (eqb-false b 38 e) ∙ ap (λ (l : List ℕ). b ∷ l) h

pub escaped_closed : (s : List ℕ) → every not_open (escaped s) ≡ true
unfolding escaped escape bytes is_not
escaped_closed [] = refl
escaped_closed (b ∷ s) =
    every_append not_open (escape b) (escaped s) ∙ and_both (every not_open (escape b)) (every not_open (escaped s)) (go (eqb b 38) (eqb b 60) (eqb b 62) refl) (escaped_closed s)
  where
    go : (t u v : Bool) → eqb b 60 ≡ u → every not_open (cond t (bytes "&amp;") (cond u (bytes "&lt;") (cond v (bytes "&gt;") (b ∷ [])))) ≡ true
    go true u v e = refl
    go false true v e = refl
    go false false true e = refl
    go false false false e = rw e
