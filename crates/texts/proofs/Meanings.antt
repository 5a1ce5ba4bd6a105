-- What is meant, along a text: what its first byte means, and what is meant by what follows that byte's spelling.
use mathlib.Core.Path.{◌≡◌, refl, ap, ap₂, sym, ◌∙◌}
use mathlib.Core.Bool.{Bool, true, false, not, cond}
use mathlib.Core.List.{List, [], ◌∷◌}
use Prim.Native.Nat.{ℕ, zero, suc, ◌+◌, ◌-◌, ◌<◌, ◌≤◌, min}
use native.Mathlib.Omega.{arith}
use lib.Dec.{eqb}
use lib.ListN.{length, take, drop, drop_of_length-le, length-drop, length-take, set}
use lib.Seq.{drop-drop}
use Rattle.std.specs.Prelude.{Option, None, Some, MatchOption, IfSome}
use Rattle.std.specs.List.{filter, AllZip}
use Rattle.std.specs.Iterator.{YieldsFirst, YieldsThen}
use native.Mathlib.Nat.{zero-add}
use Rattle.slices.specs.Slices.{same, written}
use Rattle.slices.proofs.Writing.{written_set, written_then}
use Rattle.slices.proofs.Equal.{lengths_differ}
use Rattle.std.proofs.lemmas.List.{drop_min}
use Rattle.std.proofs.lemmas.Iterator.{YieldsList}
use Rattle.std.proofs.lemmas.Iterator.Consumers.{YieldsList-from_first}
use Rattle.texts.specs.declared.DecodedBytes.{DecodedBytes}
use Rattle.texts.specs.Steps.{Means}
use Rattle.texts.proofs.Entities.{decoded_plain}
use Rattle.texts.specs.Decoded.{begins, reference_meant, meaning, decoded_behind, decoded, continues, code_points}

pub begins_short : (w r : List ℕ) → length r < length w → begins w r ≡ false
begins_short w r h = lengths_differ (take (length w) r) w (λ e. omega (arith, e, length-take (length w) r))

-- what the bytes of a reference are passed over for
behind_drop : (n : ℕ) (s : List ℕ) → decoded_behind n s ≡ decoded (drop n s)
unfolding decoded_behind
behind_drop zero s = refl
behind_drop (suc n) [] = refl
behind_drop (suc n) (b ∷ s) = behind_drop n s

-- an `&`, with its reference
pub decoded_reference : (s : List ℕ) → decoded (38 ∷ s) ≡ (reference_meant s).byte ∷ decoded (drop (reference_meant s).more s)
unfolding meaning decoded_behind
decoded_reference s = ap (λ l. (reference_meant s).byte ∷ l) (behind_drop (reference_meant s).more s)

-- an end of a text starts as far before the text's end as it is long
drop_back : (n : ℕ) (s : List ℕ) → drop (length s - length (drop n s)) s ≡ drop n s
drop_back n s = let e : length s - length (drop n s) ≡ min n (length s) = omega (arith, length-drop n s) in rw e (drop_min n s)

module _ (s : List ℕ) (i : ℕ) where
  -- past the end nothing is meant
  pub decoded_end : length s ≤ i → decoded (drop i s) ≡ []
  unfolding decoded_behind
  decoded_end h = ap decoded (drop_of_length-le s h)

  module _ (b : ℕ) (r : List ℕ) (h : drop i s ≡ b ∷ r) where
    -- how long what follows the byte is
    left : i + 1 + length r ≡ length s
    left = omega (arith, ap length h, length-drop i s)

    -- what follows it starts behind it
    behind : drop (i + 1) s ≡ r
    behind = sym (drop-drop 1 i s) ∙ ap (λ (l : List ℕ). drop 1 l) h

    -- a byte that means itself
    pub plain_at : (b ≡ 38 → ⊥) → Means s i b (i + 1)
    plain_at e =
        record {
          bytes = ap decoded h ∙ decoded_plain b r e ∙ ap (λ (l : List ℕ). b ∷ decoded l) (sym behind);
          place = (omega arith, omega (arith, left));
        }

    -- an `&`, with its reference, behind which u stands
    pub reference_at : (x : ℕ) (u : List ℕ) → b ≡ 38 → x ≡ (reference_meant r).byte → u ≡ drop (reference_meant r).more r → Means s i x (length s - length u)
    reference_at x u e m k =
        let n = (reference_meant r).more in
        let at : u ≡ drop (i + 1 + n) s = k ∙ ap (λ (l : List ℕ). drop n l) (sym behind) ∙ drop-drop n (i + 1) s in
        let on : drop (length s - length u) s ≡ u = ap (λ (l : List ℕ). drop (length s - length l) s) at ∙ drop_back (i + 1 + n) s ∙ sym at in
        record {
          bytes = ap decoded (h ∙ ap (λ (y : ℕ). y ∷ r) e) ∙ decoded_reference r ∙ ap₂ (λ (y : ℕ) (l : List ℕ). y ∷ decoded l) (sym m) (sym k ∙ sym on);
          place = (omega (arith, left, ap length k, length-drop n r), omega arith);
        }

-- the code points of a text are its bytes that continue none
kept_length : (t : Bool) (b : ℕ) (l : List ℕ) → length (cond (not t) (b ∷ l) l) ≡ cond t 0 1 + length l
kept_length true b l = sym (zero-add (length l))
kept_length false b l = omega arith

pub code_points_length : (s : List ℕ) → length (filter (λ b. not (continues b)) s) ≡ code_points s
unfolding code_points
code_points_length [] = refl
code_points_length (b ∷ s) = kept_length (continues b) b _ ∙ ap (λ n. cond (continues b) 0 1 + n) (code_points_length s)

-- the bytes that an iterator over a text gives are those that are meant
pub yields_decoded : {d : DecodedBytes} (s : List ℕ) → d.raw.now ≡ s → YieldsList (YieldsFirst (λ e. decoded e.raw.now)) (λ b. b) d (decoded s)
yields_decoded s e = YieldsList-from_first (λ b. b) (λ d. decoded d.raw.now) (decoded s) (ap decoded e)

-- two iterators that give the first of what they have left each time, compared by `eq`
module _ {S : Type 0} (rest : S → List ℕ) where
  pub equal_run :
      (s t : S) (xs ys : List ℕ) (o p : Option ℕ) (u v : S) (r : Bool) → YieldsThen (YieldsFirst rest) s xs o u → YieldsThen (YieldsFirst rest) t ys p v
      → AllZip (λ x y. eqb x y ≡ true) xs ys → MatchOption o (MatchOption p (r ≡ true) (λ _. r ≡ false)) (λ x. (r ≡ false) × IfSome p (λ y. eqb x y ≡ false))
      → r ≡ same (rest s) (rest t)
  equal_run s t [] [] None None u v r (s', a, b) (t', c, d) z l = l ∙ sym (ap₂ same (ap rest a ∙ b.0) (ap rest c ∙ d.0))
  equal_run s t [] [] None (Some y) u v r (s', a, b) (t', c, d) z l = l ∙ sym (ap₂ same (ap rest a ∙ b.0) (ap rest c ∙ d))
  equal_run s t [] [] (Some x) None u v r (s', a, b) (t', c, d) z l = l.0 ∙ sym (ap₂ same (ap rest a ∙ b) (ap rest c ∙ d.0))
  equal_run s t [] [] (Some x) (Some y) u v r (s', a, b) (t', c, d) z l = l.0 ∙ sym (ap₂ same (ap rest a ∙ b) (ap rest c ∙ d) ∙ rw l.1)
  equal_run s t [] (y ∷ ys) o p u v r a b z l = absurd z
  equal_run s t (x ∷ xs) [] o p u v r a b z l = absurd z
  equal_run s t (x ∷ xs) (y ∷ ys) o p u v r (s', (i, a, m), b) (t', (j, c, n), d) z l =
      equal_run i j xs ys o p u v r (s', m, b) (t', n, d) z.1 l ∙ sym (ap₂ same a c ∙ rw z.0)

-- a run that is written byte by byte, from its front on
pub written_on : (k b : ℕ) (w o : List ℕ) → k < length o → written k (b ∷ w) o ≡ written (k + 1) w (set o k b)
written_on k b w o h = sym (written_then k (b ∷ []) w o (omega arith)) ∙ ap (written (k + 1) w) (written_set k b o h)
