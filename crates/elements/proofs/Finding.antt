-- The end of a run of bytes, as `position` tells it.
use mathlib.Core.Path.{◌≡◌, refl, ap, sym, ◌∙◌}
use mathlib.Core.Bool.{Bool, true, false, not, cond, ◌||◌, false≢true}
use mathlib.Core.List.{List, [], ◌∷◌}
use Prim.Native.Nat.{ℕ, suc, ◌+◌, ◌-◌, ◌<◌, ◌≤◌}
use native.Mathlib.Omega.{arith}
use borrow.Author.Tests.{ltb-false}
use lib.Dec.{eqb, ltb}
use lib.ListN.{length, take, drop, get_or, length-drop}
use lib.Seq.{get_or-drop}
use Rattle.std.specs.Prelude.{Option, None, Some}
use Rattle.std.specs.Option.{unwrap_or}
use Rattle.std.specs.List.{position_or_len, prefix_len}
use Rattle.std.proofs.lemmas.List.{take_rest}
use Rattle.std.proofs.lemmas.List.Sums.{prefix_len-le-length}
use Rattle.xml.specs.Bytes.{is_name_byte}
use Rattle.xml.specs.Tree.{front, is_not}
use Rattle.xml.specs.ScanSteps.{Past}
use Rattle.xml.proofs.Past.{front_more, front_none}
use Rattle.elements.specs.ScanSteps.{Onward, Looked}
use Rattle.elements.proofs.Names.{no_shut}

module _ (f g : ℕ → Bool) where
  -- how many pass from the front on, in the library's words
  front_prefix : ((b : ℕ) → f b ≡ g b) → (s : List ℕ) → front f s ≡ prefix_len g s
  unfolding front
  front_prefix e [] = refl
  front_prefix e (b ∷ s) = rw (e b) (step (g b) _ _ (front_prefix e s))
    where
      step : (t : Bool) (m n : ℕ) → m ≡ n → cond t (suc m) 0 ≡ cond t (1 + n) 0
      step true m n z = omega arith
      step false m n z = refl
      -- those that pass a test which is no weaker are among them

pub not_not : (b : Bool) → b ≡ not (not b)
not_not true = refl
not_not false = refl

-- what `position` answers, or the length where there is none
unwrapped : (p l : ℕ) → p ≤ l → unwrap_or (cond (ltb p l) (Some p) None) l ≡ p
unwrapped p l h = go (ltb p l) refl
  where
    go : (t : Bool) → ltb p l ≡ t → unwrap_or (cond t (Some p) None) l ≡ p
    go true e = refl
    go false e = omega (arith, ltb-false p l e)

-- the bytes from a place on, as a slice shows them
abbrev pub rest_at : List ℕ → ℕ → List ℕ
rest_at t at = take (length t - at) (drop at t)

pub item_at : (t : List ℕ) (at k : ℕ) → get_or (rest_at t at) k 0 ≡ get_or t (at + k) 0
item_at t at k = ap (λ s. get_or s k 0) (take_rest t at) ∙ get_or-drop at t k 0

-- of the bytes s, which stand from a place on, the first that does not pass, or how many there are
module _ (f test : ℕ → Bool) (t : List ℕ) (at : ℕ) (h : at ≤ length t) (s : List ℕ) (here : s ≡ drop at t) (r : Option ℕ) (n : ℕ)
    (found : r ≡ cond (ltb (position_or_len test s) (length s)) (Some (position_or_len test s)) None) (or_all : n ≡ unwrap_or r (length s)) where
  first_place : n ≡ position_or_len test (drop at t)
  first_place = or_all ∙ ap (λ o. unwrap_or o (length s)) found ∙ unwrapped _ _ (prefix_len-le-length (λ b. not (test b)) s) ∙ ap (position_or_len test) here

  -- the run ends there
  pub past_position : ((b : ℕ) → f b ≡ not (test b)) → Past f t at (at + n)
  past_position e =
      let l : position_or_len test (drop at t) ≤ length (drop at t) = prefix_len-le-length _ (drop at t) in
      record { found = omega (arith, first_place, front_prefix f (λ b. not (test b)) e (drop at t)); inside = omega (arith, first_place, l, length-drop at t) }

-- at the place itself
pub onward_here : (f : ℕ → Bool) (s : List ℕ) (i j : ℕ) → j ≡ i → i ≤ length s → Onward f s i j
onward_here f s i j e h = record { same = ap (λ (k : ℕ). k + front f (drop k s)) (sym e); inside = omega arith }

module _ {f : ℕ → Bool} {s : List ℕ} {at i : ℕ} (o : Onward f s at i) where
  -- past one byte more that passes
  pub onward_more : i < length s → f (get_or s i 0) ≡ true → (j : ℕ) → j ≡ i + 1 → Onward f s at j
  onward_more h e j z =
      record { same = o.same ∙ front_more f s i h e ∙ ap (λ (k : ℕ). k + front f (drop k s)) (sym z); inside = omega arith }

  -- and on from there
  pub onward_on : {j : ℕ} → Onward f s i j → Onward f s at j
  onward_on p = record { same = o.same ∙ p.same; inside = p.inside }

  -- the run ends where it ends from there on
  pub onward_end : {j : ℕ} → Past f s i j → Past f s at j
  onward_end p = record { found = p.found ∙ sym o.same; inside = p.inside }

  -- the byte here does not pass
  pub onward_stop : i < length s → f (get_or s i 0) ≡ false → Past f s at i
  onward_stop h e = record { found = sym (o.same ∙ front_none f s i h e); inside = o.inside }

-- a name of small letters ends at `>`
pub onward_shut : {s : List ℕ} {at i : ℕ} → Onward is_name_byte s at i → i < length s → get_or s i 0 ≡ 62 → Past is_name_byte s at i
onward_shut o h e = onward_stop o h (ap is_name_byte e ∙ no_shut)

-- one byte more looked at, for a byte b
pub looked_more : (b : ℕ) (s : List ℕ) (i k : ℕ) (near : Bool) → i + k < length s → Looked (is_not b) s i k near
    → Looked (is_not b) s i (k + 1) (near || eqb (get_or s (i + k) 0) b)
unfolding is_not
looked_more b s i k true h p = record { none = λ e. absurd (false≢true (sym e)); some = λ e. p.some refl }
looked_more b s i k false h p =
    record {
      none = λ e. onward_more (p.none refl) h (ap not e) (i + (k + 1)) (omega arith);
      some = λ e. omega (arith, (p.none refl).same, front_none (is_not b) s (i + k) h (ap not e));
    }
