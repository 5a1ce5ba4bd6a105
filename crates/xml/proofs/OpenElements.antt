-- The open elements, by their names, and what each turn of the check does to them.
use Rattle.std.specs.Prelude.{Result, Ok, Err}
use Rattle.std.specs.Borrow.{Bor}
use mathlib.Core.Path.{◌≡◌, refl, ap, ◌∙◌, sym, subst}
use mathlib.Core.Bool.{Bool, true, false}
use mathlib.Core.List.{List, [], ◌∷◌}
use Prim.Native.Nat.{ℕ, zero, suc, ◌+◌, ◌-◌, ◌<◌, ◌≤◌}
use native.Mathlib.Omega.{arith}
use native.Mathlib.Nat.{not-suc-le-zero}
use native.Mathlib.Numerals.{add-one}
use borrow.Author.Tests.{ltb-true}
use lib.Dec.{ltb}
use lib.ListN.{length, drop, get_or, set, length-set}
use lib.Seq.{get_or-set_same, get_or-set_other}
use Rattle.xml.specs.CheckSteps.{at, content, blank, after, outside, Outcome, broken, form_run}
use Rattle.xml.specs.ScanSteps.{held, Turns, ToldAhead, OpensIf, told, turn_state}
use Rattle.xml.specs.declared.FormError.{FormError}
use Rattle.xml.specs.declared.Turn.{Turn}
use Rattle.xml.specs.declared.Turn.TheVariants.{Opened, Inside, Outside}

-- what is read past the places
abbrev pub no_name : Bor (List ℕ)
no_name = record { ref_ptr = (0, 0); now = [] }

-- the innermost is the last of the d places
unfoldable pub names : List (Bor (List ℕ)) → ℕ → List (List ℕ)
names xs zero = []
names xs (suc d) = (get_or xs d no_name).now ∷ names xs d

names_length : (xs : List (Bor (List ℕ))) (d : ℕ) → length (names xs d) ≡ d
unfolding names
names_length xs zero = refl
names_length xs (suc d) = ap suc (names_length xs d)

-- a store past the d places
names_kept : (xs : List (Bor (List ℕ))) (d k : ℕ) (m : Bor (List ℕ)) → d ≤ k → names (set xs k m) d ≡ names xs d
unfolding names
names_kept xs zero k m h = refl
names_kept xs (suc d) k m h = rw (get_or-set_other xs k d m no_name (omega arith), names_kept xs d k m (omega arith))

names_more : (xs : List (Bor (List ℕ))) (d : ℕ) (m : Bor (List ℕ)) → d < length xs → names (set xs d m) (d + 1) ≡ m.now ∷ names xs d
unfolding names
names_more xs d m h = rw (add-one d, get_or-set_same xs d m no_name, names_kept xs d d m (omega arith))

-- the innermost apart
abbrev pub inner_name : List (Bor (List ℕ)) → ℕ → List ℕ
inner_name xs d = (get_or xs (d - 1) no_name).now

names_split : (xs : List (Bor (List ℕ))) (d : ℕ) → 0 < d → names xs d ≡ inner_name xs d ∷ names xs (d - 1)
unfolding names
names_split xs zero h = absurd (not-suc-le-zero h)
names_split xs (suc d) h = let e : d ≡ suc d - 1 = omega arith in ap (λ (k : ℕ). (get_or xs k no_name).now ∷ names xs k) e

-- at i, in d elements, of which the innermost has children so far or not; the outcome o is the same from here on
pub record Stands (t : List ℕ) (o : Outcome) (xs : List (Bor (List ℕ))) (d i : ℕ) (c : Bool) : Type 0 where
  pub inside : i ≤ length t
  pub some : 1 ≤ d
  pub few : d ≤ 64
  pub room : length xs ≡ 64
  pub runs : o ≡ form_run (at (content (held c)) (names xs d)) (drop i t)

-- in the element m, the first
pub first : (t : List ℕ) (m : Bor (List ℕ)) (xs : List (Bor (List ℕ))) (i : ℕ) → i ≤ length t → length xs ≡ 63
    → Stands t (form_run (at (content blank) (m.now ∷ [])) (drop i t)) (m ∷ xs) 1 i false
unfolding names
first t m xs i h l = record { inside = h; some = omega arith; few = omega arith; room = ap suc l; runs = refl }

module _ {t : List ℕ} {o : Outcome} {xs : List (Bor (List ℕ))} {d i : ℕ} {c : Bool} {r : Result (Turn × ℕ) FormError} (x : Stands t o xs d i c)
    (y : Turns t i (inner_name xs d) (ltb d 64) (at (content (held c))) (λ ns. suc (length ns) ≡ d) r) where
  turn : (s : Result (Turn × ℕ) FormError) → r ≡ s → o ≡ told t (turn_state (inner_name xs d) (names xs (d - 1))) s
  turn s e =
      let h : 0 < d = omega (arith, x.some) in
      x.runs ∙ ap (λ (ns : List (List ℕ)). form_run (at (content (held c)) ns) (drop i t)) (names_split xs d h)
      ∙ y.runs (names xs (d - 1)) (omega (arith, names_length xs (d - 1))) ∙ ap (told t (turn_state (inner_name xs d) (names xs (d - 1)))) e

  -- past the tag
  pub ahead : (p : Turn × ℕ) → r ≡ Ok p → (i < p.1) × (p.1 ≤ length t)
  ahead p g = subst (ToldAhead i (length t)) g y.ends

  pub below : (m : Bor (List ℕ)) (j : ℕ) → r ≡ Ok (Opened m, j) → d < 64
  below m j g = let b : ltb d 64 ≡ true = subst (OpensIf (ltb d 64)) g y.opens_if in ltb-true d 64 b

  pub opened : (m : Bor (List ℕ)) (j : ℕ) → r ≡ Ok (Opened m, j) → Stands t o (set xs d m) (d + 1) j false
  opened m j g =
      let k : d < 64 = below m j g in
      let l : d < length xs = omega (arith, x.room) in
      let h : 0 < d = omega (arith, x.some) in
      record {
        inside = (ahead (Opened m, j) g).1;
        some = omega arith;
        few = omega arith;
        room = length-set xs d m ∙ x.room;
        runs =
            turn (Ok (Opened m, j)) g
            ∙ ap (λ (ns : List (List ℕ)). form_run (at (content blank) ns) (drop j t))
            (sym (names_more xs d m l ∙ ap (λ (ns : List (List ℕ)). m.now ∷ ns) (names_split xs d h)));
      }

  pub inside : (j : ℕ) → r ≡ Ok (Inside, j) → Stands t o xs d j true
  inside j g =
      let h : 0 < d = omega (arith, x.some) in
      record {
        inside = (ahead (Inside, j) g).1;
        some = x.some;
        few = x.few;
        room = x.room;
        runs = turn (Ok (Inside, j)) g ∙ ap (λ (ns : List (List ℕ)). form_run (at (content (held true)) ns) (drop j t)) (sym (names_split xs d h));
      }

  pub left : (j : ℕ) → r ≡ Ok (Outside, j) → (d ≡ 1 → ⊥) → Stands t o xs (d - 1) j true
  unfolding outside
  left j g n =
      let h : 0 < d - 1 = omega (arith, x.some) in
      record {
        inside = (ahead (Outside, j) g).1;
        some = omega arith;
        few = omega (arith, x.few);
        room = x.room;
        runs =
            turn (Ok (Outside, j)) g ∙ ap (λ (ns : List (List ℕ)). form_run (outside ns) (drop j t)) (names_split xs (d - 1) h)
            ∙ ap (λ (ns : List (List ℕ)). form_run (at (content (held true)) ns) (drop j t)) (sym (names_split xs (d - 1) h));
      }

  -- the root ends
  pub root_ended : (j : ℕ) → r ≡ Ok (Outside, j) → d ≡ 1 → o ≡ form_run (at after []) (drop j t)
  unfolding outside names
  root_ended j g e =
      let z : d - 1 ≡ 0 = omega arith in
      turn (Ok (Outside, j)) g ∙ ap (λ (k : ℕ). form_run (outside (names xs k)) (drop j t)) z

  pub stopped : (u : FormError) → r ≡ Err u → (o ≡ broken (length t - u.front)) × (u.front ≤ length t)
  stopped u g = (turn (Err u) g, subst (ToldAhead i (length t)) g y.ends)
