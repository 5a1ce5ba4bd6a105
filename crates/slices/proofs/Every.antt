-- A test of each: of runs together, at each place, and along a run.
use mathlib.Core.Path.{◌≡◌, refl, ap, sym, ◌∙◌}
use mathlib.Core.Bool.{Bool, true, false, ◌&&◌, and_assoc}
use mathlib.Core.List.{List, [], ◌∷◌, ◌++◌}
use Prim.Native.Nat.{ℕ, zero, suc, ◌+◌, ◌<◌, ◌≤◌}
use native.Mathlib.Nat.{not-suc-le-zero, le_of_suc-le-suc}
use native.Mathlib.Numerals.{add-one}
use lib.ListN.{length, drop, get_or, drop_of_length-le}
use lib.Seq.{drop-cons}
use Rattle.slices.specs.Slices.{every}
use Rattle.slices.proofs.Booleans.{and_left, and_right, and_both}

module _ {A : Type 0} (test : A → Bool) where
  pub every_append : (s t : List A) → every test (s ++ t) ≡ (every test s && every test t)
  every_append [] t = refl
  every_append (x ∷ s) t = ap (λ (e : Bool). test x && e) (every_append s t) ∙ sym (and_assoc (test x) (every test s) (every test t))

  module _ (d : A) where
    pub every_at : (s : List A) → every test s ≡ true → (i : ℕ) → i < length s → test (get_or s i d) ≡ true
    every_at [] e i h = absurd (not-suc-le-zero h)
    every_at (x ∷ s) e zero h = and_left (test x) (every test s) e
    every_at (x ∷ s) e (suc i) h = every_at s (and_right (test x) (every test s) e) i (le_of_suc-le-suc h)

    -- along a run of which i were passed
    module _ (s : List A) (i : ℕ) where
      pub every_on : i < length s → test (get_or s i d) ≡ true → every test (drop i s) ≡ every test (drop (i + 1) s)
      every_on h e = rw (drop-cons s i d, add-one, e)

      pub every_off : i < length s → test (get_or s i d) ≡ false → every test (drop i s) ≡ false
      every_off h e = rw (drop-cons s i d, e)

      pub every_end : length s ≤ i → every test (drop i s) ≡ true
      every_end h = ap (every test) (drop_of_length-le s h)

-- what passes a test passes a weaker one
pub every_weaker : {A : Type 0} (strong weak : A → Bool) → ((x : A) → strong x ≡ true → weak x ≡ true) → (s : List A) → every strong s ≡ true → every weak s ≡ true
every_weaker strong weak f [] e = refl
every_weaker strong weak f (x ∷ s) e =
    and_both (weak x) (every weak s)
    (f x (and_left (strong x) (every strong s) e))
    (every_weaker strong weak f s (and_right (strong x) (every strong s) e))
