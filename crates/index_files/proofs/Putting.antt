-- What is said of filling a buffer: it has room for all, or nothing is written.
use Rattle.std.specs.Prelude.{Err, Ok, Result}
use mathlib.Core.Path.{◌≡◌, refl, ap, subst}
use mathlib.Core.Bool.{Bool, true, false}
use mathlib.Core.List.{List}
use Prim.Native.Nat.{ℕ, ◌*◌, ◌≤◌, ◌<◌}
use native.Mathlib.Omega.{arith}
use borrow.Author.Tests.{le-leb, lt-leb, leb-true}
use lib.Dec.{leb}
use lib.ListN.{length}
use Rattle.refusals.specs.Refusals.{Answer, require}
use Rattle.refusals.specs.declared.Refusal.{Refusal}
use Rattle.refusals.specs.declared.Refusal.TheVariants.{Short}
use Rattle.index_files.specs.Filling.{with_room}
use Rattle.index_files.specs.FillingSteps.{count_of, FillsBuffer}

module _ {A : Type 0} where
  -- room for all, or not
  module _ (each room : ℕ) (l : List A) where
    pub fits : length l * each ≤ room → Ok l ≡ with_room each room l
    fits h = rw (le-leb (length l * each) room h)

    pub fits_not : room < length l * each → Err Short ≡ with_room each room l
    fits_not h = rw (lt-leb (length l * each) room h)

    pub fitted : (n : ℕ) → Ok n ≡ count_of (with_room each room l) → (n ≡ length l) × (length l * each ≤ room)
    fitted n e = go (leb (length l * each) room) refl e
      where
        go : (b : Bool) → leb (length l * each) room ≡ b → Ok n ≡ count_of (require b Short (Ok l)) → (n ≡ length l) × (length l * each ≤ room)
        go true w e = let z : n ≡ length l = cc in (z, leb-true (length l * each) room w)
        go false w e = let z : ◌≡◌ {A = ℕ} 0 1 = cc in absurd (omega arith)

  module _ {holds : List A → List ℕ → List ℕ → Type 0} where
    -- nothing is written where it is refused
    pub put_refused : (out : List ℕ) (r : Refusal) {a : Answer (List A)} → Err r ≡ a → FillsBuffer holds a out out (Err r)
    put_refused out r e = subst (λ (a : Answer (List A)). FillsBuffer holds a out out (Err r)) e record { says = refl; stored = refl }

    pub put_as : {out o : List ℕ} {a b : Answer (List A)} {r : (Result ℕ Refusal)} → a ≡ b → FillsBuffer holds a out o r → FillsBuffer holds b out o r
    put_as {out} {o} {r = r} e p = subst (λ (a : Answer (List A)). FillsBuffer holds a out o r) e p

    -- a buffer with room for all, or not
    module _ (each : ℕ) (l : List A) (n : ℕ) (out : List ℕ) (e : n ≡ length l) where
      pub put_short : length out < n * each → FillsBuffer holds (with_room each (length out) l) out out (Err Short)
      put_short h = put_refused out Short (fits_not each (length out) l (subst (λ (m : ℕ). length out < m * each) e h))

      pub put_all : n * each ≤ length out → (o : List ℕ) → holds l out o → FillsBuffer holds (with_room each (length out) l) out o (Ok n)
      put_all h o w = put_as (fits each (length out) l (subst (λ (m : ℕ). m * each ≤ length out) e h)) record { says = ap Ok e; stored = w }
