-- Pieces one after the other, and how long they are together.
use Rattle.std.specs.Prelude.{Err, Ok, Result}
use Rattle.std.specs.Result.{result_unwrap_or}
use mathlib.Core.Path.{◌≡◌, refl, sym, subst, ◌∙◌}
use mathlib.Core.List.{List, [], ◌++◌}
use Prim.Native.Nat.{ℕ, ◌+◌, ◌≤◌}
use native.Mathlib.Omega.{arith}
use lib.ListN.{length, length-append}
use Rattle.refusals.specs.declared.Refusal.{Refusal}
use Rattle.slices.specs.Writers.{Puts}
use Rattle.writing.proofs.Adding.{adds, adds_not, adds_none, adds_then, adds_as, composes, front_text, all_written}
use Rattle.writing.specs.declared.Text.{Text}
use Rattle.writing.specs.Steps.{Adds, AddsAtMost, GrowsBy, GrowsByAtMost, bytes_of}

-- what a writer was asked for is added, whether it was written, or there was no room
module _ {m at : ℕ} {w out after : List ℕ} where
  pub piece : (r : Result ℕ Refusal) (end : ℕ) → length w ≤ m → Puts at w out after r → end ≡ result_unwrap_or r at → AddsAtMost m out at w after end
  piece (Ok to) end h p e = record { added = subst (Adds out at w after) (sym e) (adds to p); few = h }
  piece (Err x) end h p e = record { added = subst (Adds out at w after) (sym e) (adds_not x at p); few = h }

-- it is added to the text that it was written behind
pub grown : {m : ℕ} {t u : Text} {w : List ℕ} → u.out.ghost_name ≡ t.out.ghost_name → AddsAtMost m t.out.now t.at w u.out.now u.at → GrowsByAtMost m t w u
grown e p = record { grows = record { same = e; added = p.added }; few = p.few }

-- one piece, and then another
pub grows_then : {t u v : Text} {w x : List ℕ} → GrowsBy t w u → GrowsBy u x v → GrowsBy t (w ++ x) v
grows_then p q = record { same = q.same ∙ p.same; added = adds_then p.added q.added }

-- nothing is added
pub grows_none : {t : Text} → GrowsBy t [] t
grows_none = record { same = refl; added = adds_none }

pub grows_as : {t u : Text} {w x : List ℕ} → w ≡ x → GrowsBy t w u → GrowsBy t x u
grows_as e p = record { same = p.same; added = adds_as e p.added }

pub then : {m n : ℕ} {t u v : Text} {w x : List ℕ} → GrowsByAtMost m t w u → GrowsByAtMost n u x v → GrowsByAtMost (m + n) t (w ++ x) v
then {m} {n} {t} {u} {v} {w} {x} p q =
    let a : length w ≤ m = p.few in
    let b : length x ≤ n = q.few in
    record { grows = grows_then p.grows q.grows; few = omega (arith, length-append w x) }

pub within : {m n : ℕ} {t u : Text} {w : List ℕ} → m ≤ n → GrowsByAtMost m t w u → GrowsByAtMost n t w u
within {m} {n} {t} {u} {w} h p = let a : length w ≤ m = p.few in record { grows = p.grows; few = omega arith }

pub the_same : {m : ℕ} {t u : Text} {w x : List ℕ} → w ≡ x → GrowsByAtMost m t w u → GrowsByAtMost m t x u
the_same {m} {t} {u} e p = subst (λ (l : List ℕ). GrowsByAtMost m t l u) e p

-- what a text behind a place of a buffer grew by was added there
pub added_behind : {m at end : ℕ} {out w after : List ℕ} {t u : Text} → t.out.now ≡ out → t.at ≡ at → GrowsByAtMost m t w u → after ≡ u.out.now → end ≡ u.at
    → AddsAtMost m out at w after end
added_behind {m} {at} {end} {out} {w} {after} {t} {u} holds from p h e =
    let q : Adds out at w u.out.now u.at = rw (holds, from) at p.grows.added in
    record { added = rw (h, e) q; few = p.few }

-- a text that held nothing, in a buffer b with room for w, and grew by w, is w
module _ {b w : List ℕ} {t u : Text} (holds : t.out.now ≡ b) (from : t.at ≡ 0) where
  pub text_is : length w ≤ length b → GrowsBy t w u → bytes_of u ≡ w
  text_is h p =
      let q : Adds b 0 w u.out.now u.at = rw (holds, from) at p.added in
      let (e, k) = composes q h in
      front_text w b u.out.now u.at h e k

  -- and where w is as long as the buffer, that is all that the buffer holds
  pub text_fills : length w ≡ length b → GrowsBy t w u → u.out.now ≡ w
  text_fills h p =
      let q : Adds b 0 w u.out.now u.at = rw (holds, from) at p.added in
      let f : length w ≤ length b = omega arith in
      (composes q f).0 ∙ all_written w b h

  -- it is delivered as the run that was asked for
  pub delivers : {m : ℕ} {v part out after : List ℕ} {r : (Result ℕ Refusal)} → m ≤ length b → GrowsByAtMost m t w u
      → part ≡ bytes_of u → w ≡ v → Puts 0 part out after r → Puts 0 v out after r
  delivers {m} {v} {part} {out} {after} {r} room p e z q =
      let short : length w ≤ m = p.few in
      subst (λ (l : List ℕ). Puts 0 l out after r) (e ∙ text_is (omega arith) p.grows ∙ z) q
