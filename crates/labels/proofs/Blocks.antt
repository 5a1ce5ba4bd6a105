-- A tape that is laid out: its elements 0 to 3, and its blocks 0 and 2 as parts of the store.
use mathlib.Core.Path.{◌≡◌, refl, ◌∙◌, ap}
use Rattle.std.specs.Prelude.{None, Option, Some}
use mathlib.Core.Bool.{Bool, true, false, cond, false≢true}
use mathlib.Core.List.{List, [], ◌∷◌, ◌++◌}
use Prim.Native.Nat.{ℕ, ◌+◌, ◌≤◌}
use native.Mathlib.Omega.{arith}
use lib.ListN.{length, take, drop, length-append}
use lib.Seq.{take-append_seam, drop-append_seam}
use Rattle.slices.proofs.Booleans.{split}
use Rattle.tape.specs.Tape.{mark, block, unreadable, Tape, store, content, Encodes}
use Rattle.labels.specs.declared.Layout.{Layout}
use Rattle.labels.specs.Labels.{is_laid, bytes_at}
use Rattle.labels.specs.Steps.{layout_of}

record FourElements (t : Tape) : Type 0 where
  vol1 : List ℕ
  text : List ℕ
  rest : Tape
  is : t ≡ block vol1 ∷ mark ∷ block text ∷ mark ∷ rest

four_elements : (t : Tape) → is_laid t ≡ true → FourElements t
four_elements [] e = absurd (false≢true e)
four_elements (mark ∷ t) e = absurd (false≢true e)
four_elements (unreadable ∷ t) e = absurd (false≢true e)
four_elements (block x ∷ []) e = absurd (false≢true e)
four_elements (block x ∷ block y ∷ t) e = absurd (false≢true e)
four_elements (block x ∷ unreadable ∷ t) e = absurd (false≢true e)
four_elements (block x ∷ mark ∷ []) e = absurd (false≢true e)
four_elements (block x ∷ mark ∷ mark ∷ t) e = absurd (false≢true e)
four_elements (block x ∷ mark ∷ unreadable ∷ t) e = absurd (false≢true e)
four_elements (block x ∷ mark ∷ block y ∷ []) e = absurd (false≢true e)
four_elements (block x ∷ mark ∷ block y ∷ block z ∷ t) e = absurd (false≢true e)
four_elements (block x ∷ mark ∷ block y ∷ unreadable ∷ t) e = absurd (false≢true e)
four_elements (block x ∷ mark ∷ block y ∷ mark ∷ t) e = record { vol1 = x; text = y; rest = t; is = refl }

-- a tape whose store is s, laid out, with n bytes in block 0 and m in block 2
pub record LaidOut (s : List ℕ) (t : Tape) (n m : ℕ) : Type 0 where
  pub laid : is_laid t ≡ true
  pub vol1 : take n s ≡ bytes_at t 0
  pub text : take m (drop n s) ≡ bytes_at t 2
  pub within : n + m ≤ length s

parts_of : (t : Tape) → FourElements t → LaidOut (store t) t (length (bytes_at t 0)) (length (bytes_at t 2))
unfolding store content
parts_of t f =
    let x = f.vol1 in
    let y = f.text in
    let r = store f.rest in
    rw f.is record {
      laid = refl;
      vol1 = take-append_seam x (y ++ r);
      text = ap (take (length y)) (drop-append_seam x (y ++ r)) ∙ take-append_seam y r;
      within = omega (arith, length-append x (y ++ r), length-append y r);
    }

module _ (t : Tape) where
  -- what is told of a tape tells whether it is laid out
  told : (b : Bool) → is_laid t ≡ b → {o : Option Layout} → o ≡ layout_of t → o ≡ cond b (Some (record { vol1 = length (bytes_at t 0); text = length (bytes_at t 2) })) None
  told b h q = q ∙ rw h

  pub not_laid : None ≡ layout_of t → is_laid t ≡ false
  not_laid q = split (λ b. is_laid t ≡ b → b ≡ false) (is_laid t) (λ h z. let w = told true z q in cc) (λ h z. refl) refl

  pub laid_out : {l s : List ℕ} (x : Layout) → Encodes l s t → Some x ≡ layout_of t → LaidOut s t x.vol1 x.text
  laid_out {l} {s} x e q =
      split (λ b. is_laid t ≡ b → LaidOut s t x.vol1 x.text) (is_laid t)
      (λ h z.
      let w = told true z q in
      let y : x ≡ record { vol1 = length (bytes_at t 0); text = length (bytes_at t 2) } = cc in
      rw (y, e.stores) (parts_of t (four_elements t z)))
      (λ h z. let w = told false z q in cc)
      refl
