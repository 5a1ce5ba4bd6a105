-- A writer of a text of given fields: what it owes, refused and not; and that what it stored is read as the fields, the same bytes in any two buffers.
use Rattle.refusals.specs.declared.Refusal.{Refusal}
use Rattle.std.specs.Prelude.{Err, Ok, Result}
use mathlib.Core.Path.{◌≡◌, refl, ap, ◌∙◌, sym}
use mathlib.Core.Bool.{Bool, true, false}
use mathlib.Core.List.{List}
use Prim.Native.Nat.{ℕ}
use native.Mathlib.Nat.{zero-add}
use native.Mathlib.Omega.{arith}
use lib.ListN.{length, take}
use Rattle.refusals.specs.Refusals.{Answer}
use Rattle.refusals.specs.declared.Refusal.TheVariants.{Caller}
use Rattle.slices.specs.Writers.{Puts}
use Rattle.slices.proofs.Writers.{reached}
use Rattle.writing.specs.Writing.{Writes}
use Rattle.writing.proofs.Adding.{front_text}

module _ (given : Bool) (w b : List ℕ) where
  pub writes_not : given ≡ false → Writes given w b b (Err Caller)
  writes_not e = record { answers = rw e; holds = rw e }

  pub writes : (after : List ℕ) (r : Result ℕ Refusal) → given ≡ true → Puts 0 w b after r → Writes given w b after r
  writes after r e p = record { answers = p.answers ∙ rw e; holds = p.holds ∙ rw e }

  -- an end was answered: the fields were right, and the text stands at the front, whatever the buffer held
  pub was_written : (after : List ℕ) (end : ℕ) → Writes given w b after (Ok end) → (given ≡ true) × (end ≡ length w) × (take end after ≡ w)
  was_written after end p = go given refl
    where
      go : (t : Bool) → given ≡ t → (given ≡ true) × (end ≡ length w) × (take end after ≡ w)
      go true e =
          let (k, q, y) = reached 0 w b after end (record { answers = p.answers ∙ rw e; holds = p.holds ∙ rw e }) in
          let n : end ≡ length w = q ∙ zero-add (length w) in
          (e, n, front_text w b after end (omega arith) y n)
      go false e =
          let z : Ok end ≡ Err Caller = p.answers ∙ rw e in
          let y : ◌≡◌ {A = ℕ} 0 1 = cc in
          absurd (omega arith)

-- what a buffer holds after a text of n bytes was written to it for the fields f, and what a reader says of it that answers, of each text s, what `of s` is
pub record Rereads {A R : Type 0} (means : List ℕ → R → Answer A) (of : List ℕ → Answer A) (text : List ℕ) (f : A) (after : List ℕ) (n : ℕ) : Type 0 where
  pub long : n ≡ length text
  pub bytes : take n after ≡ text
  pub reads : (r : R) → means (take n after) r ≡ of (take n after) → means (take n after) r ≡ Ok f

module _ {A R : Type 0} (means : List ℕ → R → Answer A) (of : List ℕ → Answer A) (given : Bool) (text : List ℕ) (f : A) (back : given ≡ true → of text ≡ Ok f)
    (before after : List ℕ) (n : ℕ) where
  pub rereads : Writes given text before after (Ok n) → Rereads means of text f after n
  rereads p =
      let (ok, long, e) = was_written given text before after n p in
      record { long = long; bytes = e; reads = λ r h. h ∙ ap of e ∙ back ok }

-- a writer, given the same fields and two buffers that had room: it answers the same, and stores the same bytes, whatever the buffers held
pub same_bytes : (given : Bool) (text b₁ a₁ b₂ a₂ : List ℕ) (n₁ n₂ : ℕ) → Writes given text b₁ a₁ (Ok n₁) → Writes given text b₂ a₂ (Ok n₂)
    → (n₁ ≡ n₂) × (take n₁ a₁ ≡ take n₂ a₂)
same_bytes given text b₁ a₁ b₂ a₂ n₁ n₂ p q =
    let (_, e, x) = was_written given text b₁ a₁ n₁ p in
    let (_, h, y) = was_written given text b₂ a₂ n₂ q in
    (e ∙ sym h, x ∙ sym y)
