-- What a writer's promise says where there is room and where there is none, and what its answer tells.
use Rattle.std.specs.Prelude.{Err, Ok, Result}
use mathlib.Core.Path.{◌≡◌, refl, ap, sym, ◌∙◌}
use mathlib.Core.Bool.{Bool, true, false}
use mathlib.Core.List.{List, ◌++◌}
use Prim.Native.Nat.{ℕ, ◌+◌, ◌<◌, ◌≤◌}
use native.Mathlib.Omega.{arith}
use borrow.Author.Tests.{le-leb, lt-leb, leb-true, leb-false}
use lib.ListN.{length, length-append}
use Rattle.refusals.specs.declared.Refusal.{Refusal}
use Rattle.refusals.specs.declared.Refusal.TheVariants.{Short}
use Rattle.slices.specs.Slices.{written}
use Rattle.slices.specs.Writers.{room, put_answer, held_after, Puts}
use Rattle.slices.proofs.Writing.{length_written, written_then}

module _ (at : ℕ) (w b : List ℕ) where
  pub placed_whole : at + length w ≤ length b → put_answer at w b ≡ Ok (at + length w)
  unfolding put_answer
  placed_whole h = rw (le-leb _ _ h)

  pub placed_short : length b < at + length w → put_answer at w b ≡ Err Short
  unfolding put_answer
  placed_short h = rw (lt-leb _ _ h)

  pub stored_whole : at + length w ≤ length b → held_after at w b ≡ written at w b
  unfolding held_after
  stored_whole h = rw (le-leb _ _ h)

  pub stored_short : length b < at + length w → held_after at w b ≡ b
  unfolding held_after
  stored_short h = rw (lt-leb _ _ h)

  pub length_stored : length (held_after at w b) ≡ length b
  length_stored = go (room at w b) refl
    where
      go : (t : Bool) → room at w b ≡ t → length (held_after at w b) ≡ length b
      go true e = ap length (stored_whole (leb-true _ _ e)) ∙ length_written at w b (leb-true _ _ e)
      go false e = ap length (stored_short (leb-false _ _ e))

  -- a writer keeps its promise
  pub puts_short : length b < at + length w → Puts at w b b (Err Short)
  puts_short h = record { answers = sym (placed_short h); holds = sym (stored_short h) }

  pub puts_whole : (after : List ℕ) (end : ℕ) → at + length w ≤ length b → end ≡ at + length w → after ≡ written at w b → Puts at w b after (Ok end)
  puts_whole after end h e z = record { answers = ap Ok e ∙ sym (placed_whole h); holds = z ∙ sym (stored_whole h) }

  -- a caller reads it
  module _ (after : List ℕ) where
    -- an end was answered: there was room, and the run is written
    pub reached : (end : ℕ) → Puts at w b after (Ok end) → (at + length w ≤ length b) × (end ≡ at + length w) × (after ≡ written at w b)
    reached end p = go (room at w b) refl
      where
        go : (t : Bool) → room at w b ≡ t → (at + length w ≤ length b) × (end ≡ at + length w) × (after ≡ written at w b)
        go true e =
            let h = leb-true _ _ e in
            let z : Ok end ≡ Ok (at + length w) = p.answers ∙ placed_whole h in
            let y : end ≡ at + length w = cc in
            (h, y, p.holds ∙ stored_whole h)
        go false e =
            let z : Ok end ≡ Err Short = p.answers ∙ placed_short (leb-false _ _ e) in
            let y : ◌≡◌ {A = ℕ} 0 1 = cc in
            absurd (omega arith)

    -- a refusal was answered: it is 10 for want of room, and nothing has changed
    pub unreached : (r : Refusal) → Puts at w b after (Err r) → (length b < at + length w) × (r ≡ Short) × (after ≡ b)
    unreached r p = go (room at w b) refl
      where
        go : (t : Bool) → room at w b ≡ t → (length b < at + length w) × (r ≡ Short) × (after ≡ b)
        go false e =
            let h = leb-false _ _ e in
            let z : Err r ≡ Err Short = p.answers ∙ placed_short h in
            let y : r ≡ Short = cc in
            (h, y, p.holds ∙ stored_short h)
        go true e =
            let z : Err r ≡ Ok (at + length w) = p.answers ∙ placed_whole (leb-true _ _ e) in
            let y : ◌≡◌ {A = ℕ} 0 1 = cc in
            absurd (omega arith)

-- two writers in a row, with room for both, write the concatenation
pub puts_then :
    (at end : ℕ) (v w b middle after : List ℕ) (r : Result ℕ Refusal) → at + length (v ++ w) ≤ length b
    → Puts at v b middle (Ok end) → Puts end w middle after r → Puts at (v ++ w) b after r
puts_then at end v w b middle after r h p q =
    let n : length (v ++ w) ≡ length v + length w = length-append v w in
    let (k, e, z) = reached at v b middle end p in
    let m : length middle ≡ length b = ap length z ∙ length_written at v b k in
    let s : end + length w ≡ at + length (v ++ w) = omega arith in
    let y : written end w middle ≡ written at (v ++ w) b = rw (z, e) (written_then at v w b (omega arith)) in
    record {
      answers = q.answers ∙ placed_whole end w middle (omega arith) ∙ ap Ok s ∙ sym (placed_whole at (v ++ w) b h);
      holds = q.holds ∙ stored_whole end w middle (omega arith) ∙ y ∙ sym (stored_whole at (v ++ w) b h);
    }
