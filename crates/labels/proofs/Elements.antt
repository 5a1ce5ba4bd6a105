-- The elements 0 to 3 of a tape, step by step along its list; and the parts of the store that its first two blocks are.
use Rattle.std.specs.Prelude.{None, Option, Some, slice_get}
use mathlib.Core.Path.{◌≡◌, refl, sym, ◌∙◌, ap, ap₂}
use mathlib.Core.Bool.{true, false}
use mathlib.Core.List.{List, [], ◌∷◌}
use Prim.Native.Nat.{ℕ, ◌+◌}
use native.Mathlib.Omega.{arith}
use lib.ListN.{length, drop}
use Rattle.slices.proofs.Booleans.{and_left, and_right}
use Rattle.tape.specs.declared.Cell.TheVariants.{Mark as mark_cell, Block as block_cell, Unreadable as unreadable_cell}
use Rattle.tape.specs.Tape.{mark, block, unreadable, content, Tape, list, lawful_tape, is_block_length, Encodes}
use Rattle.tape.specs.ReadingSteps.{entry_at}
use Rattle.tape.specs.declared.Entry.TheVariants.{Mark, Block, Unreadable, End}
use Rattle.tape.proofs.Walking.{entry_here, entry_none, next_here}
use Rattle.labels.specs.declared.Layout.{Layout}
use Rattle.labels.specs.Labels.{is_mark, is_block}
use Rattle.labels.specs.Steps.{past_block, past_mark, layout_of}

-- a tape stands in a list from a place on
pub record Stands (l : List ℕ) (at : ℕ) (t : Tape) : Type 0 where
  pub legal : lawful_tape t ≡ true
  pub there : drop at l ≡ list t

pub stands : {l s : List ℕ} {t : Tape} → Encodes l s t → Stands l 0 t
stands e = record { legal = e.blocks; there = e.lists }

-- a block of n bytes is its first element, the others stand from the next place on
pub record BlockFirst (l : List ℕ) (t : Tape) (n next : ℕ) : Type 0 where
  pub bytes : List ℕ
  pub rest : Tape
  pub is : t ≡ block bytes ∷ rest
  pub size : n ≡ length bytes
  pub on : Stands l next rest

pub record MarkFirst (l : List ℕ) (t : Tape) (next : ℕ) : Type 0 where
  pub rest : Tape
  pub is : t ≡ mark ∷ rest
  pub on : Stands l next rest

no_step : {A B : Type 0} (x : A) → None ≡ Some x → B
no_step x e = let z : ◌≡◌ {A = ℕ} 0 1 = cc in absurd (omega arith)

module _ {l : List ℕ} {at : ℕ} where
  after_mark : {t : Tape} → Stands l at (mark ∷ t) → Stands l (at + 1) t
  unfolding lawful_tape list
  after_mark {t} w = record { legal = w.legal; there = next_here l at mark_cell (list t) w.there }

  after_block : {x : List ℕ} {t : Tape} → Stands l at (block x ∷ t) → Stands l (at + 5) t
  unfolding lawful_tape list
  after_block {x} {t} w =
      record {
        legal = and_right (is_block_length (length x)) (lawful_tape t) w.legal;
        there = next_here l at (block_cell (length x)) (list t) w.there;
      }

  -- the entry of what stands first
  none_here : Stands l at [] → entry_at l at ≡ End
  unfolding list
  none_here w = entry_none l at w.there

  mark_here : {t : Tape} → Stands l at (mark ∷ t) → entry_at l at ≡ Mark (at + 1)
  unfolding list
  mark_here {t} w = entry_here l at mark_cell (list t) refl w.there

  block_here : {x : List ℕ} {t : Tape} → Stands l at (block x ∷ t) → entry_at l at ≡ Block (length x) (at + 5)
  unfolding list lawful_tape
  block_here {x} {t} w =
      entry_here l at (block_cell (length x)) (list t) (and_left (is_block_length (length x)) (lawful_tape t) w.legal) w.there

  unreadable_here : {t : Tape} → Stands l at (unreadable ∷ t) → entry_at l at ≡ Unreadable (at + 1)
  unfolding list
  unreadable_here {t} w = entry_here l at unreadable_cell (list t) refl w.there

  block_first : (t : Tape) → Stands l at t → (n next : ℕ) → past_block (entry_at l at) ≡ Some (n, next) → BlockFirst l t n next
  block_first [] w n next e = no_step (n, next) (sym (ap past_block (none_here w)) ∙ e)
  block_first (mark ∷ t) w n next e = no_step (n, next) (sym (ap past_block (mark_here w)) ∙ e)
  block_first (unreadable ∷ t) w n next e = no_step (n, next) (sym (ap past_block (unreadable_here w)) ∙ e)
  block_first (block x ∷ t) w n next e =
      let z : ◌≡◌ {A = Option (ℕ × ℕ)} (Some (length x, at + 5)) (Some (n, next)) = sym (ap past_block (block_here w)) ∙ e in
      let y : ◌≡◌ {A = ℕ × ℕ} (length x, at + 5) (n, next) = cc in
      let k : at + 5 ≡ next = ap (λ (u : ℕ × ℕ). u.1) y in
      record { bytes = x; rest = t; is = refl; size = sym (ap (λ (u : ℕ × ℕ). u.0) y); on = rw (← k) (after_block w) }

  block_not : (t : Tape) → Stands l at t → past_block (entry_at l at) ≡ None → is_block (slice_get t 0) ≡ false
  block_not [] w e = refl
  block_not (mark ∷ t) w e = refl
  block_not (unreadable ∷ t) w e = refl
  block_not (block x ∷ t) w e = no_step (length x, at + 5) (sym e ∙ ap past_block (block_here w))

  mark_first : (t : Tape) → Stands l at t → (next : ℕ) → past_mark (entry_at l at) ≡ Some next → MarkFirst l t next
  mark_first [] w next e = no_step next (sym (ap past_mark (none_here w)) ∙ e)
  mark_first (block x ∷ t) w next e = no_step next (sym (ap past_mark (block_here w)) ∙ e)
  mark_first (unreadable ∷ t) w next e = no_step next (sym (ap past_mark (unreadable_here w)) ∙ e)
  mark_first (mark ∷ t) w next e =
      let z : Some (at + 1) ≡ Some next = sym (ap past_mark (mark_here w)) ∙ e in
      let k : at + 1 ≡ next = cc in
      record { rest = t; is = refl; on = rw (← k) (after_mark w) }

  mark_not : (t : Tape) → Stands l at t → past_mark (entry_at l at) ≡ None → is_mark (slice_get t 0) ≡ false
  mark_not [] w e = refl
  mark_not (block x ∷ t) w e = refl
  mark_not (unreadable ∷ t) w e = refl
  mark_not (mark ∷ t) w e = no_step (at + 1) (sym e ∙ ap past_mark (mark_here w))

-- what is found of blocks of n and m bytes
abbrev pub layout : ℕ → ℕ → Option Layout
layout n m = Some (record { vol1 = n; text = m })

four_laid : {x y : List ℕ} {t u v w z : Tape} → t ≡ block x ∷ u → u ≡ mark ∷ v → v ≡ block y ∷ w → w ≡ mark ∷ z → layout (length x) (length y) ≡ layout_of t
unfolding content
four_laid a b c d = rw (a, b, c, d)

-- four steps along a list: what each may find, and the layout then
module _ {l s : List ℕ} {t : Tape} (e : Encodes l s t) where
  pub first_not : past_block (entry_at l 0) ≡ None → None ≡ layout_of t
  first_not q = rw (block_not t (stands e) q)

  module _ (n a : ℕ) (q₀ : past_block (entry_at l 0) ≡ Some (n, a)) where
    first : BlockFirst l t n a
    first = block_first t (stands e) n a q₀

    pub second_not : past_mark (entry_at l a) ≡ None → None ≡ layout_of t
    second_not q = let f = first in rw (f.is, mark_not f.rest f.on q)

    module _ (b : ℕ) (q₁ : past_mark (entry_at l a) ≡ Some b) where
      second : MarkFirst l first.rest b
      second = mark_first first.rest first.on b q₁

      pub third_not : past_block (entry_at l b) ≡ None → None ≡ layout_of t
      third_not q = let f = first in let g = second in rw (f.is, g.is, block_not g.rest g.on q)

      module _ (m c : ℕ) (q₂ : past_block (entry_at l b) ≡ Some (m, c)) where
        third : BlockFirst l second.rest m c
        third = block_first second.rest second.on m c q₂

        pub fourth_not : past_mark (entry_at l c) ≡ None → None ≡ layout_of t
        fourth_not q = let f = first in let g = second in let h = third in rw (f.is, g.is, h.is, mark_not h.rest h.on q)

        pub all_four : (d : ℕ) → past_mark (entry_at l c) ≡ Some d → layout n m ≡ layout_of t
        all_four d q =
            let f = first in
            let g = second in
            let h = third in
            let k = mark_first h.rest h.on d q in
            ap₂ layout f.size h.size ∙ four_laid f.is g.is h.is k.is
