-- `tape::find_block` meets its contract: the letters, the two checks, and the spot on the side that the letter picks.
use Rattle.std.proofs.Common.{◌≡◌, ℕ, ◌≤◌, List, Bool, true, false, cond, eqb, Ok, sym, ◌∙◌, ap, arith}
use Rattle.std.proofs.lemmas.Result.{err_from_is_err_and}
use borrow.Author.Tests.{eq-eqb, ne_eqb}
use Rattle.refusals.specs.Refusals.{Answer}
use Rattle.quantities.specs.Letters.{are_letters}
use Rattle.tape.specs.declared.Spot.{Spot}
use Rattle.tape.specs.Tape.{max_elements}
use Rattle.tape.specs.WalkSteps.{spot_below}
use Rattle.tape.specs.Answers.{element_count}
use Rattle.tape.specs.Steps.{FindsBlock}
use Rattle.tape.proofs.Entries.{Bytes}
use Rattle.tape.proofs.Keeping.{present}
use Rattle.tape.proofs.Blocks.{place_from, place_letters, place_index, place_data, place_found, finds}
use Rattle.tape.proofs.find_block.Goals as goal
use Rattle.tape.proofs.find_block.Goals.{then-on_index, else-on_index}

module _ (i d letter n : ℕ) (l s l' s' : List ℕ) (w : Bytes l) (w' : Bytes l') (lettered : are_letters i d letter ≡ true) (count count' : ℕ)
    (e : Ok count ≡ element_count l s) (e' : Ok count' ≡ element_count l' s') where
  -- a list and its count are those of the side that the letter picks
  record Picked (m : List ℕ) (k : ℕ) : Type 0 where
    side : Bool
    by_letter : eqb letter i ≡ side
    list : m ≡ cond side l l'
    counted : k ≡ cond side count count'

  few : {m : List ℕ} {k : ℕ} → Picked m k → k ≤ max_elements
  few {m} {k} p = go p.side p.counted
    where
      go : (side : Bool) → k ≡ cond side count count' → k ≤ max_elements
      go true q = let t = present l s count w e in omega (arith, t.encodes.elements, t.count)
      go false q = let t = present l' s' count' w' e' in omega (arith, t.encodes.elements, t.count)

  -- a spot on that side
  found : {m : List ℕ} {k : ℕ} → Picked m k → (x : Answer Spot) → x ≡ spot_below k m n → FindsBlock i d letter n l s l' s' (place_from (eqb letter i) x)
  found p x h =
      rw p.by_letter
      (finds i d letter n l s l' s' w w' (place_from p.side x)
      (sym (place_found i d letter n l s l' s' lettered count (present l s count w e) count' (present l' s' count' w' e') p.side p.by_letter x
      (h ∙ rw (p.list, p.counted)))))

pub returns-then-not-are_letters : goal.returns-then-not-are_letters
returns-then-not-are_letters c =
    let a = c.args in
    finds a.index_letter a.data_letter a.letter a.number.0 a.index_list.now a.index_store.now a.data_list.now a.data_store.now (λ k. (c.type_inv.index_list k).fits) (λ k. (c.type_inv.data_list k).fits) _
    (sym (place_letters a.index_letter a.data_letter a.letter a.number.0 a.index_list.now a.index_store.now a.data_list.now a.data_store.now (sym c.are_letters.ensures ∙ c.if-not-are_letters.true)))

pub returns-in_err-index_count : goal.returns-in_err-index_count
returns-in_err-index_count c =
    let a = c.args in
    let p = err_from_is_err_and c.from_residual.result c.from_residual.ensures.1 in
    rw (p.1, p.2)
    (finds a.index_letter a.data_letter a.letter a.number.0 a.index_list.now a.index_store.now a.data_list.now a.data_store.now (λ k. (c.type_inv.index_list k).fits) (λ k. (c.type_inv.data_list k).fits) _
    (sym (place_index a.index_letter a.data_letter a.letter a.number.0 a.index_list.now a.index_store.now a.data_list.now a.data_store.now (sym c.are_letters.ensures ∙ c.if-not-are_letters.false) _
    (sym c.in_err-index_count.was ∙ c.check.ensures))))

pub returns-in_err-data_count : goal.returns-in_err-data_count
returns-in_err-data_count c =
    let a = c.args in
    let p = err_from_is_err_and c.from_residual-in_err-data_count.result c.from_residual-in_err-data_count.ensures.1 in
    let present = present a.index_list.now a.index_store.now _ (λ k. (c.type_inv.index_list k).fits) (sym c.in_ok-index_count.was ∙ c.check.ensures) in
    rw (p.1, p.2)
    (finds a.index_letter a.data_letter a.letter a.number.0 a.index_list.now a.index_store.now a.data_list.now a.data_store.now (λ k. (c.type_inv.index_list k).fits) (λ k. (c.type_inv.data_list k).fits) _
    (sym (place_data a.index_letter a.data_letter a.letter a.number.0 a.index_list.now a.index_store.now a.data_list.now a.data_store.now (sym c.are_letters.ensures ∙ c.if-not-are_letters.false) _ present _
    (sym c.in_err-data_count.was ∙ c.check-2.ensures))))

pub numbered-requires : goal.numbered-requires
numbered-requires c =
    let a = c.args in
    few a.index_letter a.data_letter a.letter a.number.0 a.index_list.now a.index_store.now a.data_list.now a.data_store.now (λ k. (c.type_inv.index_list k).fits) (λ k. (c.type_inv.data_list k).fits)
    (sym c.are_letters.ensures ∙ c.if-not-are_letters.false) _ _ (sym c.in_ok-index_count.was ∙ c.check.ensures) (sym c.in_ok-data_count.was ∙ c.check-2.ensures)
    (elim c.if-on_index.branch [
      | then-on_index w ↦ record { side = true; by_letter = eq-eqb _ _ w.if-on_index.true; list = ap (λ x. x.0.now) w.count-is; counted = ap (λ x. x.1) w.count-is }
      | else-on_index w ↦ record { side = false; by_letter = ne_eqb _ _ w.if-on_index.false; list = ap (λ x. x.0.now) w.count-is; counted = ap (λ x. x.1) w.count-is }
    ])

pub returns-in_err-from : goal.returns-in_err-from
returns-in_err-from c =
    let a = c.args in
    let p = err_from_is_err_and c.from_residual-in_err-from.result c.from_residual-in_err-from.ensures.1 in
    rw (p.1, p.2)
    (found a.index_letter a.data_letter a.letter a.number.0 a.index_list.now a.index_store.now a.data_list.now a.data_store.now (λ k. (c.type_inv.index_list k).fits) (λ k. (c.type_inv.data_list k).fits)
    (sym c.are_letters.ensures ∙ c.if-not-are_letters.false) _ _ (sym c.in_ok-index_count.was ∙ c.check.ensures) (sym c.in_ok-data_count.was ∙ c.check-2.ensures)
    (elim c.if-on_index.branch [
      | then-on_index w ↦ record { side = true; by_letter = eq-eqb _ _ w.if-on_index.true; list = ap (λ x. x.0.now) w.count-is; counted = ap (λ x. x.1) w.count-is }
      | else-on_index w ↦ record { side = false; by_letter = ne_eqb _ _ w.if-on_index.false; list = ap (λ x. x.0.now) w.count-is; counted = ap (λ x. x.1) w.count-is }
    ])
    _ (sym c.in_err-from.was ∙ c.numbered.ensures))

pub returns : goal.returns
returns c =
    let a = c.args in
    found a.index_letter a.data_letter a.letter a.number.0 a.index_list.now a.index_store.now a.data_list.now a.data_store.now (λ k. (c.type_inv.index_list k).fits) (λ k. (c.type_inv.data_list k).fits)
    (sym c.are_letters.ensures ∙ c.if-not-are_letters.false) _ _ (sym c.in_ok-index_count.was ∙ c.check.ensures) (sym c.in_ok-data_count.was ∙ c.check-2.ensures)
    (elim c.if-on_index.branch [
      | then-on_index w ↦ record { side = true; by_letter = eq-eqb _ _ w.if-on_index.true; list = ap (λ x. x.0.now) w.count-is; counted = ap (λ x. x.1) w.count-is }
      | else-on_index w ↦ record { side = false; by_letter = ne_eqb _ _ w.if-on_index.false; list = ap (λ x. x.0.now) w.count-is; counted = ap (λ x. x.1) w.count-is }
    ])
    _ (sym c.in_ok-from.was ∙ c.numbered.ensures)
