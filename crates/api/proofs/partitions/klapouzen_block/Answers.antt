-- `klapouzen_block` meets its contract: the place that was found.
use mathlib.Core.Path.{subst, ◌∙◌}
use mathlib.Core.List.{List}
use Prim.Native.Nat.{ℕ}
use Rattle.refusals.specs.Refusals.{Answer}
use Rattle.tape.specs.declared.StorePart.{StorePart}
use Rattle.tape.specs.Answers.{place_of, block_of, Holds}
use Rattle.tape.specs.Steps.{FindsBlock}
use Rattle.api.proofs.Showing.{by_answer, shown, not_shown}
use Rattle.api.proofs.partitions.klapouzen_block.Goals as goal

-- the place that was found holds the block
held : (i d letter n : ℕ) (l s l' s' : List ℕ) {p : Answer StorePart} → FindsBlock i d letter n l s l' s' p
    → Holds s s' (place_of i d letter n l s l' s') (block_of i d letter n l s l' s')
held i d letter n l s l' s' f = subst (λ (p : Answer StorePart). Holds s s' p (block_of i d letter n l s l' s')) f.place f.holds

pub returns : goal.returns
returns c =
    let a = c.args in
    let place = c.find_block-part.ensures.place in
    record {
      shown = by_answer c.find_block-part.result c.tell.ensures (λ v e p. shown v (e ∙ place) p.0 p.1) (λ r e q. not_shown r (e ∙ place) q.0 q.1.1);
      holds = held a.index_letter a.data_letter a.letter a.number a.index_list.now a.index_store.now a.data_list.now a.data_store.now c.find_block-part.ensures;
    }
