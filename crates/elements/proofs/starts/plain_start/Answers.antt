-- `plain_start` meets its contract: by where the next `<` stands.
use Rattle.std.proofs.Common.{eqb, ap}
use Rattle.elements.proofs.Plain.{start_last, start_before}
use Rattle.elements.proofs.starts.plain_start.Goals as goal
use Rattle.elements.proofs.starts.plain_start.Goals.{then-end-text, else-end-text}

pub returns : goal.returns
returns c =
    let (named, inside, shut) = c.requires in
    let f = c.find-end in
    elim c.if-end-text.branch [
      | then-end-text w ↦ rw w.leaf-is (start_before c.args.text.now c.args.n c.args.e named inside shut f.result f.ensures w.if-end-text.true _ (ap (λ b. eqb b 47) w.byte.ensures))
      | else-end-text w ↦ rw w.leaf-is (start_last c.args.text.now c.args.n c.args.e named inside shut f.result f.ensures w.if-end-text.false)
    ]
