-- `tags` ends, since each tag stands behind the one before it.
use Rattle.std.proofs.Common.{inl, inr, subst, arith}
use Rattle.elements.specs.TagSteps.{Next, NextTag}
use Rattle.elements_cases.proofs.tags.Goals as goal

pub loop-p-smaller : goal.loop-p-smaller
loop-p-smaller c =
    let s = c.args.text.now in
    let i = c.loop-p.i in
    let ahead : Next s i c.in-Close.p =
    elim c.in-Close.is [
      | inl e ↦ (subst (NextTag s i) e c.next_tag.ensures).place
      | inr (inl e) ↦ (subst (NextTag s i) e c.next_tag.ensures).place
      | inr (inr e) ↦ (subst (NextTag s i) e c.next_tag.ensures).place
    ] in
    omega (arith, ahead)
