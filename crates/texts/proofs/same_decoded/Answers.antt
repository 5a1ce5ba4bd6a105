-- `same_decoded` meets its contract: the bytes are compared as they come.
use Rattle.std.proofs.Common.{ap, ap₂, ◌∙◌}
use Rattle.slices.specs.Slices.{same}
use Rattle.texts.specs.Decoded.{decoded}
use Rattle.texts.proofs.Meanings.{equal_run}
use Rattle.texts.proofs.same_decoded.Goals as goal

pub returns : goal.returns
returns c =
    let (it, xs, ys, o, p, u, v, e, a, b, z, l) = c.eq.ensures.ran in
    equal_run (λ s. decoded s.raw.now) c.decoded.result it xs ys o p u v c.eq.result a b z l
    ∙ ap₂ same (ap decoded c.decoded.ensures) (ap (λ s. decoded s.raw.now) e ∙ ap decoded c.decoded-2.ensures)
