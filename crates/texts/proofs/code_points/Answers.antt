-- `code_points` meets its contract: the bytes that continue no code point are counted.
use Rattle.std.proofs.Common.{not, ap, ◌∙◌, rules, tests}
use Rattle.std.proofs.lemmas.Iterator.Consumers.{YieldsList-from_filter, count_from_yields_List}
use Rattle.texts.specs.Decoded.{decoded, continues}
use Rattle.texts.proofs.Meanings.{yields_decoded, code_points_length}
use Rattle.texts.proofs.code_points.Goals as goal

pub returns : goal.returns
returns c =
    let s = c.args.raw.now in
    count_from_yields_List c.filter.result _ c.count.ensures.ran
    (YieldsList-from_filter _ (λ b. not (continues b)) (yields_decoded s (ap (λ d. d.raw.now) c.filter.ensures.source ∙ c.decoded.ensures)) c.filter.ensures.closure (λ x r q k. search (rules, tests)))
    ∙ code_points_length (decoded s)
