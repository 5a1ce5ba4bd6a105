-- `decoded_byte` meets its contract: what `nth` gives, or 0.
use Rattle.std.proofs.Common.{ap, sym, ◌∙◌}
use Rattle.std.specs.Option.{unwrap_or}
use Rattle.std.proofs.lemmas.Option.{unwrap_or-slice_get}
use Rattle.std.proofs.lemmas.Iterator.Adapters.{option_map_id}
use Rattle.std.proofs.lemmas.Iterator.Consumers.{nth_from_yields_List}
use Rattle.texts.proofs.Meanings.{yields_decoded}
use Rattle.texts.proofs.decoded_byte.Goals as goal

pub returns : goal.returns
returns c =
    let e = nth_from_yields_List _ c.nth.new.self c.args.k c.nth.ensures.ran (yields_decoded c.args.raw.now c.decoded.ensures) in
    c.unwrap_or.ensures ∙ ap (λ o. unwrap_or o 0) (sym (option_map_id _) ∙ e) ∙ unwrap_or-slice_get _ c.args.k 0
