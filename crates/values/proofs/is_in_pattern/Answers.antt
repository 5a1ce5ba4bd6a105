-- `values::is_in_pattern` meets its contract: each byte by the pattern's at its place.
use Rattle.std.proofs.Common.{◌∙◌, ℕ, rules, tests}
use Rattle.std.proofs.lemmas.Iterator.{YieldsList-from_slice, YieldsList-from_zip}
use Rattle.std.proofs.lemmas.Iterator.Search.{all_from_yields_List}
use Rattle.values.specs.Values.{by_pattern}
use Rattle.values.proofs.Patterns.{zip_pattern}
use Rattle.values.proofs.is_in_pattern.Goals as goal

pub returns-then-pattern-raw : goal.returns-then-pattern-raw
returns-then-pattern-raw c =
    let p = c.args.pattern.now in
    let s = c.args.raw.now in
    all_from_yields_List (λ (x : ℕ × ℕ). by_pattern x.0 x.1) c.all.new.self _ _ c.all.ensures.ran (YieldsList-from_zip (YieldsList-from_slice p cc) (YieldsList-from_slice s cc))
    (λ x b q k. search (rules, tests))
    ∙ zip_pattern p s c.if-pattern-raw.true
