-- `finish` meets its contract: white space up to the end, or a byte that does not fit.
use mathlib.Core.List.{[]}
use mathlib.Core.Path.{refl, ◌∙◌}
use Prim.Native.Nat.{◌<◌}
use native.Mathlib.Omega.{arith}
use lib.ListN.{length}
use borrow.Author.Rules.{rules}
use Rattle.xml.specs.Bytes.{is_space}
use Rattle.xml.specs.CheckSteps.{after, form_step, ended}
use Rattle.xml.proofs.Past.{past_stop}
use Rattle.xml.proofs.Stays.{after_stay}
use Rattle.xml.proofs.Scanning.{run_past, run_out, run_on, run_stopped}
use Rattle.xml.proofs.finish.Goals as goal

pub returns-then-i-text : goal.returns-then-i-text
unfolding ended
returns-then-i-text c =
    let t = c.args.text.now in
    record {
      runs = run_past is_space after [] (after_stay []) t c.args.from c.past_spaces-i.result c.past_spaces-i.ensures ∙ run_out t c.past_spaces-i.result after [] (search rules);
      ends = tt;
    }

pub returns-else-i-text : goal.returns-else-i-text
unfolding form_step
returns-else-i-text c =
    let t = c.args.text.now in
    let i = c.past_spaces-i.result in
    let e = c.past_spaces-i.ensures in
    let h : i < length t = omega (arith, e.inside) in
    record {
      runs = run_past is_space after [] (after_stay []) t c.args.from i e ∙ run_on t i after [] h (simp (past_stop e h)) ∙ run_stopped t i h refl;
      ends = e.inside;
    }
