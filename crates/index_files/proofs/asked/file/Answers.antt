-- `file` meets its contract: the refusal, or what the file that is found says.
use Rattle.std.specs.Prelude.{Ok}
use Rattle.std.proofs.lemmas.Result.{err_from_is_err_and}
use mathlib.Core.Path.{ap, sym, ◌∙◌}
use Rattle.refusals.specs.Refusals.{Answer, and_then}
use Rattle.index.specs.Index.{File}
use Rattle.index_files.specs.Names.{name_place}
use Rattle.index_files.specs.AskedSteps.{file_found, shown}
use Rattle.index_files.proofs.Asking.{head_shown}
use Rattle.index_files.proofs.asked.file.Goals as goal

pub returns-in_err-n : goal.returns-in_err-n
returns-in_err-n c =
    let p = err_from_is_err_and c.from_residual.result c.from_residual.ensures.1 in
    rw (p.1, p.2)
    record {
      says = ap (λ (a : Answer File). and_then a (λ f. Ok (shown f))) (ap (file_found c.args.text.now) (sym c.in_err-n.was) ∙ c.locate.ensures.file);
      inside = tt;
      stands = tt;
    }

pub returns : goal.returns
returns c =
    let w = c.in_ok-n.ensures {u = tt} in
    record {
      says = head_shown c.args.text.now c.in_ok-n.n c.head_at.result c.head_at.ensures ∙ ap (λ (a : Answer File). and_then a (λ f. Ok (shown f))) w.file;
      inside = c.head_at.ensures.name.inside;
      stands = c.head_at.ensures.place ∙ ap (name_place c.args.text.now) w.tag;
    }
