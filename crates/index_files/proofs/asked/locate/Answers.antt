-- `locate` meets its contract: the refusal of reading, or the file that is found.
use Rattle.std.specs.Prelude.{Ok}
use Rattle.std.proofs.lemmas.Result.{err_from_is_err_and}
use mathlib.Core.Path.{ap, sym, ◌∙◌, subst}
use mathlib.Core.List.{[], List}
use Prim.Native.Nat.{ℕ}
use lib.ListN.{get_or}
use Rattle.refusals.specs.Refusals.{Answer, and_then}
use Rattle.xml.specs.Tree.{Forest}
use Rattle.index.specs.Index.{file_of}
use Rattle.index.specs.Steps.{means}
use Rattle.index_values.specs.Steps.{given}
use Rattle.index_files.specs.Asked.{nth}
use Rattle.index_files.specs.AskedSteps.{TagFound}
use Rattle.index_files.proofs.Asking.{index_refused, tags_found, file_found}
use Rattle.index_files.proofs.asked.locate.Goals as goal

pub returns-in_err-read_index : goal.returns-in_err-read_index
returns-in_err-read_index c =
    let g = given c.args.uuid.now c.args.volume in
    let p = err_from_is_err_and c.from_residual.result c.from_residual.ensures.1 in
    rw (p.1, p.2)
    record { file = index_refused g c.args.letter c.args.block.0 c.args.text.now (nth c.args.k) _ (ap (means c.args.text.now) (sym c.in_err-read_index.was) ∙ c.read_index.ensures.answers); tag = tt }

pub returns : goal.returns
returns c =
    let a = c.args in
    let g = given a.uuid.now a.volume in
    let t = ap (means a.text.now) (sym c.in_ok-read_index.was) ∙ c.read_index.ensures.answers in
    record {
      file = ap (λ (a : Answer Forest). and_then a (λ c. Ok (file_of c))) c.find.ensures.children ∙ file_found g a.letter a.block.0 a.text.now a.k _ t;
      tag =
          subst (λ (l : List (List ℕ)). TagFound a.text.now (get_or l a.k []) c.find.result) (tags_found g a.letter a.block.0 a.text.now _ t) c.find.ensures.tag;
    }
