-- `find` meets its contract: the file that is given after k others, by its children and by its tag.
use Rattle.index_files.proofs.Walking.{yields_children, yields_tags, found}
use Rattle.std.proofs.lemmas.Iterator.Consumers.{nth_from_yields_List}
use Rattle.index_files.proofs.asked.find.Goals as goal

pub returns : goal.returns
returns c =
    let s = c.args.text.now in
    let k = c.args.k in
    let e = c.new.result in
    let r = c.nth.result in
    rw c.ok_or.ensures.value
    (found s k r (nth_from_yields_List r _ k c.nth.ensures.ran (yields_children s 38 e c.new.ensures))
    (nth_from_yields_List r _ k c.nth.ensures.ran (yields_tags s 38 e c.new.ensures)))
