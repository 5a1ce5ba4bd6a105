-- `klapouzen_write_label` meets its contract: the compression is tested first, then the writer answers; what it stored reads as the label given.
use mathlib.Core.Path.{refl, subst}
use Prim.Native.Nat.{ℕ}
use borrow.Author.Tests.{le-leb, lt-leb}
use Rattle.refusals.specs.Refusals.{Answer}
use Rattle.api.specs.Outputs.{Shown, one}
use Rattle.api.proofs.Writing.{refused_before, passed_before}
use Rattle.api.proofs.ReadBack.{label_stored}
use Rattle.api.proofs.labelling.klapouzen_write_label.Goals as goal
use Rattle.api.proofs.labelling.klapouzen_write_label.Goals.{then-compression-gt1, else-compression-gt1}

pub returns : goal.returns
returns c =
    elim c.if-compression-gt1.branch [
      | then-compression-gt1 w ↦
          rw w.out-is
          (label_stored c.args.compression refl
          (refused_before _ _ _ _ (lt-leb c.args.compression 1 w.if-compression-gt1.true)
          (subst (λ (a : Answer ℕ). Shown 1 one a c.tell_count.result (one c.tell_count.new.count)) w.written-is c.tell_count.ensures)))
      | else-compression-gt1 w ↦
          rw w.out-is
          (label_stored c.args.compression refl
          (passed_before _ _ (le-leb c.args.compression 1 w.if-compression-gt1.false)
          (record {
            written = w.write-written.result;
            writes = w.write-written.ensures;
            shows = subst (λ (a : Answer ℕ). Shown 1 one a c.tell_count.result (one c.tell_count.new.count)) w.written-is c.tell_count.ensures;
          })))
    ]
