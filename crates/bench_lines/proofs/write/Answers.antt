-- `write` meets its contract: 15 for a file past its bound, else the lines; they are put together in a buffer that has room for them, and put.
use native.Mathlib.Omega.{arith}
use mathlib.Core.Path.{◌≡◌, sym, ap₂, ◌∙◌}
use mathlib.Core.Bool.{true, false}
use Prim.Native.Nat.{ℕ}
use lib.ListN.{length-replicate}
use borrow.Author.Tests.{not-true, not-false}
use Rattle.writing.proofs.Pieces.{delivers}
use Rattle.bench_lines.specs.Lines.{files_bounded, lines_of}
use Rattle.bench_lines.proofs.write.Goals as goal

pub returns-then-not-is_bounded : goal.returns-then-not-is_bounded
returns-then-not-is_bounded c =
    let e : files_bounded c.args.index_list.now c.args.index_store.now c.args.data_list.now c.args.data_store.now ≡ false = sym c.is_bounded.ensures ∙ c.if-not-is_bounded.true in
    delivers c.new-text.ensures.buffer c.new-text.ensures.at (omega (arith, length-replicate {A = ℕ} 256 0)) c.add_refusal.ensures c.bytes.ensures (rw e) c.put.ensures

pub returns : goal.returns
returns c =
    let e : files_bounded c.args.index_list.now c.args.index_store.now c.args.data_list.now c.args.data_store.now ≡ true = sym c.is_bounded.ensures ∙ c.if-not-is_bounded.false in
    delivers c.new-text.ensures.buffer c.new-text.ensures.at (omega (arith, length-replicate {A = ℕ} 256 0)) c.add_lines.ensures c.bytes-2.ensures (ap₂ lines_of c.find_break-verdict.ensures.answers c.find_cut-rescue.ensures.answers ∙ rw e) c.put-2.ensures
