-- `past_indentation` meets its contract. Invariant: the bytes from `from` to i are white space; the four places of a turn follow each other.
use Prim.Native.Nat.{◌+◌}
use native.Mathlib.Omega.{arith}
use Rattle.xml.proofs.Past.{along_blank}
use Rattle.xml.proofs.bytes.past_indentation.Goals as goal

pub returns-then-text-i-ne32-2 : goal.returns-then-text-i-ne32-2
returns-then-text-i-ne32-2 c =
    let l = c.loop-i in
    along_blank l.invariant (omega arith) c.if-text-i-ne32.false (l.i + 1) (omega arith)

pub returns-then-text-i-ne32-3 : goal.returns-then-text-i-ne32-3
returns-then-text-i-ne32-3 c =
    let l = c.loop-i in
    let s1 = along_blank l.invariant (omega arith) c.if-text-i-ne32.false (l.i + 1) (omega arith) in
    along_blank s1 (omega arith) c.if-text-i-ne32-2.false (l.i + 2) (omega arith)

pub returns-then-text-i-ne32-4 : goal.returns-then-text-i-ne32-4
returns-then-text-i-ne32-4 c =
    let l = c.loop-i in
    let s1 = along_blank l.invariant (omega arith) c.if-text-i-ne32.false (l.i + 1) (omega arith) in
    let s2 = along_blank s1 (omega arith) c.if-text-i-ne32-2.false (l.i + 2) (omega arith) in
    along_blank s2 (omega arith) c.if-text-i-ne32-3.false (l.i + 3) (omega arith)

pub loop-i-preserved : goal.loop-i-preserved
loop-i-preserved c =
    let l = c.loop-i in
    let s1 = along_blank l.invariant (omega arith) c.if-text-i-ne32.false (l.i + 1) (omega arith) in
    let s2 = along_blank s1 (omega arith) c.if-text-i-ne32-2.false (l.i + 2) (omega arith) in
    let s3 = along_blank s2 (omega arith) c.if-text-i-ne32-3.false (l.i + 3) (omega arith) in
    along_blank s3 (omega arith) c.if-text-i-ne32-4.false (l.i + 4) (omega arith)
