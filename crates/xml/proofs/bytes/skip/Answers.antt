-- `skip` meets its contract. Invariant: the bytes from `from` to i are of these kinds; the four places of a turn follow each other.
use mathlib.Core.Path.{refl}
use Prim.Native.Nat.{◌+◌}
use native.Mathlib.Omega.{arith}
use borrow.Author.Tests.{le-leb, lt-leb}
use Rattle.xml.proofs.Past.{along_on, along_stop, along_end}
use Rattle.xml.proofs.bytes.skip.Goals as goal

pub returns-then-hi-kind : goal.returns-then-hi-kind
returns-then-hi-kind c = along_stop c.loop-i.invariant (omega arith) (simp (← c.kind.ensures, lt-leb _ _ c.if-hi-kind.true))

pub returns-then-hi-kind-2 : goal.returns-then-hi-kind-2
returns-then-hi-kind-2 c =
    let l = c.loop-i in
    let s1 = along_on l.invariant (omega arith) (simp (← c.kind.ensures, le-leb _ _ c.if-hi-kind.false)) (l.i + 1) (omega arith) in
    along_stop s1 (omega arith) (simp (← c.kind-in-loop-i.ensures, lt-leb _ _ c.if-hi-kind-2.true))

pub returns-then-hi-kind-3 : goal.returns-then-hi-kind-3
returns-then-hi-kind-3 c =
    let l = c.loop-i in
    let s1 = along_on l.invariant (omega arith) (simp (← c.kind.ensures, le-leb _ _ c.if-hi-kind.false)) (l.i + 1) (omega arith) in
    let s2 = along_on s1 (omega arith) (simp (← c.kind-in-loop-i.ensures, le-leb _ _ c.if-hi-kind-2.false)) (l.i + 2) (omega arith) in
    along_stop s2 (omega arith) (simp (← c.kind-in-loop-i-2.ensures, lt-leb _ _ c.if-hi-kind-3.true))

pub returns-then-hi-kind-4 : goal.returns-then-hi-kind-4
returns-then-hi-kind-4 c =
    let l = c.loop-i in
    let s1 = along_on l.invariant (omega arith) (simp (← c.kind.ensures, le-leb _ _ c.if-hi-kind.false)) (l.i + 1) (omega arith) in
    let s2 = along_on s1 (omega arith) (simp (← c.kind-in-loop-i.ensures, le-leb _ _ c.if-hi-kind-2.false)) (l.i + 2) (omega arith) in
    let s3 = along_on s2 (omega arith) (simp (← c.kind-in-loop-i-2.ensures, le-leb _ _ c.if-hi-kind-3.false)) (l.i + 3) (omega arith) in
    along_stop s3 (omega arith) (simp (← c.kind-in-loop-i-3.ensures, lt-leb _ _ c.if-hi-kind-4.true))

pub loop-i-preserved : goal.loop-i-preserved
loop-i-preserved c =
    let l = c.loop-i in
    let s1 = along_on l.invariant (omega arith) (simp (← c.kind.ensures, le-leb _ _ c.if-hi-kind.false)) (l.i + 1) (omega arith) in
    let s2 = along_on s1 (omega arith) (simp (← c.kind-in-loop-i.ensures, le-leb _ _ c.if-hi-kind-2.false)) (l.i + 2) (omega arith) in
    let s3 = along_on s2 (omega arith) (simp (← c.kind-in-loop-i-2.ensures, le-leb _ _ c.if-hi-kind-3.false)) (l.i + 3) (omega arith) in
    along_on s3 (omega arith) (simp (← c.kind-in-loop-i-3.ensures, le-leb _ _ c.if-hi-kind-4.false)) (l.i + 4) (omega arith)

pub loop-i-2-preserved : goal.loop-i-2-preserved
loop-i-2-preserved c = along_on c.loop-i-2.invariant (omega arith) (simp (← c.kind-in-loop-i-2-2.ensures, le-leb _ _ c.if-kind-hi.true)) (c.loop-i-2.i + 1) refl

pub returns-else-kind-hi : goal.returns-else-kind-hi
returns-else-kind-hi c = along_stop c.loop-i-2.invariant (omega arith) (simp (← c.kind-in-loop-i-2-2.ensures, lt-leb _ _ c.if-kind-hi.false))

pub returns-after-loop-i-2 : goal.returns-after-loop-i-2
returns-after-loop-i-2 c = along_end c.loop-i-2.invariant (omega arith)
