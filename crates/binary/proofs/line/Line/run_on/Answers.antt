use Prim.Native.Nat.{◌+◌}
use mathlib.Core.Path.{◌≡◌}
use native.Mathlib.Omega.{arith}
use Rattle.binary.specs.Line.{pixel}
use Rattle.binary.proofs.Runs.{run_stop, run_more, run_end}
use Rattle.binary.proofs.line.Line.run_on.Goals as goal

pub returns-then-is_dark-want-clause-run : goal.returns-then-is_dark-want-clause-run
returns-then-is_dark-want-clause-run c =
    let a = c.args in
    let e = run_stop a.want (pixel a.self.bits.now a.self.start a.self.stride) a.from a.left c.loop-n.n c.loop-n-test.true _ c.is_dark.ensures c.if-is_dark-want.true in
    omega (arith, c.loop-n.invariant, e)

pub loop-n-preserved : goal.loop-n-preserved
loop-n-preserved c =
    let a = c.args in
    let e = run_more a.want (pixel a.self.bits.now a.self.start a.self.stride) a.from a.left c.loop-n.n c.loop-n-test.true _ c.is_dark.ensures c.if-is_dark-want.false in
    omega (arith, c.loop-n.invariant, e)

pub returns-clause-run : goal.returns-clause-run
returns-clause-run c =
    let a = c.args in
    let n : c.loop-n.n ≡ a.left = omega arith in
    let e = run_end a.want (pixel a.self.bits.now a.self.start a.self.stride) (a.from + a.left) a.left in
    omega (arith, rw n at c.loop-n.invariant, e)
