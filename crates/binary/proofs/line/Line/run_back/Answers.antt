-- `binary::line::Line::run_back` meets its contract. Assumes nothing.
use Prim.Native.Nat.{◌-◌}
use native.Mathlib.Omega.{arith}
use Rattle.binary.specs.Line.{pixel}
use Rattle.binary.proofs.Runs.{back_stop, back_more, back_end}
use Rattle.binary.proofs.line.Line.run_back.Goals as goal

pub returns-then-is_dark-want-clause-run : goal.returns-then-is_dark-want-clause-run
returns-then-is_dark-want-clause-run c =
    let a = c.args in
    let l = c.loop-n in
    let m = c.min-most.ensures in
    let e = back_stop a.want (pixel a.self.bits.now a.self.start a.self.stride) a.from a.left l.n (omega (arith, m, c.loop-n-test.true)) (omega (arith, m, c.loop-n-test.true)) _ c.is_dark.ensures c.if-is_dark-want.true in
    omega (arith, l.invariant, e)

pub loop-n-preserved : goal.loop-n-preserved
loop-n-preserved c =
    let a = c.args in
    let l = c.loop-n in
    let m = c.min-most.ensures in
    let e = back_more a.want (pixel a.self.bits.now a.self.start a.self.stride) a.from a.left l.n (omega (arith, m, c.loop-n-test.true)) (omega (arith, m, c.loop-n-test.true)) _ c.is_dark.ensures c.if-is_dark-want.false in
    omega (arith, l.invariant, e)

pub returns-clause-run : goal.returns-clause-run
returns-clause-run c =
    let a = c.args in
    let l = c.loop-n in
    let e = back_end a.want (pixel a.self.bits.now a.self.start a.self.stride) (a.from - l.n) (a.left - l.n) (omega (arith, c.min-most.ensures)) in
    omega (arith, l.invariant, e, c.min-most.ensures)
