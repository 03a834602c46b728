-- `binary::line::Line::limited_on` meets its contract. Assumes nothing.
use Rattle.binary.proofs.Ends.{at_change, at_edge, at-pixel}
use native.Mathlib.Omega.{arith}
use Rattle.binary.proofs.line.Line.limited_on.Goals as goal

pub returns-then-count-most : goal.returns-then-count-most
returns-then-count-most c =
    let l = c.saturating_sub.ensures in
    let m = c.min-most.ensures in
    let r = c.run_on-count.ensures in
    record { run = at_change _ _ _ _ _ _ _ _ l m r.run (omega (arith, c.if-count-most.true)); most = omega (arith, l, m, r.most) }

pub returns-then-self-next : goal.returns-then-self-next
returns-then-self-next c =
    let l = c.saturating_sub.ensures in
    let m = c.min-most.ensures in
    let r = c.run_on-count.ensures in
    record { run = at_edge _ _ _ _ _ _ _ _ l m r.run (omega (arith, c.if-self-next.true)); most = omega (arith, l, m, r.most) }

pub returns : goal.returns
returns c =
    let l = c.saturating_sub.ensures in
    let m = c.min-most.ensures in
    let r = c.run_on-count.ensures in
    record { run = at-pixel _ _ _ _ _ _ _ _ l m r.run (omega (arith, c.if-self-next.false)) _ c.is_dark.ensures _ c.end_by-end.ensures; most = omega (arith, l, m, r.most) }
