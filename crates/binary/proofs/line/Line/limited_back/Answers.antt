-- `binary::line::Line::limited_back` meets its contract. Assumes nothing.
use Rattle.binary.proofs.Ends.{back_at_change, back_at_edge, back_at-pixel}
use native.Mathlib.Omega.{arith}
use Rattle.binary.proofs.line.Line.limited_back.Goals as goal

pub returns-then-count-most : goal.returns-then-count-most
returns-then-count-most c =
    let m = c.min-most.ensures in
    let r = c.run_back-count.ensures in
    record { run = back_at_change _ _ _ _ _ _ m r.run (omega (arith, c.if-count-most.true)); most = r.most.1 }

pub returns-then-left-eq0 : goal.returns-then-left-eq0
returns-then-left-eq0 c =
    let m = c.min-most.ensures in
    let r = c.run_back-count.ensures in
    record { run = back_at_edge _ _ _ _ _ _ m r.run c.if-left-eq0.true; most = r.most.1 }

pub returns : goal.returns
returns c =
    let m = c.min-most.ensures in
    let r = c.run_back-count.ensures in
    record { run = back_at-pixel _ _ _ _ _ _ m r.run c.if-left-eq0.false _ c.is_dark.ensures _ c.end_by-end.ensures; most = r.most.1 }
