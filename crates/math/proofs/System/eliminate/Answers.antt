use Rattle.std.proofs.Common.{◌+◌, sym, ap, ◌∙◌, arith}
use Rattle.math.specs.Solve.{Matrix, augmented, row_cleared}
use Rattle.math.proofs.Elimination.{cleared_low, cleared_more}
use Rattle.math.proofs.System.eliminate.Goals as goal

pub loop-r-init : goal.loop-r-init
loop-r-init g c = sym (cleared_low (augmented g.row.N c.args.self.now.a c.args.self.now.b) c.args.c (c.args.c + 1) (omega arith))

pub loop-r-preserved : goal.loop-r-preserved
loop-r-preserved g c =
    c.eliminate_row.ensures ∙ ap (λ (m : Matrix). row_cleared m c.args.c c.loop-r.r) c.loop-r.invariant
    ∙ sym (cleared_more (augmented g.row.N c.args.self.now.a c.args.self.now.b) c.args.c c.loop-r.r (omega arith))
