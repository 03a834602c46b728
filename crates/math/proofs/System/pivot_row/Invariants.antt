-- `math::System::pivot_row` meets its contract. Assumes nothing.
use Rattle.std.proofs.Common.{◌≡◌, ◌<◌}
use Rattle.math.specs.Solve.{augmented, pivot_row}
use Rattle.math.proofs.System.pivot_row.Given as goal

abbrev pub invariant-loop-r : goal.invariant-loop-r
invariant-loop-r g l = (l.p < g.row.N) × (l.p ≡ pivot_row (augmented g.row.N l.self.a l.self.b) l.c l.r)
