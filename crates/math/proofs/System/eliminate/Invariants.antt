-- `math::System::eliminate` meets its contract. Assumes nothing.
use Rattle.std.proofs.Common.{◌≡◌}
use Rattle.math.specs.Solve.{augmented, cleared}
use Rattle.math.proofs.System.eliminate.Given as goal

abbrev pub invariant-loop-r : goal.invariant-loop-r
invariant-loop-r g l = augmented g.row.N l.self.a l.self.b ≡ cleared (augmented g.row.N l.initial.self.a l.initial.self.b) l.c l.r
