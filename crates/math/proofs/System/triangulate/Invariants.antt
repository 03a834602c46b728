-- `math::System::triangulate` meets its contract. Assumes nothing.
use Rattle.std.proofs.Common.{◌≡◌, false}
use Rattle.math.specs.Solve.{augmented, upper, singular}
use Rattle.math.proofs.System.triangulate.Given as goal

abbrev pub invariant-loop-c : goal.invariant-loop-c
invariant-loop-c g l =
    (singular g.row.N (augmented g.row.N l.initial.self.a l.initial.self.b) l.c ≡ false)
    × (augmented g.row.N l.self.a l.self.b ≡ upper g.row.N (augmented g.row.N l.initial.self.a l.initial.self.b) l.c)
