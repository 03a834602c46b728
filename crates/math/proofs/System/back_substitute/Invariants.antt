-- `math::System::back_substitute` meets its contract. Assumes nothing.
use Rattle.std.proofs.Common.{◌≡◌, ℕ, ◌-◌, ◌<◌, length, get_or}
use lib.Ieee.{nan}
use Rattle.math.specs.Solve.{augmented, unknowns}
use Rattle.math.proofs.System.back_substitute.Given as goal

abbrev pub invariant-loop-r : goal.invariant-loop-r
invariant-loop-r g l =
    (length l.x ≡ g.row.N) × ((k : ℕ) → k < g.row.N → get_or l.x k nan ≡ unknowns g.row.N (augmented g.row.N l.self.a l.self.b) (g.row.N - l.r) k)
