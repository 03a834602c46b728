-- `math::System::unknown` meets its contract. Assumes nothing.
use Rattle.std.proofs.Common.{◌≡◌, ℕ, ◌<◌, get_or}
use lib.Ieee.{nan}
use Rattle.math.specs.Solve.{Vector, augmented, remainder}
use Rattle.math.proofs.System.unknown.Given as goal

abbrev pub invariant-loop-k : goal.invariant-loop-k
invariant-loop-k g l = (y : Vector) → ((j : ℕ) → j < g.row.N → get_or l.x j nan ≡ y j) → l.s ≡ remainder g.row.N (augmented g.row.N l.self.a l.self.b) l.r y l.k
