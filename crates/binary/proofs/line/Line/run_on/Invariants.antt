-- `binary::line::Line::run_on` meets its contract. Assumes nothing.
use Prim.Native.Nat.{◌+◌, ◌-◌}
use mathlib.Core.Path.{◌≡◌}
use Rattle.binary.specs.Line.{pixel, run}
use Rattle.binary.proofs.line.Line.run_on.Given as goal

abbrev pub invariant-loop-n : goal.invariant-loop-n
invariant-loop-n l = run l.want (pixel l.self.bits.now l.self.start l.self.stride) l.from l.left ≡ l.n + run l.want (pixel l.self.bits.now l.self.start l.self.stride) (l.from + l.n) (l.left - l.n)
