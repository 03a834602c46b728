-- `blocks::stats::row_stats` meets its contract: the columns before x are counted. Assumes nothing.
use Prim.Native.Nat.{◌+◌, ◌-◌, ◌*◌, ◌≤◌}
use mathlib.Core.Path.{◌≡◌}
use Rattle.lists.specs.Lists.{range, folded}
use Rattle.blocks.specs.Steps.{column_step}
use Rattle.blocks.proofs.stats.row_stats.Given as goal

abbrev pub invariant-loop-x : goal.invariant-loop-x
invariant-loop-x l =
    (folded (column_step l.s l.from) l.initial.r (range l.a l.b) ≡ folded (column_step l.s l.from) l.r (range l.x l.b)) × (l.r.sum ≤ l.initial.r.sum + 255 * (l.x - l.a))
