-- `blocks::stats::rect_stats` meets its contract: the rows before y are counted. Assumes nothing.
use Prim.Native.Nat.{◌-◌, ◌*◌, ◌≤◌}
use mathlib.Core.Path.{◌≡◌}
use Rattle.lists.specs.Lists.{range, folded}
use Rattle.blocks.specs.Steps.{row_step}
use Rattle.blocks.proofs.stats.rect_stats.Given as goal

abbrev pub invariant-loop-y : goal.invariant-loop-y
invariant-loop-y l =
    let step = row_step l.s l.w l.rect.left l.rect.right in
    (folded step l.initial.t (range l.rect.top l.rect.bottom) ≡ folded step l.t (range l.y l.rect.bottom)) × (l.t.sum ≤ 255 * ((l.y - l.rect.top) * (l.rect.right - l.rect.left)))
