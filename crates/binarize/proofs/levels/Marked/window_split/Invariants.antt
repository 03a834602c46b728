-- `binarize::levels::Marked::window_split` meets its contract: the rows before y are counted. Assumes nothing.
use Prim.Native.Nat.{◌+◌, ◌-◌, ◌*◌, ◌≤◌}
use mathlib.Core.Path.{◌≡◌}
use Rattle.lists.specs.Lists.{range, folded, at}
use Rattle.binarize.specs.Splits.{split_row, no_block, tally_of}
use Rattle.binarize.proofs.levels.Marked.window_split.Given as goal

abbrev pub invariant-loop-y : goal.invariant-loop-y
invariant-loop-y l =
    let m = l.self in
    let r = l.window in
    let step = split_row (at m.means.now) (at m.marks.now) l.bound m.width r.left r.right in
    (folded step no_block (range r.top r.bottom) ≡ folded step (tally_of l.t) (range l.y r.bottom)) × (l.t.lows + l.t.highs ≤ (l.y - r.top) * (r.right - r.left))
