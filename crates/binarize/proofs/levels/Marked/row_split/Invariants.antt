-- `binarize::levels::Marked::row_split` meets its contract: the columns before x are counted. Assumes nothing.
use Prim.Native.Nat.{◌+◌, ◌-◌, ◌*◌, ◌≤◌}
use mathlib.Core.Path.{◌≡◌}
use Rattle.lists.specs.Lists.{range, folded, at}
use Rattle.binarize.specs.Splits.{split_column, tally_of}
use Rattle.binarize.proofs.levels.Marked.row_split.Given as goal

abbrev pub invariant-loop-x : goal.invariant-loop-x
invariant-loop-x l =
    let m = l.self in
    let w = l.fn.window in
    let step = split_column (at m.means.now) (at m.marks.now) l.bound (l.y * m.width) in
    (folded step (tally_of l.initial.r) (range w.left w.right) ≡ folded step (tally_of l.r) (range l.x w.right)) × (l.r.lows + l.r.highs ≤ l.initial.r.lows + l.initial.r.highs + (l.x - w.left))
