use mathlib.Core.Path.{sym, ◌∙◌}
use native.Mathlib.Omega.{arith}
use Rattle.lists.specs.Lists.{range, at}
use Rattle.lists.proofs.Folds.{fold_end}
use Rattle.blocks.proofs.Grids.{folded-cells}
use Rattle.binarize.specs.Splits.{split_block, split_column, split_row, no_block}
use Rattle.binarize.proofs.levels.Marked.window_split.Goals as goal

pub returns : goal.returns
unfolding split_row split_column
returns c =
    let l = c.loop-y in
    let a = c.args in
    let m = a.self in
    let r = a.window in
    sym (fold_end (split_row (at m.means.now) (at m.marks.now) a.bound m.width r.left r.right) _ _ l.y r.bottom (omega arith) l.invariant.0)
    ∙ folded-cells (split_block (at m.means.now) (at m.marks.now) a.bound) m.width (range r.left r.right) (range r.top r.bottom) no_block
