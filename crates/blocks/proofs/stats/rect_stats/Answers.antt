use mathlib.Core.Path.{◌≡◌, sym, ◌∙◌}
use native.Mathlib.Omega.{arith}
use Rattle.lists.specs.Lists.{range}
use Rattle.lists.proofs.Folds.{fold_end}
use Rattle.blocks.specs.Steps.{row_step, column_step, cell_step}
use Rattle.blocks.proofs.Grids.{folded-cells}
use Rattle.blocks.proofs.stats.rect_stats.Goals as goal

pub returns : goal.returns
unfolding row_step column_step
returns c =
    let l = c.loop-y in
    let a = c.args in
    let r = a.rect in
    let e : l.y ≡ r.bottom = omega arith in (
      sym (fold_end (row_step a.s.now a.w r.left r.right) _ _ l.y r.bottom (omega arith) l.invariant.0) ∙ folded-cells (cell_step a.s.now) a.w (range r.left r.right) (range r.top r.bottom) _,
      rw e at l.invariant.1,
    )
