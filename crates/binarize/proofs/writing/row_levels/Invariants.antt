-- `binarize::writing::row_levels` meets its contract: the first x levels are written. Assumes nothing.
use mathlib.Core.Path.{◌≡◌}
use Rattle.lists.specs.Lists.{filled, at}
use Rattle.binarize.specs.Levels.{window_level}
use Rattle.binarize.proofs.writing.row_levels.Given as goal

abbrev pub invariant-loop-x : goal.invariant-loop-x
invariant-loop-x l =
    let g = l.grid in l.levels ≡ filled l.x (λ k. window_level (at g.means.now) (at g.edges.now) (at g.nears.now) g.width g.height k l.y l.global) l.initial.levels
