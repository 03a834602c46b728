-- `blocks::stats::all_values` meets its contract: the values of the first i blocks are written. Assumes nothing.
use mathlib.Core.Path.{◌≡◌}
use Rattle.lists.specs.Lists.{filled}
use Rattle.blocks.specs.Blocks.{mean_at, least_at, greatest_at}
use Rattle.blocks.proofs.stats.all_values.Given as goal

abbrev pub invariant-loop-i : goal.invariant-loop-i
invariant-loop-i l =
    let p = l.picture in
    (l.means ≡ filled l.i (mean_at p.gray.now p.width p.height) l.initial.means) × (l.least ≡ filled l.i (least_at p.gray.now p.width p.height) l.initial.least)
    × (l.greatest ≡ filled l.i (greatest_at p.gray.now p.width p.height) l.initial.greatest)
