-- `blocks::marks::near_marks` meets its contract: the first i marks are written. Assumes nothing.
use mathlib.Core.Path.{◌≡◌}
use Rattle.lists.specs.Lists.{filled, at}
use Rattle.blocks.specs.Blocks.{near_mark}
use Rattle.blocks.proofs.marks.near_marks.Given as goal

abbrev pub invariant-loop-i : goal.invariant-loop-i
invariant-loop-i l = l.nears ≡ filled l.i (near_mark (at l.least) (at l.greatest) l.bw l.bh) l.initial.nears
