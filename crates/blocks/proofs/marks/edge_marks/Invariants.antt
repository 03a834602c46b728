-- `blocks::marks::edge_marks` meets its contract: the first i marks are written. Assumes nothing.
use mathlib.Core.Path.{◌≡◌}
use Rattle.lists.specs.Lists.{filled, at}
use Rattle.blocks.specs.Blocks.{edge_mark}
use Rattle.blocks.proofs.marks.edge_marks.Given as goal

abbrev pub invariant-loop-i : goal.invariant-loop-i
invariant-loop-i l = l.edges ≡ filled l.i (edge_mark (at l.least) (at l.greatest)) l.initial.edges
