-- `binarize::blank::flag_columns` meets its contract: the rows before y are done. Assumes nothing.
use Rattle.lists.specs.Lists.{at}
use Rattle.binarize.specs.Flags.{Flagged}
use Rattle.binarize.proofs.blank.flag_columns.Given as goal

abbrev pub invariant-loop-y : goal.invariant-loop-y
invariant-loop-y l = let g = l.grid in Flagged (at g.edges.now) (at g.nears.now) g.width l.top l.y l.flags
