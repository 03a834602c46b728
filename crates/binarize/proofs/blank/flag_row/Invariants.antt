-- `binarize::blank::flag_row` meets its contract: the first x columns are done. Assumes nothing.
use Prim.Native.Nat.{◌+◌}
use mathlib.Core.Path.{◌≡◌}
use Rattle.lists.specs.Lists.{filled, at}
use Rattle.binarize.specs.Flags.{flagged}
use Rattle.binarize.proofs.blank.flag_row.Given as goal

abbrev pub invariant-loop-x : goal.invariant-loop-x
invariant-loop-x l = l.flags ≡ filled l.x (λ k. flagged (at l.marks (l.from + k)) (at l.initial.flags k)) l.initial.flags
