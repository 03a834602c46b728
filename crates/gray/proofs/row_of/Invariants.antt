-- `gray::row_of` meets its contract: the first x pixels are written. Assumes nothing.
use Prim.Native.Nat.{◌*◌}
use mathlib.Core.Path.{◌≡◌}
use Rattle.lists.specs.Lists.{filled}
use Rattle.gray.specs.Gray.{gray_of}
use Rattle.gray.proofs.row_of.Given as goal

abbrev pub invariant-loop-x : goal.invariant-loop-x
invariant-loop-x g l = l.out ≡ filled l.x (λ k. gray_of l.src g.row.STEP (k * g.row.STEP)) l.initial.out
