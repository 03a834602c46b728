-- `ranking::lent::first_eight` meets its contract. Assumes nothing.
use mathlib.Core.Path.{◌≡◌}
use Rattle.lists.specs.Lists.{filled}
use Rattle.ranking.specs.Ranking.{finder_at}
use Rattle.ranking.proofs.lent.first_eight.Given as goal

abbrev pub invariant-loop-i : goal.invariant-loop-i
invariant-loop-i l = l.place-items ≡ filled l.i (finder_at l.fs) l.initial.place-items
