-- `stored::read::read_finders` meets its contract. Assumes nothing.
use mathlib.Core.Path.{◌≡◌}
use Rattle.lists.specs.Lists.{tabulate}
use Rattle.finders.specs.Answer.{finders_table}
use Rattle.stored.specs.Stored.{form_in, stored_finder}
use Rattle.stored.proofs.read.read_finders.Given as goal

abbrev pub invariant-loop-k : goal.invariant-loop-k
invariant-loop-k l = l.out ≡ finders_table (tabulate l.k (stored_finder (form_in l.bytes) l.bytes l.head.count))
