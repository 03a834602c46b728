-- `finders::Finders::settled` meets its contract. Assumes nothing.
use Rattle.std.proofs.Common.{◌≡◌, take}
use Rattle.finders.specs.Answer.{finders_table}
use Rattle.finders.proofs.Finders.settled.Given as goal

abbrev pub invariant-loop-i : goal.invariant-loop-i
invariant-loop-i l = l.t ≡ finders_table (take l.i l.held)
