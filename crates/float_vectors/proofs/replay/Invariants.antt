-- `float_vectors::replay` is safe and ends. Assumes nothing.
use Rattle.std.proofs.Common.{◌≤◌}
use Rattle.float_vectors.proofs.replay.Given as goal

abbrev pub invariant-loop : goal.invariant-loop
invariant-loop l = (l.tally.cases ≤ l.counter) × (l.tally.wrong ≤ l.counter)
