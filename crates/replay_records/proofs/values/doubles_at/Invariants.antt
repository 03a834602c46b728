-- `replay_records::values::doubles_at` meets its contract. Assumes nothing.
use Rattle.std.proofs.Common.{◌≡◌, ◌+◌, ◌*◌}
use Rattle.lists.specs.Lists.{filled}
use Rattle.replay_records.specs.Record.{double_at}
use Rattle.replay_records.proofs.values.doubles_at.Given as goal

abbrev pub invariant-loop-k : goal.invariant-loop-k
invariant-loop-k g l = l.x-items ≡ filled l.k (λ k. double_at l.p (l.at + 8 * k)) l.initial.x-items
