-- `replay_records::values::finders_at` meets its contract. Assumes nothing.
use Rattle.std.proofs.Common.{◌≡◌, ◌+◌, ◌*◌}
use Rattle.lists.specs.Lists.{filled}
use Rattle.replay_records.specs.Record.{read_finder}
use Rattle.replay_records.proofs.values.finders_at.Given as goal

abbrev pub invariant-loop-i : goal.invariant-loop-i
invariant-loop-i l = l.f-items ≡ filled l.i (λ k. read_finder l.p (l.at + 16 * k)) l.initial.f-items
