-- `replay::geometry_calls::rows_at` meets its contract: the first k rows are read. Assumes nothing.
use Rattle.std.proofs.Common.{◌≡◌, ◌*◌}
use Rattle.lists.specs.Lists.{filled}
use Rattle.replay_records.specs.Record.{doubles_at}
use Rattle.replay.proofs.geometry_calls.rows_at.Given as goal

abbrev pub invariant-loop-k : goal.invariant-loop-k
invariant-loop-k g l = l.row-items ≡ filled l.k (λ k. doubles_at g.row.N l.p (8 * g.row.N * k)) l.initial.row-items
