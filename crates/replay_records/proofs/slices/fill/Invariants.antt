-- `replay_records::slices::fill` meets its contract. Assumes nothing.
use Rattle.std.proofs.Common.{◌≡◌, ◌%◌}
use Rattle.lists.specs.Lists.{filled}
use Rattle.replay_records.proofs.slices.fill.Given as goal

abbrev pub invariant-loop-i : goal.invariant-loop-i
invariant-loop-i l = l.s ≡ filled l.i (λ k. k % 251) l.initial.s
