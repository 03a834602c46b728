-- `replay_records::values::put_grades` meets its contract. Assumes nothing.
use Rattle.std.proofs.Common.{◌≡◌, take}
use Rattle.lists.specs.Lists.{flat_map}
use Rattle.little_endian.specs.Bytes.{put}
use Rattle.replay_records.specs.Record.{grade_bytes}
use Rattle.replay_records.proofs.values.put_grades.Given as goal

abbrev pub invariant-loop-k : goal.invariant-loop-k
invariant-loop-k l = l.out ≡ put (flat_map grade_bytes (take l.k l.fn.t.at)) l.at l.initial.out
