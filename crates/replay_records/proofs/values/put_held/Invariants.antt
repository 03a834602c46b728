-- `replay_records::values::put_held` meets its contract. Assumes nothing.
use Rattle.std.proofs.Common.{◌≡◌, take}
use Rattle.lists.specs.Lists.{flat_map}
use Rattle.little_endian.specs.Bytes.{put}
use Rattle.firmware.specs.Firmware.{finder_bytes}
use Rattle.replay_records.proofs.values.put_held.Given as goal

abbrev pub invariant-loop-i : goal.invariant-loop-i
invariant-loop-i l = l.out ≡ put (flat_map finder_bytes (take l.i l.held)) l.at l.initial.out
