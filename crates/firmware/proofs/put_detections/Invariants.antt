-- `firmware::put_detections` meets its contract. Assumes nothing.
use mathlib.Core.Path.{◌≡◌}
use lib.ListN.{take}
use Rattle.lists.specs.Lists.{flat_map}
use Rattle.little_endian.specs.Bytes.{put}
use Rattle.firmware.specs.Firmware.{detection_bytes}
use Rattle.firmware.proofs.put_detections.Given as goal

abbrev pub invariant-loop-k : goal.invariant-loop-k
invariant-loop-k l = l.out ≡ put (flat_map detection_bytes (take l.k l.d-items)) 1 l.initial.out
