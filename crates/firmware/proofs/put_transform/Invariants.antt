-- `firmware::put_transform` meets its contract. Assumes nothing.
use mathlib.Core.Path.{◌≡◌}
use lib.ListN.{take}
use Rattle.lists.specs.Lists.{flat_map}
use Rattle.little_endian.specs.Bytes.{put, double_bytes}
use Rattle.firmware.proofs.put_transform.Given as goal

abbrev pub invariant-loop-k : goal.invariant-loop-k
invariant-loop-k l = l.out ≡ put (flat_map double_bytes (take l.k l.fn.t.m)) l.at l.initial.out
