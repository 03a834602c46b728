-- `stored::write::put_modules` meets its contract. Assumes nothing.
use mathlib.Core.Path.{◌≡◌}
use Prim.Native.Nat.{◌+◌, ◌*◌}
use lib.ListN.{take}
use Rattle.lists.specs.Lists.{flat_map}
use Rattle.little_endian.specs.Bytes.{put}
use Rattle.stored.specs.Stored.{form_two, head_size, module_bytes}
use Rattle.stored.proofs.write.put_modules.Given as goal

abbrev pub invariant-loop-k : goal.invariant-loop-k
invariant-loop-k l = l.out ≡ put (flat_map module_bytes (take l.k l.f-items)) (head_size form_two + 8 * l.fn.t.count) l.initial.out
