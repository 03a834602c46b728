-- `gray::gray_rows` meets its contract: the first y rows are written. Assumes nothing.
use Prim.Native.Nat.{◌*◌}
use mathlib.Core.Path.{◌≡◌}
use Rattle.lists.specs.Lists.{filled}
use Rattle.gray.specs.Gray.{channels_of, gray_at}
use Rattle.gray.proofs.gray_rows.Given as goal

abbrev pub invariant-loop-y : goal.invariant-loop-y
invariant-loop-y l = l.gray ≡ filled (l.y * l.w) (gray_at l.data l.w l.stride (channels_of l.format)) l.initial.gray
