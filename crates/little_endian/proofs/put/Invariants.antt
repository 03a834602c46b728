-- `little_endian::put` meets its contract. Assumes nothing.
use mathlib.Core.Path.{◌≡◌}
use Prim.Native.Nat.{◌+◌, ◌-◌}
use Rattle.little_endian.specs.Bytes.{bytes_le, put}
use Rattle.little_endian.proofs.put.Given as goal

-- the bytes from place k on, once they are put too, make the whole
abbrev pub invariant-loop-k : goal.invariant-loop-k
invariant-loop-k g l = put (bytes_le (g.T.Unsigned.SIZE - l.k) l.rest) (l.at + l.k) l.s ≡ put (bytes_le g.T.Unsigned.SIZE (g.T.Unsigned.value l.fn.v)) l.at l.fn.s
