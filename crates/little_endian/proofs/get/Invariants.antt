-- `little_endian::get` meets its contract. Assumes nothing.
use mathlib.Core.Path.{◌≡◌}
use Prim.Native.Nat.{◌+◌, ◌-◌}
use Rattle.little_endian.specs.Bytes.{read_le}
use Rattle.little_endian.proofs.get.Given as goal

-- the bytes from place k on
abbrev pub invariant-loop-k : goal.invariant-loop-k
invariant-loop-k g l = l.n ≡ read_le (g.T.Unsigned.SIZE - l.k) l.s (l.at + l.k)
