use mathlib.Core.Path.{◌≡◌, ◌∙◌}
use Prim.Native.Nat.{◌-◌, ◌<◌}
use native.Mathlib.Omega.{arith}
use Rattle.little_endian.specs.Bytes.{bytes_le, put}
use Rattle.little_endian.proofs.Steps.{put_before}
use Rattle.little_endian.proofs.put.Goals as goal

pub loop-k-preserved : goal.loop-k-preserved
loop-k-preserved g c =
    let h : c.loop-k.k < g.T.Unsigned.SIZE = omega (arith, c.SIZE-k-end.ensures) in
    rw c.set_byte.ensures (put_before _ _ _ _ _ h ∙ c.loop-k.invariant)

pub returns : goal.returns
unfolding bytes_le put
returns g c =
    let e : g.T.Unsigned.SIZE - c.loop-k.k ≡ 0 = omega (arith, c.SIZE-k-end.ensures) in
    rw e at c.loop-k.invariant
