use mathlib.Core.Path.{◌≡◌, ◌∙◌}
use Prim.Native.Nat.{◌+◌, ◌-◌, ◌≤◌, ◌<◌}
use native.Mathlib.Nat.{mod-eq_of_lt}
use native.Mathlib.Omega.{arith}
use Rattle.little_endian.specs.Bytes.{read_le}
use Rattle.little_endian.proofs.Steps.{read-lt, read_below, read_fits}
use Rattle.little_endian.proofs.get.Goals as goal

pub loop-k-init : goal.loop-k-init
unfolding read_le
loop-k-init g c = let e : g.T.Unsigned.SIZE - c.SIZE-k.result ≡ 0 = omega (arith, c.SIZE-k.ensures) in rw e

pub overflow_mul-n : goal.overflow_mul-n
overflow_mul-n g c =
    let e : c.loop-k.k ≤ g.T.Unsigned.SIZE = omega (arith, c.SIZE-k.ensures) in
    let p : 0 < c.loop-k.k = omega arith in
    omega (arith, read_fits _ _ c.args.at c.args.s.now p e g.met.T.Unsigned.eight_at_most c.type_inv.s, c.loop-k.invariant)

pub overflow_add-n : goal.overflow_add-n
overflow_add-n g c =
    let e : c.loop-k.k ≤ g.T.Unsigned.SIZE = omega (arith, c.SIZE-k.ensures) in
    let p : 0 < c.loop-k.k = omega arith in
    omega (arith, read_fits _ _ c.args.at c.args.s.now p e g.met.T.Unsigned.eight_at_most c.type_inv.s, c.loop-k.invariant, c.byte.ensures)

pub loop-k-preserved : goal.loop-k-preserved
loop-k-preserved g c =
    let e : c.loop-k.k ≤ g.T.Unsigned.SIZE = omega (arith, c.SIZE-k.ensures) in
    let p : 0 < c.loop-k.k = omega arith in
    rw (c.loop-k.invariant, c.byte.ensures) (read_below _ _ c.args.at c.args.s.now p e)

pub returns : goal.returns
returns g c =
    let e : g.T.Unsigned.SIZE - c.loop-k.k ≡ g.T.Unsigned.SIZE = omega arith in
    let z : c.args.at + c.loop-k.k ≡ c.args.at = omega arith in
    c.from_u64.ensures ∙ rw (c.loop-k.invariant, e, z) (mod-eq_of_lt (read-lt _ c.args.s.now _ c.type_inv.s))
