-- `ratio::near_three` meets its contract. Assumes nothing.
use Prim.Native.Nat.{◌*◌}
use native.Mathlib.Omega.{arith}
use Rattle.ratio.proofs.Limits.{limits}
use Rattle.ratio.proofs.near_three.Goals as goal

pub returns : goal.returns
returns c = let a = c.args in limits a.c (3 * a.s) (33 * a.s) _ _ (omega arith) (omega arith)
