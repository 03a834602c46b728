-- `ratio::near_one` meets its contract. Assumes nothing.
use Prim.Native.Nat.{◌*◌}
use native.Mathlib.Omega.{arith}
use Rattle.ratio.proofs.Limits.{limits}
use Rattle.ratio.proofs.near_one.Goals as goal

pub returns : goal.returns
returns c = let a = c.args in limits a.r a.s (11 * a.s) _ _ (omega arith) (omega arith)
