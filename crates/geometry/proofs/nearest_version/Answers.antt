-- `geometry::nearest_version` meets its contract. Assumes nothing.
use Rattle.geometry.proofs.Answers.{version-in, version-top}
use native.Mathlib.Omega.{arith}
use Rattle.geometry.proofs.nearest_version.Goals as goal

pub returns-then-n-most : goal.returns-then-n-most
returns-then-n-most c = version-in _ _ _ c.round32.ensures c.to_u32-n.ensures (omega (arith, c.if-n-most.true))

pub returns-else-n-most : goal.returns-else-n-most
returns-else-n-most c = version-top _ _ _ c.round32.ensures c.to_u32-n.ensures (omega (arith, c.if-n-most.false))
