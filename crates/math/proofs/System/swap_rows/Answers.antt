-- `math::System::swap_rows` meets its contract. Assumes nothing.
use Rattle.std.proofs.Common.{arith}
use Rattle.math.proofs.Systems.{swapped_is}
use Rattle.math.proofs.System.swap_rows.Goals as goal

pub returns : goal.returns
returns g c = swapped_is g.row.N _ _ _ _ c.args.p c.args.q (omega arith) (omega arith) (omega arith) (omega arith) c.swap.ensures.after c.swap-2.ensures.after
