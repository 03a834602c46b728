-- `math::System::reduce_row` meets its contract. Assumes nothing.
use Rattle.std.proofs.Common.{arith}
use Rattle.math.proofs.Systems.{side_less, reduced_is}
use Rattle.math.proofs.System.reduce_row.Goals as goal

pub returns : goal.returns
returns g c =
    let a = c.args in
    reduced_is g.row.N a.c a.r a.f a.self.now.a a.self.now.b _ c.reduce.new.row (omega arith) (omega arith) c.reduce.ensures.before c.reduce.ensures.after
    (side_less a.self.now.b a.c a.r a.f (omega arith))
