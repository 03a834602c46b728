-- `transform::Transform::from_quad` meets its contract. Assumes nothing.
use Rattle.std.proofs.Common.{rules}
use Rattle.transform.proofs.Laws.{quad_table, quad_is}
use Rattle.transform.proofs.Transform.from_quad.Goals as goal

pub returns : goal.returns
returns c =
    quad_is _ _ _ _ _ _ _ _ _ _ _ _ c.from.ensures c.from-2.ensures c.from-3.ensures c.from-4.ensures
    c.from-d0.ensures c.from-d1.ensures c.from-d2.ensures c.from-d3.ensures
    (quad_table _ _ _ _ _ _ _ _ _ _ _ _ c.homography_rows-r0.ensures c.homography_rows-r1.ensures c.homography_rows-r2.ensures c.homography_rows-r3.ensures)
    c.solve.ensures _ (search rules)
