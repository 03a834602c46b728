-- `transform::Transform::from_triangle` meets its contract. Assumes nothing.
use Rattle.std.proofs.Common.{rules}
use Rattle.transform.proofs.Laws.{triangle_table, affine_is, triangle_is}
use Rattle.transform.proofs.Transform.from_triangle.Goals as goal

pub returns : goal.returns
returns c =
    triangle_is _ _ _ _ _ _ _ _ _ _ c.from.ensures c.from-2.ensures c.from-3.ensures
    c.from-d0.ensures c.from-d1.ensures c.from-d2.ensures
    (triangle_table _ _ _ _ _ _ c.affine_rows-r0.ensures c.affine_rows-r1.ensures c.affine_rows-r2.ensures)
    c.solve.ensures _ (affine_is c.solve.result _ (search rules))
