-- `math::solve` meets its contract. Assumes nothing.
use Rattle.std.proofs.Common.{ap, ◌∙◌, arith}
use Rattle.math.specs.Solve.{Matrix, augmented, first_unknowns, unknowns}
use Rattle.math.proofs.Systems.{sized}
use Rattle.math.proofs.Elimination.{found_is, none_is}
use Rattle.math.proofs.solve.Goals as goal

pub triangulate-requires : goal.triangulate-requires
triangulate-requires g c = sized g.row.N (omega arith)

pub back_substitute-requires : goal.back_substitute-requires
back_substitute-requires g c = (sized g.row.N (omega arith), omega arith)

pub returns-then-triangulate : goal.returns-then-triangulate
returns-then-triangulate g c =
    let n = g.row.N in
    found_is n (augmented n c.args.a.now c.args.b.now) _ c.triangulate.ensures.value c.if-triangulate.true _
    (c.back_substitute.ensures ∙ ap (λ (m : Matrix). first_unknowns n (unknowns n m n)) (c.triangulate.ensures.holds c.if-triangulate.true))

pub returns-else-triangulate : goal.returns-else-triangulate
returns-else-triangulate g c =
    let n = g.row.N in
    none_is n (augmented n c.args.a.now c.args.b.now) _ c.triangulate.ensures.value c.if-triangulate.false
