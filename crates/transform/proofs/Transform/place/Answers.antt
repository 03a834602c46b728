-- `transform::Transform::place` meets its contract. Assumes nothing.
use Rattle.transform.specs.Apply.{placed}
use Rattle.transform.proofs.Transform.place.Goals as goal

pub returns : goal.returns
unfolding placed
returns c = rw (c.from.ensures, c.project.ensures, c.from-p.ensures)
