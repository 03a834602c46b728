-- `transform::Transform::project` meets its contract. Assumes nothing.
use Rattle.transform.proofs.Laws.{projected_is}
use Rattle.transform.proofs.Transform.project.Goals as goal

pub returns : goal.returns
returns c =
    projected_is _ _ _ _ _ _ c.linear.ensures c.apart-w.ensures c.linear-2.ensures c.linear-3.ensures
