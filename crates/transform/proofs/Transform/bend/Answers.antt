-- `transform::Transform::bend` meets its contract. Assumes nothing.
use Rattle.transform.proofs.Laws.{bent_is}
use Rattle.transform.proofs.Transform.bend.Goals as goal

pub returns : goal.returns
returns c =
    bent_is _ _ _ _ _ _ _ _ _ c.offset-u.ensures c.divide.ensures c.divide-2.ensures c.divide-3.ensures c.divide-d.ensures
    c.narrow.ensures c.narrow-2.ensures
