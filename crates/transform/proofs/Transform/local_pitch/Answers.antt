-- `transform::Transform::local_pitch` meets its contract. Assumes nothing.
use Rattle.transform.specs.Apply.{in_module}
use Rattle.transform.proofs.Laws.{pitch_is}
use Rattle.transform.proofs.Transform.local_pitch.Goals as goal

pub returns : goal.returns
unfolding in_module
returns c =
    pitch_is _ _ _ _ _ _ _ _ c.module_center-c.ensures c.apply-r.ensures c.apply-d.ensures c.distance.ensures c.distance-2.ensures
