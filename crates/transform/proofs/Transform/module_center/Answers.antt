-- `transform::Transform::module_center` meets its contract. Assumes nothing.
use Rattle.transform.specs.Apply.{center_of, in_module}
use Rattle.transform.proofs.Transform.module_center.Goals as goal

pub returns : goal.returns
unfolding center_of in_module
returns c = c.apply.ensures
