-- `transform::divide` meets its contract. Assumes nothing.
use Rattle.std.proofs.Common.{refl}
use Rattle.transform.specs.Apply.{divided}
use Rattle.transform.proofs.divide.Goals as goal

pub returns : goal.returns
unfolding divided
returns c = refl
