-- `transform::linear` meets its contract. Assumes nothing.
use Rattle.std.proofs.Common.{refl}
use Rattle.transform.specs.Apply.{linear_of}
use Rattle.transform.proofs.linear.Goals as goal

pub returns : goal.returns
unfolding linear_of
returns c = refl
