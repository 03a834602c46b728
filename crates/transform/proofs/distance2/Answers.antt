-- `transform::distance2` meets its contract. Assumes nothing.
use Rattle.std.proofs.Common.{refl}
use Rattle.transform.specs.Apply.{distance2_of}
use Rattle.transform.proofs.distance2.Goals as goal

pub returns : goal.returns
unfolding distance2_of
returns c = refl
