-- `transform::WideFromPoint::from` meets its contract. Assumes nothing.
use Rattle.transform.specs.Fit.{widened}
use Rattle.transform.proofs.WideFromPoint.from.Goals as goal

pub returns : goal.returns
unfolding widened
returns c = cc
