-- `transform::PointFromWide::from` meets its contract. Assumes nothing.
use Rattle.transform.specs.Apply.{narrowed}
use Rattle.transform.proofs.PointFromWide.from.Goals as goal

pub returns : goal.returns
unfolding narrowed
returns c = rw (c.narrow.ensures, c.narrow-2.ensures)
