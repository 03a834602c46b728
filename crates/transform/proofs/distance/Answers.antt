-- `transform::distance` meets its contract. Assumes nothing.
use Rattle.transform.specs.Apply.{distance_of}
use Rattle.transform.proofs.distance.Goals as goal

pub returns : goal.returns
unfolding distance_of
returns c = rw (c.sqrt32.ensures, c.distance2.ensures)
