-- `geometry::edge` meets its contract. Assumes nothing.
use Rattle.geometry.specs.Estimate.{edge_of}
use Rattle.geometry.proofs.edge.Goals as goal

pub returns : goal.returns
unfolding edge_of
returns c = rw c.span.ensures
