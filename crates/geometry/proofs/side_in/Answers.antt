-- `geometry::side_in` meets its contract. Assumes nothing.
use Rattle.geometry.specs.Estimate.{side_in}
use Rattle.geometry.proofs.side_in.Goals as goal

pub returns : goal.returns
unfolding side_in
returns c = cc (c.edge.ensures, c.edge-2.ensures)
