-- `geometry::pixels_of` meets its contract. Assumes nothing.
use Rattle.geometry.specs.Build.{pixels_of}
use Rattle.geometry.proofs.pixels_of.Goals as goal

pub returns : goal.returns
unfolding pixels_of
returns c = rw (c.centre.ensures, c.centre-2.ensures, c.centre-3.ensures)
