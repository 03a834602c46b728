-- `geometry::affine` meets its contract. Assumes nothing.
use Rattle.geometry.specs.Build.{affine_of}
use Rattle.geometry.proofs.affine.Goals as goal

pub returns : goal.returns
unfolding affine_of
returns c = cc (c.from_triangle.ensures, c.pixels_of.ensures, c.modules_of.ensures)
