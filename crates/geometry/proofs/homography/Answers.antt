-- `geometry::homography` meets its contract. Assumes nothing.
use Rattle.geometry.proofs.Answers.{homography-is}
use Rattle.geometry.proofs.homography.Goals as goal

pub returns : goal.returns
returns c = homography-is _ _ _ _ _ _ c.modules_of-s.ensures c.pixels_of-d.ensures c.from_quad.ensures
