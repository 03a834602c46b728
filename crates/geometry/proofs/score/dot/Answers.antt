-- `geometry::score::dot` meets its contract: its steps are the definition's. Assumes nothing.
use mathlib.Core.Path.{refl}
use Rattle.geometry.specs.Score.{dot_of}
use Rattle.geometry.proofs.score.dot.Goals as goal

pub returns : goal.returns
unfolding dot_of
returns c = refl
