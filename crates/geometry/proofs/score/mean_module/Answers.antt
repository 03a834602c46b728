-- `geometry::score::mean_module` meets its contract: its steps are the definition's. Assumes nothing.
use mathlib.Core.Path.{refl}
use Rattle.geometry.specs.Score.{mean_of}
use Rattle.geometry.proofs.score.mean_module.Goals as goal

pub returns : goal.returns
unfolding mean_of
returns c = refl
