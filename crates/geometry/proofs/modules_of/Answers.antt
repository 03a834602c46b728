-- `geometry::modules_of` meets its contract. Assumes nothing.
use mathlib.Core.Path.{refl}
use Rattle.geometry.specs.Build.{modules_of}
use Rattle.geometry.proofs.modules_of.Goals as goal

pub returns : goal.returns
unfolding modules_of
returns c = refl
