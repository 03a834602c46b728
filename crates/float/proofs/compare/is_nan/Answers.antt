-- `float::compare::is_nan` meets its contract. Assumes nothing.
use mathlib.Core.Path.{sym}
use Rattle.float.proofs.Places.{nan_test}
use Rattle.float.proofs.compare.is_nan.Goals as goal

pub returns : goal.returns
returns c = sym (nan_test c.args.n)
