-- `float::compare::below` meets its contract. Assumes nothing.
use mathlib.Core.Path.{sym}
use Rattle.float.proofs.Places.{lt_places}
use Rattle.float.proofs.compare.below.Goals as goal

pub returns : goal.returns
returns c = cc (lt_places c.args.m c.args.n (sym c.if-is_nan.ensures) (sym c.if-is_nan-2.ensures))
