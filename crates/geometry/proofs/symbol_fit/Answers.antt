-- `geometry::symbol_fit` meets its contract. Assumes nothing.
use mathlib.Core.Path.{refl, ◌∙◌}
use Rattle.std.proofs.Common.{arith, rules}
use Rattle.float.specs.Steps.{whole32}
use Rattle.geometry.specs.Build.{affine_of}
use Rattle.geometry.proofs.Answers.{fit-first, fit-second, or_else-is, fit-missing}
use Rattle.geometry.proofs.symbol_fit.Goals as goal

pub returns-then-get-lt2 : goal.returns-then-get-lt2
returns-then-get-lt2 c =
    fit-first _ _ _ _ _ _ _ c.in-Some.is c.side.ensures c.affine.ensures refl (omega arith)

pub returns-in-None : goal.returns-in-None
returns-in-None c = fit-missing _ _ _ _ _ c.in-None.is c.side.ensures c.affine-in-None.ensures

pub returns-else-get-lt2 : goal.returns-else-get-lt2
returns-else-get-lt2 c =
    or_else-is c.homography.result (affine_of c.args.c (whole32 c.side.result)) c.or_else.result (search rules)
    ∙ fit-second _ _ _ _ _ _ _ c.in-Some.is c.side.ensures refl c.homography.ensures (omega arith)
