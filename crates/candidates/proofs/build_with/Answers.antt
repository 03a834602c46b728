-- `candidates::build_with` meets its contract, step by step. Assumes nothing.
use mathlib.Core.Path.{◌∙◌}
use Rattle.candidates.proofs.Building.{rough_none, fit_none, complete, read_of}
use Rattle.candidates.proofs.build_with.Goals as goal

pub returns-in_err-rough : goal.returns-in_err-rough
returns-in_err-rough c =
    c.from_residual.ensures ∙
    rough_none _ _ _ _ _ _ _ c.mean_module-mean.ensures _ (read_of _ _ _ _ c.unwrap_or.ensures c.build_transform-rough_build.ensures) c.in_err-rough.was

pub returns-in_err-transform : goal.returns-in_err-transform
returns-in_err-transform c =
    c.from_residual-in_err-transform.ensures ∙
    fit_none _ _ _ _ _ _ _ c.mean_module-mean.ensures _ (read_of _ _ _ _ c.unwrap_or.ensures c.build_transform-rough_build.ensures) _ c.in_ok-rough.was _
    (read_of _ _ _ _ c.unwrap_or-marker.ensures c.locate_alignment-located.ensures) _ (read_of _ _ _ _ c.unwrap_or-2.ensures c.build_transform-build.ensures) c.in_err-transform.was

pub returns : goal.returns
returns c =
    complete _ _ _ _ _ _ _ c.mean_module-mean.ensures _ (read_of _ _ _ _ c.unwrap_or.ensures c.build_transform-rough_build.ensures) _ c.in_ok-rough.was _
    (read_of _ _ _ _ c.unwrap_or-marker.ensures c.locate_alignment-located.ensures) _ (read_of _ _ _ _ c.unwrap_or-2.ensures c.build_transform-build.ensures) _ c.in_ok-transform.was _
    (read_of _ _ _ _ (rw c.zero.ensures at c.unwrap_or-refined.ensures) c.refine_alignment-refinement.ensures)
