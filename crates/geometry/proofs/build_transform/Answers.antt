-- `geometry::build_transform` meets its contract. Assumes nothing.
use mathlib.Core.Path.{ap, ◌∙◌}
use Rattle.std.specs.Prelude.{Ok}
use Rattle.lcr_core.specs.Version.{version_checks, version_refusal}
use Rattle.lcr_core.proofs.Answers.{refused_by, checked_passed}
use Rattle.geometry.specs.Build.{symbol_fit, built_of}
use Rattle.geometry.proofs.Answers.{same_version}
use Rattle.geometry.proofs.build_transform.Goals as goal

pub returns-in_err-v : goal.returns-in_err-v
unfolding built_of version_refusal
returns-in_err-v c = refused_by _ _ c.from_residual.ensures.1 (version_checks c.args.version.0) _ c.in_err-v.ensures.number

pub returns : goal.returns
unfolding built_of version_refusal
returns c =
    let a = c.args in
    ap Ok (c.symbol_fit.ensures ∙ ap (symbol_fit a.c a.marker) (same_version _ _ c.in_ok-v.ensures.version))
    ∙ checked_passed (version_checks a.version.0) _ c.in_ok-v.ensures.number
