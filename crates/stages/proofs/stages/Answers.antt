-- `stages::stages` meets its contract. Assumes nothing.
use mathlib.Core.Path.{sym, ◌∙◌}
use Rattle.lcr_core.proofs.Checks.{same_number, some_number}
use Rattle.stages.specs.Stages.{stages_checks, stages_refusal}
use Rattle.stages.specs.Lent.{picture_in, room_in}
use Rattle.stages.proofs.Closed.{stages_others, all_left_old}
use Rattle.stages.proofs.stages.Goals as goal

pub returns-in_err-check_stages-clause-left : goal.returns-in_err-check_stages-clause-left
unfolding stages_refusal
returns-in_err-check_stages-clause-left c =
    let p = picture_in c.args.pixels in
    let r = room_in c.args.slices.now in
    let n = same_number _ _ c.from_residual.ensures.1 in
    all_left_old (stages_checks p r) (stages_others p r) _ (n ∙ c.in_err-check_stages.ensures) (λ z. some_number _ (sym n ∙ z)) p c.args.slices.now
