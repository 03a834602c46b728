-- `chain::chain` meets its contract. Assumes nothing.
use mathlib.Core.Path.{refl, sym, ap, ◌∙◌}
use Rattle.lcr_core.specs.Outcome.{number_of}
use Rattle.lcr_core.proofs.Answers.{behind_by, behind_passed}
use Rattle.stages.specs.Stages.{stages_checks, stages_refusal}
use Rattle.stages.specs.Lent.{picture_in, room_in}
use Rattle.stages.proofs.Closed.{all_left_done}
use Rattle.chain.proofs.Chained.{chained}
use Rattle.chain.proofs.Theorems.{six_then}
use Rattle.chain.proofs.chain.Goals as goal

pub returns-in_err-stages-clause-answer : goal.returns-in_err-stages-clause-answer
unfolding stages_refusal
returns-in_err-stages-clause-answer c =
    behind_by _ _ c.from_residual.ensures.1 (stages_checks (picture_in c.args.pixels) (room_in c.args.slices.now)) _ c.in_err-stages.ensures.refusal

pub returns-clause-answer : goal.returns-clause-answer
unfolding stages_refusal
returns-clause-answer c =
    let p = picture_in c.args.pixels in
    let e = c.in_ok-stages.ensures in
    chained 0 p refl _ _ e.left.denoised _ c.detect_candidates.ensures ∙ behind_passed (stages_checks p (room_in c.args.slices.now)) _ e.refusal

pub returns-clause-left : goal.returns-clause-left
returns-clause-left c =
    let p = picture_in c.args.pixels in
    let e = c.in_ok-stages.ensures in
    let a = chained 0 p refl _ _ e.left.denoised _ c.detect_candidates.ensures in
    all_left_done 0 _ _ refl (ap number_of a ∙ six_then p (room_in c.args.slices.now) (sym e.refusal)) p _ _ e.left
