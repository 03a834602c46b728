-- `preview::preview` meets its contract. Assumes nothing.
use mathlib.Core.Path.{refl, sym, ap, ◌∙◌}
use native.Mathlib.Omega.{arith}
use Rattle.std.specs.Prelude.{take}
use Rattle.lcr_core.specs.Outcome.{number_of}
use Rattle.lcr_core.proofs.Checks.{same_number, some_number}
use Rattle.lcr_core.proofs.Answers.{behind_by, behind_passed}
use Rattle.stages.specs.Lent.{picture_in, room_in}
use Rattle.stages.proofs.Closed.{all_left_old, all_left_done}
use Rattle.preview.specs.Limit.{preview_limit, limited_checks}
use Rattle.preview.proofs.Limits.{frame_passed}
use Rattle.preview.proofs.Previewed.{previewed, preview_number}
use Rattle.preview.proofs.preview.Goals as goal

pub returns-in_err-check_frame-clause-left : goal.returns-in_err-check_frame-clause-left
returns-in_err-check_frame-clause-left c =
    let p = picture_in c.args.pixels in
    let s = c.args.slices.now in
    let n = same_number _ _ c.from_residual.ensures.1 in
    let cs = take 2 (limited_checks preview_limit p (room_in s)) in
    all_left_old cs ((λ e. omega arith), ((λ e. omega arith), tt)) _ (n ∙ c.in_err-check_frame.ensures) (λ z. some_number _ (sym n ∙ z)) p s

pub returns-in_err-stages-clause-answer : goal.returns-in_err-stages-clause-answer
returns-in_err-stages-clause-answer c =
    let p = picture_in c.args.pixels in
    let r = room_in c.args.slices.now in
    behind_by _ _ c.from_residual-in_err-stages.ensures.1 (limited_checks preview_limit p r) _
    (c.in_err-stages.ensures.refusal ∙ frame_passed p r preview_limit c.in_ok-check_frame.ensures)

pub returns-clause-answer : goal.returns-clause-answer
returns-clause-answer c =
    let p = picture_in c.args.pixels in
    let r = room_in c.args.slices.now in
    let e = c.in_ok-stages.ensures in
    previewed p 0 refl _ _ e.left.denoised _ c.find_finders.ensures
    ∙ behind_passed (limited_checks preview_limit p r) _ (e.refusal ∙ frame_passed p r preview_limit c.in_ok-check_frame.ensures)

pub returns-clause-left : goal.returns-clause-left
returns-clause-left c =
    let p = picture_in c.args.pixels in
    let e = c.in_ok-stages.ensures in
    let a = previewed p 0 refl _ _ e.left.denoised _ c.find_finders.ensures in
    all_left_done 0 _ _ refl (ap number_of a ∙ preview_number p (room_in c.args.slices.now) (sym e.refusal)) p _ _ e.left
