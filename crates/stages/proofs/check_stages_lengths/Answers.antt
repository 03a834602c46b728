-- `stages::check_stages_lengths` meets its contract. Assumes nothing.
use mathlib.Core.Path.{sym, ◌∙◌}
use Rattle.lcr_core.proofs.Checks.{same_number, some_number}
use Rattle.stages.specs.Stages.{Room}
use Rattle.stages.proofs.Refusals.{gray_refused, bits_refused, denoised_decides}
use Rattle.stages.proofs.check_stages_lengths.Goals as goal

pub returns-in_err-check_gray_lengths : goal.returns-in_err-check_gray_lengths
returns-in_err-check_gray_lengths c =
    let a = c.args in
    let r : Room = record { gray = a.gray; bits = a.bits; denoised = a.denoised; work = a.work } in
    let e = c.in_err-check_gray_lengths.ensures in
    same_number _ _ c.from_residual.ensures.1 ∙ e ∙ gray_refused a.len a.width a.height a.stride a.format r (λ z. some_number _ (e ∙ z))

pub returns-in_err-check_binarize_lengths : goal.returns-in_err-check_binarize_lengths
returns-in_err-check_binarize_lengths c =
    let a = c.args in
    let r : Room = record { gray = a.gray; bits = a.bits; denoised = a.denoised; work = a.work } in
    let e = c.in_err-check_binarize_lengths.ensures in
    same_number _ _ c.from_residual-in_err-check_binarize_lengths.ensures.1
    ∙ e
    ∙ bits_refused a.len a.width a.height a.stride a.format r (sym c.in_ok-check_gray_lengths.ensures) (λ z. some_number _ (e ∙ z))

pub returns : goal.returns
returns c =
    let a = c.args in
    let r : Room = record { gray = a.gray; bits = a.bits; denoised = a.denoised; work = a.work } in
    c.check_denoised_lengths.ensures ∙ denoised_decides a.len a.width a.height a.stride a.format r (sym c.in_ok-check_gray_lengths.ensures) (sym c.in_ok-check_binarize_lengths.ensures)
