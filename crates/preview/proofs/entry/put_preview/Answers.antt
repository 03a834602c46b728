-- `preview::entry::put_preview` meets its contract. Assumes nothing.
use mathlib.Core.Path.{sym, ap, ◌∙◌}
use lib.ListN.{length}
use Rattle.lcr_core.specs.Outcome.{number_of}
use Rattle.lcr_core.proofs.Checks.{same_number, some_number}
use Rattle.lcr_core.proofs.Answers.{behind_refused}
use Rattle.stages.specs.Lent.{picture_in, room_in}
use Rattle.stages.proofs.Closed.{all_left_old}
use Rattle.preview.specs.Limit.{preview_limit}
use Rattle.preview.specs.Preview.{preview_of, preview_entry_checks}
use Rattle.preview.proofs.Previewed.{entry_others, list_written}
use Rattle.preview.proofs.entry.put_preview.Goals as goal

pub returns-in_err-check_entry-clause-refusal : goal.returns-in_err-check_entry-clause-refusal
returns-in_err-check_entry-clause-refusal c =
    let p = picture_in c.args.pixels in
    same_number _ _ c.from_residual.ensures.1
    ∙ ap number_of (behind_refused (preview_entry_checks p (room_in c.args.slices.now) _) (preview_of p) _ c.in_err-check_entry.ensures)

pub returns-in_err-check_entry-clause-left : goal.returns-in_err-check_entry-clause-left
returns-in_err-check_entry-clause-left c =
    let p = picture_in c.args.pixels in
    let s = c.args.slices.now in
    let n = same_number _ _ c.from_residual.ensures.1 in
    let len = length c.args.list.now in
    let r = room_in s in
    all_left_old (preview_entry_checks p r len) (entry_others p r len) _ (n ∙ c.in_err-check_entry.ensures) (λ z. some_number _ (sym n ∙ z)) p s

pub returns-clause-list : goal.returns-clause-list
returns-clause-list c =
    let p = picture_in c.args.pixels in
    let r = room_in c.args.slices.now in
    list_written p r preview_limit _ c.in_ok-check_entry.ensures _ c.in_ok-found.ensures.answer _ c.write_list.ensures.refusal _ _ c.write_list.ensures.bytes
