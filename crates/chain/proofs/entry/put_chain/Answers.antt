-- `chain::entry::put_chain` meets its contract. Assumes nothing.
use mathlib.Core.Path.{refl, sym, ap, ◌∙◌}
use lib.ListN.{length}
use Rattle.lcr_core.specs.Outcome.{number_of}
use Rattle.lcr_core.proofs.Checks.{same_number, some_number}
use Rattle.lcr_core.proofs.Answers.{behind_refused}
use Rattle.stages.specs.Lent.{picture_in, room_in}
use Rattle.stages.proofs.Closed.{all_left_old}
use Rattle.chain.specs.Chain.{chain_of, entry_checks}
use Rattle.chain.proofs.EntryLaws.{entry_others, entry_passed, entry_found}
use Rattle.chain.proofs.entry.put_chain.Goals as goal

pub returns-in_err-check_entry-clause-refusal : goal.returns-in_err-check_entry-clause-refusal
returns-in_err-check_entry-clause-refusal c =
    let p = picture_in c.args.pixels in
    same_number _ _ c.from_residual.ensures.1
    ∙ ap number_of (behind_refused (entry_checks p (room_in c.args.slices.now) _) (chain_of p) _ c.in_err-check_entry.ensures)

pub returns-in_err-check_entry-clause-left : goal.returns-in_err-check_entry-clause-left
returns-in_err-check_entry-clause-left c =
    let p = picture_in c.args.pixels in
    let s = c.args.slices.now in
    let n = same_number _ _ c.from_residual.ensures.1 in
    let len = length c.args.detections.now in
    all_left_old (entry_checks p (room_in s) len) (entry_others p (room_in s) len) _ (n ∙ c.in_err-check_entry.ensures) (λ z. some_number _ (sym n ∙ z)) p s

pub returns-in_err-found-clause-refusal : goal.returns-in_err-found-clause-refusal
returns-in_err-found-clause-refusal c =
    same_number _ _ c.from_residual-in_err-found.ensures.1
    ∙ entry_passed (picture_in c.args.pixels) (room_in c.args.slices.now) _ c.in_ok-check_entry.ensures _ c.in_err-found.ensures.answer

pub returns-clause-refusal : goal.returns-clause-refusal
returns-clause-refusal c = entry_passed (picture_in c.args.pixels) (room_in c.args.slices.now) _ c.in_ok-check_entry.ensures _ c.in_ok-found.ensures.answer

pub returns-clause-detections : goal.returns-clause-detections
returns-clause-detections c =
    let p = picture_in c.args.pixels in
    let r = room_in c.args.slices.now in
    entry_found p r _ c.in_ok-check_entry.ensures _ c.in_ok-found.ensures.answer _ refl _ _ refl c.put_detections.ensures
