-- `listing_text::put_searched` meets its contract. Assumes nothing.
use mathlib.Core.Path.{sym, ◌∙◌}
use Rattle.lcr_core.proofs.Checks.{same_number}
use Rattle.finders.proofs.Outcomes.{answer_refusal}
use Rattle.listing_text.proofs.Listed.{none, detected-refused, found_listed}
use Rattle.listing_text.proofs.put_searched.Goals as goal

pub returns-in_err-found-clause-number : goal.returns-in_err-found-clause-number
returns-in_err-found-clause-number c = same_number _ _ c.from_residual.ensures.1 ∙ answer_refusal _ _ _ _ c.in_err-found.ensures

pub returns-in_err-detected-clause-number : goal.returns-in_err-detected-clause-number
returns-in_err-detected-clause-number c =
    absurd (detected-refused _ _ _ _ c.in_ok-found.ensures _ c.eight_in.ensures _ c.in_err-detected.ensures)

pub returns-clause-text : goal.returns-clause-text
returns-clause-text c =
    let p = c.put_list.ensures in
    (found_listed _ _ _ _ c.in_ok-found.ensures _ c.eight_in.ensures _ _ _ _ c.in_ok-detected.ensures p.text, p.most)

pub returns-clause-number : goal.returns-clause-number
returns-clause-number c = sym (none _ _ _ _ c.in_ok-found.ensures)
