-- `listing_text::check_input` meets its contract. Assumes nothing.
use mathlib.Core.Path.{◌∙◌}
use Rattle.lcr_core.proofs.Checks.{same_number}
use Rattle.listing_text.proofs.Refusals.{refuses_few, refuses_sides, refuses_many, refuses_short, refuses_none}
use Rattle.listing_text.proofs.check_input.Goals as goal

pub returns-then-input-lt4 : goal.returns-then-input-lt4
returns-then-input-lt4 c = refuses_few _ c.if-input-lt4.true

pub returns-in_err-check_sides : goal.returns-in_err-check_sides
returns-in_err-check_sides c =
    same_number _ _ c.from_residual.ensures.1 ∙ refuses_sides _ _ _ c.get-width.ensures c.get-height.ensures c.if-input-lt4.false _ c.in_err-check_sides.ensures

pub returns-then-pixels-gt40000 : goal.returns-then-pixels-gt40000
returns-then-pixels-gt40000 c = refuses_many _ _ _ c.get-width.ensures c.get-height.ensures c.if-input-lt4.false c.in_ok-check_sides.ensures _ c.area-pixels.ensures c.if-pixels-gt40000.true

pub returns-then-input-pixels : goal.returns-then-input-pixels
returns-then-input-pixels c =
    refuses_short _ _ _ c.get-width.ensures c.get-height.ensures c.if-input-lt4.false c.in_ok-check_sides.ensures _ c.area-pixels.ensures c.if-pixels-gt40000.false c.if-input-pixels.true

pub returns : goal.returns
returns c = refuses_none _ _ _ c.get-width.ensures c.get-height.ensures c.if-input-lt4.false c.in_ok-check_sides.ensures _ c.area-pixels.ensures c.if-pixels-gt40000.false c.if-input-pixels.false
