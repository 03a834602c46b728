-- `blocks::refusal::check_picture` meets its contract. Assumes nothing.
use mathlib.Core.Path.{refl, sym}
use borrow.Author.Tests.{lt-ltb, le-ltb}
use Rattle.lcr_core.specs.Outcome.{sides_refusal}
use Rattle.lcr_core.proofs.Checks.{refused_on, check_refuses, check_passes}
use Rattle.blocks.specs.Blocks.{picture_checks, picture_refusal}
use Rattle.blocks.proofs.refusal.check_picture.Goals as goal

pub returns-in_err-check_sides : goal.returns-in_err-check_sides
unfolding picture_refusal sides_refusal
returns-in_err-check_sides c = let a = c.args in refused_on _ _ c.from_residual.ensures.1 2 (picture_checks a.len a.width a.height) c.in_err-check_sides.ensures

pub returns-then-len-width : goal.returns-then-len-width
unfolding picture_refusal sides_refusal
returns-then-len-width c = let a = c.args in check_refuses 2 (picture_checks a.len a.width a.height) _ _ refl c.in_ok-check_sides.ensures (sym (lt-ltb _ _ c.if-len-width.true))

pub returns : goal.returns
unfolding picture_refusal sides_refusal
returns c = let a = c.args in check_passes 2 (picture_checks a.len a.width a.height) _ _ refl c.in_ok-check_sides.ensures (sym (le-ltb _ _ c.if-len-width.false))
