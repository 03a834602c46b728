-- `blocks::check_blocks_lengths` meets its contract. Assumes nothing.
use Prim.Native.Nat.{◌*◌}
use mathlib.Core.Path.{◌≡◌, refl, sym, ◌∙◌}
use Rattle.lcr_core.proofs.Checks.{refused_on, check_refuses, check_passes}
use Rattle.blocks.specs.Blocks.{blocks_in, under, picture_refusal, blocks_checks, blocks_refusal}
use Rattle.blocks.proofs.Refusals.{any_under}
use Rattle.blocks.proofs.check_blocks_lengths.Goals.{After-is_short}
use Rattle.blocks.proofs.check_blocks_lengths.Goals as goal

pub returns-in_err-check_picture : goal.returns-in_err-check_picture
unfolding blocks_refusal picture_refusal
returns-in_err-check_picture c = let a = c.args in refused_on _ _ c.from_residual.ensures.1 3 (blocks_checks a.len a.width a.height a.work) c.in_err-check_picture.ensures

-- what the work slices' lengths come to
tested : (c : After-is_short) → let a = c.args in c.is_short.result ≡ under (blocks_in a.width a.height) a.work
tested c = rw (c.blocks_on.ensures, c.blocks_on-2.ensures) at (c.is_short.ensures ∙ any_under (c.blocks_on.result * c.blocks_on-2.result) c.args.work)

pub returns-then-is_short : goal.returns-then-is_short
unfolding blocks_refusal picture_refusal
returns-then-is_short c =
    let a = c.args in
    check_refuses 3 (blocks_checks a.len a.width a.height a.work) _ _ refl c.in_ok-check_picture.ensures (sym c.if-is_short.true ∙ tested (goal.at.returns-then-is_short c).After-is_short)

pub returns : goal.returns
unfolding blocks_refusal picture_refusal
returns c =
    let a = c.args in
    check_passes 3 (blocks_checks a.len a.width a.height a.work) _ _ refl c.in_ok-check_picture.ensures (sym c.if-is_short.false ∙ tested (goal.at.returns c).After-is_short)
