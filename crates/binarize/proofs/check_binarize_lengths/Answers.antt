-- `binarize::check_binarize_lengths` meets its contract. Assumes nothing.
use Prim.Native.Nat.{◌*◌, ◌≤◌, ◌<◌}
use mathlib.Core.Path.{◌≡◌, sym, ◌∙◌}
use native.Mathlib.Omega.{arith}
use borrow.Author.Tests.{lt-ltb, le-ltb}
use Rattle.lcr_core.proofs.Checks.{same_number, some_number}
use Rattle.binary.specs.Binary.{bytes_of}
use Rattle.blocks.specs.Blocks.{blocks_refusal}
use Rattle.binarize.proofs.Refusals.{values_refused, room_decides}
use Rattle.binarize.proofs.check_binarize_lengths.Goals.{In_ok-check_blocks_lengths}
use Rattle.binarize.proofs.check_binarize_lengths.Goals as goal

-- the checks of the values passed
passed : (c : In_ok-check_blocks_lengths) → let a = c.args in blocks_refusal a.len a.width a.height a.work ≡ 0
passed c = sym c.in_ok-check_blocks_lengths.ensures

pub returns-in_err-check_blocks_lengths : goal.returns-in_err-check_blocks_lengths
returns-in_err-check_blocks_lengths c =
    let e = c.in_err-check_blocks_lengths.ensures in
    same_number _ _ c.from_residual.ensures.1 ∙ e ∙ values_refused _ _ _ _ _ (λ z. some_number _ (e ∙ z))

pub returns-then-room-div_ceil : goal.returns-then-room-div_ceil
returns-then-room-div_ceil c =
    let a = c.args in
    let short : a.room < bytes_of (a.width * a.height) = omega (arith, c.div_ceil.ensures) in
    simp (lt-ltb _ _ short) at (room_decides _ _ _ a.room _ (passed (goal.at.returns-then-room-div_ceil c).In_ok-check_blocks_lengths))

pub returns : goal.returns
returns c =
    let a = c.args in
    let room : bytes_of (a.width * a.height) ≤ a.room = omega (arith, c.div_ceil.ensures) in
    simp (le-ltb _ _ room) at (room_decides _ _ _ a.room _ (passed (goal.at.returns c).In_ok-check_blocks_lengths))
