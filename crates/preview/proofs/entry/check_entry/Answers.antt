-- `preview::entry::check_entry` meets its contract. Assumes nothing.
use mathlib.Core.Path.{refl, sym, ◌∙◌}
use borrow.Author.Tests.{lt-ltb, le-ltb}
use Rattle.std.specs.Prelude.{[]}
use Rattle.lcr_core.proofs.Checks.{refused_on, check_refuses, check_passes}
use Rattle.stages.specs.Lent.{picture_in, room_in}
use Rattle.preview.specs.Limit.{preview_limit}
use Rattle.preview.specs.Preview.{short_list, preview_entry_checks}
use Rattle.preview.proofs.Limits.{frame_passed}
use Rattle.preview.proofs.entry.check_entry.Goals as goal

pub returns-in_err-check_stages : goal.returns-in_err-check_stages
returns-in_err-check_stages c =
    let p = picture_in c.args.pixels in
    let r = room_in c.args.slices.now in
    refused_on _ _ c.from_residual-in_err-check_stages.ensures.1 6 (preview_entry_checks p r c.args.room)
    (c.in_err-check_stages.ensures ∙ frame_passed p r preview_limit c.in_ok-check_frame.ensures)

pub returns-then-room-lt-MAX_SIZE : goal.returns-then-room-lt-MAX_SIZE
returns-then-room-lt-MAX_SIZE c =
    let p = picture_in c.args.pixels in
    let r = room_in c.args.slices.now in
    let e = c.in_ok-check_stages.ensures ∙ frame_passed p r preview_limit c.in_ok-check_frame.ensures in
    check_refuses 6 (preview_entry_checks p r c.args.room) (short_list c.args.room) [] refl e (sym (lt-ltb _ _ c.if-room-lt-MAX_SIZE.true))

pub returns : goal.returns
returns c =
    let p = picture_in c.args.pixels in
    let r = room_in c.args.slices.now in
    let e = c.in_ok-check_stages.ensures ∙ frame_passed p r preview_limit c.in_ok-check_frame.ensures in
    check_passes 6 (preview_entry_checks p r c.args.room) (short_list c.args.room) [] refl e (sym (le-ltb _ _ c.if-room-lt-MAX_SIZE.false))
