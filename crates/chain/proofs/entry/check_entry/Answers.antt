-- `chain::entry::check_entry` meets its contract. Assumes nothing.
use mathlib.Core.Path.{refl, sym}
use borrow.Author.Tests.{lt-ltb, le-ltb}
use Rattle.std.specs.Prelude.{[]}
use Rattle.lcr_core.proofs.Checks.{refused_on, check_refuses, check_passes}
use Rattle.stages.specs.Stages.{stages_refusal}
use Rattle.stages.specs.Lent.{picture_in, room_in}
use Rattle.chain.specs.Chain.{short_detections, entry_checks}
use Rattle.chain.proofs.entry.check_entry.Goals as goal

pub returns-in_err-check_stages : goal.returns-in_err-check_stages
unfolding stages_refusal
returns-in_err-check_stages c =
    let a = c.args in
    refused_on _ _ c.from_residual.ensures.1 5 (entry_checks (picture_in a.pixels) (room_in a.slices.now) a.room) c.in_err-check_stages.ensures

pub returns-then-room-lt-SIZE : goal.returns-then-room-lt-SIZE
unfolding stages_refusal
returns-then-room-lt-SIZE c =
    let a = c.args in
    let cs = entry_checks (picture_in a.pixels) (room_in a.slices.now) a.room in
    check_refuses 5 cs (short_detections a.room) [] refl c.in_ok-check_stages.ensures (sym (lt-ltb _ _ c.if-room-lt-SIZE.true))

pub returns : goal.returns
unfolding stages_refusal
returns c =
    let a = c.args in
    let cs = entry_checks (picture_in a.pixels) (room_in a.slices.now) a.room in
    check_passes 5 cs (short_detections a.room) [] refl c.in_ok-check_stages.ensures (sym (le-ltb _ _ c.if-room-lt-SIZE.false))
