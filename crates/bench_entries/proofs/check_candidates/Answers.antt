-- `bench_entries::check_candidates` meets its contract. Assumes nothing.
use mathlib.Core.Path.{refl, sym}
use lib.ListN.{length}
use borrow.Author.Tests.{lt-ltb, le-ltb}
use Rattle.lcr_core.proofs.Checks.{refused_on, check_refuses, check_passes}
use Rattle.binary.specs.Refusal.{bits_refusal}
use Rattle.bench_entries.specs.Entries.{room_checks}
use Rattle.bench_entries.proofs.check_candidates.Goals as goal

pub returns-in_err-checked : goal.returns-in_err-checked
unfolding bits_refusal
returns-in_err-checked c =
    let p = c.args.bits in
    refused_on _ _ c.from_residual.ensures.1 3 (room_checks (length p.bits.now) p.width p.height c.args.room) c.in_err-checked.ensures.number

pub returns-then-room-lt-SIZE : goal.returns-then-room-lt-SIZE
unfolding bits_refusal
returns-then-room-lt-SIZE c =
    let p = c.args.bits in
    let cs = room_checks (length p.bits.now) p.width p.height c.args.room in
    check_refuses 3 cs _ _ refl c.in_ok-checked.ensures.number (sym (lt-ltb _ _ c.if-room-lt-SIZE.true))

pub returns : goal.returns
unfolding bits_refusal
returns c =
    let p = c.args.bits in
    let cs = room_checks (length p.bits.now) p.width p.height c.args.room in
    check_passes 3 cs _ _ refl c.in_ok-checked.ensures.number (sym (le-ltb _ _ c.if-room-lt-SIZE.false))
