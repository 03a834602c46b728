-- `replay_records::read` meets its contract. Assumes nothing.
use Rattle.std.proofs.Common.{◌≤◌, length, arith}
use Rattle.replay_records.specs.Record.{fixed_part}
use Rattle.replay_records.proofs.FixedParts.{asked_fits}
use Rattle.replay_records.proofs.SliceLaws.{kept_long, kept_rest}
use Rattle.replay_records.proofs.read.Goals as goal

pub returns : goal.returns
returns c =
    let l = c.args.payload.now in
    let n = c.get-len.result in
    let p = c.read_full-2.new.buf in
    let h : n ≤ length l = omega (arith, c.if-payload-len.false) in
    let k = c.read_full-2.auto.buf in
    let f : fixed_part c.asked.result ≤ n = rw c.asked.ensures (asked_fits _ n) in
    (kept_long n l p h k, (rw (kept_long n l p h k) h, f, kept_rest n l p h k))
