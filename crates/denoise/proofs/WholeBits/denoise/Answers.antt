use native.Mathlib.Omega.{arith}
use Rattle.lists.proofs.Tabulate.{filled_step}
use Rattle.denoise.proofs.Votes.{denoised_byte}
use Rattle.denoise.proofs.WholeBits.denoise.Goals as goal

pub loop-j-preserved : goal.loop-j-preserved
loop-j-preserved c =
    let l = c.loop-j in
    let rows = c.next_rows-rows.ensures in
    (l.invariant.0, rows.ready, filled_step _ _ _ _ _ (omega arith) l.invariant.2 (denoised_byte _ _ _ _ _ rows.held _ _ c.voted_byte-voted.ensures c.chosen.ensures))
