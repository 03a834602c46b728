-- `replay::geometry_calls::rows_at` meets its contract. Assumes nothing.
use Rattle.std.proofs.lemmas.List.{length-replicate}
use Rattle.lists.proofs.Tabulate.{filled_none, filled_step}
use Rattle.replay.proofs.geometry_calls.rows_at.Goals as goal

pub loop-k-init : goal.loop-k-init
loop-k-init g c = filled_none _ _

pub loop-k-preserved : goal.loop-k-preserved
loop-k-preserved g c =
    let l = c.loop-k in
    filled_step l.k _ _ l.row-items _ (rw length-replicate c.loop-k-test.true) l.invariant c.doubles_at.ensures
