use Rattle.std.proofs.Common.{refl, arith}
use Rattle.lists.proofs.Tabulate.{filled_none, filled_step}
use Rattle.replay_records.proofs.slices.fill.Goals as goal

pub loop-i-init : goal.loop-i-init
loop-i-init c = filled_none _ _

pub loop-i-preserved : goal.loop-i-preserved
loop-i-preserved c = let l = c.loop-i in filled_step l.i _ _ l.s _ (omega arith) l.invariant refl
