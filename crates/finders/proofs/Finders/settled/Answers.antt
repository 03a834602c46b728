use Rattle.finders.proofs.Tables.{past}
use Rattle.finders.proofs.Settled.{settled_more}
use Rattle.finders.proofs.Finders.settled.Goals as goal

pub loop-i-preserved : goal.loop-i-preserved
loop-i-preserved c = settled_more _ c.loop-i.i past c.loop-i.t c.as_slice-held.ensures.most c.loop-i-test.true c.loop-i.invariant
