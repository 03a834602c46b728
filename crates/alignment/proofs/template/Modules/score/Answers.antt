-- `alignment::template::Modules::score` meets its contract. Assumes nothing.
use native.Mathlib.Omega.{arith}
use Rattle.alignment.proofs.Scores.{out_of_reach}
use Rattle.alignment.proofs.template.Modules.score.Goals as goal

pub returns-then-n-k : goal.returns-then-n-k
returns-then-n-k c = let l = c.loop-k in out_of_reach _ _ _ _ _ _ _ _ _ (omega arith) l.invariant.1 c.if-n-k.true
