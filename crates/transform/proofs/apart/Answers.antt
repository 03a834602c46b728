-- `transform::apart` meets its contract. Assumes nothing.
use Rattle.transform.proofs.Laws.{apart_is}
use Rattle.transform.proofs.apart.Goals as goal

pub returns-then-abs : goal.returns-then-abs
returns-then-abs c = apart_is _ _ _ c.abs.ensures c.if-abs.true

pub returns-else-abs : goal.returns-else-abs
returns-else-abs c = apart_is _ _ _ c.abs.ensures c.if-abs.false
