-- `geometry::turned` meets its contract, by its test. Assumes nothing.
use Rattle.geometry.specs.Order.{turned_of}
use Rattle.geometry.proofs.turned.Goals as goal

pub returns-then-cross : goal.returns-then-cross
unfolding turned_of
returns-then-cross c = rw c.if-cross.true

pub returns-else-cross : goal.returns-else-cross
unfolding turned_of
returns-else-cross c = rw c.if-cross.false
