-- `math::larger` meets its contract. Assumes nothing.
use Rattle.math.proofs.larger.Goals as goal

pub returns : goal.returns
returns c = cc (c.abs-a.ensures, c.abs-b.ensures)
