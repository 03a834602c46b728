-- `float::magnitude::whole` meets its contract. Assumes nothing.
use Rattle.float.proofs.Casting.{whole_none, whole_shift}
use Rattle.float.proofs.magnitude.whole.Goals as goal

pub returns-then-e-lt127 : goal.returns-then-e-lt127
returns-then-e-lt127 c = whole_none c.args.a c.if-e-lt127.true

pub returns : goal.returns
returns c = whole_shift c.args.a c.requires c.if-e-lt127.false
