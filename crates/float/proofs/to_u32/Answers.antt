-- `float::to_u32` meets its contract. Assumes nothing.
use mathlib.Core.Path.{◌≡◌, ap, ◌∙◌}
use native.Mathlib.Omega.{arith}
use lib.Ieee.{binary32, of_bits, to_unsigned}
use Rattle.float.proofs.Casting.{u32_in, u32_top, u32_none}
use Rattle.float.proofs.to_u32.Goals.{After-bits-b}
use Rattle.float.proofs.to_u32.Goals as goal

-- the pattern is x's
back : (c : After-bits-b) → to_unsigned 32 (of_bits binary32 c.bits-b.result) ≡ to_unsigned 32 c.args.x
back c = ap (to_unsigned 32) c.bits-b.ensures.back

pub returns-then-b-lt1333788672 : goal.returns-then-b-lt1333788672
returns-then-b-lt1333788672 c = c.whole.ensures ∙ u32_in c.bits-b.result (omega arith) ∙ back (goal.at.returns-then-b-lt1333788672 c).After-bits-b

pub returns-then-b-gt2139095040 : goal.returns-then-b-gt2139095040
returns-then-b-gt2139095040 c = u32_none c.bits-b.result (omega arith) ∙ back (goal.at.returns-then-b-gt2139095040 c).After-bits-b

pub returns-else-b-gt2139095040 : goal.returns-else-b-gt2139095040
returns-else-b-gt2139095040 c = u32_top c.bits-b.result (omega arith) (omega arith) ∙ back (goal.at.returns-else-b-gt2139095040 c).After-bits-b
