-- `float::root::sqrt_bits` meets its contract. Assumes nothing.
use mathlib.Core.Path.{sym, ◌∙◌}
use native.Mathlib.Omega.{arith}
use Rattle.float.proofs.Roots.{sqrt_zero, sqrt_below, sqrt_above, sqrt_finite}
use Rattle.float.proofs.root.sqrt_bits.Goals as goal

pub returns-then-b-eq0 : goal.returns-then-b-eq0
returns-then-b-eq0 c = sqrt_zero c.args.b c.if-b-eq0.true

pub returns-then-b-gt2147483648 : goal.returns-then-b-gt2147483648
returns-then-b-gt2147483648 c = sqrt_below c.args.b c.if-b-gt2147483648.true (omega arith)

pub returns-then-b-ge2139095040 : goal.returns-then-b-ge2139095040
returns-then-b-ge2139095040 c = sqrt_above c.args.b c.if-b-ge2139095040.true (omega arith)

pub returns : goal.returns
returns c = c.sqrt_mag.ensures ∙ sym (sqrt_finite c.args.b (omega arith) (omega arith))
