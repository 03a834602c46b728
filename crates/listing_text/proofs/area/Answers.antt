-- `listing_text::area` meets its contract. Assumes nothing.
use native.Mathlib.Omega.{arith}
use Rattle.lists.proofs.Numbers.{mul_bound}
use Rattle.listing_text.proofs.area.Goals as goal

pub overflow_mul-result : goal.overflow_mul-result
overflow_mul-result c = let a = c.args in omega (arith, mul_bound a.width a.height 4294967295 4294967295 (omega arith) (omega arith))
