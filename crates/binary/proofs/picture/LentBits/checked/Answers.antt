-- `binary::picture::LentBits::checked` meets its contract. Assumes nothing.
use native.Mathlib.Omega.{arith}
use mathlib.Core.Path.{sym}
use Rattle.binary.proofs.Pass.{bits_pass}
use Rattle.binary.proofs.picture.LentBits.checked.Goals as goal

pub overflow_cast-result : goal.overflow_cast-result
overflow_cast-result c = omega (arith, (bits_pass _ _ _ (sym c.in_ok-check_bits.ensures)).0)

pub overflow_cast-result-2 : goal.overflow_cast-result-2
overflow_cast-result-2 c = omega (arith, (bits_pass _ _ _ (sym c.in_ok-check_bits.ensures)).0)
