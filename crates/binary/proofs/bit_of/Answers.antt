-- `binary::bit_of` meets its contract. Assumes nothing.
use mathlib.Core.Path.{sym, ap}
use Rattle.binary.specs.Binary.{bit}
use Rattle.binary.proofs.Bits.{dark_bit_lem, dark_past}
use Rattle.binary.proofs.bit_of.Goals as goal

pub returns-then-bits-n : goal.returns-then-bits-n
unfolding bit
returns-then-bits-n c = sym (ap bit (dark_past _ _ c.if-bits-n.true))

pub returns : goal.returns
returns c = dark_bit_lem _ _
