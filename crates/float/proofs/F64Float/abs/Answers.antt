-- `float::F64Float::abs` meets its contract. Assumes nothing.
use lib.Ieee.{binary64}
use Rattle.float.proofs.Ops.{abs_bits}
use Rattle.float.proofs.F64Float.abs.Goals as goal

pub returns : goal.returns
returns c = cc (abs_bits binary64 c.bits.result, c.bits.ensures.back)
