-- `float::F32Float::abs` meets its contract. Assumes nothing.
use lib.Ieee.{binary32}
use Rattle.float.proofs.Ops.{abs_bits}
use Rattle.float.proofs.F32Float.abs.Goals as goal

pub returns : goal.returns
returns c = cc (abs_bits binary32 c.bits.result, c.bits.ensures.back)
