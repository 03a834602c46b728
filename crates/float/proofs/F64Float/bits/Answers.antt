-- `float::F64Float::bits` meets its contract. Assumes nothing.
use mathlib.Core.Path.{sym, subst}
use lib.Dec.{T}
use lib.Ieee.{binary64}
use lib.Ieee.Bits.{of_bits-to_bits}
use Rattle.float.proofs.F64Float.bits.Goals as goal

pub returns-clause-back : goal.returns-clause-back
returns-clause-back c = cc (of_bits-to_bits binary64 c.args.self (subst T (sym c.well_formed.0.1) tt))
