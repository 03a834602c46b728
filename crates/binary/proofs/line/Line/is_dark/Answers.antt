-- `binary::line::Line::is_dark` meets its contract. Assumes nothing.
use mathlib.Core.Path.{ap, ◌∙◌}
use lib.Dec.{eqb}
use Prim.Native.Nat.{ℕ}
use Rattle.binary.proofs.Bits.{bit_one}
use Rattle.binary.proofs.line.Line.is_dark.Goals as goal

pub returns : goal.returns
returns c = ap (λ (n : ℕ). eqb n 1) c.bit_of.ensures ∙ bit_one _
