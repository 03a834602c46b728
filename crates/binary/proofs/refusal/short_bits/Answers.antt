-- `binary::refusal::short_bits` meets its contract. Assumes nothing.
use mathlib.Core.Path.{refl}
use Rattle.binary.specs.Refusal.{short_bits}
use Rattle.binary.proofs.refusal.short_bits.Goals as goal

pub returns : goal.returns
unfolding short_bits
returns c = refl
