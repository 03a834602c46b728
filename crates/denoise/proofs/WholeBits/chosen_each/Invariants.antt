-- `denoise::WholeBits::chosen_each` meets its contract: the first i pixels are there. Assumes nothing.
use mathlib.Core.Path.{◌≡◌}
use Rattle.binary.specs.Binary.{word}
use Rattle.denoise.specs.Window.{chosen_at}
use Rattle.denoise.proofs.WholeBits.chosen_each.Given as goal

abbrev pub invariant-loop-i : goal.invariant-loop-i
invariant-loop-i l = l.byte ≡ word (chosen_at l.voted l.copied l.self.width l.self.height l.n) 0 l.i
