-- `binarize::writing::eight_below` meets its contract: the first i pixels stand in acc. Assumes nothing.
use mathlib.Core.Path.{◌≡◌}
use lib.Dec.{ltb}
use Rattle.binary.specs.Binary.{word}
use Rattle.lists.specs.Lists.{at}
use Rattle.binarize.proofs.writing.eight_below.Given as goal

abbrev pub invariant-loop-i : goal.invariant-loop-i
invariant-loop-i l = l.acc ≡ word (λ k. ltb (at l.gray k) l.level) l.from l.i
