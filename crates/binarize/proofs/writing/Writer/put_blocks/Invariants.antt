-- `binarize::writing::Writer::put_blocks` meets its contract: the first j blocks of the row are written. Assumes nothing.
use Prim.Native.Nat.{ℕ, ◌+◌, ◌*◌, ◌/◌, ◌<◌}
use mathlib.Core.Path.{◌≡◌}
use lib.Dec.{ltb}
use Rattle.lists.specs.Lists.{at}
use Rattle.binarize.specs.Splits.{Puts}
use Rattle.binarize.proofs.writing.Writer.put_blocks.Given as goal

abbrev pub invariant-loop-j : goal.invariant-loop-j
invariant-loop-j l =
    Puts l.from (l.from + l.j * 8) l.initial.self l.self (λ p. (x : ℕ) → x < l.w → p (l.from + x) ≡ ltb (at l.gray (l.from + x)) (at l.levels (x / 8)))
