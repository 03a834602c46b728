-- `binarize::writing::Writer::put_pixels` meets its contract: the pixels before x are written. Assumes nothing.
use Prim.Native.Nat.{ℕ, ◌+◌, ◌/◌, ◌<◌}
use mathlib.Core.Path.{◌≡◌}
use Rattle.lists.specs.Lists.{at}
use lib.Dec.{ltb}
use Rattle.binarize.specs.Splits.{Puts}
use Rattle.binarize.proofs.writing.Writer.put_pixels.Given as goal

abbrev pub invariant-loop-x : goal.invariant-loop-x
invariant-loop-x l =
    Puts (l.from + l.a) (l.from + l.x) l.initial.self l.self (λ p. (k : ℕ) → k < l.x → p (l.from + k) ≡ ltb (at l.gray (l.from + k)) (at l.levels (k / 8)))
