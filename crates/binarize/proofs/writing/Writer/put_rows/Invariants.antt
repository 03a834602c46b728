-- `binarize::writing::Writer::put_rows` meets its contract: the rows before i are written. Assumes nothing.
use Prim.Native.Nat.{ℕ, ◌*◌, ◌+◌, ◌/◌, ◌≤◌, ◌<◌}
use mathlib.Core.Path.{◌≡◌}
use lib.Dec.{ltb}
use Rattle.lists.specs.Lists.{at}
use Rattle.binarize.specs.Splits.{Puts}
use Rattle.binarize.proofs.writing.Writer.put_rows.Given as goal

abbrev pub invariant-loop-i : goal.invariant-loop-i
invariant-loop-i l =
    let w = l.fn.picture.width in
    let gray = l.fn.picture.gray.now in
    Puts (l.y * w) (l.i * w) l.initial.self l.self (λ p. (k x : ℕ) → l.y ≤ k → k < l.i → x < w → p (k * w + x) ≡ ltb (at gray (k * w + x)) (at l.levels (x / 8)))
