-- `binarize::writing::Writer::pad` meets its contract: the bits before n are written. Assumes nothing.
use Prim.Native.Nat.{ℕ, ◌≤◌, ◌<◌}
use mathlib.Core.Path.{◌≡◌}
use Rattle.binary.specs.Binary.{bit}
use Rattle.binarize.specs.Splits.{Puts}
use Rattle.binarize.proofs.writing.Writer.pad.Given as goal

abbrev pub invariant-loop-n : goal.invariant-loop-n
invariant-loop-n l = Puts l.from l.n l.initial.self l.self (λ p. (k : ℕ) → l.from ≤ k → k < l.n → 0 ≡ bit (p k))
