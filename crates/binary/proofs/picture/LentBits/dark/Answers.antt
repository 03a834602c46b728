-- `binary::picture::LentBits::dark` meets its contract. Assumes nothing.
use mathlib.Core.Path.{ap, ◌∙◌}
use borrow.Author.Tests.{lt-ltb, le-ltb}
use lib.Dec.{eqb}
use Prim.Native.Nat.{ℕ}
use Rattle.binary.specs.Binary.{dark_at}
use Rattle.binary.proofs.Bits.{bit_one}
use Rattle.binary.proofs.picture.LentBits.dark.Goals as goal

pub returns-then-self-x : goal.returns-then-self-x
unfolding dark_at
returns-then-self-x c = simp (le-ltb _ _ c.if-self-x.true)

pub returns-then-self-y : goal.returns-then-self-y
unfolding dark_at
returns-then-self-y c = simp (lt-ltb _ _ c.if-self-x.false, le-ltb _ _ c.if-self-y.true)

pub returns : goal.returns
unfolding dark_at
returns c =
    simp (lt-ltb _ _ c.if-self-x.false, lt-ltb _ _ c.if-self-y.false)
    (ap (λ (n : ℕ). eqb n 1) c.bit_of.ensures ∙ bit_one _)
