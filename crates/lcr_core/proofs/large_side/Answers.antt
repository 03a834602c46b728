-- `lcr_core::large_side` meets its contract. Assumes nothing.
use borrow.Author.Tests.{lt-ltb, le-ltb}
use Rattle.lcr_core.specs.Outcome.{large_side}
use Rattle.lcr_core.proofs.large_side.Goals as goal

pub returns-then-width-gt-MAX_SIDE : goal.returns-then-width-gt-MAX_SIDE
unfolding large_side
returns-then-width-gt-MAX_SIDE c = simp (lt-ltb _ _ c.if-width-gt-MAX_SIDE.true)

pub returns-else-width-gt-MAX_SIDE : goal.returns-else-width-gt-MAX_SIDE
unfolding large_side
returns-else-width-gt-MAX_SIDE c = simp (le-ltb _ _ c.if-width-gt-MAX_SIDE.false)
