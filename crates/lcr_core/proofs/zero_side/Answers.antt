-- `lcr_core::zero_side` meets its contract. Assumes nothing.
use borrow.Author.Tests.{eq-eqb, ne_eqb}
use Rattle.lcr_core.specs.Outcome.{zero_side}
use Rattle.lcr_core.proofs.zero_side.Goals as goal

pub returns-then-width-eq0 : goal.returns-then-width-eq0
unfolding zero_side
returns-then-width-eq0 c = simp (eq-eqb _ _ c.if-width-eq0.true)

pub returns-else-width-eq0 : goal.returns-else-width-eq0
unfolding zero_side
returns-else-width-eq0 c = simp (ne_eqb _ _ c.if-width-eq0.false)
