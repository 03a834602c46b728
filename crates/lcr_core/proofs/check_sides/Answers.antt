-- `lcr_core::check_sides` meets its contract. Assumes nothing.
use Rattle.lcr_core.specs.Outcome.{sides_refusal}
use Rattle.lcr_core.proofs.check_sides.Goals as goal

pub returns-then-zero_side : goal.returns-then-zero_side
unfolding sides_refusal
returns-then-zero_side c = rw (← c.zero_side.ensures, c.if-zero_side.true)

pub returns-then-large_side : goal.returns-then-large_side
unfolding sides_refusal
returns-then-large_side c = rw (← c.zero_side.ensures, c.if-zero_side.false, ← c.large_side.ensures, c.if-large_side.true)

pub returns : goal.returns
unfolding sides_refusal
returns c = rw (← c.zero_side.ensures, c.if-zero_side.false, ← c.large_side.ensures, c.if-large_side.false)
