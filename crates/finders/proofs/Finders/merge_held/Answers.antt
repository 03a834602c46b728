-- `finders::Finders::merge_held` meets its contract. Assumes nothing.
use Rattle.std.proofs.Common.{refl, sym, ◌∙◌, arith}
use Rattle.finders.proofs.Tables.{merged_at, merged_new, merged_over}
use Rattle.finders.proofs.Finders.merge_held.Goals as goal

pub returns-in-Some-clause-ends : goal.returns-in-Some-clause-ends
returns-in-Some-clause-ends c = merged_at _ _ c.requires _ _ _ _ (sym c.first_within.ensures ∙ c.in-Some.is) c.joined.ensures

pub returns-then-self-lt-MAX_FINDERS-clause-ends : goal.returns-then-self-lt-MAX_FINDERS-clause-ends
returns-then-self-lt-MAX_FINDERS-clause-ends c = merged_new _ _ c.requires _ (sym c.first_within.ensures ∙ c.in_default.is) (omega (arith, c.if-self-lt-MAX_FINDERS.true))

pub returns-clause-ends : goal.returns-clause-ends
returns-clause-ends c = (merged_over _ _ c.requires _ (sym c.first_within.ensures ∙ c.in_default.is) (omega (arith, c.if-self-lt-MAX_FINDERS.false)), refl)
