-- `finders::Finders::merge` meets its contract. Assumes nothing.
use Rattle.std.proofs.Common.{sym, ◌∙◌}
use Rattle.finders.proofs.Settled.{settled_good, countable, uncountable}
use Rattle.finders.proofs.Finders.merge.Goals as goal

pub returns-then-not-is_countable-clause-ends : goal.returns-then-not-is_countable-clause-ends
returns-then-not-is_countable-clause-ends c = λ b. absurd (uncountable _ (sym c.is_countable.ensures ∙ c.if-not-is_countable.true) b)

pub merge_held-requires : goal.merge_held-requires
merge_held-requires c =
    let e = c.settled-t.ensures in
    settled_good _ _ e.value e.few (countable _ (sym c.is_countable.ensures ∙ c.if-not-is_countable.false))

pub returns-clause-counts : goal.returns-clause-counts
returns-clause-counts c = λ n. absurd (n (countable _ (sym c.is_countable.ensures ∙ c.if-not-is_countable.false)))
