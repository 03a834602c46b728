-- `geometry::order_finders` meets its contract, by its tests on the three sides. Assumes nothing.
use mathlib.Core.Path.{◌∙◌}
use Rattle.geometry.proofs.Scores.{longest_ab, longest_bc, longest_ca}
use Rattle.geometry.proofs.order_finders.Goals as goal

pub returns-then-longest : goal.returns-then-longest
returns-then-longest c =
    c.turned.ensures ∙ longest_ab _ _ _ _ _ _ c.span2-ab.ensures c.span2-bc.ensures c.span2-ca.ensures _ c.longest.ensures c.if-longest.true

pub returns-then-longest-2 : goal.returns-then-longest-2
returns-then-longest-2 c =
    c.turned-then-longest-2.ensures
    ∙ longest_bc _ _ _ _ _ _ c.span2-ab.ensures c.span2-bc.ensures c.span2-ca.ensures _ c.longest.ensures _ c.longest-else-longest.ensures c.if-longest.false c.if-longest-2.true

pub returns-else-longest-2 : goal.returns-else-longest-2
returns-else-longest-2 c =
    c.turned-else-longest-2.ensures
    ∙ longest_ca _ _ _ _ _ _ c.span2-ab.ensures c.span2-bc.ensures c.span2-ca.ensures _ c.longest.ensures _ c.longest-else-longest.ensures c.if-longest.false c.if-longest-2.false
