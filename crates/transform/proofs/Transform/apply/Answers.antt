-- `transform::Transform::apply` meets its contract. Assumes nothing.
use Rattle.std.proofs.Common.{sym, ◌∙◌}
use Rattle.transform.proofs.Laws.{applied-bent}
use Rattle.transform.proofs.Theorems.{strength_zero}
use Rattle.transform.proofs.Transform.apply.Goals as goal

pub returns-then-self : goal.returns-then-self
returns-then-self c = c.place.ensures ∙ sym (strength_zero _ c.if-self.true _ _)

pub returns : goal.returns
returns c =
    applied-bent _ _ _ _ _ _ c.if-self.false c.from.ensures c.project.ensures c.bend.ensures
