-- `alignment::template::View::is_dark` meets its contract. Assumes nothing.
use mathlib.Core.Path.{◌≡◌, sym, ◌∙◌}
use borrow.Author.Rules.{rules}
use Rattle.transform.specs.Apply.{placed}
use Rattle.transform.proofs.Theorems.{strength_zero}
use Rattle.alignment.proofs.template.View.is_dark.Goals as goal

pub majority-requires-clause-places : goal.majority-requires-clause-places
majority-requires-clause-places c = λ u v p h. let e : p ≡ placed c.args.self.now.transform.m u v = search rules in e ∙ sym (strength_zero _ c.if-self.true u v)
