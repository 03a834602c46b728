-- `binarize::levels::chosen` meets its contract. Assumes nothing.
use mathlib.Core.Path.{sym, ◌∙◌}
use Rattle.binarize.proofs.LevelLaws.{any_is}
use Rattle.binarize.proofs.levels.chosen.Goals as goal

pub returns-then-any_mark : goal.returns-then-any_mark
returns-then-any_mark c = simp (sym (c.any_mark.ensures ∙ any_is _ _ c.requires) ∙ c.if-any_mark.true)

pub returns-else-any_mark : goal.returns-else-any_mark
returns-else-any_mark c = simp (sym (c.any_mark.ensures ∙ any_is _ _ c.requires) ∙ c.if-any_mark.false)
