-- `candidates::candidates_from` meets its contract. Assumes nothing.
use mathlib.Core.Path.{◌∙◌}
use Rattle.candidates.proofs.Answers.{from-eight}
use Rattle.candidates.proofs.candidates_from.Goals as goal

pub returns : goal.returns
returns c = c.candidates_in.ensures ∙ from-eight _ _ _ _ _ c.first_eight.ensures
