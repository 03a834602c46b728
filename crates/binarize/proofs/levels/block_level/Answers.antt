use mathlib.Core.Path.{◌≡◌, sym, ◌∙◌}
use native.Mathlib.Omega.{arith}
use Rattle.binarize.proofs.LevelLaws.{kind_level, from_found}
use Rattle.binarize.proofs.levels.block_level.Goals.{After-level_about}
use Rattle.binarize.proofs.levels.block_level.Goals as goal

-- what was found is the level of this kind of window
seen : (c : After-level_about) → let a = c.args in let g = a.grid in
    c.level_about.result ≡ kind_level g.means.now g.edges.now g.nears.now g.width g.height a.x a.y a.global c.loop-kind.kind
seen c = c.level_about.ensures ∙ rw c.marks_of-marks.ensures

pub returns-in-Some : goal.returns-in-Some
returns-in-Some c =
    let l = c.loop-kind in
    sym (l.invariant.1 ∙ from_found _ _ _ _ _ _ _ _ l.kind _ (omega arith) (sym (seen (goal.at.returns-in-Some c).After-level_about) ∙ c.in-Some.is))
