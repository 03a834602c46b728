-- `binarize::blank::level_by` meets its contract. Assumes nothing.
use mathlib.Core.Path.{sym, ◌∙◌}
use native.Mathlib.Omega.{arith}
use Rattle.lists.specs.Lists.{at}
use Rattle.binarize.specs.Flags.{Flagged}
use Rattle.binarize.proofs.FlagLaws.{all_zero, level-none-about}
use Rattle.binarize.proofs.blank.level_by.Goals as goal

pub returns-then-none_flagged : goal.returns-then-none_flagged
unfolding Flagged
returns-then-none_flagged c =
    let a = c.args in
    let g = a.grid in
    let e = c.about-near.ensures (c.requires.0, c.requires.1) in
    let zero = all_zero a.flags.now c.about-near.result.left c.about-near.result.right (omega arith) (sym c.none_flagged.ensures ∙ c.if-none_flagged.true) in
    level-none-about (at g.means.now) (at g.edges.now) (at g.nears.now) g.width g.height a.x a.y a.global
    (λ i j p q u v. c.requires.3 i (omega arith) (zero i (omega (arith, e.left)) (omega (arith, e.right))) j u v)
