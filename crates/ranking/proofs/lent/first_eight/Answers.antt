-- `ranking::lent::first_eight` meets its contract. Assumes nothing.
use mathlib.Core.Path.{refl, ◌∙◌}
use native.Mathlib.Omega.{arith}
use Rattle.lists.proofs.Tabulate.{filled_none, filled_step, filled_whole}
use Rattle.ranking.specs.Tables.{eight_of}
use Rattle.ranking.proofs.lent.first_eight.Goals as goal

pub loop-i-init : goal.loop-i-init
loop-i-init c = filled_none _ _

pub loop-i-preserved : goal.loop-i-preserved
loop-i-preserved c = let l = c.loop-i in filled_step l.i _ _ l.place-items _ c.loop-i-test.true l.invariant c.finder_at.ensures

pub returns : goal.returns
unfolding eight_of
returns c =
    let l = c.loop-i in
    let at = filled_whole l.i _ _ l.place-items (omega (arith, c.loop-i-test.false, l.auto.i-end)) l.invariant in
    c.eight_places.ensures ∙ rw at refl
