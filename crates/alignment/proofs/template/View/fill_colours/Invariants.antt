-- `alignment::template::View::fill_colours` meets its contract. Assumes nothing.
use mathlib.Core.Path.{◌≡◌}
use Rattle.lists.specs.Lists.{filled}
use Rattle.alignment.specs.Known.{colour_at}
use Rattle.alignment.proofs.template.View.fill_colours.Given as goal

abbrev pub invariant-loop-k : goal.invariant-loop-k
invariant-loop-k l = let s = l.self in l.colours ≡ filled l.k (colour_at s.picture.bits.now s.picture.width s.picture.height s.transform l.n) l.initial.colours
