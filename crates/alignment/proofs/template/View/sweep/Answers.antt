-- `alignment::template::View::sweep` meets its contract. Assumes nothing.
use Rattle.alignment.specs.Known.{Known}
use Rattle.alignment.proofs.template.View.sweep.Goals as goal

pub better_site-so_far-requires : goal.better_site-so_far-requires
unfolding Known
better_site-so_far-requires c = rw (c.signed32.ensures, c.signed32-in-loop-k.ensures) (c.requires.2 c.loop-k.k c.loop-k-test.true)
