-- `alignment::template::View::sweep` meets its contract. Assumes nothing.
use Prim.Native.Nat.{◌*◌}
use mathlib.Core.Path.{◌≡◌}
use Rattle.lists.specs.Lists.{folded, range}
use Rattle.alignment.specs.Template.{better_at}
use Rattle.alignment.proofs.template.View.sweep.Given as goal

abbrev pub invariant-loop-k : goal.invariant-loop-k
invariant-loop-k l = let s = l.self in let g = better_at s.picture.bits.now s.picture.width s.picture.height s.transform l.c l.m l.step l.best.x l.best.y in folded g l.best (range 0 (l.m * l.m)) ≡ folded g l.so_far (range l.k (l.m * l.m))
