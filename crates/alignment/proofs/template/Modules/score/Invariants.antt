-- `alignment::template::Modules::score` meets its contract. Assumes nothing.
use Prim.Native.Nat.{◌≤◌}
use mathlib.Core.Path.{◌≡◌}
use Rattle.lists.specs.Lists.{sum_to}
use Rattle.alignment.specs.Template.{agree}
use Rattle.alignment.proofs.template.Modules.score.Given as goal

abbrev pub invariant-loop-k : goal.invariant-loop-k
invariant-loop-k l = let s = l.self in let v = s.view in (l.n ≤ l.k) × (l.n ≡ sum_to l.k (agree v.picture.bits.now v.picture.width v.picture.height v.transform s.x s.y))
