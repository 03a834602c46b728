-- `binarize::levels::block_level` meets its contract: the windows before this kind have no marked block. Assumes nothing.
use Prim.Native.Nat.{◌-◌, ◌≤◌}
use mathlib.Core.Path.{◌≡◌}
use Rattle.lists.specs.Lists.{at}
use Rattle.binarize.specs.Levels.{window_level}
use Rattle.binarize.proofs.LevelLaws.{from}
use Rattle.binarize.proofs.levels.block_level.Given as goal

abbrev pub invariant-loop-kind : goal.invariant-loop-kind
invariant-loop-kind l =
    let g = l.grid in
    (l.kind ≤ 4) × (window_level (at g.means.now) (at g.edges.now) (at g.nears.now) g.width g.height l.x l.y l.global ≡ from g.means.now g.edges.now g.nears.now g.width g.height l.x l.y l.global l.kind)

abbrev pub decreases-loop-kind : goal.decreases-loop-kind
decreases-loop-kind l = 4 - l.kind
