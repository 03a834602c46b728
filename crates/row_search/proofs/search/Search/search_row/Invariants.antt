-- `row_search::search::Search::search_row` meets its contract. Assumes nothing.
use Prim.Native.Nat.{◌+◌, ◌-◌}
use mathlib.Core.Path.{◌≡◌}
use Rattle.lists.specs.Lists.{folded, range}
use Rattle.binary.specs.Line.{pixel}
use Rattle.row_search.specs.Rows.{nearer_at}
use Rattle.row_search.proofs.Walks.{At}
use Rattle.row_search.proofs.search.Search.search_row.Given as goal

abbrev pub invariant-loop-x : goal.invariant-loop-x
invariant-loop-x l = let s = l.self in let g = nearer_at s.picture.bits.now s.picture.width s.picture.height s.«module» s.window s.predicted l.y in At (pixel l.row.bits.now l.row.start l.row.stride) l.left l.right l.x l.light × (folded g l.initial.nearest (range (l.left + 1) l.right) ≡ folded g l.nearest (range l.x l.right))

abbrev pub decreases-loop-x : goal.decreases-loop-x
decreases-loop-x l = l.right - l.x
