-- `row_search::search::Search::nearest_marker` meets its contract. Assumes nothing.
use mathlib.Core.Path.{◌≡◌}
use Rattle.lists.specs.Lists.{folded, range}
use Rattle.row_search.specs.Rows.{row_nearest}
use Rattle.row_search.proofs.search.Search.nearest_marker.Given as goal

abbrev pub invariant-loop-y : goal.invariant-loop-y
invariant-loop-y l = let s = l.self in let g = row_nearest s.picture.bits.now s.picture.width s.picture.height s.«module» s.window s.predicted in folded g l.initial.nearest (range s.window.top s.window.bottom) ≡ folded g l.nearest (range l.y s.window.bottom)
