-- `finders::search::scan_axis` meets its contract. Assumes nothing.
use Rattle.std.proofs.Common.{◌≡◌, ◌+◌, ◌*◌}
use Rattle.lists.specs.Lists.{range, folded}
use Rattle.finders.specs.Held.{held}
use Rattle.finders.specs.Answer.{held_in}
use Rattle.finders.specs.Inner.{line_most, axis_most, Good, scanned_at}
use Rattle.finders.proofs.search.scan_axis.Given as goal

abbrev pub invariant-loop-k : goal.invariant-loop-k
invariant-loop-k l = record {
  good : Good l.t (axis_most + line_most * l.k);
  left : folded (scanned_at l.picture.bits.now l.picture.width l.picture.height l.columns) (held (held_in l.initial.t)) (range 0 l.half)
      ≡ folded (scanned_at l.picture.bits.now l.picture.width l.picture.height l.columns) (held (held_in l.t)) (range l.k l.half);
}
