-- `finders::search::next_hit` meets its contract. Assumes nothing.
use Rattle.std.proofs.Common.{◌≡◌, ◌-◌, ◌≤◌}
use Rattle.binary.specs.Line.{pixel}
use Rattle.finders.specs.Inner.{FitsIn, hits_after}
use Rattle.finders.proofs.search.next_hit.Given as goal

abbrev pub invariant-loop-w : goal.invariant-loop-w
invariant-loop-w l = record {
  fits : FitsIn l.line.len l.w;
  on : l.initial.w.at ≤ l.w.at;
  left : hits_after (pixel l.line.bits.now l.line.start l.line.stride) l.line.len l.initial.w ≡ hits_after (pixel l.line.bits.now l.line.start l.line.stride) l.line.len l.w;
}

abbrev pub decreases-loop-w : goal.decreases-loop-w
decreases-loop-w l = l.line.len - l.w.at
