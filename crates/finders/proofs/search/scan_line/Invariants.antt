-- `finders::search::scan_line` meets its contract. Assumes nothing.
use Rattle.std.proofs.Common.{◌≡◌, ◌+◌, ◌-◌, ◌^◌}
use Rattle.lists.specs.Lists.{folded}
use Rattle.lcr_core.specs.Outcome.{max_side}
use Rattle.finders.specs.Held.{held, merge_next}
use Rattle.finders.specs.Search.{max_finders}
use Rattle.finders.specs.Answer.{held_in}
use Rattle.finders.specs.Inner.{FitsIn, Good, line_len, line_sightings, sightings_after}
use Rattle.finders.proofs.search.scan_line.Given as goal

abbrev pub invariant-loop-s : goal.invariant-loop-s
invariant-loop-s l = record {
  fits : FitsIn (line_len l.picture.width l.picture.height l.columns) l.w;
  good : Good l.t (2 ^ 32 - 2 - max_side + l.w.at);
  left : folded (merge_next max_finders) (held (held_in l.initial.t)) (line_sightings l.picture.bits.now l.picture.width l.picture.height l.columns l.number)
      ≡ folded (merge_next max_finders) (held (held_in l.t)) (sightings_after l.picture.bits.now l.picture.width l.picture.height l.columns l.number l.w);
}

abbrev pub decreases-loop-s : goal.decreases-loop-s
decreases-loop-s l = line_len l.picture.width l.picture.height l.columns - l.w.at
