-- `finders::search::next_sighting` meets its contract. Assumes nothing.
use Rattle.std.proofs.Common.{◌≡◌, ◌-◌, ◌≤◌}
use Rattle.finders.specs.Inner.{FitsIn, line_len, sightings_after}
use Rattle.finders.proofs.search.next_sighting.Given as goal

abbrev pub invariant-loop-hit : goal.invariant-loop-hit
invariant-loop-hit l = record {
  fits : FitsIn (line_len l.picture.width l.picture.height l.columns) l.w;
  on : l.initial.w.at ≤ l.w.at;
  left : sightings_after l.picture.bits.now l.picture.width l.picture.height l.columns l.number l.initial.w ≡ sightings_after l.picture.bits.now l.picture.width l.picture.height l.columns l.number l.w;
}

abbrev pub decreases-loop-hit : goal.decreases-loop-hit
decreases-loop-hit l = line_len l.picture.width l.picture.height l.columns - l.w.at
