-- `transform::Transform::pitch_range` meets its contract. Assumes nothing.
use Rattle.std.proofs.Common.{arith}
use Rattle.transform.proofs.Laws.{infinite, pitches_is}
use Rattle.transform.proofs.Transform.pitch_range.Goals as goal

pub returns : goal.returns
returns c =
    pitches_is _ _ _ (omega arith) _ _ _ _ _ _ _ _ _ _ _ _ _ c.local_pitch-a.ensures c.local_pitch-b.ensures c.local_pitch-c.ensures c.local_pitch-d.ensures infinite
    c.min32.ensures c.min32-2.ensures c.min32-3.ensures c.min32-4.ensures
    c.max32.ensures c.max32-2.ensures c.max32-3.ensures c.max32-4.ensures
