-- `geometry::score::triple_score` meets its contract: the pitch first, then the corners' rules. Assumes nothing.
use Rattle.geometry.proofs.Scores.{pitch_out, pitch_in}
use Rattle.geometry.proofs.score.triple_score.Goals as goal

pub returns-then-out_by_pitch : goal.returns-then-out_by_pitch
returns-then-out_by_pitch c = pitch_out _ _ _ _ c.out_by_pitch.ensures c.if-out_by_pitch.true

pub returns-else-out_by_pitch : goal.returns-else-out_by_pitch
returns-else-out_by_pitch c = pitch_in _ _ _ _ c.out_by_pitch.ensures _ _ c.if-out_by_pitch.false c.order_finders.ensures c.right_angle_score.ensures
