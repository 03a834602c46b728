-- `geometry::score::out_by_pitch` meets its contract: its steps are the definition's. Assumes nothing.
use Rattle.geometry.specs.Score.{away_from, out_by_pitch}
use Rattle.geometry.proofs.score.out_by_pitch.Goals as goal

pub returns : goal.returns
unfolding out_by_pitch away_from
returns c =
    let mean = c.mean_module-mean.ensures in
    rw (c.max32-spread.ensures, c.abs-3.ensures, c.max32-db.ensures, c.abs-2.ensures, c.max32-da.ensures, c.abs.ensures, mean)
