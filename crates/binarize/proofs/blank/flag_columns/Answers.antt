use Rattle.binarize.proofs.FlagLaws.{flags_more}
use Rattle.binarize.proofs.blank.flag_columns.Goals as goal

pub loop-y-preserved : goal.loop-y-preserved
loop-y-preserved c = let l = c.loop-y in flags_more _ _ _ _ l.y l.flags _ _ l.invariant c.flag_row.ensures c.flag_row-in-loop-y.ensures
