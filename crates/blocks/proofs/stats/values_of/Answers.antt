-- `blocks::stats::values_of` meets its contract. Assumes nothing.
use Rattle.blocks.proofs.Measures.{block_is}
use Rattle.blocks.proofs.stats.values_of.Goals as goal

pub returns : goal.returns
returns c = let p = c.args.picture in block_is p.gray.now p.width p.height _ c.block-block.result _ c.block-block.ensures c.rect_stats-t.ensures.0
