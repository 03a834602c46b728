use native.Mathlib.Omega.{arith}
use Rattle.listing_text.proofs.LineLaws.{lines_none, lines_next, lines_all}
use Rattle.listing_text.proofs.pieces.Text.lines.Goals as goal

pub loop-item-init : goal.loop-item-init
loop-item-init g c = lines_none g.T.Listed.line g.T.Listed.room c.args.items.now c.args.self.now

pub loop-item-preserved : goal.loop-item-preserved
loop-item-preserved g c = lines_next g.T.Listed.line g.T.Listed.room c.args.items.now c.loop-item.item-index _ c.loop-item-test.true c.item-item.is c.loop-item.invariant c.put.ensures

pub returns : goal.returns
returns g c = lines_all g.T.Listed.line g.T.Listed.room c.args.items.now c.loop-item.item-index (omega arith) c.loop-item.invariant
