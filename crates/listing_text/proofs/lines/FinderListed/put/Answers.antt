-- `listing_text::lines::FinderListed::put` meets its contract. Assumes nothing.
use Rattle.listing_text.proofs.LineLaws.{finder_adds}
use Rattle.listing_text.proofs.lines.FinderListed.put.Goals as goal

pub returns : goal.returns
returns c = finder_adds c.args.self.now c.single.ensures c.single-2.ensures c.single-3.ensures c.decimal.ensures
