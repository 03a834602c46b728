-- `listing_text::lines::DetectionListed::put` meets its contract. Assumes nothing.
use Rattle.listing_text.proofs.LineLaws.{detection_adds}
use Rattle.listing_text.proofs.lines.DetectionListed.put.Goals as goal

pub returns : goal.returns
returns c = detection_adds c.args.self.now c.decimal.ensures c.marker.ensures c.numbers.ensures c.single.ensures c.single-2.ensures
