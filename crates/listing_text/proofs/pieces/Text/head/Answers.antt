-- `listing_text::pieces::Text::head` meets its contract. Assumes nothing.
use Rattle.listing_text.proofs.LineLaws.{head_adds}
use Rattle.listing_text.proofs.pieces.Text.head.Goals as goal

pub returns : goal.returns
returns c = let a = c.args in head_adds a.width a.height a.finders a.detections c.decimal.ensures c.decimal-2.ensures c.decimal-3.ensures c.decimal-4.ensures
