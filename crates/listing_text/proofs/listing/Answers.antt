-- `listing_text::listing` meets its contract. Assumes nothing.
use Rattle.listing_text.proofs.Listed.{too_short, all_written}
use Rattle.listing_text.specs.Listing.{listing_of}
use Rattle.listing_text.proofs.listing.Goals as goal

pub returns-then-text-lt-ROOM : goal.returns-then-text-lt-ROOM
returns-then-text-lt-ROOM c =
    let a = c.args in
    let w = too_short (listing_of a.input.now) a.text.now c.if-text-lt-ROOM.true in
    record { len = w.0; text = w.1; most = w.2 }

pub returns : goal.returns
returns c =
    let a = c.args in
    let p = c.put_listing.ensures in
    let w = all_written (listing_of a.input.now) a.text.now _ _ c.if-text-lt-ROOM.false p.most p.text in
    record { len = w.0; text = w.1; most = w.2 }
