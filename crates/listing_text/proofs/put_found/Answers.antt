-- `listing_text::put_found` meets its contract. Assumes nothing.
use Rattle.listing_text.proofs.Listed.{found-refused}
use Rattle.listing_text.proofs.put_found.Goals as goal

pub returns-in-Err-clause-text : goal.returns-in-Err-clause-text
returns-in-Err-clause-text c =
    let e = c.in-Err.ensures in
    found-refused _ _ _ c.in-Err.refusal _ _ _ _ e.number c.from.ensures (rw e.kept at c.put_refusal.ensures.text)
