-- `listing_text::pieces::Text::decimal` meets its contract. Assumes nothing.
use native.Mathlib.Omega.{arith}
use Rattle.listing_text.proofs.Digits.{decimal_adds}
use Rattle.listing_text.proofs.pieces.Text.decimal.Goals as goal

pub returns : goal.returns
returns c =
    let d = c.decimal-k.ensures in
    decimal_adds c.args.n _ c.args.end _ (omega arith) d.len d.digits c.field.ensures
