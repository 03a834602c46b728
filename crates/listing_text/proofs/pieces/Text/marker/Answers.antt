-- `listing_text::pieces::Text::marker` meets its contract. Assumes nothing.
use native.Mathlib.Omega.{arith}
use Rattle.listing_text.proofs.LineLaws.{marker_adds, missing_adds}
use Rattle.listing_text.proofs.pieces.Text.marker.Goals as goal

pub returns-in-Some : goal.returns-in-Some
returns-in-Some c = marker_adds c.args.m _ c.in-Some.is c.single.ensures c.single-in-Some.ensures

pub returns-in-None : goal.returns-in-None
returns-in-None c = missing_adds c.args.m c.in-None.is (omega arith) c.field.ensures
