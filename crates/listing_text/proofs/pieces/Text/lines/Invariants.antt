-- `listing_text::pieces::Text::lines` meets its contract. Assumes nothing.
use Prim.Native.Nat.{◌*◌}
use lib.ListN.{take}
use Rattle.lists.specs.Lists.{flat_map}
use Rattle.listing_text.specs.Inner.{Adds}
use Rattle.listing_text.proofs.pieces.Text.lines.Given as goal

abbrev pub invariant-loop-item : goal.invariant-loop-item
invariant-loop-item g l = Adds (flat_map g.T.Listed.line (take l.item-index l.items)) (g.T.Listed.room * l.item-index) l.initial.self l.self
