-- `listing_text::pieces::Text::field` meets its contract. Assumes nothing.
use mathlib.Core.Path.{◌≡◌}
use lib.ListN.{take}
use Rattle.little_endian.specs.Bytes.{put}
use Rattle.listing_text.proofs.pieces.Text.field.Given as goal

abbrev pub invariant-loop-i : goal.invariant-loop-i
invariant-loop-i l = l.text ≡ put (take l.i l.field) l.at l.initial.text
