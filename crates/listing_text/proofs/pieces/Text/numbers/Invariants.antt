-- `listing_text::pieces::Text::numbers` meets its contract. Assumes nothing.
use Prim.Native.Nat.{ℕ, ◌*◌}
use mathlib.Core.List.{List}
use lib.ListN.{get_or}
use lib.Ieee.{Float, nan}
use Rattle.lists.specs.Lists.{tabulate}
use Rattle.listing_text.specs.Text.{double_text}
use Rattle.listing_text.specs.Inner.{Adds, spaced}
use Rattle.listing_text.specs.Listing.{double_room}
use Rattle.listing_text.proofs.pieces.Text.numbers.Given as goal

abbrev pub field : List Float → ℕ → List ℕ
field m i = double_text (get_or m i nan)

abbrev pub invariant-loop-x : goal.invariant-loop-x
invariant-loop-x l = Adds (spaced (tabulate l.x-index (field l.fn.m))) (double_room * l.x-index) l.initial.self l.self
