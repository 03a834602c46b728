-- To be believed. The five work slices of a picture's blocks: their lengths, that the same are held, and what they hold.
use Rattle.std.specs.Prelude.{ℕ, ◌≡◌, List, [], ◌∷◌, length}
use Rattle.blocks.specs.declared.Blocks.{Blocks}
use Rattle.blocks.specs.Blocks.{mean_at, least_at, greatest_at, edge_at, near_at, blocks_after}

-- how many bytes each of the five has
abbrev pub lengths : Blocks → List ℕ
lengths b = length b.means.now ∷ length b.least.now ∷ length b.greatest.now ∷ length b.edges.now ∷ length b.nears.now ∷ []

-- the same slices are held, of the same lengths
pub record SameBlocks (old new : Blocks) : Type 0 where
  pub means : new.means.ghost_name ≡ old.means.ghost_name
  pub least : new.least.ghost_name ≡ old.least.ghost_name
  pub greatest : new.greatest.ghost_name ≡ old.greatest.ghost_name
  pub edges : new.edges.ghost_name ≡ old.edges.ghost_name
  pub nears : new.nears.ghost_name ≡ old.nears.ghost_name
  pub means_length : length new.means.now ≡ length old.means.now
  pub least_length : length new.least.now ≡ length old.least.now
  pub greatest_length : length new.greatest.now ≡ length old.greatest.now
  pub edges_length : length new.edges.now ≡ length old.edges.now
  pub nears_length : length new.nears.now ≡ length old.nears.now

-- after a call that answers n they hold the values and marks of the blocks of the picture g of w × h pixels, or what they held
pub record HasValues (n : ℕ) (g : List ℕ) (w h : ℕ) (old new : Blocks) : Type 0 where
  pub means : new.means.now ≡ blocks_after n w h (mean_at g w h) old.means.now
  pub least : new.least.now ≡ blocks_after n w h (least_at g w h) old.least.now
  pub greatest : new.greatest.now ≡ blocks_after n w h (greatest_at g w h) old.greatest.now
  pub edges : new.edges.now ≡ blocks_after n w h (edge_at g w h) old.edges.now
  pub nears : new.nears.now ≡ blocks_after n w h (near_at g w h) old.nears.now
