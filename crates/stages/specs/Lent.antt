-- To be believed. What the stages are lent, and what a call leaves of it.
use Rattle.std.specs.Prelude.{ℕ, ◌≡◌, length}
use Rattle.blocks.specs.Work.{lengths, SameBlocks}
use Rattle.gray.specs.declared.LentPixels.{LentPixels}
use Rattle.stages.specs.declared.Slices.{Slices}
use Rattle.stages.specs.Stages.{Room}
use Rattle.stages.specs.Pictures.{Picture, as_picture, gray_picture, bit_picture, denoised_picture}
use Rattle.stages.specs.Pictures.{block_means, block_least, block_greatest, edge_marks, near_marks, left_after}

-- the picture
abbrev pub picture_in : LentPixels → Picture
picture_in p = as_picture p.«data».now p.width p.height p.stride p.format

-- the room in the slices
abbrev pub room_in : Slices → Room
room_in s = record { gray = length s.gray.now; bits = length s.bits.now; denoised = length s.denoised.now; work = lengths s.blocks.now }

-- each slice after a call that answers n, where p is the picture
pub record LeftAfter (n : ℕ) (p : Picture) (old new : Slices) : Type 0 where
  pub gray : new.gray.now ≡ left_after n (gray_picture p) old.gray.now
  pub bits : new.bits.now ≡ left_after n (bit_picture p) old.bits.now
  pub denoised : new.denoised.now ≡ left_after n (denoised_picture p) old.denoised.now
  pub means : new.blocks.now.means.now ≡ left_after n (block_means p) old.blocks.now.means.now
  pub least : new.blocks.now.least.now ≡ left_after n (block_least p) old.blocks.now.least.now
  pub greatest : new.blocks.now.greatest.now ≡ left_after n (block_greatest p) old.blocks.now.greatest.now
  pub edges : new.blocks.now.edges.now ≡ left_after n (edge_marks p) old.blocks.now.edges.now
  pub nears : new.blocks.now.nears.now ≡ left_after n (near_marks p) old.blocks.now.nears.now

-- the same slices are held, of the same lengths
pub record SameSlices (old new : Slices) : Type 0 where
  pub gray : new.gray.ghost_name ≡ old.gray.ghost_name
  pub bits : new.bits.ghost_name ≡ old.bits.ghost_name
  pub denoised : new.denoised.ghost_name ≡ old.denoised.ghost_name
  pub blocks : new.blocks.ghost_name ≡ old.blocks.ghost_name
  pub gray_length : length new.gray.now ≡ length old.gray.now
  pub bits_length : length new.bits.now ≡ length old.bits.now
  pub denoised_length : length new.denoised.now ≡ length old.denoised.now
  pub work : SameBlocks old.blocks.now new.blocks.now
