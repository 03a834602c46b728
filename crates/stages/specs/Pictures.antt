-- To be believed. What the stages make of a picture, and of nothing else: each list is exactly as long as what it holds. Document 01, "From picture to bits".
use Rattle.std.specs.Prelude.{ℕ, ◌*◌, cond, ◌||◌, List, eqb}
use Rattle.lists.specs.Lists.{tabulate, written}
use Rattle.lcr_core.specs.Outcome.{refusal_number}
use Rattle.lcr_core.specs.declared.Refusal.TheVariants.{FullTable}
use Rattle.binary.specs.Binary.{byte_of, bytes_of}
use Rattle.gray.specs.Gray.{gray_at}
use Rattle.denoise.specs.Denoise.{denoised_at}
use Rattle.blocks.specs.Blocks.{blocks_in, mean_at, least_at, greatest_at, edge_at, near_at}
use Rattle.binarize.specs.Binarize.{is_dark}

-- a picture: its bytes, its sides in pixels, how many bytes a row takes, and its format byte
pub record Picture : Type 0 where
  pub bytes : List ℕ
  pub width : ℕ
  pub height : ℕ
  pub stride : ℕ
  pub format : ℕ

abbrev pub as_picture : List ℕ → ℕ → ℕ → ℕ → ℕ → Picture
as_picture p w h s f = record { bytes = p; width = w; height = h; stride = s; format = f }

module _ (p : Picture) where
  abbrev w : ℕ
  w = p.width

  abbrev h : ℕ
  h = p.height

  -- a gray value for each pixel
  unfoldable pub gray_picture : List ℕ
  gray_picture = tabulate (w * h) (gray_at p.bytes w p.stride p.format)

  -- a bit for each pixel, in (width × height + 7) / 8 bytes
  unfoldable pub bit_picture : List ℕ
  bit_picture = tabulate (bytes_of (w * h)) (byte_of (is_dark gray_picture w h))

  -- and after denoising
  unfoldable pub denoised_picture : List ℕ
  denoised_picture = tabulate (bytes_of (w * h)) (byte_of (denoised_at bit_picture w h))

  -- a value or a mark for each block
  unfoldable pub block_means : List ℕ
  block_means = tabulate (blocks_in w h) (mean_at gray_picture w h)

  unfoldable pub block_least : List ℕ
  block_least = tabulate (blocks_in w h) (least_at gray_picture w h)

  unfoldable pub block_greatest : List ℕ
  block_greatest = tabulate (blocks_in w h) (greatest_at gray_picture w h)

  unfoldable pub edge_marks : List ℕ
  edge_marks = tabulate (blocks_in w h) (edge_at gray_picture w h)

  unfoldable pub near_marks : List ℕ
  near_marks = tabulate (blocks_in w h) (near_at gray_picture w h)

-- what a call that answers n leaves of a slice lent to the stages: after 0, and after 6, which is given behind the stages, the list that they make is
-- written over its front; else all is as it was
unfoldable pub left_after : ℕ → List ℕ → List ℕ → List ℕ
left_after n made old = cond (eqb n 0 || eqb n (refusal_number FullTable)) (written made old) old
