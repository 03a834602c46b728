-- The lists that the stages make are exactly as long as what they hold, and the denoised bits stand in front of the slice lent for them. Assumes nothing.
use mathlib.Core.Path.{◌≡◌, ◌∙◌, ap}
use mathlib.Core.List.{List}
use Prim.Native.Nat.{ℕ, ◌*◌}
use lib.ListN.{length, take, drop}
use lib.Seq.{take_at}
use Rattle.lists.specs.Lists.{written}
use Rattle.lists.proofs.Tabulate.{length-tabulate}
use Rattle.binary.specs.Binary.{byte_of, bytes_of}
use Rattle.gray.specs.Gray.{gray_at}
use Rattle.denoise.specs.Denoise.{denoised_at}
use Rattle.blocks.specs.Blocks.{blocks_in, mean_at, least_at, greatest_at, edge_at, near_at}
use Rattle.binarize.specs.Binarize.{is_dark}
use Rattle.stages.specs.Pictures.{Picture, gray_picture, bit_picture, denoised_picture}
use Rattle.stages.specs.Pictures.{block_means, block_least, block_greatest, edge_marks, near_marks, left_after}

module _ (p : Picture) where
  abbrev w : ℕ
  w = p.width

  abbrev h : ℕ
  h = p.height

  pub length_gray : length (gray_picture p) ≡ w * h
  unfolding gray_picture
  length_gray = length-tabulate (w * h) (gray_at p.bytes w p.stride p.format)

  pub length_bits : length (bit_picture p) ≡ bytes_of (w * h)
  unfolding bit_picture
  length_bits = length-tabulate (bytes_of (w * h)) (byte_of (is_dark (gray_picture p) w h))

  pub length_denoised : length (denoised_picture p) ≡ bytes_of (w * h)
  unfolding denoised_picture
  length_denoised = length-tabulate (bytes_of (w * h)) (byte_of (denoised_at (bit_picture p) w h))

  pub length_means : length (block_means p) ≡ blocks_in w h
  unfolding block_means
  length_means = length-tabulate (blocks_in w h) (mean_at (gray_picture p) w h)

  pub length-least : length (block_least p) ≡ blocks_in w h
  unfolding block_least
  length-least = length-tabulate (blocks_in w h) (least_at (gray_picture p) w h)

  pub length-greatest : length (block_greatest p) ≡ blocks_in w h
  unfolding block_greatest
  length-greatest = length-tabulate (blocks_in w h) (greatest_at (gray_picture p) w h)

  pub length_edges : length (edge_marks p) ≡ blocks_in w h
  unfolding edge_marks
  length_edges = length-tabulate (blocks_in w h) (edge_at (gray_picture p) w h)

  pub length_nears : length (near_marks p) ≡ blocks_in w h
  unfolding near_marks
  length_nears = length-tabulate (blocks_in w h) (near_at (gray_picture p) w h)

-- where nothing is refused; what follows them is not read (candidates/proofs/Tails.antt)
pub denoised_first : (n : ℕ) (p : Picture) → n ≡ 0 → (old done : List ℕ) → done ≡ left_after n (denoised_picture p) old
    → take (bytes_of (p.width * p.height)) done ≡ denoised_picture p
unfolding left_after
denoised_first n p z old done e =
    let d = denoised_picture p in
    let m = bytes_of (p.width * p.height) in
    let k : left_after n d old ≡ written d old = ap (λ (n : ℕ). left_after n d old) z in
    ap (take m) (e ∙ k) ∙ take_at d (drop (length d) old) m (length_denoised p)
