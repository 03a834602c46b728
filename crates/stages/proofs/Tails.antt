-- Of a gray picture of w × h pixels nothing beyond w × h bytes is read, and of a bit picture nothing beyond (w × h + 7) / 8. Assumes nothing.
use mathlib.Core.Path.{◌≡◌, refl, ap, ◌∙◌, fun_ext}
use mathlib.Core.Bool.{Bool, true, false, ◌&&◌}
use mathlib.Core.List.{List}
use Prim.Native.Nat.{ℕ, ◌+◌, ◌-◌, ◌*◌, ◌/◌, ◌%◌, ◌<◌, min}
use native.Mathlib.Omega.{arith}
use lib.Dec.{ltb}
use lib.ListN.{take}
use lib.Seq.{get_or-take}
use borrow.Author.Tests.{ltb-true}
use Rattle.lists.specs.Lists.{sum_to, at, mean, least, greatest}
use Rattle.lists.proofs.Filters.{each_map}
use Rattle.lists.proofs.Folds.{map_same}
use Rattle.lists.proofs.Numbers.{row_within}
use Rattle.binary.specs.Binary.{bit, dark_bit, dark_at, bytes_of, byte_of}
use Rattle.binary.proofs.Words.{word_same}
use Rattle.denoise.specs.Denoise.{votes, denoised_at}
use Rattle.blocks.specs.Blocks.{cells, block_pixels, blocks_on, mark, near_mark, block_at, mean_at, least_at, greatest_at, edge_at, near_at}
use Rattle.blocks.proofs.Grids.{cells-within}
use Rattle.binarize.specs.Binarize.{dark_by, is_dark}

-- ---- the gray picture
module _ (g : List ℕ) (w h : ℕ) where
  block_tail : (i : ℕ) → block_at (take (w * h) g) w h i ≡ block_at g w h i
  unfolding block_at
  block_tail i =
      let x = i % blocks_on w * 8 in
      let y = i / blocks_on w * 8 in
      map_same (at (take (w * h) g)) (at g) (cells w (block_pixels w (i % blocks_on w)) (block_pixels h (i / blocks_on w)))
      (each_map (λ k. k < h * w) (λ k. at (take (w * h) g) k ≡ at g k) (λ k l. get_or-take (w * h) g k 0 (omega arith)) (cells w (block_pixels w (i % blocks_on w)) (block_pixels h (i / blocks_on w)))
      (cells-within w h x (min w (x + 8)) y (min h (y + 8)) (omega arith) (omega arith)))

  blocks_tail : block_at (take (w * h) g) w h ≡ block_at g w h
  blocks_tail = fun_ext block_tail

  pub mean_tail : mean_at (take (w * h) g) w h ≡ mean_at g w h
  mean_tail = fun_ext (λ i. ap mean (block_tail i))

  pub least_tail : least_at (take (w * h) g) w h ≡ least_at g w h
  least_tail = fun_ext (λ i. ap least (block_tail i))

  pub greatest_tail : greatest_at (take (w * h) g) w h ≡ greatest_at g w h
  greatest_tail = fun_ext (λ i. ap greatest (block_tail i))

  pub edge_tail : edge_at (take (w * h) g) w h ≡ edge_at g w h
  edge_tail = fun_ext (λ i. ap (λ (l : List ℕ). mark (least l) (greatest l)) (block_tail i))

  pub near_tail : near_at (take (w * h) g) w h ≡ near_at g w h
  near_tail = ap (λ (b : ℕ → List ℕ). near_mark (λ i. least (b i)) (λ i. greatest (b i)) (blocks_on w) (blocks_on h)) blocks_tail

  value_tail : (m e n : ℕ → ℕ) (k : ℕ) → dark_by m e n (take (w * h) g) w h k ≡ dark_by m e n g w h k
  unfolding dark_by
  value_tail m e n k = go (ltb k (w * h)) refl _
    where
      go : (b : Bool) → ltb k (w * h) ≡ b → (l : ℕ) → b && ltb (at (take (w * h) g) k) l ≡ b && ltb (at g k) l
      go true p l = ap (λ (v : ℕ). ltb v l) (get_or-take (w * h) g k 0 (ltb-true k (w * h) p))
      go false p l = refl

  pub dark_tail : is_dark (take (w * h) g) w h ≡ is_dark g w h
  dark_tail =
      ap (λ (b : ℕ → List ℕ). dark_by (λ i. mean (b i)) (λ i. mark (least (b i)) (greatest (b i))) (near_mark (λ i. least (b i)) (λ i. greatest (b i)) (blocks_on w) (blocks_on h)) (take (w * h) g) w h) blocks_tail
      ∙ fun_ext (value_tail (mean_at g w h) (edge_at g w h) (near_at g w h))

-- ---- the bit picture
module _ (b : List ℕ) (w h : ℕ) where
  bit_tail : (k : ℕ) → k < bytes_of (w * h) * 8 → dark_bit (take (bytes_of (w * h)) b) k ≡ dark_bit b k
  unfolding dark_bit
  bit_tail k l = rw (get_or-take (bytes_of (w * h)) b (k / 8) 0 (omega arith))

  pixel_tail : (x y : ℕ) → dark_at (take (bytes_of (w * h)) b) w h x y ≡ dark_at b w h x y
  unfolding dark_at
  pixel_tail x y = go (ltb x w) refl (ltb y h) refl
    where
      go : (c : Bool) → ltb x w ≡ c → (d : Bool) → ltb y h ≡ d → c && d && dark_bit (take (bytes_of (w * h)) b) (y * w + x) ≡ c && d && dark_bit b (y * w + x)
      go true p true q = bit_tail (y * w + x) (omega (arith, ltb-true x w p, row_within y h w (ltb-true y h q)))
      go true p false q = refl
      go false p d q = refl

  votes_tail : (x y : ℕ) → votes (take (bytes_of (w * h)) b) w h x y ≡ votes b w h x y
  unfolding votes
  votes_tail x y =
      ap (λ (d : ℕ → ℕ → Bool). sum_to 3 (λ i. sum_to 3 (λ j. bit (d (x + j - 1) (y + i - 1))))) (fun_ext (λ x. fun_ext (λ y. pixel_tail x y)))

  pub denoised_tail : (k : ℕ) → k < bytes_of (w * h) * 8 → denoised_at (take (bytes_of (w * h)) b) w h k ≡ denoised_at b w h k
  unfolding denoised_at
  denoised_tail k l = rw (votes_tail (k % w) (k / w), bit_tail k l)

-- a byte of the denoised picture
pub byte_tail : (b : List ℕ) (w h j : ℕ) → j < bytes_of (w * h) → byte_of (denoised_at (take (bytes_of (w * h)) b) w h) j ≡ byte_of (denoised_at b w h) j
byte_tail b w h j l =
    word_same (denoised_at (take (bytes_of (w * h)) b) w h) (denoised_at b w h) (j * 8) (j * 8) 8 (λ i m. denoised_tail b w h (j * 8 + i) (omega arith))
