-- Which pixels are dark. Assumes nothing.
use mathlib.Core.Path.{◌≡◌}
use mathlib.Core.List.{List}
use Prim.Native.Nat.{ℕ, ◌+◌, ◌*◌, ◌/◌, ◌≤◌, ◌<◌, min}
use native.Mathlib.Omega.{arith}
use native.Mathlib.Nat.{mul_comm}
use lib.Dec.{ltb}
use lib.Arith.{digits_div, digits_mod}
use borrow.Author.Tests.{lt-ltb, le-ltb}
use Rattle.lists.specs.Lists.{filled, at}
use Rattle.lists.proofs.Tabulate.{get_or-filled}
use Rattle.lists.proofs.Numbers.{row_within}
use Rattle.binary.specs.Binary.{bit}
use Rattle.blocks.specs.Blocks.{blocks_on}
use Rattle.binarize.specs.Levels.{global_level, window_level}
use Rattle.binarize.specs.Binarize.{dark_by}

module _ (m e k : ℕ → ℕ) (g : List ℕ) (w h : ℕ) where
  -- the pixel at x of row i, within row y of blocks, whose levels stand in a list that was filled with them
  pub dark_in : (y i x : ℕ) (d : List ℕ) → x < w → y * 8 ≤ i → i < y * 8 + 8 → i < h
      → dark_by m e k g w h (i * w + x)
      ≡ ltb (at g (i * w + x))
      (at (filled (blocks_on w) (λ bx. window_level m e k (blocks_on w) (blocks_on h) bx y (global_level m e k (blocks_on w) (blocks_on h))) d) (x / 8))
  unfolding dark_by
  dark_in y i x d xw lo hi ih =
      let row : i / 8 ≡ y = omega arith in
      simp (
        lt-ltb (i * w + x) (w * h) (omega (arith, row_within i h w ih, mul_comm w h)),
        digits_div i xw,
        digits_mod i xw,
        row,
        get_or-filled (blocks_on w) (λ bx. window_level m e k (blocks_on w) (blocks_on h) bx y (global_level m e k (blocks_on w) (blocks_on h))) d (x / 8) 0 (omega arith),
      )

  -- an unused bit
  pub dark_past : (i : ℕ) → w * h ≤ i → 0 ≡ bit (dark_by m e k g w h i)
  unfolding dark_by bit
  dark_past i l = simp (le-ltb i (w * h) l)

-- the rows of row y of blocks
pub rows_of : (h y : ℕ) → y < blocks_on h → (min h (y * 8) ≡ y * 8) × (min h ((y + 1) * 8) ≡ min h (y * 8 + 8))
rows_of h y l = omega arith
