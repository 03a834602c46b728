-- For inner contracts and proofs. Rectangles of a grid's cells.
use Rattle.std.specs.Prelude.{ℕ, ◌+◌, ◌-◌, ◌*◌, ◌/◌, ◌%◌, ◌≡◌, ◌≤◌, min, List}
use Rattle.lists.specs.Lists.{range}
use Rattle.blocks.specs.declared.rect.Rect.{Rect}
use Rattle.blocks.specs.Blocks.{cells, blocks_on}

-- the numbers of a rectangle's cells, where a row has w cells
abbrev pub cells_of : ℕ → Rect → List ℕ
cells_of w r = cells w (range r.left r.right) (range r.top r.bottom)

-- a rectangle holds the cells up to d away from the one in column x and row y, of w × h cells
pub record IsAbout (w h x y d : ℕ) (r : Rect) : Type 0 where
  pub left : r.left ≡ x - d
  pub right : r.right ≡ min w (x + d + 1)
  pub top : r.top ≡ y - d
  pub bottom : r.bottom ≡ min h (y + d + 1)

-- a rectangle holds the pixels of block number i of a picture of w × h pixels
pub record IsBlock (w h i : ℕ) (r : Rect) : Type 0 where
  pub left : r.left ≡ i % blocks_on w * 8
  pub right : r.right ≡ min w (i % blocks_on w * 8 + 8)
  pub top : r.top ≡ i / blocks_on w * 8
  pub bottom : r.bottom ≡ min h (i / blocks_on w * 8 + 8)

-- a rectangle has at most 8 × 8 cells, in rows of w, and a list of len values has one for each of them
pub record InRect (len w : ℕ) (r : Rect) : Type 0 where
  pub cols : r.right ≤ w
  pub narrow : r.right - r.left ≤ 8
  pub low : r.bottom - r.top ≤ 8
  pub rows : r.bottom ≤ 4096
  pub all : r.bottom * w ≤ len
