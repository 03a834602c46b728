-- To be believed. Blocks of a gray picture. Document 01, "From picture to bits": "Blocks are 8 × 8, cut at the right and lower edge: mean (down), least,
-- greatest. A block has an edge mark if greatest − least exceeds 24; a near mark if that holds over its 3 × 3 block neighbourhood."
use Rattle.std.specs.Prelude.{ℕ, ◌+◌, ◌-◌, ◌*◌, ◌/◌, ◌%◌, min, Bool, false, cond, ◌||◌, List, [], ◌∷◌, map, ltb, ◌++◌}
use Rattle.lists.specs.Lists.{range, flat_map, filled, greatest, at, least, mean}
use Rattle.lcr_core.specs.Outcome.{Check, first_of, if_refused, side_checks}
use Rattle.lcr_core.specs.declared.Refusal.TheVariants.{ShortPicture, ShortOutput}

-- ---- grids, row by row

-- the numbers of the cells in columns xs and rows ys, where a row has w cells
unfoldable pub cells : ℕ → List ℕ → List ℕ → List ℕ
cells w xs ys = flat_map (λ y. map (λ x. y * w + x) xs) ys

-- of the places 0 to n - 1 those up to r away from place p
abbrev pub about : ℕ → ℕ → ℕ → List ℕ
about n p r = range (p - r) (min n (p + r + 1))

-- ---- blocks

-- how many blocks there are along a side of n pixels: the last one is cut
abbrev pub blocks_on : ℕ → ℕ
blocks_on n = (n + 7) / 8

-- the pixels along it that are block b's
abbrev pub block_pixels : ℕ → ℕ → List ℕ
block_pixels n b = range (b * 8) (min n (b * 8 + 8))

-- how many there are in a picture of w × h pixels
abbrev pub blocks_in : ℕ → ℕ → ℕ
blocks_in w h = blocks_on h * blocks_on w

-- a mark is 1 where the spread, greatest less least value, exceeds 24, else 0
unfoldable pub mark : ℕ → ℕ → ℕ
mark lo hi = cond (ltb 24 (hi - lo)) 1 0

-- the edge mark of block number i, where lo and hi give each block's least and greatest value
abbrev pub edge_mark : (ℕ → ℕ) → (ℕ → ℕ) → ℕ → ℕ
edge_mark lo hi i = mark (lo i) (hi i)

-- the blocks of the 3 × 3 block neighbourhood of block number i, of bw × bh blocks
abbrev pub neighbours : ℕ → ℕ → ℕ → List ℕ
neighbours bw bh i = cells bw (about bw (i % bw) 1) (about bh (i / bw) 1)

-- the near mark of block number i
abbrev pub near_mark : (ℕ → ℕ) → (ℕ → ℕ) → ℕ → ℕ → ℕ → ℕ
near_mark lo hi bw bh i = mark (least (map lo (neighbours bw bh i))) (greatest (map hi (neighbours bw bh i)))

-- of block number i of the gray picture g of w × h pixels
module _ (g : List ℕ) (w h : ℕ) where
  -- its gray values
  unfoldable pub block_at : ℕ → List ℕ
  block_at i = map (at g) (cells w (block_pixels w (i % blocks_on w)) (block_pixels h (i / blocks_on w)))

  -- their mean, least and greatest
  abbrev pub mean_at : ℕ → ℕ
  mean_at i = mean (block_at i)

  abbrev pub least_at : ℕ → ℕ
  least_at i = least (block_at i)

  abbrev pub greatest_at : ℕ → ℕ
  greatest_at i = greatest (block_at i)

  -- its marks
  abbrev pub edge_at : ℕ → ℕ
  edge_at i = edge_mark least_at greatest_at i

  abbrev pub near_at : ℕ → ℕ
  near_at i = near_mark least_at greatest_at (blocks_on w) (blocks_on h) i

-- ---- what is refused: 1, 2, 4 below width × height gray bytes, 5 if a work slice is under one byte per block

-- whether one of these lengths is under n
unfoldable pub under : ℕ → List ℕ → Bool
under n [] = false
under n (l ∷ ls) = ltb l n || under n ls

-- the checks of the picture alone, of len gray bytes: 1, 2, 4
abbrev pub picture_checks : ℕ → ℕ → ℕ → List Check
picture_checks len w h =
    side_checks w h ++ (record { refuses = ltb len (w * h); refusal = ShortPicture } ∷ [])

-- the number of the first that refuses
unfoldable pub picture_refusal : ℕ → ℕ → ℕ → ℕ
picture_refusal len w h = first_of (picture_checks len w h)

-- and behind them 5, for work slices of these lengths
abbrev pub blocks_checks : ℕ → ℕ → ℕ → List ℕ → List Check
blocks_checks len w h work =
    picture_checks len w h ++ (record { refuses = under (blocks_in w h) work; refusal = ShortOutput } ∷ [])

-- the number of the first that refuses
unfoldable pub blocks_refusal : ℕ → ℕ → ℕ → List ℕ → ℕ
blocks_refusal len w h work = first_of (blocks_checks len w h work)

-- what a call that answers n leaves of a work slice: after 0 the value v of each block of a picture of w × h pixels and the rest as it was, else all as it was
abbrev pub blocks_after : ℕ → ℕ → ℕ → (ℕ → ℕ) → List ℕ → List ℕ
blocks_after n w h v old = if_refused n old (filled (blocks_in w h) v old)
