-- To be believed. The level of a block. Document 01, "From picture to bits", from "A window's level: m = mean (down) of its marked blocks' means" to "with
-- neither the level is 0".
use Rattle.std.specs.Prelude.{ℕ, ◌+◌, ◌*◌, ◌/◌, Bool, cond, ◌||◌, List, [], ◌∷◌, map, length, eqb, leb, ltb}
use Rattle.lists.specs.Lists.{range, those, how_many, mean}
use Rattle.blocks.specs.Blocks.{cells, about}

-- half the sum of the means of two groups, rounded down, or m if one group is empty
unfoldable pub midway : ℕ → List ℕ → List ℕ → ℕ
midway m low high = cond (eqb (length low) 0 || eqb (length high) 0) m ((mean low + mean high) / 2)

-- the level of a window whose marked blocks have the means l: those up to the mean m of all, and those above, are averaged apart
unfoldable pub level : List ℕ → ℕ
level l = midway (mean l) (those (λ v. leb v (mean l)) l) (those (λ v. ltb (mean l) v) l)

-- the level of the first of several windows that holds a marked block, or another where none does
abbrev pub first_level : List (List ℕ) → ℕ → ℕ
first_level [] other = other
first_level ([] ∷ windows) other = first_level windows other
first_level ((v ∷ l) ∷ windows) other = level (v ∷ l)

-- a block is marked by a 1
abbrev pub marked : (ℕ → ℕ) → ℕ → Bool
marked mark i = eqb (mark i) 1

-- the means of the marked blocks among those of the numbers is
abbrev pub marked_means : (ℕ → ℕ) → (ℕ → ℕ) → List ℕ → List ℕ
marked_means means mark is = map means (those (marked mark) is)

-- whether one of n blocks is marked
abbrev pub any_marked : (ℕ → ℕ) → ℕ → Bool
any_marked mark n = ltb 0 (how_many (marked mark) (range 0 n))

-- the edge marks if any of n blocks has one, otherwise the near marks
abbrev pub chosen : (ℕ → ℕ) → (ℕ → ℕ) → ℕ → ℕ → ℕ
chosen edge near n = cond (any_marked edge n) edge near

-- a picture of bw × bh blocks, with the mean, the edge mark and the near mark of each
module _ (means edge near : ℕ → ℕ) (bw bh : ℕ) where
  -- the global level, over all blocks
  unfoldable pub global_level : ℕ
  global_level = first_level (marked_means means (chosen edge near (bh * bw)) (range 0 (bh * bw)) ∷ []) 0

  -- the marked blocks' means in the window of radius r about the block in column x and row y
  abbrev pub window : (ℕ → ℕ) → ℕ → ℕ → ℕ → List ℕ
  window mark x y r = marked_means means mark (cells bw (about bw x r) (about bh y r))

  -- by the first of the four windows about that block that holds a marked one, or another level where none does
  unfoldable pub window_level : ℕ → ℕ → ℕ → ℕ
  window_level x y other = first_level (window edge x y 2 ∷ window edge x y 4 ∷ window near x y 2 ∷ window near x y 4 ∷ []) other

  -- the level of that block in the picture: where no window holds one, the global level applies
  abbrev pub level_at : ℕ → ℕ → ℕ
  level_at x y = window_level x y global_level
