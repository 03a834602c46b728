-- For inner contracts and proofs. The loops over a rectangle of values, as folds, and what is known where the checks pass.
use Rattle.std.specs.Prelude.{ℕ, ◌+◌, ◌*◌, ◌≤◌, min, max, List}
use Rattle.lists.specs.Lists.{range, folded, at}
use Rattle.lcr_core.specs.Passed.{Sides}
use Rattle.blocks.specs.declared.stats.Stats.{Stats}
use Rattle.blocks.specs.Blocks.{blocks_in}

-- one value more
abbrev pub with_value : Stats → ℕ → Stats
with_value t v = record { sum = t.sum + v; least = min t.least v; greatest = max t.greatest v }

-- the value of cell number i more
unfoldable pub cell_step : List ℕ → Stats → ℕ → Stats
cell_step s t i = with_value t (at s i)

-- the value in column x more, where its row begins at cell number `from`
unfoldable pub column_step : List ℕ → ℕ → Stats → ℕ → Stats
column_step s from t x = cell_step s t (from + x)

-- the values of row y in the columns from a on below b more, where a row has w cells
unfoldable pub row_step : List ℕ → ℕ → ℕ → ℕ → Stats → ℕ → Stats
row_step s w a b t y = folded (column_step s (y * w)) t (range a b)

-- no value yet
abbrev pub no_value : Stats
no_value = record { sum = 0; least = 255; greatest = 0 }

-- len gray bytes, and work slices of m, lo, hi, e and n bytes, are as many as `block_values` needs
pub record BlocksPassed (len w h m lo hi e n : ℕ) : Type 0 where
  pub sides : Sides w h
  pub bytes : w * h ≤ len
  pub means : blocks_in w h ≤ m
  pub least : blocks_in w h ≤ lo
  pub greatest : blocks_in w h ≤ hi
  pub edges : blocks_in w h ≤ e
  pub nears : blocks_in w h ≤ n
