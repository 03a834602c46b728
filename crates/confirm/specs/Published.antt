-- To be believed. The confirmation as document 000 has it, and which of its hits document 02, N7, drops: what the theorems on equality with it speak of, and
-- no contract does.
use Rattle.std.specs.Prelude.{ℕ, Bool, false, cond, ◌||◌, List, Float, Option}
use Rattle.std.specs.Option.{option_map_or}
use Rattle.std.specs.Float.Ieee.{to_unsigned}
use Rattle.binary.specs.Line.{row, column}
use Rattle.lcr_core.specs.declared.point.Point.{Point}
use Rattle.confirm.specs.Confirm.{confirm_limit, counted_of, any_cut, vertical_by, horizontal_by, confirmed_by}

-- a hit on row n, or on column n, is confirmed by document 000's rule
abbrev pub counted_on : List ℕ → ℕ → ℕ → Bool → ℕ → Float → Float → Option Point
counted_on = confirmed_by counted_of

module _ (bits : List ℕ) (width height : ℕ) where
  -- whether the limit ended a run down column x about row y, and across row y about column x
  abbrev pub cut_down : ℕ → ℕ → Float → Bool
  cut_down x y m = any_cut (column bits width x) height y (confirm_limit m)

  abbrev pub cut_across : ℕ → ℕ → Float → Bool
  cut_across x y m = any_cut (row bits width y) width x (confirm_limit m)

  -- in either confirmation of a hit with its centre at x on row y, of which the second goes through the centre that the first one gives
  unfoldable pub row_cut : ℕ → Float → Float → Bool
  row_cut y centre m =
      let x = to_unsigned 32 centre in
      cut_down x y m || option_map_or (λ cy. cut_across x (to_unsigned 32 cy) m) (vertical_by counted_of bits width height x y m) false

  -- and of a hit with its centre at y on column x
  unfoldable pub column_cut : ℕ → Float → Float → Bool
  column_cut x centre m =
      let y = to_unsigned 32 centre in
      cut_across x y m || option_map_or (λ cx. cut_down (to_unsigned 32 cx) y m) (horizontal_by counted_of bits width height x y m) false

  -- on row n, or on column n
  unfoldable pub cut_on : Bool → ℕ → Float → Float → Bool
  cut_on columns n centre m = cond columns (column_cut n centre m) (row_cut n centre m)
