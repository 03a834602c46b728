-- To be believed. How a hit is confirmed (document 01, "Finding and ranking": "A row hit is confirmed down, then across, a column hit across, then down, each
-- run stopping after 5 × module (truncated) + 4 pixels"; document 02, N7: "A finder hit with a run ended by the limit in either confirmation is dropped").
use Rattle.std.specs.Prelude.{ℕ, ◌+◌, ◌-◌, Bool, true, false, cond, ◌||◌, List, Float, Option, Some, None, option_map, option_and_then}
use Rattle.std.specs.Float.Ieee.{to_unsigned}
use Rattle.float.specs.Steps.{◌⊕◌, ◌⊗◌, ◌⊘◌, whole32}
use Rattle.float.specs.Constants.{f2, f5}
use Rattle.binary.specs.Binary.{dark_at}
use Rattle.binary.specs.Line.{row, column, run_before, run_after, limited_before, limited_after}
use Rattle.binary.specs.declared.line.End.{End}
use Rattle.binary.specs.declared.line.End.TheVariants.{Change, Edge, Limit}
use Rattle.binary.specs.declared.line.Run.{Run}
use Rattle.ratio.specs.Ratio.{match_of}
use Rattle.lcr_core.specs.declared.point.Point.{Point}
use Rattle.confirm.specs.declared.Side.{Side}

-- 5 × module (truncated) + 4
abbrev pub confirm_limit : Float → ℕ
confirm_limit m = to_unsigned 32 (m ⊗ f5) + 4

-- whether the limit ended a run
abbrev pub is_cut : End → Bool
is_cut Change = false
is_cut Edge = false
is_cut Limit = true

-- the light run beyond a core and the dark run beyond that, and whether the limit ended one of them
abbrev pub side_by : Run → Run → Side
side_by light dark = record { light = light.count; dark = dark.count; cut = is_cut light.end || is_cut dark.end }

-- of a core that starts at pixel i, and of one that ends before it
unfoldable pub side_before : (ℕ → Bool) → ℕ → ℕ → Side
side_before f limit i = let light = limited_before false f limit i in side_by light (limited_before true f limit (i - light.count))

unfoldable pub side_after : (ℕ → Bool) → ℕ → ℕ → ℕ → Side
side_after f len limit i = let light = limited_after false f len limit i in side_by light (limited_after true f len limit (i + light.count))

-- the centre of a core of so many pixels from pixel `top` on, between two sides, where the runs pass
unfoldable pub core_centre : Side → ℕ → Side → ℕ → Option Float
core_centre a core b top =
    option_map (λ m. whole32 top ⊕ whole32 core ⊘ f2) (match_of a.dark a.light core b.light b.dark)

-- a rule for the centre of the core about pixel i of a line f of len pixels, where each run stops at a limit
abbrev pub Rule : Type 0
Rule = (ℕ → Bool) → ℕ → ℕ → ℕ → Option Float

-- document 000's: the core is the dark run about pixel i, and the runs are taken as counted, however they ended
unfoldable pub counted_of : Rule
counted_of f len i limit =
    let up = run_before true f limit i in
    let down = run_after true f len limit (i + 1) in
    core_centre (side_before f limit (i - up)) (up + down + 1) (side_after f len limit (i + 1 + down)) (i - up)

-- whether the limit ended one of the six runs: the core's on either side of pixel i, and the light and the dark one beyond it on both sides
unfoldable pub any_cut : (ℕ → Bool) → ℕ → ℕ → ℕ → Bool
any_cut f len i limit =
    let up = limited_before true f limit i in
    let down = limited_after true f len limit (i + 1) in
    is_cut up.end || is_cut down.end || (side_before f limit (i - up.count)).cut || (side_after f len limit (i + 1 + down.count)).cut

-- the amended rule (N7): nowhere, where the limit ended one
unfoldable pub core_of : Rule
core_of f len i limit = cond (any_cut f len i limit) None (counted_of f len i limit)

-- a confirmation by a rule
module _ (rule : Rule) (bits : List ℕ) (width height : ℕ) where
  -- down column x about row y, and across row y about column x
  unfoldable pub vertical_by : ℕ → ℕ → Float → Option Float
  vertical_by x y m = cond (dark_at bits width height x y) (rule (column bits width x) height y (confirm_limit m)) None

  unfoldable pub horizontal_by : ℕ → ℕ → Float → Option Float
  horizontal_by x y m = cond (dark_at bits width height x y) (rule (row bits width y) width x (confirm_limit m)) None

  -- a hit with its centre at x on row y is confirmed down, then across
  unfoldable pub row_by : ℕ → Float → Float → Option Point
  row_by y centre m =
      let x = to_unsigned 32 centre in
      option_and_then (λ cy. option_and_then (λ cx. Some (record { x = cx; y = cy })) (horizontal_by x (to_unsigned 32 cy) m)) (vertical_by x y m)

  -- a hit with its centre at y on column x is confirmed across, then down
  unfoldable pub column_by : ℕ → Float → Float → Option Point
  column_by x centre m =
      let y = to_unsigned 32 centre in
      option_and_then (λ cx. option_and_then (λ cy. Some (record { x = cx; y = cy })) (vertical_by (to_unsigned 32 cx) y m)) (horizontal_by x y m)

  -- on row n, or on column n
  unfoldable pub confirmed_by : Bool → ℕ → Float → Float → Option Point
  confirmed_by columns n centre m = cond columns (column_by n centre m) (row_by n centre m)

-- by the amended rule, which the detector has
abbrev pub confirm_vertical : List ℕ → ℕ → ℕ → ℕ → ℕ → Float → Option Float
confirm_vertical = vertical_by core_of

abbrev pub confirm_horizontal : List ℕ → ℕ → ℕ → ℕ → ℕ → Float → Option Float
confirm_horizontal = horizontal_by core_of

abbrev pub row_confirmed : List ℕ → ℕ → ℕ → ℕ → Float → Float → Option Point
row_confirmed = row_by core_of

abbrev pub column_confirmed : List ℕ → ℕ → ℕ → ℕ → Float → Float → Option Point
column_confirmed = column_by core_of

abbrev pub confirmed_on : List ℕ → ℕ → ℕ → Bool → ℕ → Float → Float → Option Point
confirmed_on = confirmed_by core_of
