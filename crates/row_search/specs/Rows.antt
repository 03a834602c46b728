-- To be believed. The search for the alignment marker along rows. Document 01: "`find_alignment` searches the rows as 000 does", refusals "1, 2, 4", and its
-- known difference: "sums are taken without overflow, and rows clipped to the picture; a negative px + radius still searches to width − 1". All steps are
-- f32, in the order of document 000. Throughout, m is the predicted length of a module in pixels.
use Rattle.std.specs.Prelude.{ℕ, ◌+◌, ◌-◌, min, ◌+ℤ◌, ◌-ℤ◌, Bool, true, false, not, ◌&&◌, cond, List, ℤ, pos, negsuc, length, Float, Option, Some, None, Result}
use Rattle.std.specs.Float.Ieee.{lt, le, to_unsigned, to_signed}
use Rattle.lists.specs.Lists.{range, folded}
use Rattle.float.specs.Floats.{abs_of, max_of}
use Rattle.float.specs.Steps.{◌⊕◌, ◌⊖◌, ◌⊗◌, ◌⊘◌, whole32}
use Rattle.float.specs.Constants.{f0_7, f2, f3, f5, f6}
use Rattle.lcr_core.specs.Answer.{checked}
use Rattle.lcr_core.specs.declared.Refusal.{Refusal}
use Rattle.binary.specs.Binary.{dark_at}
use Rattle.binary.specs.Line.{row, column, run, run_back, run_before, run_after}
use Rattle.binary.specs.Refusal.{bits_checks}
use Rattle.transform.specs.Apply.{distance2_of}
use Rattle.lcr_core.specs.declared.point.Point.{Point}
use Rattle.lcr_core.specs.Finder.{point}
use Rattle.row_search.specs.declared.window.Window.{Window}
use Rattle.row_search.specs.declared.search.Runs.{Runs}

-- ---- the window

-- z, kept within 0 and n
abbrev pub clamp : ℕ → ℤ → ℕ
clamp n (pos z) = min z n
clamp n (negsuc z) = 0

-- the same, but n where z is negative ("a negative px + radius still searches to width − 1")
abbrev pub clamp_right : ℕ → ℤ → ℕ
clamp_right n (pos z) = min z n
clamp_right n (negsuc z) = n

-- how far the window reaches either way: five modules, and 6 pixels at least
unfoldable pub radius_of : Float → ℤ
radius_of m = to_signed 31 (max_of (m ⊗ f5) f6)

-- what is searched of a picture of w × h pixels for a marker predicted at p: the columns from left on, before right; the rows from top on, before bottom
unfoldable pub window_of : Point → Float → ℕ → ℕ → Window
window_of p m w h =
    let r = radius_of m in
    let x = to_signed 31 p.x in
    let y = to_signed 31 p.y in
    record { left = clamp w (x -ℤ r); right = clamp_right (w - 1) (x +ℤ r); top = clamp h (y -ℤ r); bottom = clamp h (y +ℤ r +ℤ pos 1) }

-- ---- three runs

-- a run of n pixels is one module m long, give or take 0.7 of it
unfoldable pub near_module : Float → ℕ → Bool
near_module m n = le (abs_of (whole32 n ⊖ m)) (m ⊗ f0_7)

-- `matches_alignment`: each of three runs is
unfoldable pub runs_match : Float → Runs → Bool
runs_match m r = near_module m r.before && near_module m r.dark && near_module m r.after

-- the middle of the dark run
unfoldable pub middle_of : Runs → Float
middle_of r = whole32 r.start ⊕ whole32 r.dark ⊘ f2

-- ---- down a column

-- on a line f of n pixels: the dark run about a dark pixel i, and the light ones before and after it; a light run counts limit pixels at most, and so does
-- the dark one to either side of i
unfoldable pub column_runs : (ℕ → Bool) → ℕ → ℕ → ℕ → Runs
column_runs f n i limit =
    let above = run_before true f limit i in
    let below = run_after true f n limit (i + 1) in
    record { before = run_before false f limit (i - above); dark = above + below + 1; after = run_after false f n limit (i + 1 + below); start = i - above }

-- 3 modules, truncated, and 3 pixels more
unfoldable pub column_limit : Float → ℕ
column_limit m = to_unsigned 32 (m ⊗ f3) + 3

-- where the column's runs r match: the marker with its centre at x across, and in the middle of the dark run down
abbrev pub marker_at : Float → Float → Runs → Option Point
marker_at m x r = cond (runs_match m r) (Some (point x (middle_of r))) None

-- ---- along a row

-- a dark run starts at pixel x of the line f, after a light pixel
unfoldable pub starts_at : (ℕ → Bool) → ℕ → Bool
starts_at f x = f x && not (f (x - 1))

-- it, and the light runs before and after it, in the columns from left on, before right
unfoldable pub row_runs : (ℕ → Bool) → ℕ → ℕ → ℕ → Runs
row_runs f left right x =
    let d = run true f x (right - x) in
    record { before = run_back false f x (x - left); dark = d; after = run false f (x + d) (right - (x + d)); start = x }

-- ---- the nearest marker

-- the nearer to p by the squared distance; the one so far where the later is not nearer
unfoldable pub nearer_of : Point → Option Point → Option Point → Option Point
nearer_of p nearest None = nearest
nearer_of p None (Some s) = Some s
nearer_of p (Some b) (Some s) = cond (lt (distance2_of s p) (distance2_of b p)) (Some s) (Some b)

-- in a picture of w × h pixels
module _ (bits : List ℕ) (w h : ℕ) (m : Float) where
  -- `confirm_alignment_vertical`: the marker at x across, by the column of the pixel that x lies in and its dark run about row y
  unfoldable pub confirm_marker : ℕ → Float → Option Point
  confirm_marker y x = let i = to_unsigned 32 x in cond (dark_at bits w h i y) (marker_at m x (column_runs (column bits w i) h y (column_limit m))) None

  -- the marker whose runs along row y are r
  unfoldable pub marker_by_runs : ℕ → Runs → Option Point
  marker_by_runs y r = cond (runs_match m r) (confirm_marker y (middle_of r)) None

  -- in its window v
  module _ (v : Window) where
    -- the marker whose dark run starts at pixel x of row y
    unfoldable pub marker_from : ℕ → ℕ → Option Point
    marker_from y x = cond (starts_at (row bits w y) x) (marker_by_runs y (row_runs (row bits w y) v.left v.right x)) None

    -- for the predicted place p
    module _ (p : Point) where
      -- the nearer of the nearest so far and the marker at pixel x of row y
      abbrev pub nearer_at : ℕ → Option Point → ℕ → Option Point
      nearer_at y nearest x = nearer_of p nearest (marker_from y x)

      -- along row y; a run that starts in the window's first column has no light one before it there
      unfoldable pub row_nearest : Option Point → ℕ → Option Point
      row_nearest nearest y = folded (nearer_at y) nearest (range (v.left + 1) v.right)

      -- row by row
      unfoldable pub nearest_of : Option Point
      nearest_of = folded row_nearest None (range v.top v.bottom)

-- `find_alignment`
unfoldable pub find_answer : List ℕ → ℕ → ℕ → Point → Float → Result (Option Point) Refusal
find_answer bits w h p m = checked (bits_checks (length bits) w h) (nearest_of bits w h m (window_of p m w h) p)
