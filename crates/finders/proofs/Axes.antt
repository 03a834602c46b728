-- The lines of an axis: how many hits they can add, and that the rows and then the columns give all sightings. Assumes nothing.
use Rattle.std.proofs.Common.{◌≡◌, ℕ, zero, suc, ◌+◌, ◌-◌, ◌*◌, ◌/◌, ◌<◌, ◌≤◌, Bool, true, false, cond, not, List, [], ◌∷◌, length, refl, ap, ◌∙◌, arith, length-append}
use mathlib.Core.Bool.{beq}
use lib.Ieee.{Float}
use Rattle.lists.specs.Lists.{range, folded, flat_map}
use Rattle.lists.proofs.Folds.{each_range, folded-append, flat_map_few, flat_map_same, length-count}
use Rattle.lcr_core.specs.Outcome.{max_side}
use Rattle.lcr_core.specs.Passed.{Sides}
use Rattle.ratio.specs.Ratio.{match_of}
use Rattle.confirm.specs.Confirm.{core_of, confirmed_on}
use Rattle.std.specs.Prelude.{Option, Some, None}
use Rattle.lcr_core.specs.declared.point.Point.{Point}
use Rattle.finders.specs.Hits.{Hit, runs, hit_if, five_runs, hits, line_hits}
use Rattle.finders.specs.Held.{Sighting, Held, held, over, merge_next}
use Rattle.finders.specs.Search.{max_finders, sighting, seen, every_second, row_sightings_by, column_sightings_by, sightings_by, found_by, found}
use Rattle.finders.specs.Inner.{line_most, axis_most, Fine, line_count, line_len, line_at, line_sightings, scanned, scanned_at, axis}
use Rattle.finders.proofs.Folding.{folded-flat_map}
use Rattle.finders.proofs.Tables.{over_stays, fine_mono, folded_fine}

-- ---- a line of len pixels has at most len + 1 runs, and no more hits than runs
window_one : (end a b c d e : ℕ) → length (five_runs end a b c d e) ≤ 1
unfolding five_runs
window_one end a b c d e = go (match_of a b c d e) _
  where
    go : (m : Option Float) (x : Float) → length (hit_if m x) ≤ 1
    go (Some m) x = omega arith
    go None x = omega arith

hits-length : (p : ℕ) (rs : List ℕ) → length (hits p rs) ≤ length rs
unfolding hits
hits-length p [] = omega arith
hits-length p (a ∷ []) = omega arith
hits-length p (a ∷ b ∷ []) = omega arith
hits-length p (a ∷ b ∷ c ∷ []) = omega arith
hits-length p (a ∷ b ∷ c ∷ d ∷ []) = omega arith
hits-length p (a ∷ b ∷ c ∷ d ∷ e ∷ rest) =
    let w = five_runs (p + a + b + c + d + e) a b c d e in
    omega (arith, length-append w (hits (p + a + b) (c ∷ d ∷ e ∷ rest)), window_one (p + a + b + c + d + e) a b c d e, hits-length (p + a + b) (c ∷ d ∷ e ∷ rest))

runs-length : (f : ℕ → Bool) (k : Bool) (m i n : ℕ) → length (runs f k m i n) ≤ n + 1
unfolding runs
runs-length f k m i zero = omega arith
runs-length f k m i (suc n) = go (beq (f i) k) (runs-length f k (suc m) (suc i) n) (runs-length f (not k) 1 (suc i) n)
  where
    go : (t : Bool) → length (runs f k (suc m) (suc i) n) ≤ n + 1 → length (runs f (not k) 1 (suc i) n) ≤ n + 1
        → length (cond t (runs f k (suc m) (suc i) n) (m ∷ runs f (not k) 1 (suc i) n)) ≤ suc n + 1
    go true a b = omega arith
    go false a b = omega arith

hits_few : (f : ℕ → Bool) (len : ℕ) → length (line_hits f len) ≤ len + 1
unfolding line_hits
hits_few f len = omega (arith, hits-length 0 (runs f true 0 0 len), runs-length f true 0 0 len)

-- what every second line gives, where those that are scanned give the same
pub second_same : (f g : ℕ → List Sighting) (n : ℕ) → ((k : ℕ) → 2 * k < n → f (2 * k) ≡ g (2 * k)) → every_second f n ≡ every_second g n
second_same f g n e =
    flat_map_same (λ (k : ℕ). f (2 * k)) (λ (k : ℕ). g (2 * k)) (range 0 ((n + 1) / 2)) (each_range (λ (k : ℕ). f (2 * k) ≡ g (2 * k)) 0 ((n + 1) / 2) (λ k _ l. e k (omega arith)))

-- a line's pixels, and an axis' lines
module _ {width height : ℕ} (p : Sides width height) where
  pub line_short : (columns : Bool) → line_len width height columns ≤ max_side
  line_short true = p.h_most
  line_short false = p.w_most

  pub count_small : (columns : Bool) → line_count width height columns ≤ max_side
  count_small true = p.w_most
  count_small false = p.h_most

module _ (bits : List ℕ) (width height : ℕ) where
  -- and no more confirmed hits than hits
  seen_one : (columns : Bool) (n : ℕ) (h : Hit) → length (seen bits width height columns n h) ≤ 1
  seen_one columns n h = go (confirmed_on bits width height columns n h.centre h.«module»)
    where
      go : (c : Option Point) → length (sighting h.«module» c) ≤ 1
      go (Some p) = omega arith
      go None = omega arith

  sightings_few : (columns : Bool) (n : ℕ) → length (line_sightings bits width height columns n) ≤ line_len width height columns + 1
  sightings_few columns n =
      let f = line_at bits width columns n in
      let len = line_len width height columns in
      omega (arith, flat_map_few (seen bits width height columns n) (seen_one columns n) (line_hits f len), hits_few f len)

  module _ (p : Sides width height) (columns : Bool) where
    pub scanned_fine : (s : Held) (n k : ℕ) → Fine s k → Fine (scanned bits width height columns s n) (k + line_most)
    scanned_fine s n k f =
        let ss = line_sightings bits width height columns n in
        fine_mono (scanned bits width height columns s n) (k + length ss) (k + line_most) (omega (arith, sightings_few columns n, line_short p columns)) (folded_fine s ss k f)

    lines_fine : (s : Held) (ns : List ℕ) (k : ℕ) → Fine s k → Fine (folded (scanned_at bits width height columns) s ns) (k + line_most * length ns)
    unfolding folded
    lines_fine s [] k f = fine_mono s k (k + line_most * 0) (omega arith) f
    lines_fine s (n ∷ ns) k f =
        fine_mono (folded (scanned_at bits width height columns) (scanned_at bits width height columns s n) ns) (k + line_most + line_most * length ns) (k + line_most * suc (length ns)) (omega arith)
        (lines_fine (scanned_at bits width height columns s n) ns (k + line_most) (scanned_fine s (2 * n) k f))

    pub axis_fine : (s : Held) (k : ℕ) → Fine s k → Fine (axis bits width height columns s) (k + axis_most)
    unfolding axis
    axis_fine s k f =
        let c = (line_count width height columns + 1) / 2 in
        fine_mono (folded (scanned_at bits width height columns) s (range 0 c)) (k + line_most * length (range 0 c)) (k + axis_most) (omega (arith, count_small p columns, length-count 0 (c - 0)))
        (lines_fine s (range 0 c) k f)

    -- a hit too many stays one
    pub lines_over : (ns : List ℕ) → folded (scanned_at bits width height columns) over ns ≡ over
    unfolding folded
    lines_over [] = refl
    lines_over (n ∷ ns) = rw (over_stays max_finders (line_sightings bits width height columns (2 * n))) (lines_over ns)

    pub axis_over : axis bits width height columns over ≡ over
    unfolding axis
    axis_over = lines_over (range 0 ((line_count width height columns + 1) / 2))

  -- ---- the first hit of several, confirmed or not
  module _ (columns : Bool) (n : ℕ) (hs : List Hit) (h : Hit) (rest : List Hit) (is : hs ≡ h ∷ rest) (c : Option Point) (z : c ≡ confirmed_on bits width height columns n h.centre h.«module») where
    pub sighted_first : (p : Point) → c ≡ Some p
        → flat_map (seen bits width height columns n) hs ≡ record { x = p.x; y = p.y; «module» = h.«module» } ∷ flat_map (seen bits width height columns n) rest
    unfolding flat_map
    sighted_first p e = rw (is, ← z, e)

    pub sighted_later : c ≡ None → flat_map (seen bits width height columns n) hs ≡ flat_map (seen bits width height columns n) rest
    unfolding flat_map
    sighted_later e = rw (is, ← z, e)

  -- ---- rows, then columns
  rows_are : (s : Held) → folded (merge_next max_finders) s (every_second (row_sightings_by core_of bits width height) height) ≡ axis bits width height false s
  unfolding axis
  rows_are s = folded-flat_map (merge_next max_finders) (λ k. row_sightings_by core_of bits width height (2 * k)) s (range 0 ((height + 1) / 2))

  columns_are : (s : Held) → folded (merge_next max_finders) s (every_second (column_sightings_by core_of bits width height) width) ≡ axis bits width height true s
  unfolding axis
  columns_are s = folded-flat_map (merge_next max_finders) (λ k. column_sightings_by core_of bits width height (2 * k)) s (range 0 ((width + 1) / 2))

  pub found_is : found bits width height ≡ axis bits width height true (axis bits width height false (held []))
  unfolding found_by sightings_by
  found_is =
      folded-append (merge_next max_finders) (held []) (every_second (row_sightings_by core_of bits width height) height) (every_second (column_sightings_by core_of bits width height) width)
      ∙ columns_are (folded (merge_next max_finders) (held []) (every_second (row_sightings_by core_of bits width height) height))
      ∙ ap (axis bits width height true) (rows_are (held []))
