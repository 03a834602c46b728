-- A hit is dropped where the limit ended a run in either confirmation (document 02, N7); every other is confirmed as document 000 has it. The limit ended one
-- of the six runs exactly where one would be longer without it. Assumes nothing.
use mathlib.Core.Path.{◌≡◌, refl, ap, ◌∙◌}
use mathlib.Core.Bool.{Bool, true, false, cond, ◌||◌}
use mathlib.Core.List.{List}
use Prim.Native.Nat.{ℕ, ◌+◌, ◌-◌}
use lib.Dec.{eqb, ltb}
use lib.Ieee.{Float, to_unsigned}
use Rattle.binary.specs.Binary.{dark_at}
use Rattle.binary.specs.Line.{row, column, run, run_back, run_before, run_after, end_before, end_after}
use Rattle.binary.specs.declared.line.End.TheVariants.{Change, Edge, Limit}
use Rattle.binary.proofs.Ends.{end_of, before_end, after_end}
use Rattle.std.specs.Prelude.{Option, Some, None, option_and_then}
use Rattle.std.specs.Option.{option_map_or}
use Rattle.lcr_core.specs.declared.point.Point.{Point}
use Rattle.confirm.specs.Confirm.{confirm_limit, is_cut, side_before, side_after, any_cut, counted_of, core_of, vertical_by, horizontal_by, row_by, column_by, confirmed_by, confirmed_on}
use Rattle.confirm.specs.Published.{counted_on, cut_down, cut_across, row_cut, column_cut, cut_on}

-- one confirmation: about a dark pixel (d), with a run that was cut (c), by document 000 at k
by_one : (d c : Bool) (k : Option Float) (next : Float → Option Point)
    → option_and_then next (cond d (cond c None k) None) ≡ cond c None (option_and_then next (cond d k None))
by_one true true k next = refl
by_one true false k next = refl
by_one false true k next = refl
by_one false false k next = refl

-- two, the second about the centre that the first one gives
by_two : (d c : Bool) (k : Option Float) (d' c' : Float → Bool) (k' : Float → Option Float) (next : Float → Float → Option Point)
    → option_and_then (λ v. option_and_then (next v) (cond (d' v) (cond (c' v) None (k' v)) None)) (cond d (cond c None k) None)
    ≡ cond (c || option_map_or c' (cond d k None) false) None (option_and_then (λ v. option_and_then (next v) (cond (d' v) (k' v) None)) (cond d k None))
by_two true true k d' c' k' next = refl
by_two true false (Some v) d' c' k' next = by_one (d' v) (c' v) (k' v) (next v)
by_two true false None d' c' k' next = refl
by_two false true k d' c' k' next = refl
by_two false false k d' c' k' next = refl

module _ (bits : List ℕ) (w h : ℕ) where
  row_dropped : (y : ℕ) (centre m : Float) → row_by core_of bits w h y centre m ≡ cond (row_cut bits w h y centre m) None (row_by counted_of bits w h y centre m)
  unfolding row_by vertical_by horizontal_by core_of row_cut
  row_dropped y centre m =
      let x = to_unsigned 32 centre in
      by_two (dark_at bits w h x y) (cut_down bits w h x y m) (counted_of (column bits w x) h y (confirm_limit m)) (λ v. dark_at bits w h x (to_unsigned 32 v)) (λ v. cut_across bits w h x (to_unsigned 32 v) m)
      (λ v. counted_of (row bits w (to_unsigned 32 v)) w x (confirm_limit m)) (λ cy cx. Some (record { x = cx; y = cy }))

  column_dropped : (x : ℕ) (centre m : Float) → column_by core_of bits w h x centre m ≡ cond (column_cut bits w h x centre m) None (column_by counted_of bits w h x centre m)
  unfolding column_by vertical_by horizontal_by core_of column_cut
  column_dropped x centre m =
      let y = to_unsigned 32 centre in
      by_two (dark_at bits w h x y) (cut_across bits w h x y m) (counted_of (row bits w y) w x (confirm_limit m)) (λ v. dark_at bits w h (to_unsigned 32 v) y) (λ v. cut_down bits w h (to_unsigned 32 v) y m)
      (λ v. counted_of (column bits w (to_unsigned 32 v)) h y (confirm_limit m)) (λ cx cy. Some (record { x = cx; y = cy }))

  -- on row n, or on column n
  pub cut_dropped : (columns : Bool) (n : ℕ) (centre m : Float)
      → confirmed_on bits w h columns n centre m ≡ cond (cut_on bits w h columns n centre m) None (counted_on bits w h columns n centre m)
  unfolding confirmed_by cut_on
  cut_dropped true n centre m = column_dropped n centre m
  cut_dropped false n centre m = row_dropped n centre m

-- ---- the six runs
-- cut: longer than the limit, were there none
cut_longer : (limit left full : ℕ) → is_cut (end_of limit left full) ≡ ltb limit full
cut_longer limit left full = go (ltb limit full) (eqb full left)
  where
    go : (t u : Bool) → is_cut (cond t Limit (cond u Edge Change)) ≡ t
    go true u = refl
    go false true = refl
    go false false = refl

module _ (f : ℕ → Bool) (len i limit : ℕ) where
  -- the whole run of a colour before pixel j, and from pixel j on, is over the limit
  abbrev pub long_before : Bool → ℕ → Bool
  long_before colour j = ltb limit (run_back colour f j j)

  abbrev pub long_after : Bool → ℕ → Bool
  long_after colour j = ltb limit (run colour f j (len - j))

  before_cut : (colour : Bool) (j : ℕ) → is_cut (end_before colour f limit j) ≡ long_before colour j
  before_cut colour j = ap is_cut (before_end colour f limit j) ∙ cut_longer limit j (run_back colour f j j)

  after_cut : (colour : Bool) (j : ℕ) → is_cut (end_after colour f len limit j) ≡ long_after colour j
  after_cut colour j = ap is_cut (after_end colour f len limit j) ∙ cut_longer limit (len - j) (run colour f j (len - j))

  -- the core's, and on either side the light one and the dark one beyond it
  pub any_longer : any_cut f len i limit
      ≡ (let top = i - run_before true f limit i in
      let end = i + 1 + run_after true f len limit (i + 1) in
      long_before true i || long_after true (i + 1)
      || (long_before false top || long_before true (top - run_before false f limit top))
      || (long_after false end || long_after true (end + run_after false f len limit end)))
  unfolding any_cut side_before side_after
  any_longer =
      let top = i - run_before true f limit i in
      let end = i + 1 + run_after true f len limit (i + 1) in
      rw (before_cut true i, after_cut true (i + 1), before_cut false top, before_cut true (top - run_before false f limit top), after_cut false end, after_cut true (end + run_after false f len limit end))
