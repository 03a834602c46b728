-- A row, the line f, is searched from dark run to dark run, which visits what the definition visits. Assumes nothing.
use Rattle.std.specs.Prelude.{Option}
use mathlib.Core.Path.{◌≡◌, refl, sym, ap, ◌∙◌}
use mathlib.Core.Logic.{inl, inr}
use mathlib.Core.Bool.{Bool, true, false}
use mathlib.Core.List.{List}
use Prim.Native.Nat.{ℕ, ◌+◌, ◌-◌, ◌≤◌, ◌<◌}
use native.Mathlib.Omega.{arith}
use lib.Ieee.{Float}
use Rattle.lists.specs.Lists.{range, folded}
use Rattle.lists.proofs.Folds.{fold_more}
use Rattle.binary.specs.Line.{row, run}
use Rattle.lcr_core.specs.declared.point.Point.{Point}
use Rattle.row_search.specs.Rows.{starts_at, row_runs, marker_by_runs, marker_from, nearer_of, nearer_at}
use Rattle.row_search.specs.declared.window.Window.{Window}
use Rattle.row_search.specs.declared.search.Runs.{Runs}
use Rattle.row_search.proofs.Walks.{At, some_dark, walk_next, none_starts, fold_skip}

module _ (bits : List ℕ) (w h : ℕ) (m : Float) (v : Window) (p : Point) (y : ℕ) (f : ℕ → Bool) (line : f ≡ row bits w y) where
  abbrev step : Option Point → ℕ → Option Point
  step = nearer_at bits w h m v p y

  unseen : (b : Option Point) (k : ℕ) → starts_at f k ≡ false → step b k ≡ b
  unfolding marker_from nearer_of
  unseen b k e = rw (← line, e)

  skipped : (b : Option Point) (k x : ℕ) → k ≤ x → x ≤ v.right → ((i : ℕ) → k ≤ i → i < x → starts_at f i ≡ false) → folded step b (range k v.right) ≡ folded step b (range x v.right)
  skipped b k x l n e =
      let z : k + (x - k) ≡ x = omega arith in
      fold_skip step b k (x - k) v.right (omega arith) (λ i o q. unseen b i (e i o (omega arith))) ∙ ap (λ (j : ℕ). folded step b (range j v.right)) z

  -- the first dark run is over before any can start: d dark pixels from the leftmost on, then l light ones
  module _ (d l : ℕ) (n : v.left < v.right) (e : d ≡ run true f v.left (v.right - v.left)) (q : l ≡ run false f (v.left + d) (v.right - (v.left + d))) (s : d ≤ v.right - v.left) (t : l ≤ v.right - (v.left + d)) where
    pub row_begins : At f v.left v.right (v.left + d + l) l
    row_begins = walk_next f v.left v.right v.left d l (omega arith) n (inl refl) e q s t

    pub row_skips : (b : Option Point) → folded step b (range (v.left + 1) v.right) ≡ folded step b (range (v.left + d + l) v.right)
    row_skips b = skipped b (v.left + 1) (v.left + d + l) (omega (arith, row_begins.beyond)) row_begins.within (λ i o k. none_starts f v.left v.right v.left d l (omega arith) n (inl refl) e q s t i (omega arith) k)

  -- a turn: the runs r of the dark run that starts at x
  module _ (b whole : Option Point) (x light : ℕ) (a : At f v.left v.right x light) (n : x < v.right) (e : whole ≡ folded step b (range x v.right)) (r : Runs) (q : r ≡ row_runs f v.left v.right x)
      (s : r.dark ≤ v.right - x) (t : r.after ≤ v.right - (x + r.dark)) where
    dark_is : r.dark ≡ run true f x (v.right - x)
    unfolding row_runs
    dark_is = ap (λ (z : Runs). z.dark) q

    after_is : r.after ≡ run false f (x + r.dark) (v.right - (x + r.dark))
    unfolding row_runs
    after_is = ap (λ (z : Runs). z.after) q ∙ ap (λ (k : ℕ). run false f (x + k) (v.right - (x + k))) (sym dark_is)

    inside : v.left ≤ x
    inside = omega (arith, a.beyond)

    pub goes_on : 1 ≤ r.dark
    goes_on = some_dark f v.left v.right x r.dark r.after inside n (inr (a.starts n).0) dark_is after_is s t (a.starts n).0

    pub walks : At f v.left v.right (x + r.dark + r.after) r.after
    walks = walk_next f v.left v.right x r.dark r.after inside n (inr (a.starts n).0) dark_is after_is s t

    starts : starts_at f x ≡ true
    unfolding starts_at
    starts = rw ((a.starts n).0, (a.starts n).1)

    seen : marker_by_runs bits w h m y r ≡ marker_from bits w h m v y x
    unfolding marker_from
    seen = ap (marker_by_runs bits w h m y) q ∙ rw (← line, starts)

    pub folds : (g c : Option Point) → g ≡ marker_by_runs bits w h m y r → c ≡ nearer_of p b g → whole ≡ folded step c (range (x + r.dark + r.after) v.right)
    folds g c o k =
        fold_more step whole b c x v.right n e (k ∙ ap (nearer_of p b) (o ∙ seen))
        ∙ skipped c (x + 1) (x + r.dark + r.after) (omega (arith, goes_on)) walks.within
        (λ i z j. none_starts f v.left v.right x r.dark r.after inside n (inr (a.starts n).0) dark_is after_is s t i (omega arith) j)
