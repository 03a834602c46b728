-- Laws of the sum, the least and the greatest of a rectangle of values. Assumes nothing.
use mathlib.Core.Path.{◌≡◌, refl, sym, ap, ap₂, ◌∙◌}
use mathlib.Core.List.{List, [], ◌∷◌, map}
use Prim.Native.Nat.{ℕ, ◌+◌, ◌-◌, ◌*◌, ◌/◌, min, max}
use lib.ListN.{length-map}
use Rattle.lists.specs.Lists.{folded, mean, least, greatest, at}
use Rattle.blocks.specs.declared.rect.Rect.{Rect}
use Rattle.blocks.specs.declared.stats.Stats.{Stats}
use Rattle.blocks.specs.Blocks.{block_at, mean_at, least_at, greatest_at}
use Rattle.blocks.specs.Rects.{cells_of, IsBlock}
use Rattle.blocks.specs.Steps.{cell_step, no_value}
use Rattle.blocks.proofs.Grids.{length-cells}

-- what was counted is the sum, the least and the greatest of the values
measured : (s : List ℕ) (t : Stats) (is : List ℕ) → folded (cell_step s) t is
    ≡ record { sum = folded ◌+◌ t.sum (map (at s) is); least = folded min t.least (map (at s) is); greatest = folded max t.greatest (map (at s) is) }
unfolding cell_step folded
measured s t [] = refl
measured s t (i ∷ is) = measured s (cell_step s t i) is

-- the mean, the least and the greatest of a rectangle
pub values_in : (s : List ℕ) (w : ℕ) (r : Rect) (t : Stats) → t ≡ folded (cell_step s) no_value (cells_of w r)
    → let l = map (at s) (cells_of w r) in (t.sum / ((r.bottom - r.top) * (r.right - r.left)) ≡ mean l) × (t.least ≡ least l) × (t.greatest ≡ greatest l)
values_in s w r t e =
    let m = e ∙ measured s no_value (cells_of w r) in
    let n = length-map (cells_of w r) (at s) ∙ length-cells w r.left r.right r.top r.bottom in
    (ap₂ (λ (x y : ℕ). x / y) (ap (λ (u : Stats). u.sum) m) (sym n), ap (λ (u : Stats). u.least) m, ap (λ (u : Stats). u.greatest) m)

-- those of block number i of a picture
pub block_is : (g : List ℕ) (w h i : ℕ) (r : Rect) (t : Stats) → IsBlock w h i r → t ≡ folded (cell_step g) no_value (cells_of w r)
    → (t.sum / ((r.bottom - r.top) * (r.right - r.left)) ≡ mean_at g w h i) × (t.least ≡ least_at g w h i) × (t.greatest ≡ greatest_at g w h i)
unfolding block_at
block_is g w h i r t e q =
    let same : map (at g) (cells_of w r) ≡ block_at g w h i = rw (e.left, e.right, e.top, e.bottom) in
    rw same at (values_in g w r t q)
