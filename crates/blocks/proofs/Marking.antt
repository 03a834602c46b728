-- The marks that are made from the written values are those of the picture. Assumes nothing.
use mathlib.Core.Bool.{Bool, true, false, cond}
use mathlib.Core.Path.{◌≡◌, refl, ap, ap₂, ◌∙◌}
use mathlib.Core.List.{List, map}
use Prim.Native.Nat.{ℕ, ◌+◌, ◌-◌, ◌*◌, ◌/◌, ◌%◌, ◌<◌, min}
use native.Mathlib.Omega.{arith}
use lib.Dec.{ltb}
use borrow.Author.Tests.{lt-ltb, le-ltb, ltb-true, ltb-false}
use Rattle.std.specs.Int.{from_bool}
use Rattle.lists.specs.Lists.{filled, least, greatest, at}
use Rattle.lists.proofs.Tabulate.{filled_same, get_or-filled}
use Rattle.lists.proofs.Filters.{each_map}
use Rattle.lists.proofs.Folds.{map_same}
use Rattle.blocks.specs.Blocks.{blocks_on, blocks_in, neighbours, mark, edge_mark, near_mark, least_at, greatest_at, edge_at, near_at}
use Rattle.blocks.proofs.Grids.{place, cells-within}

-- the greatest value exceeds the least and 24 where the spread exceeds 24
pub made : (lo hi : ℕ) → from_bool (ltb (lo + 24) hi) ≡ mark lo hi
unfolding mark
made lo hi = go (ltb (lo + 24) hi) refl
  where
    go : (t : Bool) → ltb (lo + 24) hi ≡ t → from_bool t ≡ cond (ltb 24 (hi - lo)) 1 0
    go true e = simp (lt-ltb 24 (hi - lo) (omega (arith, ltb-true _ _ e)))
    go false e = simp (le-ltb 24 (hi - lo) (omega (arith, ltb-false _ _ e)))

-- what was written at number k
pub at-filled : (n : ℕ) (f : ℕ → ℕ) (l d : List ℕ) → l ≡ filled n f d → (k : ℕ) → k < n → at l k ≡ f k
at-filled n f l d e k h = ap (λ (m : List ℕ). at m k) e ∙ get_or-filled n f d k 0 h

-- the written values of the blocks near block i
near_same : (f : ℕ → ℕ) (l d : List ℕ) (bw bh i : ℕ) → l ≡ filled (bh * bw) f d → i < bh * bw → map (at l) (neighbours bw bh i) ≡ map f (neighbours bw bh i)
near_same f l d bw bh i e h =
    let p = place i bw bh h in
    map_same (at l) f (neighbours bw bh i)
    (each_map (λ k. k < bh * bw) (λ k. at l k ≡ f k) (at-filled (bh * bw) f l d e) (neighbours bw bh i)
    (cells-within bw bh (i % bw - 1) (min bw (i % bw + 1 + 1)) (i / bw - 1) (min bh (i / bw + 1 + 1)) (omega arith) (omega arith)))

module _ (g : List ℕ) (w h : ℕ) (lo hi lo₀ hi₀ : List ℕ) (el : lo ≡ filled (blocks_in w h) (least_at g w h) lo₀) (eh : hi ≡ filled (blocks_in w h) (greatest_at g w h) hi₀) where
  pub written_edges : (d : List ℕ) → filled (blocks_in w h) (edge_mark (at lo) (at hi)) d ≡ filled (blocks_in w h) (edge_at g w h) d
  written_edges d =
      filled_same (blocks_in w h) (edge_mark (at lo) (at hi)) (edge_at g w h) d
      (λ k l. ap₂ mark (at-filled (blocks_in w h) (least_at g w h) lo lo₀ el k l) (at-filled (blocks_in w h) (greatest_at g w h) hi hi₀ eh k l))

  pub written_nears : (d : List ℕ) → filled (blocks_in w h) (near_mark (at lo) (at hi) (blocks_on w) (blocks_on h)) d ≡ filled (blocks_in w h) (near_at g w h) d
  written_nears d =
      filled_same (blocks_in w h) (near_mark (at lo) (at hi) (blocks_on w) (blocks_on h)) (near_at g w h) d
      (λ k l. ap₂ (λ (x y : List ℕ). mark (least x) (greatest y)) (near_same (least_at g w h) lo lo₀ (blocks_on w) (blocks_on h) k el l) (near_same (greatest_at g w h) hi hi₀ (blocks_on w) (blocks_on h) k eh l))
